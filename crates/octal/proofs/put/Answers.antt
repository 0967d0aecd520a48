-- `octal::put` meets its contract.
use Prim.Native.Nat.{◌/◌}
use native.Mathlib.Omega.{arith}
use Rattle.octal.specs.Laws.PuttingLaws.{four-more, eight_more, more-size, all-put}
use Rattle.octal.proofs.put.Goals as goal

pub few-n-requires : goal.few-n-requires
few-n-requires c =
    let a = c.args in
    record {
      v_bound = omega arith;
      v_in_bounds = omega (arith, more-size 4 a.v (a.v / 4096) (four-more a.v (omega arith) c.if-v-lt-FOUR.false));
    }

pub overflow_add-at : goal.overflow_add-at
overflow_add-at c =
    let a = c.args in
    omega (arith, more-size 4 a.v (a.v / 4096) (four-more a.v (omega arith) c.if-v-lt-FOUR.false), c.few-n.ensures.value)

pub four-requires : goal.four-requires
four-requires c =
    let a = c.args in
    omega (arith, more-size 4 a.v (a.v / 4096) (four-more a.v (omega arith) c.if-v-lt-FOUR.false), c.few-n.ensures.value)

pub overflow_add-result : goal.overflow_add-result
overflow_add-result c =
    let a = c.args in
    omega (arith, more-size 4 a.v (a.v / 4096) (four-more a.v (omega arith) c.if-v-lt-FOUR.false), c.few-n.ensures.value)

pub returns-then-v-lt-EIGHT : goal.returns-then-v-lt-EIGHT
returns-then-v-lt-EIGHT c =
    let a = c.args in
    let all = four-more a.v (omega arith) c.if-v-lt-FOUR.false in
    let size = more-size 4 a.v (a.v / 4096) all in
    record {
      value = omega (arith, size, c.few-n.ensures.value);
      out_after = all-put a.out.now a.at (omega (arith, size)) 4 a.v (a.v / 4096) c.few-n.result all c.few-n.ensures.value c.few-n.ensures.out_after c.four.ensures;
    }

pub few-n-requires-2 : goal.few-n-requires-2
few-n-requires-2 c =
    let a = c.args in
    record {
      v_bound = omega arith;
      v_in_bounds = omega (arith, more-size 8 a.v (a.v / 16777216) (eight_more a.v (omega arith) c.if-v-lt-EIGHT.false));
    }

pub overflow_add-at-2 : goal.overflow_add-at-2
overflow_add-at-2 c =
    let a = c.args in
    omega (arith, more-size 8 a.v (a.v / 16777216) (eight_more a.v (omega arith) c.if-v-lt-EIGHT.false), c.few-n-2.ensures.value)

pub eight-requires : goal.eight-requires
eight-requires c =
    let a = c.args in
    omega (arith, more-size 8 a.v (a.v / 16777216) (eight_more a.v (omega arith) c.if-v-lt-EIGHT.false), c.few-n-2.ensures.value)

pub overflow_add-result-2 : goal.overflow_add-result-2
overflow_add-result-2 c =
    let a = c.args in
    omega (arith, more-size 8 a.v (a.v / 16777216) (eight_more a.v (omega arith) c.if-v-lt-EIGHT.false), c.few-n-2.ensures.value)

pub returns : goal.returns
returns c =
    let a = c.args in
    let all = eight_more a.v (omega arith) c.if-v-lt-EIGHT.false in
    let size = more-size 8 a.v (a.v / 16777216) all in
    record {
      value = omega (arith, size, c.few-n-2.ensures.value);
      out_after = all-put a.out.now a.at (omega (arith, size)) 8 a.v (a.v / 16777216) c.few-n-2.result all c.few-n-2.ensures.value c.few-n-2.ensures.out_after c.eight.ensures;
    }
