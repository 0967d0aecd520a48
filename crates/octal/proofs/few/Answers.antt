-- `octal::few` meets its contract.
use Prim.Native.Nat.{◌+◌, ◌/◌}
use mathlib.Core.Path.{sym, ap, ◌∙◌}
use native.Mathlib.Omega.{arith}
use lib.ListN.{length, set, length-set}
use Rattle.stores.specs.Laws.PastedLaws.{pasted_length}
use Rattle.octal.specs.Numeral.{last_digits}
use Rattle.octal.specs.Laws.NumeralLaws.{one-digit, length_last}
use Rattle.octal.specs.Laws.PuttingLaws.{one-put, two-all, four-all, two-more, more-size, last-size, all-put}
use Rattle.octal.proofs.few.Goals as goal

pub bounds-out-at : goal.bounds-out-at
bounds-out-at c = omega (arith, ap length (one-digit _ c.if-v-lt8.true))

pub returns-then-v-lt8 : goal.returns-then-v-lt8
returns-then-v-lt8 c =
    let a = c.args in
    let size = ap length (one-digit a.v c.if-v-lt8.true) in
    record { value = sym size; out_after = one-put a.out.now a.at a.v (omega (arith, size)) c.if-v-lt8.true }

pub two-requires : goal.two-requires
two-requires c =
    let a = c.args in
    omega (arith, last-size 2 a.v (two-all a.v c.if-v-lt8.false c.if-v-lt-TWO.true))

pub returns-then-v-lt-TWO : goal.returns-then-v-lt-TWO
returns-then-v-lt-TWO c =
    let a = c.args in
    let all = two-all a.v c.if-v-lt8.false c.if-v-lt-TWO.true in
    record { value = last-size 2 a.v all; out_after = rw all c.two.ensures }

pub bounds-out-at-then-v-lt512 : goal.bounds-out-at-then-v-lt512
bounds-out-at-then-v-lt512 c =
    let a = c.args in
    omega (arith, more-size 2 a.v (a.v / 64) (two-more a.v (omega arith) c.if-v-lt-TWO.false))

pub two-requires-then-v-lt512 : goal.two-requires-then-v-lt512
two-requires-then-v-lt512 c =
    let a = c.args in
    let size = ap length (one-digit (a.v / 64) (omega arith)) in
    simp length-set (omega (arith, more-size 2 a.v (a.v / 64) (two-more a.v (omega arith) c.if-v-lt-TWO.false), size))

pub shape_of-out-then-v-lt512 : goal.shape_of-out-then-v-lt512
shape_of-out-then-v-lt512 c =
    let a = c.args in
    let d = 48 + a.v / 64 in
    let size = more-size 2 a.v (a.v / 64) (two-more a.v (omega arith) c.if-v-lt-TWO.false) in
    let room = length-set a.out.now a.at d in
    let first = ap length (one-digit (a.v / 64) (omega arith)) in
    ap length c.two-then-v-lt512.ensures
    ∙ pasted_length (set a.out.now a.at d) (a.at + 1) (last_digits 2 a.v) (omega (arith, room, size, first, length_last 2 a.v)) ∙ room

pub returns-then-v-lt512 : goal.returns-then-v-lt512
returns-then-v-lt512 c =
    let a = c.args in
    let few = one-digit (a.v / 64) (omega arith) in
    let all = two-more a.v (omega arith) c.if-v-lt-TWO.false in
    let size = more-size 2 a.v (a.v / 64) all in record {
      value = omega (arith, size, ap length few);
      out_after = all-put a.out.now a.at (omega (arith, size)) 2 a.v (a.v / 64) 1 all (sym (ap length few)) (one-put a.out.now a.at (a.v / 64) (omega (arith, size, ap length few)) (omega arith))
          c.two-then-v-lt512.ensures;
    }

pub four-requires : goal.four-requires
four-requires c =
    let a = c.args in
    omega (arith, last-size 4 a.v (four-all a.v c.if-v-lt512.false (omega arith)))

pub returns : goal.returns
returns c =
    let a = c.args in
    let all = four-all a.v c.if-v-lt512.false (omega arith) in
    record { value = last-size 4 a.v all; out_after = rw all c.four.ensures }
