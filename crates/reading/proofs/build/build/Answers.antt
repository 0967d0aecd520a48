use mathlib.Core.Path.{◌≡◌, refl, sym, ap, ◌∙◌}
use Prim.Native.Nat.{ℕ}
use native.Mathlib.Omega.{arith}
use lib.ListN.{drop, length-replicate}
use Rattle.scan.specs.Runs.{numeral}
use Rattle.text.specs.Limits.{levels}
use Rattle.reading.specs.Accepting.{Amid}
use Rattle.reading.specs.Laws.PassLaws.{begins, over, amid, adding, on}
use Rattle.reading.specs.declared.digits.Number.{Number}
use Rattle.reading.proofs.Nexts.{here, numbered}
use Rattle.reading.proofs.build.build.Goals.{After-number_at-n, In-loop-p}
use Rattle.reading.proofs.build.build.Goals as goal

-- before the last ")"
amidst : (c : In-loop-p) →
    Amid c.args.text.now c.loop-p.p
amidst c = amid c.loop-p.invariant c.loop-p-test.true

value : (c : After-number_at-n) →
    c.number_at-n.result.value ≡ numeral 0 (drop c.loop-p.p.at c.args.text.now)
value c = ap (λ (n : Number). n.value) c.number_at-n.ensures

pub loop-p-init : goal.loop-p-init
loop-p-init c =
    let room = c.requires.text_bound in
    rw c.opened-p.ensures
    (begins c.args.h c.requires.taken c.requires.table c.requires.sound room _ (length-replicate {A = ℕ} levels 0) refl)

pub number_at-n-requires : goal.number_at-n-requires
number_at-n-requires c = numbered (amidst c)

pub next-q-requires : goal.next-q-requires
next-q-requires c = record {
  amid = amidst (goal.at.next-q-requires c).In-loop-p;
  end_value = ap (λ (n : Number). n.end) c.number_at-n.ensures;
}

pub add-k-requires : goal.add-k-requires
add-k-requires c =
    let held = c.requires.h_bound in
    adding c.loop-p.invariant c.loop-p-test.true c.next-q.ensures held (value (goal.at.add-k-requires c).After-number_at-n)

pub loop-p-smaller : goal.loop-p-smaller
loop-p-smaller c =
    omega (arith, c.next-q.ensures.on, (here (amidst (goal.at.loop-p-smaller c).In-loop-p)).some)

pub loop-p-preserved : goal.loop-p-preserved
loop-p-preserved c =
    let step = c.add-k in
    on c.loop-p.invariant c.loop-p-test.true c.next-q.ensures (value (goal.at.loop-p-preserved c).After-number_at-n) _ step.result _ step.ensures

pub shape_of-t : goal.shape_of-t
shape_of-t c =
    c.loop-p.invariant.table.sized ∙ sym c.requires.table.sized

pub returns : goal.returns
returns c = over c.loop-p.invariant (omega (arith, c.loop-p-test.false))
