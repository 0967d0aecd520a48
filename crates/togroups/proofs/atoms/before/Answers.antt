-- `togroups::atoms::before` meets its contract.
use Prim.Native.Nat.{ℕ, ◌+◌, ◌-◌}
use mathlib.Core.Path.{◌≡◌, sym, subst, ◌∙◌}
use native.Mathlib.Omega.{arith}
use lib.ListN.{drop}
use Rattle.scan.specs.Runs.{digit_run}
use Rattle.togroups.specs.Atoms.{Gathered, Before}
use Rattle.togroups.specs.Laws.AtomLaws.{gather_last, gather_end}
use Rattle.togroups.proofs.atoms.before.Goals.{After-from-value}
use Rattle.togroups.proofs.atoms.before.Goals as goal

last : (c : After-from-value) →
    let a = c.args in
    let t = a.text.now in
    Gathered t (a.at - 1) c.from-value.result 8 × (a.at ≡ a.at - 1 + digit_run (drop (a.at - 1) t))
last c = gather_last _ _ c.requires _ c.from-value.ensures

pub overflow_sub-last-2 : goal.overflow_sub-last-2
overflow_sub-last-2 c = omega (arith, (last c).0.some)

pub further-requires : goal.further-requires
further-requires c = (last (goal.at.further-requires c).After-from-value).0

pub returns-then-is_octal : goal.returns-then-is_octal
returns-then-is_octal c =
    let a = c.args in
    subst (λ (n : ℕ). Before a.text.now n c.further.result) (sym (last (goal.at.returns-then-is_octal c).After-from-value).1) c.further.ensures

pub returns : goal.returns
returns c =
    let l = last (goal.at.returns c).After-from-value in
    gather_end _ _ _ 8 l.0 (sym c.is_octal.ensures ∙ c.if-is_octal.false) _ l.1
