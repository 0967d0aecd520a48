-- `togroups::walk::step` meets its contract.
use Prim.Native.Nat.{◌-◌}
use mathlib.Core.Bool.{true}
use mathlib.Core.Path.{◌≡◌, sym, subst, ◌∙◌}
use lib.ListN.{get_or}
use Rattle.text.specs.ListText.{is_digit_byte}
use Rattle.togroups.specs.Walking.{Stepped}
use Rattle.togroups.specs.Laws.StepLaws.{ends, few_yet, atoms, may_shut_lem, shuts, may_open_lem, opens, passes}
use Rattle.togroups.proofs.walk.step.Goals.{Then-is_octal}
use Rattle.togroups.proofs.walk.step.Goals as goal

octal : (c : Then-is_octal) →
    let a = c.args in
    is_digit_byte (get_or a.text.now (a.w.at - 1) 0) ≡ true
octal c = sym c.is_octal.ensures ∙ c.if-is_octal.true

pub atom-requires : goal.atom-requires
atom-requires c =
    record {
      ends = ends _ _ _ c.requires.listed c.requires.walking c.requires.le_at (octal c);
      count_le_text_most = few_yet _ _ _ c.requires.listed c.requires.walking c.requires.le_at;
    }

pub returns-then-is_octal : goal.returns-then-is_octal
returns-then-is_octal c =
    atoms _ _ _ c.requires.listed c.requires.walking c.requires.le_at (octal (goal.at.returns-then-is_octal c).Then-is_octal) _ c.atom.ensures

pub shut-requires : goal.shut-requires
shut-requires c =
    (c.requires.walking.some, may_shut_lem _ _ _ c.requires.listed c.requires.walking c.requires.le_at c.if-text-last-eq41.true)

pub returns-then-text-last-eq41 : goal.returns-then-text-last-eq41
returns-then-text-last-eq41 c =
    let a = c.args in
    let e = c.shut.ensures in
    rw (e.0, e.1) (shuts _ _ _ c.requires.listed c.requires.walking c.requires.le_at c.if-text-last-eq41.true)

pub open-requires : goal.open-requires
open-requires c =
    let m = may_open_lem _ _ _ c.requires.listed c.requires.walking c.requires.le_at c.if-text-last-eq40.true in
    record { le_at = (c.requires.walking.some, m.0, m.1, m.2); depth_bound = m.3 }

pub returns-then-text-last-eq40 : goal.returns-then-text-last-eq40
returns-then-text-last-eq40 c =
    let a = c.args in
    subst (Stepped a.text.now a.outer.now a.w) (sym c.«open».ensures) (opens _ _ _ c.requires.listed c.requires.walking c.requires.le_at c.if-text-last-eq40.true)

pub returns : goal.returns
returns c =
    passes _ _ _ c.requires.listed c.requires.walking c.requires.le_at (sym c.is_octal.ensures ∙ c.if-is_octal.false) c.if-text-last-eq41.false c.if-text-last-eq40.false
