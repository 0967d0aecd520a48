-- The invariant: the digits that are still to come, and the store from there on, are all eleven.
use Rattle.std.proofs.Common.{◌≡◌, ◌++◌, ◌≤◌, length, drop}
use Rattle.octal.specs.Numeral.{last_digits}
use Rattle.text.specs.Limits.{digits_most}
use Rattle.writing.proofs.atoms.work_out.Given as goal

abbrev pub invariant-loop-i : goal.invariant-loop-i
invariant-loop-i l =
    (l.i ≤ digits_most) × (length l.store ≡ digits_most) × (last_digits digits_most l.initial.left ≡ last_digits l.i l.left ++ drop l.i l.store)
