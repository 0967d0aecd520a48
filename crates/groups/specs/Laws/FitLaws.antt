-- Lists whose numbers are small: their atoms are words, and lists that are short enough have such numbers.
use Rattle.std.specs.Prelude.{ℕ, ◌<◌, ◌≤◌, ◌^◌, ◌≡◌, Bool, true, false, List, length}
use Rattle.std.proofs.Common.{arith, length-append}
use Rattle.lists.specs.Lst.{Lst, nil, atom, list, path, Atoms}
use Rattle.lists.specs.Laws.LstLaws.{len-path}
use Rattle.text.specs.ListText.{octal, items}
use Rattle.text.specs.Marks.{list_in}
use Rattle.text.specs.Text.{verdict, done}
use Rattle.text.specs.Writing.{usable}
use Rattle.text.specs.Laws.Bounds.{limits}
use Rattle.text.specs.Laws.WritingLaws.{writable, read-written}
use Rattle.groups.specs.Groups.{Fit, Fits}

fit_atoms : (l : Lst) → Fit l → Atoms l
unfolding Fit Atoms
fit_atoms nil f = tt
fit_atoms (atom v l) f = (omega (arith, f.0), fit_atoms l f.1)
fit_atoms (list e l) f = (fit_atoms e f.1, fit_atoms l f.2)

pub fits_atoms : (l : Lst) → Fits l → Atoms l
fits_atoms l f = fit_atoms l f.1

-- no list is longer than the longest way through it
fit_path : (l : Lst) → Atoms l → path l < 2 ^ 32 → Fit l
unfolding Fit Atoms path
fit_path nil a h = tt
fit_path (atom v l) a h = (omega (arith, a.0), fit_path l a.1 (omega arith))
fit_path (list e l) a h = (omega (arith, len-path e), fit_path e a.0 (omega arith), fit_path l a.1 (omega arith))

pub fits_path : (l : Lst) → Atoms l → path l < 2 ^ 32 → Fits l
fits_path l a h = (omega (arith, len-path l), fit_path l a h)

-- each step of that way has a character
path-text : (f : Bool) (l : Lst) → path l ≤ length (items f l)
unfolding path
path-text f nil = omega arith
path-text f (atom v l) = omega (arith, length-append (octal v) (items false l), path-text false l)
path-text f (list m l) = omega (arith, length-append (items true m) (items false l), path-text true m, path-text false l)

pub text_fits : (s : List ℕ) (m : ℕ) → verdict s ≡ done m → Fits (list_in s)
text_fits s m e =
    fits_path (list_in s) (limits s m e).1
    (omega (arith, path-text true (list_in s), (writable (usable m) (list_in s) (read-written s m m e (omega arith))).1))
