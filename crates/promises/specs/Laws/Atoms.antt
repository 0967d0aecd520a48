-- The atoms of a table's lists are words of the table, and the lists no longer than it has cells: their numbers are
-- small.
use Rattle.std.proofs.Common.{subst, arith}
use Rattle.std.specs.Prelude.{List, ℕ, ◌<◌, ◌^◌}
use Rattle.lists.specs.Lst.{Lst, nil, atom, list, Atoms}
use Rattle.groups.specs.Groups.{Fits}
use Rattle.groups.specs.Laws.FitLaws.{fits_path}
use Rattle.pool.specs.Pool.{Cell, elem_of, next_of, holder, ListAt}
use Rattle.pool.specs.Tally.{occ}
use Rattle.pool.specs.Laws.Reach.{path_le}
use Rattle.pool.specs.Laws.SoundLaws.{none_aside, sound_held}
use Rattle.promises.specs.Laws.Tables.{Good}
use Rattle.table.specs.Laws.ViewLaws.{small_elems}
use Rattle.table.specs.Sizes.{shape_of}
use Rattle.calls.specs.Entry.{shown}
use Rattle.promises.specs.StoredGrounds.{Has}
use Rattle.promises.specs.Demand2.{Words}
use Rattle.table.specs.declared.Form.{Form}

small : (cs : List Cell) → ((c : ℕ) → elem_of cs c < 2 ^ 32) → (l : Lst) (c : ℕ) → ListAt cs c l → Atoms l
unfolding ListAt Atoms
small cs b nil c w = tt
small cs b (atom v l) c w = (subst (λ (n : ℕ). n < 2 ^ 32) w.2 (b c), small cs b l (next_of cs c) w.3)
small cs b (list e l) c w = (small cs b e (elem_of cs c) w.2, small cs b l (next_of cs c) w.3)

word-atoms : (form : Form) → (ts : List ℕ) (h : ℕ) (l : Lst) → Words ts → Has form ts h l → Atoms l
word-atoms form ts h l b w = small (shown form ts).cells (small_elems (shape_of form ts) ts b) l _ w

-- and a list is no longer than the table has cells, so its numbers are small
pub word_fits : (form : Form) → (ts : List ℕ) (h : ℕ) (l : Lst) → Words ts → Good form ts → Has form ts h l → Fits l
word_fits form ts h l b g w =
    let p = shown form ts in
    let short = path_le p.free p.cells (occ p.holders) none_aside (sound_held p g.sound) l (holder p h) w in
    fits_path l (word-atoms form ts h l b w) (omega (arith, short, g.table.few, g.table.measured))
