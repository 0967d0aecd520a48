-- A text that is a list and its fill and nothing more, by its characters alone.
use Rattle.std.specs.Prelude.{ℕ, ◌<◌, ◌≤◌, ◌≡◌, true, false, List, length, get_or}
use Rattle.groups.specs.Groups.{groups_of}
use Rattle.lists.specs.Lst.{order, Atoms}
use Rattle.text.specs.Limits.{levels, text_most}
use Rattle.text.specs.Marks.{marks_of, list_in}
use Rattle.togroups.specs.Backward.{marks_from, Runs}

pub record Listed (t : List ℕ) : Type 0 where
  pub some : 0 < length t
  pub short : length t ≤ text_most
  pub starts : get_or t 0 0 ≡ 40
  pub runs : Runs t
  pub marks : marks_from false t ≡ marks_of true (list_in t)
  pub shallow : order (list_in t) ≤ levels
  pub atoms : Atoms (list_in t)
  pub small : length (groups_of (list_in t)) ≤ length t
