-- The check's answer and the list: what is taken is the groups of the list that it holds, with that list's marks, and
-- the groups of a list are taken, or refused where it is too deep.
use Rattle.std.specs.Prelude.{ℕ, ◌<◌, ◌≤◌, ◌≡◌, true, List, [], ◌++◌, length}
use Rattle.std.proofs.Math.Path.{sym, ap}
use Rattle.std.proofs.Common.{subst, ◌∙◌, arith}
use Rattle.answers.specs.Answers.{DEEP}
use Rattle.lists.specs.Lst.{Lst, order}
use Rattle.text.specs.Limits.{levels}
use Rattle.text.specs.Marks.{Mark, marks_of, pushes, top_of}
use Rattle.text.specs.Text.{done, refusal}
use Rattle.text.specs.Laws.MarkLaws.{built}
use Rattle.groups.specs.Groups.{groups_of, Fits}
use Rattle.groups.specs.Holding.{Holding}
use Rattle.groups.specs.Reading.{tokens, begin, answer, scanned, verdict, trace, list_in}
use Rattle.groups.specs.Laws.DeepAhead.{deep_ahead}
use Rattle.groups.specs.Laws.DeepBack.{OpensAhead, deep_back}
use Rattle.groups.specs.Laws.RunLaws.{run-taken, run-refused}
use Rattle.groups.specs.Laws.SizeLaws.{accepted-size}
use Rattle.groups.specs.Laws.ReadBack.{held}
use Rattle.groups.specs.Laws.RoundTrip.{written_read, written_deep}
pub use Rattle.groups.specs.Laws.NumberLaws.{tokens-number}
pub use Rattle.groups.specs.Laws.Once.{groups_once}

-- marks of a list give that list
pub list_of_marks : (s : List ℕ) (l : Lst) → trace begin (tokens s) ≡ marks_of true l → list_in s ≡ l
unfolding list_in
list_of_marks s l e = ap (λ (es : List Mark). top_of (pushes es [])) e ∙ ap top_of (built l)

module _ (s : List ℕ) (m : ℕ) where
  pub scanned_holds : scanned s ≡ done m → Holding s m (list_in s) × (trace begin (tokens s) ≡ marks_of true (list_in s))
  unfolding scanned
  scanned_holds e =
      let h = held s m (run-taken (tokens s) m e) in
      let same : h.it ≡ list_in s = sym (list_of_marks s h.it h.marks) in
      (subst (Holding s m) same h.holds, h.marks ∙ ap (marks_of true) same)

  pub taken_holds : verdict s ≡ done m → Holding s m (list_in s)
  taken_holds e = (scanned_holds (accepted-size s m e).1).0

  pub marks-taken : verdict s ≡ done m → trace begin (tokens s) ≡ marks_of true (list_in s)
  marks-taken e = (scanned_holds (accepted-size s m e).1).1

module _ (l : Lst) (later : List ℕ) (f : Fits l) where
  pub holds_taken : order l ≤ levels
      → (scanned (groups_of l ++ later) ≡ done (length (groups_of l))) × (list_in (groups_of l ++ later) ≡ l)
  unfolding scanned
  holds_taken h =
      let w = written_read l later f h in
      (ap answer w.0, list_of_marks (groups_of l ++ later) l w.1)

  pub deep_refused : levels < order l → scanned (groups_of l ++ later) ≡ refusal DEEP
  unfolding scanned
  deep_refused h = ap answer (written_deep l later f h)

-- refused for its depth exactly where the bytes begin like the groups of a list, up to and with a number that opens
-- level 201
module _ (s : List ℕ) where
  pub deep_opens : scanned s ≡ refusal DEEP → OpensAhead s
  unfolding scanned
  deep_opens e = deep_back s (run-refused (tokens s) DEEP e (λ z. omega arith) (λ z. omega arith))

  pub opens_deep : OpensAhead s → scanned s ≡ refusal DEEP
  unfolding scanned
  opens_deep o = ap answer (deep_ahead s o.0 o.1 o.2 o.3 o.4 o.5)
