-- Steps one after another are one step over all their bytes, since lines that are whole do not change how later bytes are split.
use Rattle.std.specs.Prelude.{◌≡◌, refl, List, [], ◌∷◌, ◌++◌, ℕ}
use Rattle.std.proofs.Common.{sym, ap, ap₂, ◌∙◌, append_assoc, append-nil}
use Rattle.lines.specs.Splitting.{Line, Gathering, eaten}
use Rattle.lines.specs.Laws.SplittingLaws.{behind, eaten-append, eaten-behind}
use Rattle.answering.specs.Session.{answered, prints}
use Rattle.console.specs.Serving.{Mid, leaves, Takes, Step, Steps, input, output, stop}

pub prints-append : (a b : List Line) (ts : List ℕ) → prints ts (a ++ b) ≡ prints ts a ++ prints (leaves ts a) b
unfolding prints leaves
prints-append [] b ts = refl
prints-append (l ∷ a) b ts =
    ap (λ (u : List ℕ). (answered ts l).printed ++ u) (prints-append a b (answered ts l).words)
    ∙ sym (append_assoc (answered ts l).printed (prints (answered ts l).words a) (prints (leaves (answered ts l).words a) b))

leaves-append : (a b : List Line) (ts : List ℕ) → leaves ts (a ++ b) ≡ leaves (leaves ts a) b
unfolding leaves
leaves-append [] b ts = refl
leaves-append (l ∷ a) b ts = leaves-append a b (answered ts l).words

pub takes_none : (m : Mid) → Takes m [] [] m
unfolding eaten prints leaves
takes_none m = record { lines = []; split = refl; words = refl; printed = refl }

pub takes_then : (m n k : Mid) (a b o p : List ℕ) → Takes m a o n → Takes n b p k → Takes m (a ++ b) (o ++ p) k
takes_then m n k a b o p f g = record {
  lines = f.lines ++ g.lines;
  split =
      eaten-append a b (record { lines = []; kept = m.kept; over = m.over })
      ∙ ap (λ (x : Gathering). eaten x b) f.split
      ∙ ap (λ (x : List Line). eaten (record { lines = x; kept = n.kept; over = n.over }) b) (sym (append-nil f.lines))
      ∙ eaten-behind b f.lines (record { lines = []; kept = n.kept; over = n.over })
      ∙ ap (behind f.lines) g.split;
  words = g.words ∙ ap (λ (w : List ℕ). leaves w g.lines) f.words ∙ sym (leaves-append f.lines g.lines m.words);
  printed =
      ap₂ ◌++◌ f.printed (g.printed ∙ ap (λ (w : List ℕ). prints w g.lines) f.words)
      ∙ sym (prints-append f.lines g.lines m.words);
}

pub steps-take : (ss : List Step) (m : Mid) → Steps m ss → Takes m (input ss) (output ss) (stop m ss)
unfolding input output stop
steps-take [] m h = takes_none m
steps-take (s ∷ ss) m h = takes_then m s.next (stop s.next ss) s.taken (input ss) s.out (output ss) h.0 (steps-take ss s.next h.1)
