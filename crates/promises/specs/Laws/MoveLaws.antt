-- A move is refused with the output as it was, or puts the list of its bytes out in the other form.
use Rattle.std.specs.Prelude.{◌≡◌, ◌≢◌, List, ℕ, length}
use Rattle.std.proofs.Common.{◌∙◌}
use Rattle.answers.specs.Answers.{DONE}
use Rattle.answers.specs.Laws.Unless.{goes_on_lem, both_ways}
use Rattle.groups.specs.Stored.{verdict, list_in, bytes_of, judged, other}
use Rattle.groups.specs.declared.Stored.{Stored}
use Rattle.calls.specs.Entry.{over}
use Rattle.calls.specs.Move.{Move, left_alone, moved_from}

pub record Moved (k : Stored) (xs out : List ℕ) : Type 0 where
  pub right : (verdict k xs).no ≡ DONE
  pub room : judged (other k) (length out) (list_in k xs) ≡ DONE

module _ (k : Stored) (xs out : List ℕ) where
  abbrev pub moved_out : Move
  moved_out = record {
    answer = DONE;
    taken = (verdict k xs).taken;
    written = length (bytes_of (other k) (list_in k xs));
    output = over (bytes_of (other k) (list_in k xs)) out;
  }

  abbrev refuse : ℕ → Move
  refuse n = left_alone n out

  -- the two ways
  pub move_ways : (P : Move → Type 0) → ((n : ℕ) → n ≢ DONE → P (left_alone n out)) → (Moved k xs out → P moved_out) → P (moved_from k xs out)
  unfolding moved_from
  move_ways P f g =
      both_ways (verdict k xs).no refuse _ P (f _) (λ e.
      both_ways (judged (other k) (length out) (list_in k xs)) refuse _ P (f _) (λ j. g (record { right = e; room = j })))

  pub moves : Moved k xs out → moved_from k xs out ≡ moved_out
  unfolding moved_from
  moves m = goes_on_lem (verdict k xs).no refuse _ m.right ∙ goes_on_lem (judged (other k) (length out) (list_in k xs)) refuse _ m.room
