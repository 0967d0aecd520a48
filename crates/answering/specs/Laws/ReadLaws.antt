-- What READ leaves: the work space's words do not matter, and what the call says is what READ does.
use Rattle.std.specs.Prelude.{◌≡◌, refl, Bool, true, false, cond, not, List, ℕ, eqb, ltb, length, replicate}
use Rattle.std.proofs.Common.{sym, ap, ◌∙◌}
use Rattle.std.proofs.lemmas.List.{length-replicate}
use Rattle.answers.specs.Answers.{DONE, UNSOUND, HOLDER, OCCUPIED, NO_ROOM}
use Rattle.answers.specs.declared.Outcome.{Outcome}
use Rattle.lists.specs.Lst.{extent}
use Rattle.pool.specs.Operations.{read}
use Rattle.pool.specs.Pool.{holder, frees}
use Rattle.text.specs.Marks.{list_in}
use Rattle.text.specs.Text.{size_fault, verdict}
use Rattle.calls.specs.Promised.{Reads}
use Rattle.calls.specs.Entry.{work_words, entry_fault, no_holder, shown, unsound, stored, used as clearedWork}
use Rattle.groups.specs.declared.Stored.TheVariants.{Text}
use Rattle.calls.specs.Read.{Read, not_read, read_in, reading_in}
use Rattle.lines.specs.Printed.{filled}
use Rattle.answering.specs.Session.{work_most, reading_of, took}
use Rattle.answering.specs.Kept.{plain, Says}
use Rattle.table.specs.declared.Form.TheVariants.{Four}

record Same (g h : Read) : Type 0 where
  pub answer : g.answer ≡ h.answer
  pub table : g.table ≡ h.table

-- the tests of a reading in their order, by their outcomes; n and k are the answers of the first tests and of the text's size
abbrev tried : Bool → Bool → Bool → Bool → Bool → Bool → Bool → ℕ → ℕ → List ℕ → ℕ → List ℕ → List ℕ → Read
tried a b c d e f g n k ts h xs ws =
    let us = clearedWork Four ts ws in
    cond a
    (cond b (not_read HOLDER ts ws)
    (cond c
    (cond d (not_read UNSOUND ts us)
    (cond e (not_read OCCUPIED ts us)
    (cond f
    (cond g (not_read NO_ROOM ts us)
    (record { answer = DONE; count = (verdict xs).taken; table = stored Four ts (read (shown Four ts) h (list_in xs)); work = us }))
    (not_read (verdict xs).no ts us))))
    (not_read k ts ws)))
    (not_read n ts ws)

any_words : (ts ws us xs : List ℕ) (h : ℕ) → length ws ≡ length us → Same (read_in Text ts ws h xs) (read_in Text ts us h xs)
unfolding reading_in
any_words ts ws us xs h l =
    rw l (go (eqb (entry_fault work_words Four ts (length us)) DONE) (no_holder Four ts h) (eqb (size_fault xs) DONE) (unsound Four ts)
    (not (eqb (holder (shown Four ts) h) 0)) (eqb (verdict xs).no DONE) (ltb (frees (shown Four ts).cells) (extent (list_in xs))))
  where
    n : ℕ
    n = entry_fault work_words Four ts (length us)

    go : (a b c d e f g : Bool) → Same (tried a b c d e f g n (size_fault xs) ts h xs ws) (tried a b c d e f g n (size_fault xs) ts h xs us)
    go false b c d e f g = record { answer = refl; table = refl }
    go true true c d e f g = record { answer = refl; table = refl }
    go true false false d e f g = record { answer = refl; table = refl }
    go true false true true e f g = record { answer = refl; table = refl }
    go true false true false true f g = record { answer = refl; table = refl }
    go true false true false false false g = record { answer = refl; table = refl }
    go true false true false false true true = record { answer = refl; table = refl }
    go true false true false false true false = record { answer = refl; table = refl }

-- READ of a text on words
pub reads : (us ws vs front xs page : List ℕ) (h : ℕ) (o : Outcome) → length ws ≡ work_most → page ≡ filled xs
    → Reads o front vs (read_in Text us ws h page)
    → Says (took (reading_of us h xs)) (plain o.answer) front
reads us ws vs front xs page h o w t s =
    let q = any_words us ws (replicate work_most 0) (filled xs) h (w ∙ sym (length-replicate {A = ℕ} work_most 0)) in
    let r : read_in Text us ws h page ≡ read_in Text us ws h (filled xs) = ap (read_in Text us ws h) t in
    record {
      words = s.table ∙ ap (λ (x : Read). x.table) r ∙ q.table;
      answer = ap (λ (x : Outcome). x.answer) s.outcome ∙ ap (λ (x : Read). x.answer) r ∙ q.answer;
      kind = refl;
      value = refl;
    }
