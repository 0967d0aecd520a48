-- Every engine that keeps the promises checks texts, reads and moves as ours does: the first list ends at one place.
use Rattle.std.specs.Prelude.{◌≡◌, refl, List, ℕ, length, drop}
use Rattle.std.proofs.Common.{sym, ap, ◌∙◌, subst}
use Rattle.std.proofs.Math.Decide.{ℕ_discrete}
use Rattle.answers.specs.Answers.{DONE}
use Rattle.text.specs.Text.{Answer, others, verdict, rest_at}
use Rattle.lists.specs.Lst.{Lst}
use Rattle.groups.specs.Stored.{list_in, other}
use Rattle.groups.specs.declared.Stored.{Stored}
use Rattle.pool.specs.Pool.{Sound}
use Rattle.pool.specs.Laws.SoundLaws.{denoted}
use Rattle.calls.specs.Entry.{shown, over}
use Rattle.calls.specs.Read.{Read as Reading, reading_in}
use Rattle.calls.specs.Move.{moved_from}
use Rattle.promises.specs.Engine.{Engine}
use Rattle.promises.specs.Rows.{Answers}
use Rattle.promises.specs.TextGrounds.{check_rows}
use Rattle.promises.specs.StoredGrounds.{Spells, spelling, at_reading, into_rows, read_rows, move_rows}
use Rattle.promises.specs.Keeps.{Keeps, ours_keeps}
use Rattle.promises.specs.OneOutcome.{one_answer}
use Rattle.promises.specs.Laws.Tables.{Good}
use Rattle.promises.specs.Laws.ReadLaws.{reading_good, read_ways}
use Rattle.promises.specs.Laws.Invariant.{read_good}
use Rattle.promises.specs.Laws.TextOnce.{takes_once}
use Rattle.promises.specs.Laws.StoredRows.{spells_once, spells_ours}
use Rattle.promises.specs.Same.OnePool.{one-read, same_table}
use Rattle.promises.specs.Same.SameParts.{by_parts_check, ReadAs, by_parts_read, MovedAs, by_parts_move}
use Rattle.promises.specs.Same.SameRows.{decide, same_work}
use Rattle.table.specs.declared.Form.{Form}

-- a reading that is done: the table was sound and is a table again, and the list is that of the bytes
module _ (form : Form) (k : Stored) (ts ws : List ℕ) (h : ℕ) (xs : List ℕ) where
  taken_sound : (reading_in form k ts ws h xs).answer ≡ DONE → Sound (shown form ts)
  taken_sound = read_ways form k ts ws h xs (λ (r : Reading). r.answer ≡ DONE → Sound (shown form ts)) (λ n us d e. absurd (d e))
      (λ t e. (reading_good form k ts ws h xs t.entered).sound)

  taken_good : (reading_in form k ts ws h xs).answer ≡ DONE → Good form (reading_in form k ts ws h xs).table
  taken_good e = read_good form k ts ws h xs (good_before e)
    where
      good_before : (reading_in form k ts ws h xs).answer ≡ DONE → Good form ts
      good_before = read_ways form k ts ws h xs (λ (r : Reading). r.answer ≡ DONE → Good form ts) (λ n us d e. absurd (d e))
          (λ t e. reading_good form k ts ws h xs t.entered)

  taken_spells : (reading_in form k ts ws h xs).answer ≡ DONE → Spells k xs (reading_in form k ts ws h xs).count (list_in k xs)
  taken_spells = read_ways form k ts ws h xs (λ (r : Reading). r.answer ≡ DONE → Spells k xs r.count (list_in k xs)) (λ n us d e. absurd (d e))
      (λ t e. spells_ours k xs t.right)

module _ (form : Form) (E : Engine) (K : Keeps form E) where
  pub same_check : (xs : List ℕ) → E.check xs ≡ verdict xs
  same_check xs = by_parts_check xs (record { no = number; taken = go (ℕ_discrete (verdict xs).no DONE) }) (record { no = refl; taken = refl })
    where
      number : (E.check xs).no ≡ (verdict xs).no
      number = one_answer (check_rows xs) _ _ (K.first.check_refusals xs) ((ours_keeps form).first.check_refusals xs)

      go : Dec ((verdict xs).no ≡ DONE) → (E.check xs).taken ≡ (verdict xs).taken
      go (yes e) = takes_once xs _ _ (K.second.checking_takes xs (number ∙ e)) ((ours_keeps form).second.checking_takes xs e)
      go (no d) = K.first.refused-check xs (λ z. d (sym number ∙ z)) ∙ sym ((ours_keeps form).first.refused-check xs d)

  pub same_rest : (xs : List ℕ) → E.rest xs ≡ rest_at xs
  same_rest xs = go (ℕ_discrete (verdict xs).no DONE) (ℕ_discrete (others (drop (verdict xs).taken xs)) 0)
    where
      number : (E.check xs).no ≡ (verdict xs).no
      number = ap (λ (r : Answer). r.no) (same_check xs)

      taken : (E.check xs).taken ≡ (verdict xs).taken
      taken = ap (λ (r : Answer). r.taken) (same_check xs)

      left : others (drop (E.check xs).taken xs) ≡ others (drop (verdict xs).taken xs)
      left = ap (λ (n : ℕ). others (drop n xs)) taken

      go : Dec ((verdict xs).no ≡ DONE) → Dec (others (drop (verdict xs).taken xs) ≡ 0) → E.rest xs ≡ rest_at xs
      go (no d) q = (K.second.rest_gives xs).2 (λ z. d (sym number ∙ z)) ∙ sym (((ours_keeps form).second.rest_gives xs).2 d)
      go (yes e) (yes b) = (K.second.rest_gives xs).1 (number ∙ e) (left ∙ b) ∙ sym (((ours_keeps form).second.rest_gives xs).1 e b)
      go (yes e) (no m) = (K.second.rest_gives xs).0 (number ∙ e) (λ b. m (sym left ∙ b)) ∙ taken ∙ sym (((ours_keeps form).second.rest_gives xs).0 e m)

  -- where a reading is done, the holders had lists and so the list of the bytes is told with its place
  told : (k : Stored) (ts ws : List ℕ) (h : ℕ) (xs : List ℕ) → Sound (shown form ts) → (E.read k ts ws h xs).answer ≡ DONE
      → (l : Lst) × Spells k xs (E.read k ts ws h xs).count l
  told k ts ws h xs s e =
      let g = K.second.reading-gives k ts ws h xs (λ i. (denoted (shown form ts) s i).0) (λ i. (denoted (shown form ts) s i).1) e in
      (g.0, g.1)

  pub same_read : (k : Stored) (ts ws : List ℕ) (h : ℕ) (xs : List ℕ) → E.read k ts ws h xs ≡ reading_in form k ts ws h xs
  same_read k ts ws h xs = by_parts_read form k ts ws h xs (go (ℕ_discrete (reading_in form k ts ws h xs).answer DONE))
      (record { answer = refl; count = refl; table = refl; work = refl })
    where
      ours-rows : Answers (read_rows form k ts ws h xs) (reading_in form k ts ws h xs).answer
      ours-rows = (ours_keeps form).first.read_refusals k ts ws h xs

      answer : (E.read k ts ws h xs).answer ≡ (reading_in form k ts ws h xs).answer
      answer = one_answer (read_rows form k ts ws h xs) _ _ (K.first.read_refusals k ts ws h xs) ours-rows

      work : (E.read k ts ws h xs).work ≡ (reading_in form k ts ws h xs).work
      work = same_work (at_reading form k ts ws h xs) ts ws (E.read k ts ws h xs).work (reading_in form k ts ws h xs).work
          (decide (at_reading form k ts ws h xs) (into_rows form k ts h xs) (λ m. m ≡ DONE) (reading_in form k ts ws h xs).answer ours-rows)
          (K.first.read_work k ts ws h xs) ((ours_keeps form).first.read_work k ts ws h xs)

      count : (reading_in form k ts ws h xs).answer ≡ DONE → (E.read k ts ws h xs).count ≡ (reading_in form k ts ws h xs).count
      count e =
          let (l, w) = told k ts ws h xs (taken_sound form k ts ws h xs e) (answer ∙ e) in
          (spells_once k xs _ _ l (list_in k xs) w (taken_spells form k ts ws h xs e)).0

      -- the list of the bytes and the free chain fix what the table shows
      shows : (reading_in form k ts ws h xs).answer ≡ DONE → shown form (E.read k ts ws h xs).table ≡ shown form (reading_in form k ts ws h xs).table
      shows e =
          let p = shown form ts in
          let s = taken_sound form k ts ws h xs e in
          let w = taken_spells form k ts ws h xs e in
          one-read (list_in k xs) s.chain.0 h p _ _
          (K.second.reading_uses_its_cells k ts ws h xs (answer ∙ e) (list_in k xs) s.chain.0 (subst (λ (m : ℕ). Spells k xs m (list_in k xs)) (sym (count e)) w)
          s.chain.1)
          ((ours_keeps form).second.reading_uses_its_cells k ts ws h xs e (list_in k xs) s.chain.0 w s.chain.1)

      go : Dec ((reading_in form k ts ws h xs).answer ≡ DONE) → ReadAs (reading_in form k ts ws h xs) (E.read k ts ws h xs)
      go (yes e) = record {
        answer = answer;
        count = count e;
        table = same_table form (E.read k ts ws h xs).table (reading_in form k ts ws h xs).table (taken_good form k ts ws h xs e).table (shows e);
        work = work;
      }
      go (no d) =
          let (t, c) = K.first.refused-read k ts ws h xs (λ z. d (sym answer ∙ z)) in
          let (t', c') = (ours_keeps form).first.refused-read k ts ws h xs d in
          record { answer = answer; count = c ∙ sym c'; table = t ∙ sym t'; work = work }

  pub same_move : (k : Stored) (xs out : List ℕ) → E.move k xs out ≡ moved_from k xs out
  same_move k xs out = by_parts_move k xs out (go (ℕ_discrete (moved_from k xs out).answer DONE))
      (record { answer = refl; taken = refl; written = refl; output = refl })
    where
      answer : (E.move k xs out).answer ≡ (moved_from k xs out).answer
      answer = one_answer (move_rows k xs out) _ _ (K.first.move_refusals k xs out) ((ours_keeps form).first.move_refusals k xs out)

      go : Dec ((moved_from k xs out).answer ≡ DONE) → MovedAs (moved_from k xs out) (E.move k xs out)
      go (yes e) =
          let (l, s, o, n) = K.second.moving_gives k xs out (answer ∙ e) in
          let (l', s', o', n') = (ours_keeps form).second.moving_gives k xs out e in
          let (q, p) = spells_once k xs _ _ l l' s s' in
          record {
            answer = answer;
            taken = q;
            written = n ∙ ap (λ (j : Lst). length (spelling (other k) j)) p ∙ sym n';
            output = o ∙ ap (λ (j : Lst). over (spelling (other k) j) out) p ∙ sym o';
          }
      go (no d) =
          let (o, t, w) = K.first.refused_move k xs out (λ z. d (sym answer ∙ z)) in
          let (o', t', w') = (ours_keeps form).first.refused_move k xs out d in
          record { answer = answer; taken = t ∙ sym t'; written = w ∙ sym w'; output = o ∙ sym o' }
