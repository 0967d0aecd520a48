-- Our moves: each chain of tests is the chain of rows, and what is done is the list in the other form; and both stored
-- forms are read alike.
use Rattle.std.specs.Prelude.{◌≡◌, refl, ◌≢◌, Bool, true, false, not, List, [], ◌∷◌, ℕ, eqb, ltb, length, take, drop}
use Rattle.std.proofs.Common.{sym, ◌∙◌, subst, inl, inr}
use Rattle.std.proofs.Math.Path.{ap}
use Rattle.std.proofs.Math.Bool.{cond}
use Rattle.std.proofs.Math.Seq.{take-append_seam}
use Rattle.answers.specs.Answers.{DONE, UNSOUND, HOLDER, OCCUPIED, NO_ROOM, OUTPUT, unless}
use Rattle.answers.specs.Laws.Unless.{goes_on_lem, both_ways}
use Rattle.lists.specs.Lst.{Lst, extent}
use Rattle.pool.specs.Pool.{holder, frees}
use Rattle.pool.specs.Operations.{read}
use Rattle.text.specs.Text.{Answer}
use Rattle.text.specs.Laws.Accepted.{taken-answer}
use Rattle.groups.specs.Stored.{size_fault, verdict, list_in, bytes_of, judged, other}
use Rattle.groups.specs.declared.Stored.{Stored}
use Rattle.groups.specs.declared.Stored.TheVariants.{Text, Groups}
use Rattle.calls.specs.Entry.{work_words, entry_fault, no_holder, shown, unsound, stored, used, over}
use Rattle.calls.specs.Read.{Read, not_read, reading_in}
use Rattle.calls.specs.Write.{Write, writing_in}
use Rattle.calls.specs.Move.{Move, left_alone, put_out, moved_from}
use Rattle.promises.specs.Engine.{ours}
use Rattle.promises.specs.Rows.{Row, row, First}
use Rattle.promises.specs.StoredGrounds.{byte_rows, Spells, spelling, Anew, TooLong}
use Rattle.promises.specs.Demand1.{MoveRefusals, RefusedMove}
use Rattle.promises.specs.Demand2.{FormsReadAlike, MovingGives, MovesHome, MovesAsTables}
use Rattle.promises.specs.Laws.Tells.{unless-first, none-answered}
use Rattle.promises.specs.Laws.Invariant.{read_has}
use Rattle.promises.specs.Laws.ReadLaws.{Taken, filled_in, read_ways}
use Rattle.promises.specs.Laws.WriteLaws.{opened_good, list_of_is, write_ways}
use Rattle.promises.specs.Laws.MoveLaws.{Moved, move_ways}
use Rattle.promises.specs.Laws.StoredRows.{byte_answers, byte_each, spells_once, spells_ours, Judged, judges}
use Rattle.promises.specs.Laws.StoredTrips.{spelt, accepted-size, written_read, written_anew, shallow, fitting, not_deep}
use Rattle.table.specs.declared.Form.{Form}

-- the rows

abbrev of_move : Move → ℕ
of_move r = r.answer

pub move_rows_lem : (form : Form) → MoveRefusals (ours form)
unfolding moved_from
move_rows_lem form k xs out =
    unless-first (byte_rows k xs) last (verdict k xs).no (byte_each k xs) (byte_answers k xs) of_move done? refuse putting (λ _. refl) fits
  where
    done? : ℕ → Type 0
    done? m = m ≡ DONE

    last : List Row
    last = row OUTPUT ((m : ℕ) × (l : Lst) × Spells k xs m l × TooLong (other k) (length out) l) ∷ []

    refuse : ℕ → Move
    refuse n = left_alone n out

    putting : Move
    putting = put_out (other k) (verdict k xs).taken (list_in k xs) out

    answered : (n : ℕ) (y : Move) → y.answer ≡ DONE → (unless n refuse y).answer ≡ n
    answered n y e = both_ways n refuse y (λ (w : Move). w.answer ≡ n) (λ d. refl) (λ z. e ∙ sym z)

    fits : (verdict k xs).no ≡ DONE → First last done? putting.answer
    fits e = subst (First last done?) (sym (answered (judged (other k) (length out) (list_in k xs)) _ refl)) (go (judges (other k) (length out) (list_in k xs)))
      where
        ours_spelt : Spells k xs (verdict k xs).taken (list_in k xs)
        ours_spelt = spells_ours k xs e

        go : Judged (other k) (length out) (list_in k xs) (judged (other k) (length out) (list_in k xs)) → First last done? (judged (other k) (length out) (list_in k xs))
        go (inl (d, z)) = absurd (not_deep (other k) (length out) (list_in k xs) (shallow k xs e) d)
        go (inr (d, inl (t, z))) = inl (((verdict k xs).taken, list_in k xs, ours_spelt, t), z)
        go (inr (d, inr (t, z))) = inr ((λ (m, l, s, u). t (subst (TooLong (other k) (length out)) (spells_once k xs m (verdict k xs).taken l (list_in k xs) s ours_spelt).1 u)), z)

pub refused_moves : (form : Form) → RefusedMove (ours form)
refused_moves form k xs out = move_ways k xs out (λ (r : Move). r.answer ≢ DONE → (r.output ≡ out) × (r.taken ≡ 0) × (r.written ≡ 0)) (λ n m _. (refl, refl, refl)) (λ t m. absurd (m refl))

-- what is done

pub moves_give : (form : Form) → MovingGives (ours form)
moves_give form k xs out =
    move_ways k xs out (λ (r : Move). r.answer ≡ DONE → (l : Lst) × Spells k xs r.taken l × (r.output ≡ over (spelling (other k) l) out) × (r.written ≡ length (spelling (other k) l))) (λ n d e. absurd (d e))
    (λ m e. let q = spelt (other k) (list_in k xs) in (list_in k xs, spells_ours k xs m.right, ap (λ (z : List ℕ). over z out) (sym q), ap length (sym q)))

-- the form of the form
back_other : (k : Stored) → other (other k) ≡ k
back_other Text = refl
back_other Groups = refl

pub goes_home : (form : Form) → MovesHome (ours form)
goes_home form k xs out home bs =
    move_ways k xs out (λ (r : Move). r.answer ≡ DONE → Anew k xs r.taken bs → let q = moved_from (other k) (take r.written r.output) home in q.answer ≡ DONE → (q.taken ≡ r.written) × (q.written ≡ length bs) × (q.output ≡ over bs home))
    (λ n d e. absurd (d e)) (λ m _. again m)
  where
    there : List ℕ
    there = bytes_of (other k) (list_in k xs)

    again : Moved k xs out → Anew k xs (verdict k xs).taken bs → let q = moved_from (other k) (take (length there) (over there out)) home in q.answer ≡ DONE → (q.taken ≡ length there) × (q.written ≡ length bs) × (q.output ≡ over bs home)
    again m a =
        let cut : take (length there) (over there out) ≡ there = take-append_seam there (drop (length there) out) in
        subst (λ (ys : List ℕ). let q = moved_from (other k) ys home in q.answer ≡ DONE → (q.taken ≡ length there) × (q.written ≡ length bs) × (q.output ≡ over bs home)) (sym cut)
        (move_ways (other k) there home (λ (q : Move). q.answer ≡ DONE → (q.taken ≡ length there) × (q.written ≡ length bs) × (q.output ≡ over bs home)) (λ n d e. absurd (d e))
        (λ _ _.
        let (right, same) = written_read (other k) (length out) (list_in k xs) (fitting k xs m.right) m.room in
        let bytes : bytes_of (other (other k)) (list_in (other k) there) ≡ bs = ap (λ (j : Stored). bytes_of j (list_in (other k) there)) (back_other k) ∙ ap (bytes_of k) same ∙ written_anew k xs bs m.right a in
        (ap (λ (r : Answer). r.taken) right, ap length bytes, ap (λ (z : List ℕ). over z home) bytes)))

pub as_tables : (form : Form) → MovesAsTables (ours form)
as_tables form k ts ws vs h xs out =
    read_ways form k ts ws h xs (λ (r : Read). let w = writing_in form (other k) r.table vs h out in let q = moved_from k xs out in r.answer ≡ DONE → w.answer ≡ DONE → q.answer ≡ DONE → (q.taken ≡ r.count) × (q.written ≡ w.count) × (q.output ≡ w.output))
    (λ n us d e. absurd (d e)) (λ t _. written t)
  where
    l : Lst
    l = list_in k xs

    us : List ℕ
    us = (filled_in form k ts ws h xs).table

    moved : (bs : List ℕ) → bs ≡ bytes_of (other k) l → (moved_from k xs out).answer ≡ DONE → let q = moved_from k xs out in (q.taken ≡ (verdict k xs).taken) × (q.written ≡ length bs) × (q.output ≡ over bs out)
    moved bs e = move_ways k xs out (λ (q : Move). q.answer ≡ DONE → (q.taken ≡ (verdict k xs).taken) × (q.written ≡ length bs) × (q.output ≡ over bs out)) (λ n d z. absurd (d z)) (λ m _. (refl, ap length (sym e), ap (λ (z : List ℕ). over z out) (sym e)))

    written : Taken form k ts ws h xs → let w = writing_in form (other k) us vs h out in let q = moved_from k xs out in w.answer ≡ DONE → q.answer ≡ DONE → (q.taken ≡ (verdict k xs).taken) × (q.written ≡ w.count) × (q.output ≡ w.output)
    written t =
        write_ways form (other k) us vs h out (λ (w : Write). let q = moved_from k xs out in w.answer ≡ DONE → q.answer ≡ DONE → (q.taken ≡ (verdict k xs).taken) × (q.written ≡ w.count) × (q.output ≡ w.output)) (λ n ws d e. absurd (d e))
        (λ o j e _ _ z. moved (bytes_of (other k) j) (ap (bytes_of (other k)) (sym e ∙ list_of_is (shown form us) h l (opened_good form o).sound (read_has form t))) z)

-- both stored forms are read alike

-- a part of a choice is a choice of parts
part-cond : {X Y : Type 0} (f : X → Y) (b : Bool) (x y : X) → f (cond b x y) ≡ cond b (f x) (f y)
part-cond f true x y = refl
part-cond f false x y = refl

module _ (form : Form) (ts ws : List ℕ) (h : ℕ) where
  -- a reading whose bytes have no fault, of which the list l is left
  abbrev chosen : {X : Type 0} → (ℕ → List ℕ → X) → Lst → X → X
  chosen refuse l go =
      cond (eqb (entry_fault work_words form ts (length ws)) DONE)
      (cond (no_holder form ts h) (refuse HOLDER ws)
      (cond (unsound form ts) (refuse UNSOUND (used form ts ws))
      (cond (not (eqb (holder (shown form ts) h) 0)) (refuse OCCUPIED (used form ts ws))
      (cond (ltb (frees (shown form ts).cells) (extent l)) (refuse NO_ROOM (used form ts ws)) go))))
      (refuse (entry_fault work_words form ts (length ws)) ws)

  abbrev refusing : ℕ → List ℕ → Read
  refusing n us = not_read n ts us

  part-chosen : {Y : Type 0} (f : Read → Y) (l : Lst) (go : Read) → f (chosen refusing l go) ≡ chosen (λ n us. f (refusing n us)) l (f go)
  part-chosen f l go =
      part-cond f (eqb (entry_fault work_words form ts (length ws)) DONE) _ _
      ∙ ap (λ y. cond (eqb (entry_fault work_words form ts (length ws)) DONE) y (f (refusing (entry_fault work_words form ts (length ws)) ws)))
      (part-cond f (no_holder form ts h) _ _ ∙ ap (cond (no_holder form ts h) (f (refusing HOLDER ws)))
      (part-cond f (unsound form ts) _ _ ∙ ap (cond (unsound form ts) (f (refusing UNSOUND (used form ts ws))))
      (part-cond f (not (eqb (holder (shown form ts) h) 0)) _ _ ∙ ap (cond (not (eqb (holder (shown form ts) h) 0)) (f (refusing OCCUPIED (used form ts ws))))
      (part-cond f (ltb (frees (shown form ts).cells) (extent l)) _ _))))

  abbrev filled : ℕ → Lst → Read
  filled n l = record { answer = DONE; count = n; table = stored form ts (read (shown form ts) h l); work = used form ts ws }

  reads-chosen : (k : Stored) (xs : List ℕ) (l : Lst) → (verdict k xs).no ≡ DONE → list_in k xs ≡ l
      → reading_in form k ts ws h xs ≡ chosen refusing l (filled (verdict k xs).taken l)
  unfolding reading_in
  reads-chosen k xs l e q = λ i.
      unless (entry_fault work_words form ts (length ws)) (λ n. not_read n ts ws)
      (cond (no_holder form ts h) (not_read HOLDER ts ws)
      ((goes_on_lem (size_fault k xs) (λ n. not_read n ts ws) _ (accepted-size k xs (verdict k xs).taken (taken-answer (verdict k xs) e))
      ∙ ap (cond (unsound form ts) (not_read UNSOUND ts (used form ts ws)))
      (ap (cond (not (eqb (holder (shown form ts) h) 0)) (not_read OCCUPIED ts (used form ts ws)))
      (goes_on_lem (verdict k xs).no (λ n. not_read n ts (used form ts ws)) _ e
      ∙ ap (λ (m : Lst). cond (ltb (frees (shown form ts).cells) (extent m)) (not_read NO_ROOM ts (used form ts ws)) (filled (verdict k xs).taken m)) q))) i))

  part-read : {Y : Type 0} (f : Read → Y) (k : Stored) (xs : List ℕ) (l : Lst) → (verdict k xs).no ≡ DONE → list_in k xs ≡ l
      → f (reading_in form k ts ws h xs) ≡ chosen (λ n us. f (refusing n us)) l (f (filled (verdict k xs).taken l))
  part-read f k xs l e q = ap f (reads-chosen k xs l e q) ∙ part-chosen f l (filled (verdict k xs).taken l)

pub read_alike_forms : (form : Form) → FormsReadAlike (ours form)
read_alike_forms form k j ts ws h xs ys m n l s t a b =
    let e = none-answered (byte_rows k xs) (verdict k xs).no a (byte_answers k xs) in
    let g = none-answered (byte_rows j ys) (verdict j ys).no b (byte_answers j ys) in
    let p = (spells_once k xs _ m (list_in k xs) l (spells_ours k xs e) s).1 in
    let q = (spells_once j ys _ n (list_in j ys) l (spells_ours j ys g) t).1 in (
      part-read form ts ws h (λ (r : Read). r.answer) k xs l e p ∙ sym (part-read form ts ws h (λ (r : Read). r.answer) j ys l g q),
      part-read form ts ws h (λ (r : Read). r.table) k xs l e p ∙ sym (part-read form ts ws h (λ (r : Read). r.table) j ys l g q),
      part-read form ts ws h (λ (r : Read). r.work) k xs l e p ∙ sym (part-read form ts ws h (λ (r : Read). r.work) j ys l g q),
    )
