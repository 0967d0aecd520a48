-- What the move gives at each return, against the definition of moving.
use Rattle.std.specs.Prelude.{ℕ, ◌≤◌, ◌≡◌, refl, ◌≢◌, Bool, true, false, List, ◌++◌, reverse, eqb, leb, length, take, drop}
use Rattle.std.proofs.Common.{sym, ◌∙◌, arith, take_at, drop_at, le-leb, leb-true, leb-false}
use Rattle.std.proofs.Math.Path.{ap, subst}
use Rattle.std.proofs.Math.Bool.{cond}
use Rattle.std.proofs.lemmas.List.{reverse-reverse, length-reverse}
use Rattle.std.proofs.lemmas.Bool.{lt-leb}
use Rattle.answers.specs.Answers.{DONE, OUTPUT, moved, not_moved}
use Rattle.answers.specs.Laws.Unless.{goes_on_lem, refuses}
use Rattle.answers.specs.declared.Moved.{Moved}
use Rattle.calls.specs.Promised.{Moves}
use Rattle.calls.specs.Entry.{over}
use Rattle.calls.specs.Move.{Move, left_alone, put_out, moved_from}
use Rattle.groups.specs.Groups.{groups_of}
use Rattle.groups.specs.Stored.{judged}
use Rattle.groups.specs.Writing.{usable}
use Rattle.groups.specs.declared.Stored.TheVariants.{Text, Groups}
use Rattle.lists.specs.Lst.{Lst, order}
use Rattle.text.specs.Limits.{levels, text_most}
use Rattle.text.specs.Marks.{list_in}
use Rattle.text.specs.Text.{Answer, scanned, size_fault, verdict, done, refusal}
use Rattle.text.specs.Laws.SizeLaws.{right-size, wrong_size}
use Rattle.togroups.specs.Laid.{over_back}
use Rattle.togroups.specs.Turned.{turned}
use Rattle.togroups.specs.Laws.Judging.{judged-size}
use Rattle.togroups.specs.Laws.ListedLaws.{listed}

-- nothing is put out
nothing : {xs : List ℕ} {q : Move} {r : Moved} (n : ℕ) → q ≡ left_alone n xs → r ≡ not_moved n → Moves r xs q
nothing n e g = rw (e, g) (record { moved = refl; output = refl })

-- ---- the text

module _ (s xs : List ℕ) {r : Moved} where
  refused : (v : Answer) → verdict s ≡ v → v.no ≢ DONE → r ≡ not_moved v.no → Moves r xs (moved_from Text s xs)
  unfolding moved_from
  refused v e n g =
      nothing (verdict s).no (refuses (verdict s).no (λ (k : ℕ). left_alone k xs) _ (λ z. n (sym (ap (λ (a : Answer). a.no) e) ∙ z)))
      (g ∙ ap (λ (a : Answer). not_moved a.no) (sym e))

  pub bad_size : {n : ℕ} → n ≡ size_fault s → n ≢ DONE → r ≡ not_moved n → Moves r xs (moved_from Text s xs)
  bad_size e z g = refused (refusal (size_fault s)) (wrong_size s (λ q. z (e ∙ q))) (λ q. z (e ∙ q)) (g ∙ ap not_moved e)

  pub faulty : {n : ℕ} → size_fault s ≡ DONE → scanned s ≡ refusal n → n ≢ DONE → r ≡ not_moved n → Moves r xs (moved_from Text s xs)
  faulty {n} f e d g = refused (refusal n) (right-size s f ∙ e) d g

  -- a list
  pub moves : (m : ℕ) (out : List ℕ) → verdict s ≡ done m → Moves r out (put_out Groups m (list_in s) xs) → Moves r out (moved_from Text s xs)
  unfolding moved_from
  moves m out e k = subst (Moves r out) (sym (ap (λ (a : Answer). moved_as a) e)) k
    where
      moved_as : Answer → Move
      moved_as a = cond (eqb a.no DONE) (put_out Groups a.taken (list_in s) xs) (left_alone a.no xs)

pub taken-text : (s : List ℕ) (m : ℕ) → size_fault s ≡ DONE → scanned s ≡ done m → verdict s ≡ done m
taken-text s m f e = right-size s f ∙ e

-- ---- the list

-- bytes laid down with the last first, turned round
turned-over : (gs old : List ℕ) (n : ℕ) → n ≡ length gs → turned n (over (reverse gs) old) ≡ over gs old
turned-over gs old n e =
    let k : length (reverse gs) ≡ n = length-reverse gs ∙ sym e in
    let rest = drop (length (reverse gs)) old in
    (λ i. reverse (take_at (reverse gs) rest n k i) ++ drop_at (reverse gs) rest n k i)
    ∙ (λ i. reverse-reverse gs i ++ drop (length-reverse gs i) old)

-- a text's bytes are no bound beside the room
within_text : (n room : ℕ) (b : Bool) → n ≤ text_most → leb n room ≡ b → leb n (usable room) ≡ b
within_text n room true h e = le-leb n (usable room) (omega (arith, leb-true n room e))
within_text n room false h e = lt-leb n (usable room) (omega (arith, leb-false n room e))

module _ (s : List ℕ) (m : ℕ) (e : verdict s ≡ done m) (xs : List ℕ) where
  abbrev gs : List ℕ
  gs = groups_of (list_in (take m s))

  same : gs ≡ groups_of (list_in s)
  same = ap groups_of (listed s m e).1

  -- OUTPUT is judged by the room, since no text is too long
  judges : (b : Bool) → leb (length gs) (length xs) ≡ b → judged Groups (length xs) (list_in s) ≡ cond b DONE OUTPUT
  judges b h =
      let g = listed s m e in
      let size : length gs ≡ length (groups_of (list_in s)) = ap length same in
      judged-size (list_in s) (usable (length xs)) (subst (λ (l : Lst). order l ≤ levels) g.1 g.0.shallow)
      ∙ ap (λ (n : ℕ). cond (leb n (usable (length xs))) DONE OUTPUT) (sym size)
      ∙ ap (λ (c : Bool). cond c DONE OUTPUT) (within_text (length gs) (length xs) b (omega (arith, g.0.small, g.0.short)) h)

  pub too_short : leb (length gs) (length xs) ≡ false → {r : Moved} → r ≡ not_moved OUTPUT → Moves r xs (put_out Groups m (list_in s) xs)
  too_short h g =
      let j = judges false h in
      let d : judged Groups (length xs) (list_in s) ≢ DONE = λ z. omega (arith, j, z) in
      nothing OUTPUT (refuses (judged Groups (length xs) (list_in s)) (λ (n : ℕ). left_alone n xs) _ d ∙ ap (λ (n : ℕ). left_alone n xs) j) g

  pub puts_out : leb (length gs) (length xs) ≡ true → {r : Moved} (n : ℕ) (out : List ℕ) → n ≡ length gs → out ≡ turned n (over_back true gs xs) → r ≡ moved DONE m n
      → Moves r out (put_out Groups m (list_in s) xs)
  puts_out h n out a b g =
      rw (goes_on_lem (judged Groups (length xs) (list_in s)) (λ (k : ℕ). left_alone k xs)
      (record { answer = DONE; taken = m; written = length (groups_of (list_in s)); output = over (groups_of (list_in s)) xs }) (judges true h))
      (record {
        moved = g ∙ ap (moved DONE m) (a ∙ ap length same);
        output = b ∙ turned-over gs xs n a ∙ ap (λ (u : List ℕ). over u xs) same;
      })
