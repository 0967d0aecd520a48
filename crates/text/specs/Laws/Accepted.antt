-- The check's answer and the list: what it takes is written back without blanks and leading zeros, and its extent is counted along the text.
use Rattle.std.specs.Prelude.{ℕ, suc, ◌+◌, ◌-◌, ◌*◌, ◌%◌, ◌≤◌, ◌≡◌, refl, List, [], ◌∷◌, Bool, true, false, cond, length, take, eqb, leb, ltb}
use Rattle.std.proofs.Common.{ap, ◌∙◌, arith, length-append}
use Rattle.answers.specs.Answers.{DONE}
use Rattle.answers.specs.Laws.Unless.{both_ways}
use Rattle.lists.specs.Lst.{extent}
use Rattle.text.specs.Limits.{levels, record_bytes, text_most, digits_most, atoms_end}
use Rattle.text.specs.Text.{Scan, begin, may_open, may_shut, may_part, may_begin, is_atom, is_over, Step, mark, fault, State, at, refused, taken, next, run, settle, step_of, Answer, answer, scanned, size_fault, verdict, done, refusal}
use Rattle.text.specs.ListText.{text_of, bare}
use Rattle.text.specs.Marks.{marks_of, trace, list_in, beginnings}
use Rattle.text.specs.Laws.SizeLaws.{its_size}
use Rattle.text.specs.Laws.TextLaws.{by_case}
use Rattle.text.specs.Laws.MarkLaws.{beginnings-extent}
use Rattle.text.specs.Laws.Front.{front}
use Rattle.text.specs.Laws.ReadBack.{read_write}

-- what both sides of a choice have
either {ℓ} : {A : Type ℓ} (P : A → Type 0) (t : Bool) {x y : A} → P x → P y → P (cond t x y)
either P t h k = by_case t P (λ e. h) (λ e. k)

-- no fault has the number 0
abbrev Numbered : Step → Type 0
Numbered (mark s) = Unit {0}
Numbered (fault k) = k ≡ 0 → ⊥

no : (k : ℕ) → suc k ≡ 0 → ⊥
no k e = omega arith

faults_numbered : (s : Scan) (b : ℕ) → Numbered (step_of s b)
faults_numbered s b =
    either Numbered (eqb b 40)
    (either Numbered (may_open s.phase) (either Numbered (ltb s.depth levels) tt (no 16)) (no 14))
    (either Numbered (eqb b 41)
    (either Numbered (may_shut s.phase) (either Numbered (ltb s.depth 2) tt tt) (no 14))
    (either Numbered (eqb b 44)
    (either Numbered (may_part s.phase) tt (no 14))
    (either Numbered (eqb b 32)
    (either Numbered (is_over s.phase) tt (no 14))
    (either Numbered (leb 48 b)
    (either Numbered (leb b 55)
    (either Numbered (may_begin s.phase) tt
    (either Numbered (is_atom s.phase)
    (either Numbered (ltb s.digits digits_most) (either Numbered (ltb (s.value * 8 + (b - 48)) atoms_end) tt (no 15)) (no 15))
    (no 14)))
    (no 14))
    (no 14)))))

-- a refusal has a number, and what is taken has bytes
abbrev Honest : State → Type 0
Honest (at s n) = Unit {0}
Honest (refused k) = k ≡ 0 → ⊥
Honest (taken n) = n ≡ 0 → ⊥

settle_honest : (n : ℕ) (u : Step) → Numbered u → Honest (settle (n + 1) u)
settle_honest n (mark s) h =
    either Honest (is_over s.phase) (either Honest (eqb ((n + 1) % record_bytes) 0) (λ e. omega arith) tt) tt
settle_honest n (fault k) h = h

next_honest : (st : State) (b : ℕ) → Honest st → Honest (next st b)
next_honest (at s n) b h = settle_honest n (step_of s b) (faults_numbered s b)
next_honest (refused k) b h = h
next_honest (taken n) b h = h

run_honest : (l : List ℕ) (st : State) → Honest st → Honest (run st l)
run_honest [] st h = h
run_honest (b ∷ l) st h = run_honest l (next st b) (next_honest st b h)

answer-taken : (st : State) (m : ℕ) → Honest st → answer st ≡ done m → st ≡ taken m
answer-taken (at s n) m h e = let z : ◌≡◌ {A = ℕ} 15 0 = ap (λ (a : Answer). a.no) e in absurd (omega arith)
answer-taken (refused k) m h e = absurd (h (ap (λ (a : Answer). a.no) e))
answer-taken (taken n) m h e = ap taken (ap (λ (a : Answer). a.taken) e)

nought : (st : State) → Honest st → answer st ≡ refusal 0 → ⊥
nought (at s n) h e = let z : ◌≡◌ {A = ℕ} 15 0 = ap (λ (a : Answer). a.no) e in omega arith
nought (refused k) h e = h (ap (λ (a : Answer). a.no) e)
nought (taken n) h e = h (ap (λ (a : Answer). a.taken) e)

-- no text is answered by 0 and 0
pub never_nought : (s : List ℕ) → scanned s ≡ refusal 0 → ⊥
unfolding scanned
never_nought s e = nought (run (at begin 0) s) (run_honest s (at begin 0) tt) e

pub scanned-run : (s : List ℕ) (m : ℕ) → scanned s ≡ done m → run (at begin 0) s ≡ taken m
unfolding scanned
scanned-run s m e = answer-taken (run (at begin 0) s) m (run_honest s (at begin 0) tt) e

-- an answer that refuses nothing is told by its bytes
pub taken-answer : (a : Answer) → a.no ≡ DONE → a ≡ done a.taken
taken-answer a z = ap (λ (k : ℕ). record { no = k; taken = a.taken }) z

-- the size was right
pub accepted-size : (s : List ℕ) (m : ℕ) → verdict s ≡ done m → (size_fault s ≡ DONE) × (scanned s ≡ done m)
unfolding verdict
accepted-size s m = both_ways (size_fault s) refusal (scanned s) (λ (a : Answer). a ≡ done m → (size_fault s ≡ DONE) × (scanned s ≡ done m))
    (λ n e. absurd (n (ap (λ (a : Answer). a.no) e))) (λ z e. (z, e))

pub sized : (s : List ℕ) (m : ℕ) → verdict s ≡ done m → (length s ≤ text_most) × (scanned s ≡ done m)
sized s m e = let (z, q) = accepted-size s m e in ((its_size s z).small, q)

pub taken-run : (s : List ℕ) (m : ℕ) → verdict s ≡ done m → run (at begin 0) s ≡ taken m
taken-run s m e = scanned-run s m (sized s m e).1

-- the bytes taken are whole records of the text
pub taken-within : (s : List ℕ) (m : ℕ) → verdict s ≡ done m → (m ≤ length s) × (m % record_bytes ≡ 0)
taken-within s m e =
    let f = front s (at begin 0) 0 m refl (taken-run s m e) in
    (omega (arith, f.bytes, ap length f.parts, length-append f.part f.later), f.whole)

-- read, then write, in terms of the check's answer
pub accepted : (s : List ℕ) (m : ℕ) → verdict s ≡ done m
    → (trace (at begin 0) s ≡ marks_of true (list_in s)) × (text_of (list_in s) ≡ bare false (take m s))
accepted s m e = read_write s m (taken-run s m e)

-- the elements that begin in a text that is taken, and the outermost "(", are one more than the extent
pub beginnings-text : (s : List ℕ) (m : ℕ) → scanned s ≡ done m → beginnings (trace (at begin 0) s) ≡ extent (list_in s) + 1
beginnings-text s m e = ap beginnings (read_write s m (scanned-run s m e)).0 ∙ beginnings-extent (list_in s)
