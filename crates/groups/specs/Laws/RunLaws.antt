-- Laws of the automaton over numbers: a state at rest stays and meets no mark, and what a taken answer says of the run.
use Rattle.std.specs.Prelude.{ℕ, suc, ◌+◌, ◌/◌, ◌%◌, ◌≡◌, refl, List, [], ◌∷◌, ◌≢◌, ◌⊎◌, eqb, ltb, length}
use Rattle.std.proofs.Common.{sym, ap, inl, inr, arith}
use Rattle.answers.specs.Answers.{DONE, DEEP, GROUPS}
use Rattle.text.specs.Limits.{levels}
use Rattle.text.specs.Text.{Answer, done, refusal}
use Rattle.text.specs.Laws.TextLaws.{by_case}
use Rattle.groups.specs.Reading.{Token, num, bad, State, begin, at, refused, taken, closing, element, counted_off, next, run, answer, trace}

pub rests_refused : (k : ℕ) (ts : List Token) → run (refused k) ts ≡ refused k
rests_refused k [] = refl
rests_refused k (t ∷ ts) = rests_refused k ts

pub rests_taken : (n : ℕ) (ts : List Token) → run (taken n) ts ≡ taken n
rests_taken n [] = refl
rests_taken n (t ∷ ts) = rests_taken n ts

pub trace-taken : (n : ℕ) (ts : List Token) → trace (taken n) ts ≡ []
trace-taken n [] = refl
trace-taken n (t ∷ ts) = trace-taken n ts

pub never_taken : (k m : ℕ) (ts : List Token) → run (refused k) ts ≡ taken m → ⊥
never_taken k m [] e = let z : ◌≡◌ {A = ℕ} 0 1 = cc in omega arith
never_taken k m (t ∷ ts) e = never_taken k m ts e

-- a refusal is of one of two kinds
abbrev Honest : State → Type 0
Honest begin = Unit {0}
Honest (at st n) = Unit {0}
Honest (refused k) = (k ≡ DEEP) ⊎ (k ≡ GROUPS)
Honest (taken n) = Unit {0}

closing_honest : (st : List ℕ) (n : ℕ) → Honest (closing st n)
closing_honest [] n = tt
closing_honest (ℕ.zero ∷ st) n = closing_honest st n
closing_honest (suc k ∷ st) n = tt

element_honest : (st : List ℕ) (v n : ℕ) → Honest (element st v n)
element_honest st v n =
    by_case (eqb (v % 2) 0) Honest (λ e. closing_honest st n)
    (λ e. by_case (ltb (length st) levels) Honest (λ l. closing_honest (v / 2 ∷ st) n) (λ l. inl refl))

next_honest : (st : State) (t : Token) → Honest st → Honest (next st t)
next_honest begin (num v k) h = by_case (eqb (v % 2) 0) Honest (λ e. inr refl) (λ e. closing_honest (v / 2 ∷ []) k)
next_honest begin bad h = inr refl
next_honest (at st n) (num v k) h = element_honest (counted_off st) v (n + k)
next_honest (at st n) bad h = inr refl
next_honest (refused k) t h = h
next_honest (taken n) t h = tt

run_honest : (ts : List Token) (st : State) → Honest st → Honest (run st ts)
run_honest [] st h = h
run_honest (t ∷ ts) st h = run_honest ts (next st t) (next_honest st t h)

answer-taken : (st : State) (m : ℕ) → Honest st → answer st ≡ done m → st ≡ taken m
answer-taken begin m h e = let z : ◌≡◌ {A = ℕ} 19 0 = ap (λ (a : Answer). a.no) e in absurd (omega arith)
answer-taken (at st n) m h e = let z : ◌≡◌ {A = ℕ} 19 0 = ap (λ (a : Answer). a.no) e in absurd (omega arith)
answer-taken (refused k) m (inl h) e = let z : k ≡ 0 = ap (λ (a : Answer). a.no) e in absurd (omega arith)
answer-taken (refused k) m (inr h) e = let z : k ≡ 0 = ap (λ (a : Answer). a.no) e in absurd (omega arith)
answer-taken (taken n) m h e = ap taken (ap (λ (a : Answer). a.taken) e)

pub run-taken : (ts : List Token) (m : ℕ) → answer (run begin ts) ≡ done m → run begin ts ≡ taken m
run-taken ts m e = answer-taken (run begin ts) m (run_honest ts begin tt) e

pub run-refused : (ts : List Token) (k : ℕ) → answer (run begin ts) ≡ refusal k → k ≢ GROUPS → k ≢ DONE
    → run begin ts ≡ refused k
run-refused ts k = go (run begin ts)
  where
    go : (st : State) → answer st ≡ refusal k → k ≢ GROUPS → k ≢ DONE → st ≡ refused k
    go begin e g z = absurd (g (sym (ap (λ (a : Answer). a.no) e)))
    go (at st n) e g z = absurd (g (sym (ap (λ (a : Answer). a.no) e)))
    go (refused j) e g z = ap refused (ap (λ (a : Answer). a.no) e)
    go (taken n) e g z = absurd (z (sym (ap (λ (a : Answer). a.no) e)))

-- the three answers
pub answer_ways : (ts : List Token)
    → let a = answer (run begin ts) in (a.no ≡ DONE) ⊎ (a ≡ refusal DEEP) ⊎ (a ≡ refusal GROUPS)
answer_ways ts = go (run begin ts) (run_honest ts begin tt)
  where
    go : (st : State) → Honest st → ((answer st).no ≡ DONE) ⊎ (answer st ≡ refusal DEEP) ⊎ (answer st ≡ refusal GROUPS)
    go begin h = inr (inr refl)
    go (at st n) h = inr (inr refl)
    go (refused k) (inl h) = inr (inl (ap refusal h))
    go (refused k) (inr h) = inr (inr (ap refusal h))
    go (taken n) h = inl refl
