-- The records that a text is taken for: whole records from its start, and nothing behind them is looked at.
-- By induction on the characters, along with the number of bytes behind the scan.
use Rattle.std.specs.Prelude.{ℕ, ◌+◌, ◌%◌, ◌≡◌, refl, List, [], ◌∷◌, ◌++◌, length, eqb}
use Rattle.std.proofs.Common.{sym, ap, subst, ◌∙◌, arith, eqb-true}
use Rattle.text.specs.Limits.{record_bytes}
use Rattle.text.specs.Text.{is_over, Step, mark, fault, State, at, refused, taken, run, settle, step_of}
use Rattle.text.specs.Marks.{Mark, met, trace}
use Rattle.text.specs.Laws.TextLaws.{by_case, never_taken, rests_taken}
use Rattle.text.specs.Laws.MarkLaws.{trace-taken}

-- a text from a state with n bytes behind it that is taken for m bytes
pub record Front (t : List ℕ) (st : State) (n m : ℕ) : Type 0 where
  pub part : List ℕ
  pub later : List ℕ
  pub parts : t ≡ part ++ later
  pub runs : run st part ≡ taken m
  pub bytes : n + length part ≡ m
  pub whole : m % record_bytes ≡ 0
  pub marks : trace st t ≡ trace st part

-- n bytes are behind the state
abbrev Behind : State → ℕ → Type 0
Behind (at s k) n = k ≡ n
Behind (refused k) n = Unit {0}
Behind (taken k) n = (k ≡ n) × (k % record_bytes ≡ 0)

settled : (u : Step) (n : ℕ) → Behind (settle n u) n
settled (mark s) n =
    by_case (is_over s.phase) (λ (st : State). Behind st n)
    (λ i. by_case (eqb (n % record_bytes) 0) (λ (st : State). Behind st n) (λ z. (refl, eqb-true _ _ z)) (λ z. refl))
    (λ i. refl)
settled (fault k) n = tt

pub front : (t : List ℕ) (st : State) (n m : ℕ) → Behind st n → run st t ≡ taken m → Front t st n m
front [] (at s k) n m p e = let z : ◌≡◌ {A = ℕ} 0 1 = cc in absurd (omega arith)
front [] (refused k) n m p e = let z : ◌≡◌ {A = ℕ} 0 1 = cc in absurd (omega arith)
front [] (taken k) n m p e =
    let z : k ≡ m = cc in
    record { part = []; later = []; parts = refl; runs = e; bytes = omega arith; whole = sym (ap (λ (j : ℕ). j % record_bytes) z) ∙ p.1; marks = refl }
front (b ∷ t) (at s k) n m p e =
    let q : k + 1 ≡ n + 1 = omega arith in
    let f = front t (settle (k + 1) (step_of s b)) (n + 1) m (subst (Behind (settle (k + 1) (step_of s b))) q (settled (step_of s b) (k + 1))) e in
    record {
      part = b ∷ f.part;
      later = f.later;
      parts = ap (λ (x : List ℕ). b ∷ x) f.parts;
      runs = f.runs;
      bytes = omega (arith, f.bytes);
      whole = f.whole;
      marks = ap (λ (es : List Mark). met (at s k) b ++ es) f.marks;
    }
front (b ∷ t) (refused k) n m p e = absurd (never_taken k m t e)
front (b ∷ t) (taken k) n m p e =
    let q : taken k ≡ taken m = sym (rests_taken k t) ∙ e in
    let z : k ≡ m = cc in
    record { part = []; later = b ∷ t; parts = refl; runs = q; bytes = omega arith; whole = sym (ap (λ (j : ℕ). j % record_bytes) z) ∙ p.1; marks = trace-taken k t }
