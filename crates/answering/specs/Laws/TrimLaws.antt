-- A text without the blanks at its end. A list's text ends in ")", so that its fill is what goes.
use Rattle.std.specs.Prelude.{◌≡◌, refl, ◌≢◌, Bool, true, false, List, [], ◌∷◌, ◌++◌, ℕ, zero, suc, ◌-◌, ◌%◌, ◌≤◌, ◌<◌, cond, eqb, length, get_or, replicate}
use Rattle.std.proofs.Common.{sym, ap, ◌∙◌, append_assoc, append-nil, arith, add-one, eq-eqb, ne_eqb, length-append}
use Rattle.lists.specs.Lst.{Lst, nil, atom, list}
use Rattle.text.specs.Limits.{record_bytes}
use Rattle.text.specs.ListText.{octal, lead, leads, items, text_of, written}
use Rattle.lines.specs.Numbers.{blank}
use Rattle.answering.specs.Trim.{left_of, trimmed}

trim_blank : (s : List ℕ) → trimmed (s ++ (blank ∷ [])) ≡ trimmed s
unfolding trimmed
trim_blank [] = refl
trim_blank (c ∷ s) = ap (left_of c) (trim_blank s)

trim_other : (s : List ℕ) (c : ℕ) → c ≢ blank → trimmed (s ++ (c ∷ [])) ≡ suc (length s)
unfolding trimmed
trim_other [] c n = rw (ne_eqb c blank n) refl
trim_other (d ∷ s) c n = ap (left_of d) (trim_other s c n)

trim_blanks : (k : ℕ) (s : List ℕ) → trimmed (s ++ replicate k blank) ≡ trimmed s
trim_blanks zero s = ap trimmed (append-nil s)
trim_blanks (suc k) s = ap trimmed (sym (append_assoc s (blank ∷ []) (replicate k blank))) ∙ trim_blanks k (s ++ (blank ∷ [])) ∙ trim_blank s

-- a text ends in ")"
record Shut (s : List ℕ) : Type 0 where
  pub front : List ℕ
  pub is : s ≡ front ++ (41 ∷ [])

behind : (a : List ℕ) {s : List ℕ} → Shut s → Shut (a ++ s)
behind a {s} h = record { front = a ++ h.front; is = ap (λ (u : List ℕ). a ++ u) h.is ∙ sym (append_assoc a h.front (41 ∷ [])) }

shut : (f : Bool) (l : Lst) → Shut (items f l)
shut f nil = record { front = leads f; is = refl }
shut f (atom v l) = behind (lead f ∷ octal v) (shut false l)
shut f (list e l) = behind (lead f ∷ items true e) (shut false l)

pub trim_written : (l : Lst) → trimmed (written l) ≡ length (text_of l)
trim_written l =
    let h = shut true l in
    trim_blanks ((record_bytes - length (text_of l) % record_bytes) % record_bytes) (text_of l) ∙ ap trimmed h.is ∙ trim_other h.front 41 (λ e. absurd (omega arith)) ∙ sym (ap length h.is ∙ length-append h.front (41 ∷ []) ∙ add-one (length h.front))

-- by the place of the last byte that is no blank
pub trimmed_none : (s : List ℕ) → ((k : ℕ) → k < length s → get_or s k 0 ≡ blank) → 0 ≡ trimmed s
unfolding trimmed
trimmed_none [] h = refl
trimmed_none (c ∷ s) h = rw (sym (trimmed_none s (λ k l. h (suc k) (omega arith))), eq-eqb c blank (h 0 (omega arith))) refl

pub trimmed_at : (s : List ℕ) (i : ℕ) → i < length s → get_or s i 0 ≢ blank → ((k : ℕ) → i < k → k < length s → get_or s k 0 ≡ blank) → suc i ≡ trimmed s
unfolding trimmed
trimmed_at [] i l n h = absurd (omega arith)
trimmed_at (c ∷ s) zero l n h = rw (sym (trimmed_none s (λ k m. h (suc k) (omega arith) (omega arith))), ne_eqb c blank n) refl
trimmed_at (c ∷ s) (suc i) l n h = rw (sym (trimmed_at s i (omega arith) n (λ k a b. h (suc k) (omega arith) (omega arith)))) refl

pub trimmed_le : (s : List ℕ) → trimmed s ≤ length s
unfolding trimmed
trimmed_le [] = omega arith
trimmed_le (c ∷ s) = go (trimmed s) (trimmed_le s)
  where
    one : (b : Bool) → cond b 0 1 ≤ suc (length s)
    one true = omega arith
    one false = omega arith

    go : (k : ℕ) → k ≤ length s → left_of c k ≤ suc (length s)
    go zero h = one (eqb c blank)
    go (suc k) h = omega arith
