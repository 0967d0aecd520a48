-- Laws of runs of digits: at a place of a text, over two parts, and up to a byte that is none. By induction on the characters.
use Prim.Native.Nat.{ℕ, suc, ◌+◌, ◌<◌, ◌≤◌}
use mathlib.Core.Path.{◌≡◌, refl, sym, ap, ◌∙◌}
use mathlib.Core.List.{List, [], ◌∷◌, ◌++◌}
use mathlib.Core.Bool.{Bool, true, false, cond, not}
use Rattle.std.specs.Prelude.{Option, ltb}
use Rattle.std.specs.List.{position, position_or_len}
use Rattle.std.specs.Option.{unwrap_or}
use Rattle.std.proofs.lemmas.List.Recursion.{is_position_or_len}
use Rattle.std.proofs.lemmas.List.Sums.{prefix_len-le-length}
use native.Mathlib.Omega.{arith}
use native.Mathlib.Numerals.{add-one}
use lib.ListN.{length, drop, get_or, drop_of_length-le, length-drop}
use lib.Seq.{drop-cons, get_or-drop}
use lib.Dec.{leb}
use borrow.Author.Tests.{le-leb, leb-true, ltb-false}
use Rattle.text.specs.ListText.{is_digit_byte}
use Rattle.text.specs.Laws.TextLaws.{by_case, no_yes}
use Rattle.scan.specs.Runs.{digit_run}

-- a digit by its bounds
pub digit_bounds : (b : ℕ) → is_digit_byte b ≡ true → (48 ≤ b) × (b ≤ 55)
digit_bounds b =
    by_case (leb 48 b) (λ (t : Bool). t ≡ true → (48 ≤ b) × (b ≤ 55)) {x = leb b 55} {y = false}
    (λ e f. (leb-true _ _ e, leb-true _ _ f))
    (λ e f. no_yes f)

pub bounds_digit : (b : ℕ) → 48 ≤ b → b ≤ 55 → is_digit_byte b ≡ true
bounds_digit b l u = simp (le-leb _ _ l, le-leb _ _ u)

-- a text at a place begins with the character there
pub next : (s : List ℕ) (i : ℕ) → i < length s → drop i s ≡ get_or s i 0 ∷ drop (i + 1) s
next s i h = rw (add-one, drop-cons s i 0)

pub run-next : (s : List ℕ) (i : ℕ) → i < length s → is_digit_byte (get_or s i 0) ≡ true → digit_run (drop i s) ≡ suc (digit_run (drop (i + 1) s))
run-next s i h d = ap digit_run (next s i h) ∙ ap (λ (t : Bool). cond t (suc (digit_run (drop (i + 1) s))) 0) d

pub run-stop : (s : List ℕ) (i : ℕ) → i < length s → is_digit_byte (get_or s i 0) ≡ false → digit_run (drop i s) ≡ 0
run-stop s i h d = ap digit_run (next s i h) ∙ ap (λ (t : Bool). cond t (suc (digit_run (drop (i + 1) s))) 0) d

pub run_out : (s : List ℕ) (i : ℕ) → length s ≤ i → digit_run (drop i s) ≡ 0
run_out s i h = ap digit_run (drop_of_length-le s h)

-- a run ends before what is no digit
ends : (l : List ℕ) → digit_run l < length l → is_digit_byte (get_or l (digit_run l) 0) ≡ false
ends [] h = absurd (omega arith)
ends (b ∷ l) h =
    by_case (is_digit_byte b) (λ (n : ℕ). n < suc (length l) → is_digit_byte (get_or (b ∷ l) n 0) ≡ false) {x = suc (digit_run l)} {y = 0}
    (λ d k. ends l (omega arith))
    (λ d k. d)
    h

pub run_ends : (s : List ℕ) (i c : ℕ) → c ≡ digit_run (drop i s) → i + c < length s → is_digit_byte (get_or s (i + c) 0) ≡ false
run_ends s i c r h =
    ap is_digit_byte (sym (get_or-drop i s c 0)) ∙ ap (λ (n : ℕ). is_digit_byte (get_or (drop i s) n 0)) r ∙ ends (drop i s) (omega (arith, length-drop i s))

-- over two parts
pub run-all : (a t : List ℕ) → digit_run a ≡ length a → digit_run (a ++ t) ≡ length a + digit_run t
run-all [] t e = omega arith
run-all (b ∷ a) t e =
    by_case (is_digit_byte b) (λ (n : ℕ). n ≡ suc (length a) → digit_run (b ∷ a ++ t) ≡ suc (length a) + digit_run t) {x = suc (digit_run a)} {y = 0}
    (λ d f. rw d (omega (arith, run-all a t (omega arith))))
    (λ d f. absurd (omega arith))
    e

pub run-part : (a t : List ℕ) → (digit_run a ≡ length a → ⊥) → digit_run (a ++ t) ≡ digit_run a
run-part [] t n = absurd (n refl)
run-part (b ∷ a) t n =
    by_case (is_digit_byte b) (λ (m : ℕ). (m ≡ suc (length a) → ⊥) → cond (is_digit_byte b) (suc (digit_run (a ++ t))) 0 ≡ m) {x = suc (digit_run a)} {y = 0}
    (λ d f. rw d (ap suc (run-part a t (λ e. f (ap suc e)))))
    (λ d f. rw d)
    n

-- no more digits than bytes
pub run_most : (l : List ℕ) → digit_run l ≤ length l
run_most [] = omega arith
run_most (b ∷ l) =
    by_case (is_digit_byte b) (λ (n : ℕ). n ≤ suc (length l)) {x = suc (digit_run l)} {y = 0}
    (λ d. omega (arith, run_most l))
    (λ d. omega arith)

-- a run goes up to the first byte that is no digit
pub run_first : (l : List ℕ) (r : Option ℕ) → r ≡ position (λ b. not (is_digit_byte b)) l → unwrap_or r (length l) ≡ digit_run l
run_first l r e =
    let n : ℕ = position_or_len (λ b. not (is_digit_byte b)) l in
    ap (λ (o : Option ℕ). unwrap_or o (length l)) e
    ∙ by_case (ltb n (length l)) (λ (o : Option ℕ). unwrap_or o (length l) ≡ n) (λ d. refl)
    (λ d. omega (arith, ltb-false n (length l) d, prefix_len-le-length (λ b. not (not (is_digit_byte b))) l))
    ∙ sym (is_position_or_len digit_run (λ b. not (is_digit_byte b)) refl (λ b m. either (is_digit_byte b) (digit_run m)) l)
  where
    either : (d : Bool) (n : ℕ) → cond d (suc n) 0 ≡ cond (not d) 0 (1 + n)
    either true n = omega arith
    either false n = refl
