-- The check of groups answers by its rows: level 201 opened behind bytes that are a list's so far, or no list at all;
-- else it takes the groups of one list. By the two round trips of the definitions.
use Rattle.std.specs.Prelude.{◌≡◌, refl, ◌⊎◌, List, ◌++◌, ℕ, ◌+◌, ◌≤◌, ◌<◌, eqb, ltb, length, drop}
use Rattle.std.proofs.Common.{sym, ap, ◌∙◌, inl, inr, arith, take-append-drop, length-take-le}
use Rattle.std.proofs.Math.Decide.{dec_le}
use Rattle.answers.specs.Answers.{DONE, TEXT_SIZE, END, DEEP, OUTPUT, GROUPS}
use Rattle.lists.specs.Lst.{Lst, order}
use Rattle.text.specs.Limits.{levels, text_most}
use Rattle.text.specs.Text.{Answer, refusal}
use Rattle.text.specs.Laws.Accepted.{taken-answer}
use Rattle.groups.specs.Groups.{groups_of}
use Rattle.groups.specs.Reading.{tokens, scanned, size_fault, verdict, list_in}
use Rattle.groups.specs.Writing.{items, judged}
use Rattle.groups.specs.Laws.Sizes.{judged_ways, judged_fits, fits_judged, judged_long, judged_deep, deep_judged}
use Rattle.groups.specs.Laws.Taking.{scanned_holds, taken_holds, holds_taken, deep_refused, deep_opens, opens_deep, groups_once}
use Rattle.groups.specs.Laws.RunLaws.{answer_ways}
use Rattle.promises.specs.Rows.{Answers}
use Rattle.promises.specs.GroupGrounds.{Spells, OpensTooMany, TooDeep, size_rows, fault_rows}
use Rattle.promises.specs.Laws.Tells.{tells_eq, tells_lt, first}

abbrev itself : ℕ → ℕ
itself n = n

pub size_answers : (xs : List ℕ) → Answers (size_rows xs) (size_fault xs)
unfolding size_fault
size_answers xs =
    first itself (Answers (drop 1 (size_rows xs))) (ltb text_most (length xs)) TEXT_SIZE _ (tells_lt text_most (length xs)) refl (λ _.
    first itself (λ m. m ≡ DONE) (eqb (length xs) 0) END DONE (tells_eq (length xs) 0) refl (λ _. refl))

-- bytes that the check takes are the groups of the list that it finds
pub spells_ours : (xs : List ℕ) → (verdict xs).no ≡ DONE → Spells xs (verdict xs).taken (list_in xs)
spells_ours xs e = let h = taken_holds xs (verdict xs).taken (taken-answer (verdict xs) e) in (h.within, h.bytes, h.fits)

-- the bytes are the groups of a list, and what stands behind them
parts : (xs : List ℕ) (m : ℕ) (l : Lst) → Spells xs m l → xs ≡ groups_of l ++ drop m xs
parts xs m l (w, b, f) = sym (take-append-drop m xs) ∙ ap (λ (t : List ℕ). t ++ drop m xs) b

pub spells_once : (xs : List ℕ) (m n : ℕ) (l e : Lst) → Spells xs m l → Spells xs n e → (m ≡ n) × (l ≡ e)
spells_once xs m n l e a b =
    let same : l ≡ e = (groups_once l e (drop m xs) (drop n xs) (sym (parts xs m l a) ∙ parts xs n e b) a.2 b.2).0 in
    (size m l a ∙ ap (λ (k : Lst). length (groups_of k)) same ∙ sym (size n e b), same)
  where
    size : (m : ℕ) (l : Lst) → Spells xs m l → m ≡ length (groups_of l)
    size m l (w, b, f) = sym (length-take-le m xs w) ∙ ap length b

-- a list that is spelt is taken, or is too deep
spelt : (xs : List ℕ) (m : ℕ) (l : Lst) → Spells xs m l → ((scanned xs).no ≡ DONE) ⊎ ((scanned xs).no ≡ DEEP)
spelt xs m l s = either (dec_le (order l) levels)
  where
    whole : scanned xs ≡ scanned (groups_of l ++ drop m xs)
    whole = ap scanned (parts xs m l s)

    either : Dec (order l ≤ levels) → ((scanned xs).no ≡ DONE) ⊎ ((scanned xs).no ≡ DEEP)
    either (yes h) = inl (ap (λ (a : Answer). a.no) (whole ∙ (holds_taken l (drop m xs) s.2 h).0))
    either (no h) = inr (ap (λ (a : Answer). a.no) (whole ∙ deep_refused l (drop m xs) s.2 (omega arith)))

scanned_spells : (xs : List ℕ) → (scanned xs).no ≡ DONE → Spells xs (scanned xs).taken (list_in xs)
scanned_spells xs z = let h = (scanned_holds xs (scanned xs).taken (taken-answer (scanned xs) z)).0 in (h.within, h.bytes, h.fits)

pub scan_answers : (xs : List ℕ) → Answers (fault_rows xs) (scanned xs).no
unfolding scanned
scan_answers xs = go (answer_ways (tokens xs))
  where
    not_deep : {n : ℕ} → (scanned xs).no ≡ n → (n ≡ DEEP → ⊥) → OpensTooMany xs → ⊥
    not_deep e n o = n (sym e ∙ ap (λ (a : Answer). a.no) (opens_deep xs o))

    none : (scanned xs).no ≡ GROUPS → (m : ℕ) (l : Lst) → Spells xs m l → ⊥
    none e m l s = neither (spelt xs m l s)
      where
        neither : ((scanned xs).no ≡ DONE) ⊎ ((scanned xs).no ≡ DEEP) → ⊥
        neither (inl z) = omega arith
        neither (inr z) = omega arith

    number : {n : ℕ} → scanned xs ≡ refusal n → (scanned xs).no ≡ n
    number e = ap (λ (a : Answer). a.no) e

    go : ((scanned xs).no ≡ DONE) ⊎ (scanned xs ≡ refusal DEEP) ⊎ (scanned xs ≡ refusal GROUPS) → Answers (fault_rows xs) (scanned xs).no
    go (inl z) = inr (not_deep z (λ n. omega arith), inr ((λ n. n (scanned xs).taken (list_in xs) (scanned_spells xs z)), z))
    go (inr (inl d)) = inl (deep_opens xs d, number d)
    go (inr (inr g)) = inr (not_deep (number g) (λ n. omega arith), inl (none (number g), number g))

-- writing

abbrev Judged : ℕ → Lst → ℕ → Type 0
Judged u l n = (TooDeep u l × (n ≡ DEEP)) ⊎ ((TooDeep u l → ⊥) × (((u < length (groups_of l)) × (n ≡ OUTPUT)) ⊎ ((u < length (groups_of l) → ⊥) × (n ≡ DONE))))

pub judges : (u : ℕ) (l : Lst) → Judged u l (judged u (items l))
judges u l = go (judged_ways u l)
  where
    not_deep : {n : ℕ} → judged u (items l) ≡ n → (n ≡ DEEP → ⊥) → TooDeep u l → ⊥
    not_deep e n (k, v, o, h) = n (sym e ∙ deep_judged u l k v o h)

    go : (judged u (items l) ≡ DONE) ⊎ (judged u (items l) ≡ DEEP) ⊎ (judged u (items l) ≡ OUTPUT) → Judged u l (judged u (items l))
    go (inl z) = inr (not_deep z (λ n. omega arith), inr ((λ h. omega (arith, (judged_fits u l z).1)), z))
    go (inr (inl d)) = inl (judged_deep u l d, d)
    go (inr (inr o)) = inr (not_deep o (λ n. omega arith), inl (judged_long u l o, o))

-- a list of at most 200 levels opens no more
pub shallow : (u : ℕ) (l : Lst) → order l ≤ levels → TooDeep u l → ⊥
shallow u l h (k, v, o, _) =
    let w = k + length (groups_of l) in
    omega (arith, sym (deep_judged w l k v o (omega arith)) ∙ fits_judged w l h (omega arith))
