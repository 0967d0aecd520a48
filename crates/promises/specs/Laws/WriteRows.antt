-- Writing is judged by document 01's two rows: a "(" that opens level 201 no later than just behind the usable output, or text that is longer.
-- By induction on the characters.
use Rattle.std.specs.Prelude.{◌≡◌, refl, ◌⊎◌, Bool, true, false, cond, List, [], ◌∷◌, ◌++◌, ℕ, ◌+◌, ◌-◌, ◌≤◌, ◌<◌, suc, eqb, leb, length, get_or, drop}
use Rattle.std.proofs.Common.{sym, ap, ◌∙◌, subst, inl, inr, arith, length-append, eqb-true, leb-true, le-leb, eq-eqb}
use Rattle.std.proofs.lemmas.Bool.{false≢true, eqb-false}
use Rattle.answers.specs.Answers.{DONE, DEEP, OUTPUT}
use Rattle.lists.specs.Lst.{Lst, order}
use Rattle.text.specs.Limits.{levels}
use Rattle.text.specs.ListText.{text_of}
use Rattle.text.specs.Writing.{depth_after, too_deep, judged}
use Rattle.text.specs.Laws.WritingLaws.{writes}
use Rattle.promises.specs.TextGrounds.{along, TooDeep}

-- the same from a place with d levels open
abbrev DeepFrom : ℕ → ℕ → List ℕ → Type 0
DeepFrom u d t = (us : List ℕ) × (later : List ℕ) × (t ≡ us ++ (40 ∷ later)) × (levels ≤ along depth_after d us) × (length us ≤ u)

abbrev Judged : ℕ → ℕ → List ℕ → ℕ → Type 0
Judged u d t n = (DeepFrom u d t × (n ≡ DEEP)) ⊎ ((DeepFrom u d t → ⊥) × (((u < length t) × (n ≡ OUTPUT)) ⊎ ((u < length t → ⊥) × (n ≡ DONE))))

deep_told : (d b : ℕ) → too_deep d b ≡ true → (b ≡ 40) × (levels ≤ d)
deep_told d b e = go (eqb b 40) refl e
  where
    go : (c : Bool) → eqb b 40 ≡ c → cond c (leb levels d) false ≡ true → (b ≡ 40) × (levels ≤ d)
    go true q r = (eqb-true b 40 q, leb-true levels d r)
    go false q r = absurd (false≢true r)

told_deep : (d b : ℕ) → b ≡ 40 → levels ≤ d → too_deep d b ≡ true
told_deep d b e l = rw (eq-eqb b 40 e, le-leb levels d l)

judges : (t : List ℕ) (u d : ℕ) → Judged u d t (judged u d t)
unfolding along
judges [] u d = inr (none, inr ((λ l. omega arith), refl))
  where
    none : DeepFrom u d [] → ⊥
    none (us, later, e, _, _) = omega (arith, ap length e, length-append us (40 ∷ later))
judges (b ∷ t) u d = go (too_deep d b) refl (eqb u 0) refl (judges t (u - 1) (depth_after d b))
  where
    -- a "(" of level 201 that is not this character comes later
    later_deep : too_deep d b ≡ false → DeepFrom u d (b ∷ t) → (us : List ℕ) × (later : List ℕ) × (t ≡ us ++ (40 ∷ later)) × (levels ≤ along depth_after (depth_after d b) us) × (suc (length us) ≤ u)
    later_deep n ([], later, e, l, k) = absurd (false≢true (sym n ∙ told_deep d b (ap (λ (xs : List ℕ). get_or xs 0 0) e) l))
    later_deep n (c ∷ us, later, e, l, k) =
        let q : b ≡ c = ap (λ (xs : List ℕ). get_or xs 0 0) e in
        (us, later, ap (drop 1) e, subst (λ (x : ℕ). levels ≤ along depth_after (depth_after d x) us) (sym q) l, k)

    none_left : too_deep d b ≡ false → u ≡ 0 → DeepFrom u d (b ∷ t) → ⊥
    none_left n z h = let (us, later, e, l, k) = later_deep n h in omega arith

    go : (x : Bool) → too_deep d b ≡ x → (y : Bool) → eqb u 0 ≡ y → Judged (u - 1) (depth_after d b) t (judged (u - 1) (depth_after d b) t)
        → Judged u d (b ∷ t) (cond x DEEP (cond y OUTPUT (judged (u - 1) (depth_after d b) t)))
    go true x y q ih = let (e, l) = deep_told d b x in inl (([], t, ap (λ (c : ℕ). c ∷ t) e, l, omega arith), refl)
    go false x true q ih = inr (none_left x (eqb-true u 0 q), inl (omega (arith, eqb-true u 0 q), refl))
    go false x false q (inl ((us, later, e, l, k), z)) = inl ((b ∷ us, later, ap (λ (xs : List ℕ). b ∷ xs) e, l, more (eqb-false u 0 q) k), z)
      where
        more : (u ≡ 0 → ⊥) → length us ≤ u - 1 → length (b ∷ us) ≤ u
        more n k = omega arith
    go false x false q (inr (n, r)) = inr ((λ h. let (us, later, e, l, k) = later_deep x h in n (us, later, e, l, omega arith)), rest (eqb-false u 0 q) r)
      where
        rest : (u ≡ 0 → ⊥) → ((u - 1 < length t) × (judged (u - 1) (depth_after d b) t ≡ OUTPUT)) ⊎ ((u - 1 < length t → ⊥) × (judged (u - 1) (depth_after d b) t ≡ DONE))
            → ((u < length (b ∷ t)) × (judged (u - 1) (depth_after d b) t ≡ OUTPUT)) ⊎ ((u < length (b ∷ t) → ⊥) × (judged (u - 1) (depth_after d b) t ≡ DONE))
        rest m (inl (l, e)) = inl (omega arith, e)
        rest m (inr (l, e)) = inr ((λ k. l (omega arith)), e)

pub judged_answers : (u : ℕ) (t : List ℕ) → (TooDeep u t × (judged u 0 t ≡ DEEP)) ⊎ ((TooDeep u t → ⊥) × (((u < length t) × (judged u 0 t ≡ OUTPUT)) ⊎ ((u < length t → ⊥) × (judged u 0 t ≡ DONE))))
judged_answers u t = judges t u 0

-- a list of at most 200 levels opens no more
pub text_shallow : (u : ℕ) (l : Lst) → order l ≤ levels → TooDeep u (text_of l) → ⊥
text_shallow u l h (us, later, e, d, k) = go (judged_answers w (text_of l)) (writes w l h (omega arith))
  where
    w : ℕ
    w = u + length (text_of l)

    go : (TooDeep w (text_of l) × (judged w 0 (text_of l) ≡ DEEP)) ⊎ ((TooDeep w (text_of l) → ⊥) × (((w < length (text_of l)) × (judged w 0 (text_of l) ≡ OUTPUT)) ⊎ ((w < length (text_of l) → ⊥) × (judged w 0 (text_of l) ≡ DONE)))) → judged w 0 (text_of l) ≡ DONE → ⊥
    go (inl (_, z)) q = omega arith
    go (inr (n, _)) q = n (us, later, e, d, omega arith)
