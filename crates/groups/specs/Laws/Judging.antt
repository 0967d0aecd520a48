-- The judgement over any numbers: by the first that opens level 201, and by the bytes that they take. By induction on
-- them.
use Rattle.std.specs.Prelude.{ℕ, ◌+◌, ◌-◌, ◌<◌, ◌≤◌, ◌≡◌, refl, List, [], ◌∷◌, ◌++◌, ◌⊎◌, Bool, true, false, cond, ltb, length}
use Rattle.std.proofs.Common.{sym, ap, ◌∙◌, inl, inr, true≢false, arith, length-append, lt-ltb, le-ltb, ltb-true, ltb-false}
use Rattle.answers.specs.Answers.{DONE, DEEP, OUTPUT}
use Rattle.text.specs.Laws.TextLaws.{by_case, decide}
use Rattle.groups.specs.Groups.{number}
use Rattle.groups.specs.Writing.{Item, too_deep, judged}

-- the bytes of numbers
abbrev pub bytes_in : List Item → List ℕ
bytes_in [] = []
bytes_in (i ∷ is) = number i.value ++ bytes_in is

-- no number opens level 201
abbrev pub Shallow : List Item → Type 0
Shallow [] = Unit {0}
Shallow (i ∷ is) = (too_deep i ≡ false) × Shallow is

-- behind k bytes the number v opens level 201 or a deeper one
abbrev pub DeepAt : List Item → ℕ → ℕ → Type 0
DeepAt [] k v = ⊥
DeepAt (i ∷ is) k v =
    ((too_deep i ≡ true) × (k ≡ 0) × (v ≡ i.value)) ⊎ ((j : ℕ) × (k ≡ length (number i.value) + j) × DeepAt is j v)

module _ (u : ℕ) (i : Item) (is : List Item) where
  abbrev size : ℕ
  size = length (number i.value)

  abbrev all : ℕ
  all = length (bytes_in (i ∷ is))

  counts : all ≡ size + length (bytes_in is)
  counts = length-append (number i.value) (bytes_in is)

  -- one number
  step_ways : (P : ℕ → Type 0) → (too_deep i ≡ true → P DEEP) → (too_deep i ≡ false → u < size → P OUTPUT)
      → (too_deep i ≡ false → size ≤ u → P (judged (u - size) is)) → P (judged u (i ∷ is))
  unfolding judged
  step_ways P f g h =
      by_case (too_deep i) P f
      (λ e. by_case (ltb u size) P (λ q. g e (ltb-true u size q)) (λ q. h e (ltb-false u size q)))

  same_test : size ≤ u → ltb (u - size) (length (bytes_in is)) ≡ ltb u all
  same_test l =
      decide (ltb u all) (ltb (u - size) (length (bytes_in is)) ≡ ltb u all)
      (λ e. lt-ltb (u - size) (length (bytes_in is)) (omega (arith, ltb-true u all e, counts)) ∙ sym e)
      (λ e. le-ltb (u - size) (length (bytes_in is)) (omega (arith, ltb-false u all e, counts)) ∙ sym e)

pub never : {A : Type 0} {b : Bool} → b ≡ true → b ≡ false → A
never p q = absurd (true≢false (sym p ∙ q))

-- where none is too deep, the bytes decide
pub shallow_room : (is : List Item) (u : ℕ) → Shallow is → judged u is ≡ cond (ltb u (length (bytes_in is))) OUTPUT DONE
unfolding judged
shallow_room [] u h = ap (λ (b : Bool). cond b OUTPUT DONE) (sym (le-ltb u 0 (omega arith)))
shallow_room (i ∷ is) u h =
    step_ways u i is (λ n. n ≡ cond (ltb u (all u i is)) OUTPUT DONE) (λ e. never e h.0)
    (λ e l. ap (λ (b : Bool). cond b OUTPUT DONE) (sym (lt-ltb u (all u i is) (omega (arith, counts u i is)))))
    (λ e l. shallow_room is (u - size u i is) h.1 ∙ ap (λ (b : Bool). cond b OUTPUT DONE) (same_test u i is l))

-- what each answer says
pub done_shallow : (is : List Item) (u : ℕ) → judged u is ≡ DONE → Shallow is × (length (bytes_in is) ≤ u)
done_shallow [] u = λ e. (tt, omega arith)
done_shallow (i ∷ is) u =
    step_ways u i is (λ n. n ≡ DONE → Shallow (i ∷ is) × (all u i is ≤ u)) (λ e z. absurd (omega arith))
    (λ e l z. absurd (omega arith))
    (λ e l z.
    let f = done_shallow is (u - size u i is) z in ((e, f.0), omega (arith, f.1, counts u i is)))

pub output_long : (is : List Item) (u : ℕ) → judged u is ≡ OUTPUT → u < length (bytes_in is)
unfolding judged
output_long [] u = λ e. absurd (omega arith)
output_long (i ∷ is) u =
    step_ways u i is (λ n. n ≡ OUTPUT → u < all u i is) (λ e z. absurd (omega arith))
    (λ e l z. omega (arith, counts u i is))
    (λ e l z. omega (arith, output_long is (u - size u i is) z, counts u i is))

pub deep_at : (is : List Item) (u : ℕ) → judged u is ≡ DEEP → (k : ℕ) × (v : ℕ) × DeepAt is k v × (k ≤ u)
unfolding judged
deep_at [] u = λ e. absurd (omega arith)
deep_at (i ∷ is) u =
    step_ways u i is (λ n. n ≡ DEEP → (k : ℕ) × (v : ℕ) × DeepAt (i ∷ is) k v × (k ≤ u))
    (λ e z. (0, i.value, inl (e, refl, refl), omega arith))
    (λ e l z. absurd (omega arith))
    (λ e l z.
    let f = deep_at is (u - size u i is) z in
    (size u i is + f.0, f.1, inr (f.0, refl, f.2), omega (arith, f.3)))

pub at_deep : (is : List Item) (u k v : ℕ) → DeepAt is k v → k ≤ u → judged u is ≡ DEEP
at_deep [] u k v h l = absurd h
at_deep (i ∷ is) u k v (inl h) l =
    step_ways u i is (λ n. n ≡ DEEP) (λ e. refl) (λ e m. never h.0 e) (λ e m. never h.0 e)
at_deep (i ∷ is) u k v (inr h) l =
    step_ways u i is (λ n. n ≡ DEEP) (λ e. refl) (λ e m. absurd (omega (arith, h.1)))
    (λ e m. at_deep is (u - size u i is) h.0 v h.2 (omega (arith, h.1)))

-- one answer of the three
pub three_ways : (is : List Item) (u : ℕ) → (judged u is ≡ DONE) ⊎ (judged u is ≡ DEEP) ⊎ (judged u is ≡ OUTPUT)
unfolding judged
three_ways [] u = inl refl
three_ways (i ∷ is) u =
    step_ways u i is (λ n. (n ≡ DONE) ⊎ (n ≡ DEEP) ⊎ (n ≡ OUTPUT)) (λ e. inr (inl refl)) (λ e l. inr (inr refl))
    (λ e l. three_ways is (u - size u i is))
