-- The phases of a scan against the text form: what each says of the last character, and which characters may follow.
use Rattle.std.specs.Prelude.{◌≡◌, refl, ◌⊎◌, true, false, List, [], ◌∷◌, ◌++◌, ℕ, ◌<◌}
use Rattle.std.proofs.Common.{inl, inr, true≢false, arith}
use Rattle.std.proofs.lemmas.Bool.{false≢true}
use Rattle.text.specs.Text.{Phase, at_start, after_open, after_comma, in_atom, after_element, after_all, Step, mark, fault, is_over, may_open, may_shut, may_part, may_begin, is_atom}
use Rattle.promises.specs.TextGrounds.{along, Octal, Follows}
use Rattle.promises.specs.Laws.Tells.{Tells}

-- telling a mark from a fault
abbrev pub marks : Step → ℕ
marks (mark s) = 1
marks (fault k) = 0

-- one more character
pub along-next : (f : ℕ → ℕ → ℕ) (n : ℕ) (us : List ℕ) (b : ℕ) → along f n (us ++ (b ∷ [])) ≡ f (along f n us) b
unfolding along
along-next f n [] b = refl
along-next f n (u ∷ us) b = along-next f (f n u) us b

-- what a phase says of the last character c where d levels are open
abbrev pub PhaseAt : Phase → ℕ → ℕ → Type 0
PhaseAt at_start c d = c ≡ 0
PhaseAt after_open c d = c ≡ 40
PhaseAt after_comma c d = c ≡ 44
PhaseAt in_atom c d = Octal c
PhaseAt after_element c d = (c ≡ 41) × (0 < d)
PhaseAt after_all c d = ((c ≡ 41) ⊎ (c ≡ 32)) × (d ≡ 0)

-- and what may follow there
abbrev pub After : Phase → ℕ → Type 0
After at_start b = b ≡ 40
After after_open b = (b ≡ 40) ⊎ (b ≡ 41) ⊎ Octal b
After after_comma b = (b ≡ 40) ⊎ Octal b
After in_atom b = Octal b ⊎ (b ≡ 41) ⊎ (b ≡ 44)
After after_element b = (b ≡ 41) ⊎ (b ≡ 44)
After after_all b = b ≡ 32

pub after_follows : (p : Phase) (c d b : ℕ) → PhaseAt p c d → After p b → Follows c d b
after_follows at_start c d b h a = inl (h, a)
after_follows after_open c d b h a = inr (inl (h, a))
after_follows after_comma c d b h a = inr (inr (inl (h, a)))
after_follows in_atom c d b h a = inr (inr (inr (inl (h, a))))
after_follows after_element c d b h a = inr (inr (inr (inr (inl (h.0, h.1, a)))))
after_follows after_all c d b h a = inr (inr (inr (inr (inr (h.0, h.1, a)))))

-- at most one of the six holds
pub pick : (P : Type 0) (c d b : ℕ) → Follows c d b → (c ≡ 0 → b ≡ 40 → P) → (c ≡ 40 → (b ≡ 40) ⊎ (b ≡ 41) ⊎ Octal b → P) → (c ≡ 44 → (b ≡ 40) ⊎ Octal b → P)
    → (Octal c → Octal b ⊎ (b ≡ 41) ⊎ (b ≡ 44) → P) → (c ≡ 41 → 0 < d → (b ≡ 41) ⊎ (b ≡ 44) → P) → ((c ≡ 41) ⊎ (c ≡ 32) → d ≡ 0 → b ≡ 32 → P) → P
pick P c d b (inl h) f g i j k l = f h.0 h.1
pick P c d b (inr (inl h)) f g i j k l = g h.0 h.1
pick P c d b (inr (inr (inl h))) f g i j k l = i h.0 h.1
pick P c d b (inr (inr (inr (inl h)))) f g i j k l = j h.0 h.1
pick P c d b (inr (inr (inr (inr (inl h))))) f g i j k l = k h.0 h.1 h.2
pick P c d b (inr (inr (inr (inr (inr h))))) f g i j k l = l h.0 h.1 h.2

pub ends_in : (c : ℕ) {P : Type 0} → (c ≡ 41) ⊎ (c ≡ 32) → (c ≡ 41 → P) → (c ≡ 32 → P) → P
ends_in c (inl e) f g = f e
ends_in c (inr e) f g = g e

pub follows_after : (p : Phase) (c d b : ℕ) → PhaseAt p c d → Follows c d b → After p b
follows_after at_start c d b h w = pick (b ≡ 40) c d b w (λ _ a. a) (λ e _. absurd (omega arith)) (λ e _. absurd (omega arith)) (λ e _. absurd (omega (arith, e.0))) (λ e _ _. absurd (omega arith)) (λ e _ _. ends_in c e (λ q. absurd (omega arith)) (λ q. absurd (omega arith)))
follows_after after_open c d b h w = pick (After after_open b) c d b w (λ e _. absurd (omega arith)) (λ _ a. a) (λ e _. absurd (omega arith)) (λ e _. absurd (omega (arith, e.0))) (λ e _ _. absurd (omega arith)) (λ e _ _. ends_in c e (λ q. absurd (omega arith)) (λ q. absurd (omega arith)))
follows_after after_comma c d b h w = pick (After after_comma b) c d b w (λ e _. absurd (omega arith)) (λ e _. absurd (omega arith)) (λ _ a. a) (λ e _. absurd (omega (arith, e.0))) (λ e _ _. absurd (omega arith)) (λ e _ _. ends_in c e (λ q. absurd (omega arith)) (λ q. absurd (omega arith)))
follows_after in_atom c d b h w = pick (After in_atom b) c d b w (λ e _. absurd (omega (arith, h.0))) (λ e _. absurd (omega (arith, h.0))) (λ e _. absurd (omega (arith, h.0))) (λ _ a. a) (λ e _ _. absurd (omega (arith, h.0))) (λ e _ _. ends_in c e (λ q. absurd (omega (arith, h.0))) (λ q. absurd (omega (arith, h.0))))
follows_after after_element c d b h w = pick (After after_element b) c d b w (λ e _. absurd (omega (arith, h.0))) (λ e _. absurd (omega (arith, h.0))) (λ e _. absurd (omega (arith, h.0))) (λ e _. absurd (omega (arith, h.0, e.0))) (λ _ _ a. a) (λ _ z _. absurd (omega (arith, h.1)))
follows_after after_all c d b h w = ends_in c h.0 (λ q. pick (b ≡ 32) c d b w (λ e _. absurd (omega arith)) (λ e _. absurd (omega arith)) (λ e _. absurd (omega arith)) (λ e _. absurd (omega (arith, e.0))) (λ _ z _. absurd (omega (arith, h.1))) (λ _ _ a. a))
    (λ q. pick (b ≡ 32) c d b w (λ e _. absurd (omega arith)) (λ e _. absurd (omega arith)) (λ e _. absurd (omega arith)) (λ e _. absurd (omega (arith, e.0))) (λ _ z _. absurd (omega (arith, h.1))) (λ _ _ a. a))

-- each test on a phase tells whether the character may follow

pub yes_case : {A : Type 0} → A → Tells true A
yes_case a = ((λ _. a), λ e. absurd (true≢false e))

pub no_case : {A : Type 0} → (A → ⊥) → Tells false A
no_case f = ((λ e. absurd (false≢true e)), λ _. f)

pub none2 : {A B : Type 0} → (A → ⊥) → (B → ⊥) → A ⊎ B → ⊥
none2 f g (inl a) = f a
none2 f g (inr b) = g b

pub tells_open : (p : Phase) → Tells (may_open p) (After p 40)
tells_open at_start = yes_case refl
tells_open after_open = yes_case (inl refl)
tells_open after_comma = yes_case (inl refl)
tells_open in_atom = no_case (none2 (λ o. omega (arith, o.0)) (none2 (λ e. omega (arith, e)) (λ e. omega (arith, e))))
tells_open after_element = no_case (none2 (λ e. omega (arith, e)) (λ e. omega (arith, e)))
tells_open after_all = no_case (λ e. omega (arith, e))

pub tells_shut : (p : Phase) → Tells (may_shut p) (After p 41)
tells_shut at_start = no_case (λ e. omega (arith, e))
tells_shut after_open = yes_case (inr (inl refl))
tells_shut after_comma = no_case (none2 (λ e. omega (arith, e)) (λ o. omega (arith, o.0)))
tells_shut in_atom = yes_case (inr (inl refl))
tells_shut after_element = yes_case (inl refl)
tells_shut after_all = no_case (λ e. omega (arith, e))

pub tells_part : (p : Phase) → Tells (may_part p) (After p 44)
tells_part at_start = no_case (λ e. omega (arith, e))
tells_part after_open = no_case (none2 (λ e. omega (arith, e)) (none2 (λ e. omega (arith, e)) (λ o. omega (arith, o.0))))
tells_part after_comma = no_case (none2 (λ e. omega (arith, e)) (λ o. omega (arith, o.0)))
tells_part in_atom = yes_case (inr (inr refl))
tells_part after_element = yes_case (inr refl)
tells_part after_all = no_case (λ e. omega (arith, e))

pub tells_over : (p : Phase) → Tells (is_over p) (After p 32)
tells_over at_start = no_case (λ e. omega (arith, e))
tells_over after_open = no_case (none2 (λ e. omega (arith, e)) (none2 (λ e. omega (arith, e)) (λ o. omega (arith, o.0))))
tells_over after_comma = no_case (none2 (λ e. omega (arith, e)) (λ o. omega (arith, o.0)))
tells_over in_atom = no_case (none2 (λ o. omega (arith, o.0)) (none2 (λ e. omega (arith, e)) (λ e. omega (arith, e))))
tells_over after_element = no_case (none2 (λ e. omega (arith, e)) (λ e. omega (arith, e)))
tells_over after_all = yes_case refl

pub digit_may : (p : Phase) (b : ℕ) → Octal b → (may_begin p ≡ true) ⊎ (is_atom p ≡ true) → After p b
digit_may at_start b o = λ m. absurd (none2 false≢true false≢true m)
digit_may after_open b o = λ _. inr (inr o)
digit_may after_comma b o = λ _. inr o
digit_may in_atom b o = λ _. inl o
digit_may after_element b o = λ m. absurd (none2 false≢true false≢true m)
digit_may after_all b o = λ m. absurd (none2 false≢true false≢true m)

pub digit_must : (p : Phase) (b : ℕ) → Octal b → may_begin p ≡ false → is_atom p ≡ false → After p b → ⊥
digit_must at_start b o m i e = omega (arith, o.0)
digit_must after_open b o m i e = true≢false m
digit_must after_comma b o m i e = true≢false m
digit_must in_atom b o m i e = true≢false i
digit_must after_element b o m i e = none2 (λ z. omega (arith, o.0)) (λ z. omega (arith, o.0)) e
digit_must after_all b o m i e = omega (arith, o.0)

pub other_after : (p : Phase) (b : ℕ) → (b ≡ 40 → ⊥) → (b ≡ 41 → ⊥) → (b ≡ 44 → ⊥) → (b ≡ 32 → ⊥) → (Octal b → ⊥) → After p b → ⊥
other_after at_start b f g h i j = f
other_after after_open b f g h i j = none2 f (none2 g j)
other_after after_comma b f g h i j = none2 f j
other_after in_atom b f g h i j = none2 j (none2 g h)
other_after after_element b f g h i j = none2 g h
other_after after_all b f g h i j = i
