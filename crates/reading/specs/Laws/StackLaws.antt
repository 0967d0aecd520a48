-- The array of the open lists while levels are opened and shut.
use Rattle.std.specs.Prelude.{◌≡◌, refl, List, [], ◌∷◌, ◌++◌, ℕ, zero, suc, ◌+◌, ◌-◌, ◌≤◌, ◌<◌, length, get_or, set}
use Rattle.std.proofs.Common.{sym, ap, subst, ◌∙◌, arith, get_or-set_same, get_or-set_other}
use Rattle.building.specs.Underway.{Coming, Comes, Steps, ShutsList}
use Rattle.building.specs.Laws.StepLaws.{no_step, and_then, comes_then, first_comes}
use Rattle.building.specs.declared.hook.Hook.{Hook}
use Rattle.scan.specs.Places.{shuts}
use Rattle.scan.specs.Laws.Ends.{shuts-append}
use Rattle.table.specs.declared.Shape.{Shape}
use Rattle.table.specs.View.{view, Table}
use Rattle.text.specs.Marks.{Mark, shut}
use Rattle.reading.specs.Adding.{stack, ShutTo}

-- a level above the top is stored
stack_set : (xs : List ℕ) (d c n : ℕ) → n ≤ d → stack (set xs d c) n ≡ stack xs n
unfolding stack
stack_set xs d c zero l = refl
stack_set xs d c (suc n) l = rw (get_or-set_other xs d n c 0 (omega arith), stack_set xs d c n (omega arith))

-- and is the top then
pub stack_push : (xs : List ℕ) (d c : ℕ) → d < length xs → c ∷ stack xs d ≡ stack (set xs d c) (suc d)
unfolding stack
stack_push xs d c h = rw (get_or-set_same xs d c 0 h, stack_set xs d c d (omega arith))

-- the top
pub stack_top : (xs : List ℕ) (d : ℕ) → 0 < d → stack xs d ≡ get_or xs (d - 1) 0 ∷ stack xs (d - 1)
unfolding stack
stack_top xs zero h = absurd (omega arith)
stack_top xs (suc d) h = let z : d ≡ suc d - 1 = omega arith in ap (λ (n : ℕ). get_or xs n 0 ∷ stack xs n) z

module _ {s : Shape} {h : ℕ} {ts : List ℕ} {k : Hook} (xs : List ℕ) (from : ℕ) where
  pub shut_none : Table s ts → ShutTo s h ts k xs from from ts k
  shut_none t = let z : 0 ≡ from - from = omega arith in subst (λ (n : ℕ). Steps s h ts k (stack xs from) (shuts n) ts k (stack xs from)) z (no_step t)

  -- d levels are open, and the lists above `to` end
  module _ {to : ℕ} {us : List ℕ} {j : Hook} (d : ℕ) (a : ShutTo s h ts k xs from d us j) (on : to < d) (up : d ≤ from) where
    pub shut_comes : Coming (view s ts) h k (stack xs from) (shuts (from - to)) → Comes (view s us) h j (shut ∷ [])
    shut_comes c =
        let z : from - to ≡ from - d + suc (d - to - 1) = omega arith in
        let parts : shuts (from - to) ≡ shuts (from - d) ++ (shut ∷ shuts (d - to - 1)) = ap shuts z ∙ sym (shuts-append (from - d) (suc (d - to - 1))) in
        first_comes (comes_then (subst (Coming (view s ts) h k (stack xs from)) parts c) a)

    pub shut_again : {c : ℕ} {vs : List ℕ} {i : Hook} → c ≡ get_or xs (d - 1) 0 → ShutsList c s h us j vs i → ShutTo s h ts k xs from (d - 1) vs i
    shut_again {c} {vs} {i} e b =
        let z : from - d + 1 ≡ from - (d - 1) = omega arith in
        let inner = ap (λ (x : ℕ). x ∷ stack xs (d - 1)) e ∙ sym (stack_top xs d (omega arith)) in
        let last : Steps s h us j (stack xs d) (shut ∷ []) vs i (stack xs (d - 1)) =
        subst (λ (cs : List ℕ). Steps s h us j cs (shut ∷ []) vs i (stack xs (d - 1))) inner (b (stack xs (d - 1))) in
        subst (λ (ms : List Mark). Steps s h ts k (stack xs from) ms vs i (stack xs (d - 1))) (shuts-append (from - d) 1 ∙ ap shuts z) (and_then a last)
