-- The test decides soundness, and the cells that wait in it are never more than there are.
use Rattle.std.specs.Prelude.{◌≡◌, refl, ◌≢◌, ◌⊎◌, ◌↔◌, Bool, true, ◌&&◌, List, [], ◌∷◌, ℕ, zero, suc, ◌+◌, ◌≤◌, ◌<◌, eqb, leb, length}
use Rattle.std.proofs.Common.{sym, ap, ◌∙◌, subst, inl, inr, arith, eqb-true, eq-eqb, leb-true, le-leb}
use Rattle.pool.specs.Tally.{same, tally, occ}
use Rattle.pool.specs.Laws.TallyLaws.{same_of, Same, eq, ne, same?}
use Rattle.pool.specs.Pool.{Cell, Pool, at, count_of, next_of, Chain, mark, frees, Sound}
use Rattle.pool.specs.Check.{Peeling, lowered, meet, arrow, taken, pop, popped, turns, after_holders, chained, peeled?, check}
use Rattle.pool.specs.Laws.Edit.{mark-past}
use Rattle.pool.specs.Laws.SoundLaws.{sound_held, held_sound}
use Rattle.pool.specs.Laws.Room.{lives_le, frees-lives}
use Rattle.pool.specs.Laws.Chains.{chain_full, sound_chain_length}
use Rattle.pool.specs.Laws.CheckInv.{and_both, and_of, PeelInv, turns-inv, holders_inv, passed, passes}

-- the free chain

chained_chain : (n : ℕ) (cs : List Cell) (c : ℕ) → chained n cs c ≡ true
    → (fs : List ℕ) × Chain cs c fs × ((d : ℕ) → 0 < occ fs d → 0 < mark cs d) × (length fs ≡ n)
unfolding chained Chain tally
chained_chain zero cs c h = ([], eqb-true c 0 h, (λ d o. absurd (omega arith)), refl)
chained_chain (suc n) cs c h =
    let (a, b) = and_both (leb 1 (mark cs c)) (chained n cs (next_of cs c)) h in
    let m : 0 < mark cs c = leb-true 1 (mark cs c) a in
    let (fs, k, f, l) = chained_chain n cs (next_of cs c) b in
    let ne0 : c ≢ 0 = omega (arith, mark-past cs c m) in
    (c ∷ fs, (refl, ne0, k), (λ d o. free d fs o f m (same? c d)), ap suc l)
  where
    free : (d : ℕ) (fs : List ℕ) → 0 < same c d + occ fs d → ((d : ℕ) → 0 < occ fs d → 0 < mark cs d) → 0 < mark cs c → Same c d → 0 < mark cs d
    free d fs o f m (eq e s) = subst (λ u. 0 < mark cs u) e m
    free d fs o f m (ne e s) = f d (omega arith)

chain_chained : (fs : List ℕ) (cs : List Cell) (c : ℕ) → Chain cs c fs → ((d : ℕ) → 0 < occ fs d → 0 < mark cs d) → chained (length fs) cs c ≡ true
unfolding chained Chain tally
chain_chained [] cs c h f = eq-eqb c 0 h
chain_chained (g ∷ fs) cs c h f =
    and_of (leb 1 (mark cs c)) (chained (length fs) cs (next_of cs c)) (le-leb 1 (mark cs c) (f c (omega (arith, same_of g c (sym h.0)))))
    (chain_chained fs cs (next_of cs c) (subst (λ u. Chain cs (next_of cs u) fs) (sym h.0) h.2) (λ d o. f d (omega arith)))

-- a stack that is empty stays so, and after as many turns as there are cells it is

pub meet_gone : (x : ℕ) (st : Peeling) → (meet x st).gone ≡ st.gone
unfolding meet lowered
meet_gone zero st = refl
meet_gone (suc i) st = go (count_of st.cells (suc i))
  where
    go : (n : ℕ) → (lowered st (suc i) n).gone ≡ st.gone
    go zero = refl
    go (suc zero) = refl
    go (suc (suc k)) = refl

pub pop_gone : (cs : List Cell) (c : ℕ) (xs : List ℕ) (st : Peeling) → (pop cs (c ∷ xs) st).gone ≡ suc st.gone
unfolding pop
pop_gone cs c xs st = meet_gone (next_of cs c) (meet (arrow (at cs c)) (taken cs st c xs)) ∙ meet_gone (arrow (at cs c)) (taken cs st c xs)

-- as many cells as turns have gone, or the stack is empty
emptied : (k : ℕ) (cs : List Cell) (st₀ : Peeling) → ((turns k cs st₀).stack ≡ []) ⊎ (k ≤ (turns k cs st₀).gone)
unfolding turns popped pop
emptied zero cs st₀ = inr (omega arith)
emptied (suc k) cs st₀ = go (turns k cs st₀) (turns k cs st₀).stack refl (emptied k cs st₀)
  where
    go : (st : Peeling) (xs : List ℕ) → st.stack ≡ xs → (st.stack ≡ []) ⊎ (k ≤ st.gone) → ((pop cs xs st).stack ≡ []) ⊎ (suc k ≤ (pop cs xs st).gone)
    go st [] e r = inl e
    go st (c ∷ xs) e (inl n) = absurd (omega (arith, ap length (sym e ∙ n)))
    go st (c ∷ xs) e (inr l) = inr (omega (arith, pop_gone cs c xs st))

no_length : (xs : List ℕ) → length xs ≡ 0 → xs ≡ []
no_length [] e = refl
no_length (x ∷ xs) e = absurd (omega arith)

-- the stack has room in as many words as there are cells, at every turn
pub stack_fits : (cs : List Cell) (r₀ rest : ℕ → ℕ) (st : Peeling) → PeelInv cs r₀ rest st → st.gone + length st.stack ≤ length cs
stack_fits cs r₀ rest st i = omega (arith, i.number, lives_le cs)

pub ends : (p : Pool) → (turns (length p.cells) p.cells (after_holders p)).stack ≡ []
ends p = go (emptied (length p.cells) p.cells (after_holders p))
  where
    go : ((turns (length p.cells) p.cells (after_holders p)).stack ≡ []) ⊎ (length p.cells ≤ (turns (length p.cells) p.cells (after_holders p)).gone) → (turns (length p.cells) p.cells (after_holders p)).stack ≡ []
    go (inl e) = e
    go (inr l) =
        no_length (turns (length p.cells) p.cells (after_holders p)).stack
        (omega (arith, stack_fits p.cells (occ p.holders) (λ d. 0) (turns (length p.cells) p.cells (after_holders p)) (turns-inv (length p.cells) p.cells (occ p.holders) (λ d. 0) (after_holders p) (holders_inv p))))

-- the check, with any number of turns after which the stack is empty

abbrev pub tested : ℕ → Pool → Bool
tested k p = chained (frees p.cells) p.cells p.free && peeled? p.cells (turns k p.cells (after_holders p))

pub tested_sound : (k : ℕ) (p : Pool) → (turns k p.cells (after_holders p)).stack ≡ [] → tested k p ≡ true → Sound p
unfolding peeled?
tested_sound k p e h =
    let cs : List Cell = p.cells in
    let st : Peeling = turns k cs (after_holders p) in
    let (h1, h2) = and_both (chained (frees cs) cs p.free) (peeled? cs st) h in
    let (h3, h4) = and_both st.ok (eqb (st.gone + frees cs) (length cs)) h2 in
    let n : st.gone + frees cs ≡ length cs = eqb-true (st.gone + frees cs) (length cs) h4 in
    let i = turns-inv k cs (occ p.holders) (λ d. 0) (after_holders p) (holders_inv p) in
    let (law, t, a) = passed cs (occ p.holders) st i e h3 (omega (arith, frees-lives cs)) in
    let (fs, c, f, l) = chained_chain (frees cs) cs p.free h1 in
    held_sound p (record {
      law = law;
      kinds = t;
      chain = (fs, c, λ d. omega (arith, chain_full cs p.free fs c f (omega (arith, frees-lives cs)) d));
      acyclic = a;
    })

pub sound_tested : (k : ℕ) (p : Pool) → (turns k p.cells (after_holders p)).stack ≡ [] → Sound p → tested k p ≡ true
unfolding peeled?
sound_tested k p e s =
    let cs : List Cell = p.cells in
    let st : Peeling = turns k cs (after_holders p) in
    let h = sound_held p s in
    let fs : List ℕ = s.chain.0 in
    let i = turns-inv k cs (occ p.holders) (λ d. 0) (after_holders p) (holders_inv p) in
    let (o, g) = passes cs (occ p.holders) st i e h.law h.kinds h.acyclic in
    let q : length fs ≡ frees cs = omega (arith, frees-lives cs, sound_chain_length p s) in
    and_of (chained (frees cs) cs p.free) (peeled? cs st)
    (subst (λ n. chained n cs p.free ≡ true) q (chain_chained fs cs p.free s.chain.1 (λ d o. omega (arith, s.chain.2 d))))
    (and_of st.ok (eqb (st.gone + frees cs) (length cs)) o (eq-eqb (st.gone + frees cs) (length cs) (omega (arith, frees-lives cs))))

pub check_decides : (p : Pool) → (check p ≡ true) ↔ Sound p
unfolding check
check_decides p = (tested_sound (length p.cells) p (ends p), sound_tested (length p.cells) p (ends p))
