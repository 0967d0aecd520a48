-- Erasing comes to one end, and the pool's steps are steps of the relation: what is dropped is erased.
use Rattle.std.specs.Prelude.{◌≡◌, ◌≢◌, ◌⊎◌}
use Rattle.std.proofs.Math.Path.{refl, ap, subst}
use Rattle.std.proofs.Common.{sym, ◌∙◌, inl, inr}
use mathlib.Core.List.{List, [], ◌∷◌, map}
use Prim.Native.Nat.{ℕ, zero, suc, ◌+◌, ◌-◌, ◌≤◌, ◌<◌}
use native.Mathlib.Omega.{arith}
use Rattle.pool.specs.Tally.{same, tally, occ}
use Rattle.pool.specs.Pool.{Cell, at, put, kind_of, elem_of, count_of, next_of, counted, followed, set_count, set_next, Live, InPool, Chain}
use Rattle.pool.specs.Erase.{Dropping, visit, step, dropping, total, dropped, stepped}
use Rattle.pool.specs.Laws.Edit.{put_same, put_other, put-put, live_cell}
use Rattle.pool.specs.Laws.Held.{Held, reroot}
use Rattle.pool.specs.Laws.Chains.{Chain_unique, Chain_once}
use Rattle.pool.specs.Laws.Drop.{Wait, Waits, waits, items, DropInv, live_waits}
use Rattle.pool.specs.Laws.TallyLaws.{same_of}
use Rattle.pool.specs.Laws.HeldSteps.{aside_cell}
use Rattle.pool.specs.Laws.DropRun.{DropInvAt, todo, here_live, step-inv, dropping-step, dropping-stop}
use Rattle.promises.specs.Erasing.{at_head, first_of, Erased, shared, atom, list, waited, ended}

-- where two runs end that begin alike
pub record SameEnd (g h : ℕ) (ds es : List Cell) (n m : ℕ) : Type 0 where
  pub free : g ≡ h
  pub cells : ds ≡ es
  pub freed : n ≡ m

one_more : {g h : ℕ} {ds es : List Cell} {n m : ℕ} → SameEnd g h ds es n m → SameEnd g h ds es (suc n) (suc m)
one_more s = record { free = s.free; cells = s.cells; freed = ap suc s.freed }

pub one_end : {g h : ℕ} {ds es : List Cell} {f : ℕ} {cs : List Cell} {x n m : ℕ} {ws : List ℕ} → Erased g ds f cs x ws n → Erased h es f cs x ws m → SameEnd g h ds es n m
one_end (shared p a) (shared q b) = one_end a b
one_end (shared p a) (atom q k b) = absurd (omega arith)
one_end (shared p a) (list q k b) = absurd (omega arith)
one_end (shared p a) (waited b) = absurd (omega arith)
one_end (shared p a) ended = absurd (omega arith)
one_end (atom p k a) (shared q b) = absurd (omega arith)
one_end (atom p k a) (atom q l b) = one_more (one_end a b)
one_end (atom p k a) (list q l b) = absurd (omega arith)
one_end (atom p k a) (waited b) = absurd (omega arith)
one_end (atom p k a) ended = absurd (omega arith)
one_end (list p k a) (shared q b) = absurd (omega arith)
one_end (list p k a) (atom q l b) = absurd (omega arith)
one_end (list p k a) (list q l b) = one_end a b
one_end (list p k a) (waited b) = absurd (omega arith)
one_end (list p k a) ended = absurd (omega arith)
one_end (waited a) (shared q b) = absurd (omega arith)
one_end (waited a) (atom q l b) = absurd (omega arith)
one_end (waited a) (list q l b) = absurd (omega arith)
one_end (waited a) (waited b) = one_more (one_end a b)
one_end ended (shared q b) = absurd (omega arith)
one_end ended (atom q l b) = absurd (omega arith)
one_end ended (list q l b) = absurd (omega arith)
one_end ended ended = record { free = refl; cells = refl; freed = refl }

-- the waiting chain as a list of cells

abbrev cells_of : List Wait → List ℕ
cells_of ws = map (λ (w : Wait). w.cell) ws

waiting_chain : (cs : List Cell) (b : ℕ) (ws : List Wait) → Waits cs b ws → Chain cs b (cells_of ws)
unfolding Waits Chain
waiting_chain cs b [] h = h
waiting_chain cs b (w ∷ ws) h = (h.0, h.1, waiting_chain cs (next_of cs w.cell) ws h.3)

waiting-first : (cs : List Cell) (b : ℕ) (ws : List Wait) → Waits cs b ws → first_of (cells_of ws) ≡ b
unfolding Waits
waiting-first cs b [] h = sym h
waiting-first cs b (w ∷ ws) h = sym h.0

waiting-occ : (ws : List Wait) (c : ℕ) → occ (cells_of ws) c ≡ waits ws c
unfolding tally
waiting-occ [] c = refl
waiting-occ (w ∷ ws) c = omega (arith, waiting-occ ws c)

-- a chain stays where another cell is replaced
pub chain_put : (cs : List Cell) (x : ℕ) (y : Cell) (c : ℕ) (fs : List ℕ) → occ fs x ≡ 0 → Chain cs c fs → Chain (put cs x y) c fs
unfolding Chain tally
chain_put cs x y c [] o h = h
chain_put cs x y c (f ∷ fs) o h =
    let n : f ≢ x = λ e. omega (arith, same_of f x e) in (
      h.0,
      h.1,
      subst (λ (d : ℕ). Chain (put cs x y) d fs) (ap (λ (z : Cell). z.next) (sym (put_other cs x f y n)))
          (chain_put cs x y (next_of cs f) fs (omega arith) h.2),
    )

chain_on : (es : List Cell) (c d : ℕ) (us : List ℕ) → c ≢ 0 → next_of es c ≡ d → Chain es d us → Chain es c (c ∷ us)
unfolding Chain
chain_on es c d us some on k = (refl, some, subst (λ (u : ℕ). Chain es u us) (sym on) k)

-- a cell put on a chain in two stores, and in one
pub two-stores : (cs : List Cell) (x h : ℕ) → InPool cs x → set_next (set_count cs x 0) x h ≡ at_head cs x h
two-stores cs x h inside =
    ap (λ (z : Cell). put (set_count cs x 0) x (followed z h)) (put_same cs x (counted (at cs x) 0) inside.0 inside.1)
    ∙ put-put cs x (counted (at cs x) 0) (record { kind = kind_of cs x; elem = elem_of cs x; count = 0; next = h })

one_store : (cs : List Cell) (x h : ℕ) → count_of cs x ≡ 0 → set_next cs x h ≡ at_head cs x h
one_store cs x h z = ap (λ (k : ℕ). put cs x (record { kind = kind_of cs x; elem = elem_of cs x; count = k; next = h })) z

module _ (r : ℕ → ℕ) (bs : List Cell) (g : ℕ) (ds : List Cell) where
  -- the rest of a run from a state, and with the step before it
  abbrev Rest : ℕ → List Cell → ℕ → List ℕ → ℕ → ℕ → Type 0
  Rest f cs x ws a b = (n : ℕ) × (b ≡ a + n) × Erased g ds f cs x ws n

  module _ (f : ℕ) (cs : List Cell) (x b n : ℕ) (ws : List Wait) (v : DropInv r bs f cs x b n ws) (e : ℕ) where
    -- x is live, so it does not wait
    away : Live cs x → occ (cells_of ws) x ≡ 0
    away l = omega (arith, waiting-occ ws x, live_waits f cs (λ c. same x c + items ws c + r c) (waits ws) x v.held l)

    stays : (y : Cell) → Live cs x → Chain (put cs x y) b (cells_of ws)
    stays y l = chain_put cs x y b (cells_of ws) (away l) (waiting_chain cs b ws v.chained)

    by_visit : (k t : ℕ) (us : List Wait) → Live cs x → count_of cs x ≡ suc k → kind_of cs x ≡ t
        → DropInvAt r bs (visit f cs x b n k t) us
        → (let s = visit f cs x b n k t in Rest s.free s.cells s.here (cells_of us) s.freed e)
        → Rest f cs x (cells_of ws) n e
    unfolding visit
    by_visit (suc k) t us l q h w (m, z, d) =
        let same-ws = Chain_unique _ b (cells_of us) (cells_of ws) (waiting_chain _ b us w.chained) (stays _ l) in
        let less : suc k ≡ count_of cs x - 1 = omega arith in (
          m,
          z,
          shared {cs = cs} {x = x} (omega arith)
              (subst (λ (vs : List ℕ). Erased g ds f (set_count cs x (count_of cs x - 1)) 0 vs m) same-ws
              (subst (λ (j : ℕ). Erased g ds f (set_count cs x j) 0 (cells_of us) m) less d)),
        )
    by_visit zero zero us l q h w (m, z, d) =
        let same_cells = two-stores cs x f (live_cell cs x l) in
        let same-ws = Chain_unique _ b (cells_of us) (cells_of ws)
        (subst (λ (es : List Cell). Chain es b (cells_of us)) same_cells (waiting_chain _ b us w.chained)) (stays _ l) in (
          suc m,
          omega arith,
          atom q h
              (subst (λ (vs : List ℕ). Erased g ds x (at_head cs x f) (next_of cs x) vs m) same-ws
              (subst (λ (es : List Cell). Erased g ds x es (next_of cs x) (cells_of us) m) same_cells d)),
        )
    by_visit zero (suc zero) us l q h w (m, z, d) =
        let inside = live_cell cs x l in
        let y : Cell = record { kind = kind_of cs x; elem = elem_of cs x; count = 0; next = b } in
        let first = waiting-first cs b ws v.chained in
        let same_cells : set_next (set_count cs x 0) x b ≡ at_head cs x (first_of (cells_of ws)) = two-stores cs x b inside ∙ ap (at_head cs x) (sym first) in
        let onto : Chain (at_head cs x b) x (x ∷ cells_of ws)
        = chain_on (at_head cs x b) x b (cells_of ws) (λ c. omega arith) (ap (λ (u : Cell). u.next) (put_same cs x y inside.0 inside.1)) (stays y l) in
        let same-ws = Chain_unique (at_head cs x b) x (cells_of us) (x ∷ cells_of ws)
        (subst (λ (es : List Cell). Chain es x (cells_of us)) (two-stores cs x b inside) (waiting_chain _ x us w.chained)) onto in (
          m,
          z,
          list q h (subst (λ (vs : List ℕ). Erased g ds f (at_head cs x (first_of (cells_of ws))) (next_of cs x) vs m) same-ws
              (subst (λ (es : List Cell). Erased g ds f es (next_of cs x) (cells_of us) m) same_cells d)),
        )
    by_visit zero (suc (suc t)) us l q h w rest = absurd (omega (arith, v.held.kinds x (omega arith)))

  -- the head of the waiting chain
  by_end : (f : ℕ) (cs : List Cell) (b n : ℕ) (w : Wait) (ws us : List Wait) (e : ℕ) → DropInv r bs f cs 0 b n (w ∷ ws)
      → Waits (set_next cs b f) (next_of cs b) us → Rest b (set_next cs b f) (elem_of cs b) (cells_of us) (suc n) e → Rest f cs 0 (cells_of (w ∷ ws)) n e
  unfolding Waits tally Chain
  by_end f cs b n w ws us e v u (m, z, d) =
      let (at_b, some, item, rest) = v.chained in
      let free = (aside_cell f cs (λ c. same 0 c + items (w ∷ ws) c + r c) (waits (w ∷ ws)) b v.held (omega (arith, same_of w.cell b (sym at_b)))).1 in
      let once : occ (cells_of ws) b ≡ 0
      = omega (arith, Chain_once cs b (cells_of (w ∷ ws)) (waiting_chain cs b (w ∷ ws) v.chained) b, same_of w.cell b (sym at_b)) in
      let left : Chain (set_next cs b f) (next_of cs b) (cells_of ws)
      = chain_put cs b _ (next_of cs b) (cells_of ws) once
      (subst (λ (c : ℕ). Chain cs (next_of cs c) (cells_of ws)) (sym at_b) (waiting_chain cs (next_of cs w.cell) ws rest)) in
      let same-ws = Chain_unique (set_next cs b f) (next_of cs b) (cells_of us) (cells_of ws) (waiting_chain _ (next_of cs b) us u) left in
      let d₁ : Erased g ds b (at_head cs b f) (elem_of cs b) (cells_of ws) m
      = subst (λ (vs : List ℕ). Erased g ds b (at_head cs b f) (elem_of cs b) vs m) same-ws
      (subst (λ (es : List Cell). Erased g ds b es (elem_of cs b) (cells_of us) m) (one_store cs b f free) d) in
      (suc m, omega arith, waited (subst (λ (c : ℕ). Erased g ds c (at_head cs c f) (elem_of cs c) (cells_of ws) m) at_b d₁))

  by_step : (f : ℕ) (cs : List Cell) (x b n : ℕ) (ws us : List Wait) (e : ℕ) → DropInv r bs f cs x b n ws → DropInvAt r bs (step f cs x b n) us
      → (let s = step f cs x b n in Rest s.free s.cells s.here (cells_of us) s.freed e) → Rest f cs x (cells_of ws) n e
  unfolding step Waits
  by_step f cs zero zero n ws us e v w d = subst (λ (vs : List ℕ). Rest f cs 0 vs n e)
      (Chain_unique cs 0 (cells_of us) (cells_of ws) (waiting_chain cs 0 us w.chained) (waiting_chain cs 0 ws v.chained)) d
  by_step f cs zero (suc j) n [] us e v w d = absurd (omega (arith, v.chained))
  by_step f cs zero (suc j) n (u ∷ ws) us e v w d = by_end f cs (suc j) n u ws us e v w.chained d
  by_step f cs (suc i) b n ws us e v w d =
      let l = here_live r bs f cs i b n ws v in
      by_visit f cs (suc i) b n ws v e (count_of cs (suc i) - 1) (kind_of cs (suc i)) us l (omega arith) refl w d

-- a run that has come to its end
at_end_lem : (r : ℕ → ℕ) (bs : List Cell) (s : Dropping) (ws : List Wait) → s.here ≡ 0 → ws ≡ []
    → Rest r bs s.free s.cells s.free s.cells s.here (cells_of ws) s.freed s.freed
at_end_lem r bs s ws e q = (
  0,
  omega arith,
  subst (λ (vs : List Wait). Erased s.free s.cells s.free s.cells s.here (cells_of vs) 0) (sym q)
      (subst (λ (x : ℕ). Erased s.free s.cells s.free s.cells x [] 0) (sym e) ended),
)

-- where a run comes to that is long enough
module _ (r : ℕ → ℕ) (bs : List Cell) where
  abbrev Comes : Dropping → List Wait → Dropping → Type 0
  Comes s ws e = Rest r bs e.free e.cells s.free s.cells s.here (cells_of ws) s.freed e.freed

  abbrev Ways : Dropping → List Wait → Type 0
  Ways s ws = ((s.here ≡ 0) × (s.waiting ≡ 0) × (ws ≡ [])) ⊎ ((us : List Wait) × DropInvAt r bs (stepped s) us × (todo (stepped s) us < todo s ws))

  ended_at : (k : ℕ) (s : Dropping) (ws : List Wait) → s.here ≡ 0 → s.waiting ≡ 0 → ws ≡ [] → Comes s ws (dropping k s)
  ended_at k s ws e b q = subst (Comes s ws) (sym (dropping-stop k s e b)) (at_end_lem r bs s ws e q)

  run_erased : (k : ℕ) (s : Dropping) (ws : List Wait) → DropInvAt r bs s ws → todo s ws ≤ k → Comes s ws (dropping k s)
  run_erased zero s ws v l = go (step-inv r bs s.free s.cells s.here s.waiting s.freed ws v)
    where
      go : Ways s ws → Comes s ws (dropping 0 s)
      go (inl (e, b, q)) = ended_at 0 s ws e b q
      go (inr (us, w, m)) = absurd (omega arith)
  run_erased (suc k) s ws v l = go (run_erased k (stepped s)) (step-inv r bs s.free s.cells s.here s.waiting s.freed ws v)
    where
      go : ((us : List Wait) → DropInvAt r bs (stepped s) us → todo (stepped s) us ≤ k → Comes (stepped s) us (dropping k (stepped s))) → Ways s ws
          → Comes s ws (dropping (suc k) s)
      go ih (inl (e, b, q)) = ended_at (suc k) s ws e b q
      go ih (inr (us, w, m)) =
          let e = dropping k (stepped s) in
          subst (Comes s ws) (sym (dropping-step k s))
          (by_step r bs e.free e.cells s.free s.cells s.here s.waiting s.freed ws us e.freed v w (ih us w (omega arith)))

-- what is dropped is erased
pub dropped_erased : (r : ℕ → ℕ) (f : ℕ) (cs : List Cell) (x : ℕ) → Held f cs (λ c. same x c + r c) (λ c. 0)
    → let s = dropped f cs x in Erased s.free s.cells f cs x [] s.freed
unfolding dropped Waits tally
dropped_erased r f cs x h =
    let start : Dropping = record { free = f; cells = cs; here = x; waiting = 0; freed = 0 } in
    let inv : DropInvAt r cs start [] = record {
      chained = refl;
      held = reroot f cs (λ c. same x c + r c) (λ c. 0) (λ c. same x c + 0 + r c) (λ c. 0) h (λ d m. omega arith) (λ d. refl);
      kept = λ c l. (l, refl);
      number = omega arith;
      size = refl;
    } in
    let (n, e, d) = run_erased r cs (total cs + total cs) start [] inv (omega arith) in
    let z : n ≡ (dropping (total cs + total cs) start).freed = omega (arith, e) in
    subst (λ (k : ℕ). Erased (dropping (total cs + total cs) start).free (dropping (total cs + total cs) start).cells f cs x [] k) z d
