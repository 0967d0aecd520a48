-- The small steps that operations are made of keep the invariant: a count moves with its roots; a cell is set aside, changed,
-- put before the free chain, taken off it, or becomes live.
use Rattle.std.specs.Prelude.{◌≡◌, refl, ◌≢◌, List, [], ◌∷◌, ℕ, suc, ◌+◌, ◌≤◌, ◌<◌}
use Rattle.std.proofs.Common.{sym, ap, ◌∙◌, subst, inl, inr, arith}
use Rattle.std.proofs.Math.Decide.{ℕ_discrete}
use Rattle.pool.specs.Tally.{same, tally, occ}
use Rattle.pool.specs.Laws.TallyLaws.{same_eq, same_ne, same_of, Same, eq, ne, same?}
use Rattle.pool.specs.Pool.{Cell, at, put, count_of, next_of, counted, followed, set_count, set_next, Live, InPool, gives, sends, StepOf, Step, Chain, mark}
use Rattle.pool.specs.Laws.Edit.{put_same, put_other, live_cell, mark-cell, mark-past}
use Rattle.pool.specs.Laws.Arrows.{sends_live, sends-free, gives-counted, step_gives, step-into}
use Rattle.pool.specs.Laws.Held.{Held, put_acyclic, source_acyclic, Held-put}

-- the number of roots of a live cell changes: so does its count
pub recount : (f : ℕ) (cs : List Cell) (r a r' : ℕ → ℕ) (x k : ℕ) → Held f cs r a → 0 < count_of cs x → 0 < k
    → r' x + count_of cs x ≡ r x + k
    → ((d : ℕ) → d ≢ x → d ≢ 0 → r' d ≡ r d)
    → Held f (set_count cs x k) r' a
recount f cs r a r' x k h l m here others =
    let inside = live_cell cs x l in
    let y : Cell = counted (at cs x) k in
    let alike : (d : ℕ) → sends d y ≡ sends d (at cs x) = λ d. sends_live d y m ∙ gives-counted d (at cs x) k ∙ sym (sends_live d (at cs x) l) in
    Held-put cs x y inside f r a r' a h
    (omega (arith, alike x))
    (λ d n z. omega (arith, alike d, others d n z))
    (λ _. h.kinds x l)
    (inr refl)
    (omega (arith, same_ne (count_of cs x) 0 (omega arith), same_ne k 0 (omega arith)))
    (λ d n. refl)
    (put_acyclic cs x y inside h.acyclic (λ d s. (l, s.1)))

-- a root of a cell that has others goes: one off its count
pub lower : (f : ℕ) (cs : List Cell) (r a r' : ℕ → ℕ) (x k : ℕ) → Held f cs r a → count_of cs x ≡ suc (suc k)
    → ((d : ℕ) → d ≢ 0 → r' d + same x d ≡ r d)
    → Held f (set_count cs x (suc k)) r' a
lower f cs r a r' x k h e roots = recount f cs r a r' x (suc k) h (omega arith) (omega arith)
    (omega (arith, roots x (omega (arith, live_cell cs x (omega arith))), same_eq x))
    (λ d n m. omega (arith, roots d m, same_ne x d (λ q. n (sym q))))

-- one more root of a live cell: one on its count
pub raise : (f : ℕ) (cs : List Cell) (r a r' : ℕ → ℕ) (x : ℕ) → Held f cs r a → Live cs x
    → ((d : ℕ) → d ≢ 0 → r' d ≡ r d + same x d)
    → Held f (set_count cs x (suc (count_of cs x))) r' a
raise f cs r a r' x h l roots = recount f cs r a r' x (suc (count_of cs x)) h l (omega arith)
    (omega (arith, roots x (omega (arith, live_cell cs x l)), same_eq x))
    (λ d n m. omega (arith, roots d m, same_ne x d (λ q. n (sym q))))

-- the only root of a cell goes: its count becomes 0, it is set aside, and its arrows become roots
pub unlock : (f : ℕ) (cs : List Cell) (r a r' a' : ℕ → ℕ) (x : ℕ) → Held f cs r a → count_of cs x ≡ 1
    → ((d : ℕ) → d ≢ 0 → r' d + same x d ≡ r d + gives d (at cs x))
    → ((d : ℕ) → a' d ≡ a d + same x d)
    → Held f (set_count cs x 0) r' a'
unlock f cs r a r' a' x h e roots asides =
    let inside = live_cell cs x (omega arith) in
    let y : Cell = counted (at cs x) 0 in
    let old : (d : ℕ) → sends d (at cs x) ≡ gives d (at cs x) = λ d. sends_live d (at cs x) (omega arith) in
    let now : (d : ℕ) → sends d y ≡ 0 = λ d. sends-free d y refl in
    Held-put cs x y inside f r a r' a' h
    (omega (arith, old x, now x, roots x (omega arith), same_eq x))
    (λ d n m. omega (arith, old d, now d, roots d m, same_ne x d (λ q. n (sym q))))
    (λ _. h.kinds x (omega arith))
    (inr refl)
    (omega (arith, same_ne (count_of cs x) 0 (omega arith), same_eq 0, asides x, same_eq x))
    (λ d n. omega (arith, asides d, same_ne x d (λ q. n (sym q))))
    (put_acyclic cs x y inside h.acyclic (λ d s. (omega arith, s.1)))

-- a cell that is set aside is a cell with count 0
pub aside_cell : (f : ℕ) (cs : List Cell) (r a : ℕ → ℕ) (c : ℕ) → Held f cs r a → 0 < a c → InPool cs c × (count_of cs c ≡ 0)
aside_cell f cs r a c h l =
    let inside = mark-past cs c (omega (arith, h.chain.2 c)) in
    (inside, go inside (same? (count_of cs c) 0))
  where
    go : InPool cs c → Same (count_of cs c) 0 → count_of cs c ≡ 0
    go inside (eq q _) = q
    go inside (ne _ q) = absurd (omega (arith, h.chain.2 c, mark-cell cs c inside.0 inside.1))

-- the fields of a cell that is set aside may be anything
pub refit : (f : ℕ) (cs : List Cell) (r a : ℕ → ℕ) (c : ℕ) (y : Cell) → Held f cs r a → 0 < a c → y.count ≡ 0 → Held f (put cs c y) r a
refit f cs r a c y h l z =
    let (inside, o) = aside_cell f cs r a c h l in
    let old : (d : ℕ) → sends d (at cs c) ≡ 0 = λ d. sends-free d (at cs c) o in
    let now : (d : ℕ) → sends d y ≡ 0 = λ d. sends-free d y z in
    Held-put cs c y inside f r a r a h
    (omega (arith, old c, now c))
    (λ d n m. omega (arith, old d, now d))
    (λ q. absurd (omega arith))
    (inl l)
    (cc (o, z))
    (λ d n. refl)
    (put_acyclic cs c y inside h.acyclic (λ d s. absurd (omega (arith, s.0))))

-- a cell that is set aside and followed by the head of the free chain becomes the head
rehead : (f : ℕ) (cs : List Cell) (r a a' : ℕ → ℕ) (c : ℕ) → Held f cs r a → next_of cs c ≡ f → c ≢ 0
    → ((d : ℕ) → a' d + same c d ≡ a d)
    → Held c cs r a'
unfolding Chain tally
rehead f cs r a a' c h e n asides = record {
  law = h.law;
  kinds = h.kinds;
  chain = (c ∷ h.chain.0, (refl, n, rw e h.chain.1), λ d. omega (arith, asides d, h.chain.2 d));
  acyclic = h.acyclic;
}

-- a cell that is set aside is put before the free chain
pub shelve : (f : ℕ) (cs : List Cell) (r a a' : ℕ → ℕ) (c : ℕ) → Held f cs r a → ((d : ℕ) → a' d + same c d ≡ a d) → Held c (set_next cs c f) r a'
shelve f cs r a a' c h asides =
    let l : 0 < a c = omega (arith, asides c, same_eq c) in
    let (inside, o) = aside_cell f cs r a c h l in
    let y : Cell = followed (at cs c) f in
    rehead f (put cs c y) r a a' c (refit f cs r a c y h l o) (ap (λ x. x.next) (put_same cs c y inside.0 inside.1)) (omega arith) asides

-- the head of the free chain is taken off it and set aside
pub take : (f : ℕ) (cs : List Cell) (r a a' : ℕ → ℕ) → Held f cs r a → f ≢ 0 → ((d : ℕ) → a' d ≡ a d + same f d) → Held (next_of cs f) cs r a'
unfolding Chain tally
take f cs r a a' h n asides = go h.chain.0 h.chain.1 h.chain.2
  where
    go : (fs : List ℕ) → Chain cs f fs → ((c : ℕ) → occ fs c + a c ≡ mark cs c) → Held (next_of cs f) cs r a'
    go [] e m = absurd (n e)
    go (g ∷ gs) (e, ng, rest) m = record {
      law = h.law;
      kinds = h.kinds;
      chain = (gs, rw e rest, λ c. omega (arith, m c, asides c, ap (λ u. same u c) e));
      acyclic = h.acyclic;
    }

-- a cell that is set aside becomes live, with one root; the roots that its fields name become its arrows
pub fill : (f : ℕ) (cs : List Cell) (r a r' a' rest : ℕ → ℕ) (c : ℕ) (y : Cell) → Held f cs r a → 0 < a c → y.count ≡ 1 → y.kind ≤ 1
    → ((d : ℕ) → d ≢ 0 → r d ≡ rest d + gives d y)
    → ((d : ℕ) → d ≢ 0 → r' d ≡ rest d + same c d)
    → ((d : ℕ) → a' d + same c d ≡ a d)
    → Held f (put cs c y) r' a'
fill f cs r a r' a' rest c y h l one kind from to asides =
    let (inside, z) = aside_cell f cs r a c h l in
    let old : (d : ℕ) → sends d (at cs c) ≡ 0 = λ d. sends-free d (at cs c) z in
    let now : (d : ℕ) → sends d y ≡ gives d y = λ d. sends_live d y (omega arith) in
    Held-put cs c y inside f r a r' a' h
    (omega (arith, old c, now c, from c (omega arith), to c (omega arith), same_eq c))
    (λ d n m. omega (arith, old d, now d, from d m, to d m, same_ne c d (λ q. n (sym q))))
    (λ _. kind)
    (inl l)
    (omega (arith, asides c, same_eq c, same_of (count_of cs c) 0 z, same_ne y.count 0 (omega arith)))
    (λ d n. omega (arith, asides d, same_ne c d (λ q. n (sym q))))
    (source_acyclic cs c y inside h.acyclic (source inside z))
  where
    -- nothing leads to c
    source : InPool cs c → count_of cs c ≡ 0 → (b : ℕ) → Step (put cs c y) b c → ⊥
    source inside z b s = go (ℕ_discrete b c)
      where
        go : Dec (b ≡ c) → ⊥
        go (yes e) =
            let s' : Step (put cs c y) c c = rw e at s in
            let t : StepOf y c = subst (λ x. StepOf x c) (put_same cs c y inside.0 inside.1) s' in
            omega (arith, step_gives c y t, from c (omega arith), h.law c (omega arith))
        go (no n) =
            let t : Step cs b c = subst (λ x. StepOf x c) (put_other cs c b y n) s in
            omega (arith, step-into cs b c t, h.law c (omega arith))
