-- The invariant inside an operation: f is the first free cell, r c roots name cell c (holders, and what the operation has
-- in hand), and a c is 1 where a cell with count 0 is set aside (not on the free chain). One cell replaced keeps it, where
-- its arrows and its count move together.
use Rattle.std.specs.Prelude.{◌≡◌, ◌≢◌, ◌⊎◌, List, length}
use Rattle.std.proofs.Common.{ap, ◌∙◌, inl, inr, arith}
use Rattle.std.proofs.Math.Path.{subst}
use Prim.Native.Nat.{ℕ, zero, suc, ◌+◌, ◌≤◌, ◌<◌}
use Rattle.std.proofs.Math.Decide.{ℕ_discrete}
use Rattle.pool.specs.Tally.{same, occ}
use Rattle.pool.specs.Laws.TallyLaws.{same_le}
use Rattle.pool.specs.Pool.{Cell, at, put, kind_of, count_of, next_of, Live, InPool, sends, into, StepOf, Step, Walk, Chain, mark}
use Rattle.pool.specs.Laws.Edit.{put-length, put_same, put_other, put-tally, mark-cell, mark-other}
use Rattle.pool.specs.Laws.Arrows.{Chain_frame, Walk-map, Walk-last, step-into}

abbrev pub Acyclic : List Cell → Type 0
Acyclic cs = (c n : ℕ) → Walk cs (suc n) c c → ⊥

-- every count is that of the arrows: so what no cell is, or is free, is named by nothing
abbrev pub Law : List Cell → (ℕ → ℕ) → Type 0
Law cs r = (c : ℕ) → c ≢ 0 → count_of cs c ≡ r c + into cs c

pub record Held (f : ℕ) (cs : List Cell) (r a : ℕ → ℕ) : Type 0 where
  pub law : Law cs r
  pub kinds : (c : ℕ) → Live cs c → kind_of cs c ≤ 1
  pub chain : (fs : List ℕ) × Chain cs f fs × ((c : ℕ) → occ fs c + a c ≡ mark cs c)
  pub acyclic : Acyclic cs

-- only how often each cell is named counts
pub reroot : (f : ℕ) (cs : List Cell) (r a r' a' : ℕ → ℕ) → Held f cs r a → ((d : ℕ) → d ≢ 0 → r' d ≡ r d) → ((d : ℕ) → a' d ≡ a d) → Held f cs r' a'
reroot f cs r a r' a' h e g = record {
  law = λ c n. omega (arith, h.law c n, e c n);
  kinds = h.kinds;
  chain = (h.chain.0, h.chain.1, λ c. omega (arith, h.chain.2 c, g c));
  acyclic = h.acyclic;
}

-- what a root or a live cell names is null or live
pub root_live : (f : ℕ) (cs : List Cell) (r a : ℕ → ℕ) (c : ℕ) → Held f cs r a → c ≢ 0 → 0 < r c → Live cs c
root_live f cs r a c h n l = omega (arith, h.law c n)

pub step_live : (f : ℕ) (cs : List Cell) (r a : ℕ → ℕ) (b d : ℕ) → Held f cs r a → d ≢ 0 → Step cs b d → Live cs d
step_live f cs r a b d h n s = omega (arith, h.law d n, step-into cs b d s)

-- one cell replaced

module _ (cs : List Cell) (c : ℕ) (y : Cell) (inside : InPool cs c) where
  put-here : at (put cs c y) c ≡ y
  put-here = put_same cs c y inside.0 inside.1

  -- if no step is new, no walk is
  old_steps : ((d : ℕ) → StepOf y d → Step cs c d) → (b d : ℕ) → Step (put cs c y) b d → Step cs b d
  old_steps old b d s = go (ℕ_discrete b c)
    where
      go : Dec (b ≡ c) → Step cs b d
      go (yes e) =
          let s' : Step (put cs c y) c d = rw e at s in
          rw e (old d (subst (λ x. StepOf x d) put-here s'))
      go (no n) = subst (λ x. StepOf x d) (put_other cs c b y n) s

  pub put_acyclic : Acyclic cs → ((d : ℕ) → StepOf y d → Step cs c d) → Acyclic (put cs c y)
  put_acyclic h old b n w = h b n (Walk-map (put cs c y) cs (old_steps old) (suc n) b b w)

  -- if nothing leads to c, no walk comes back to it, nor goes through it
  avoiding : ((b : ℕ) → Step (put cs c y) b c → ⊥) → (n b d : ℕ) → b ≢ c → Walk (put cs c y) n b d → Walk cs n b d
  unfolding Walk
  avoiding src zero b d m w = w
  avoiding src (suc n) b d m w =
      (w.0, subst (λ x. StepOf x w.0) (put_other cs c b y m) w.1, avoiding src n w.0 d (λ e. src b (subst (Step (put cs c y) b) e w.1)) w.2)

  pub source_acyclic : Acyclic cs → ((b : ℕ) → Step (put cs c y) b c → ⊥) → Acyclic (put cs c y)
  source_acyclic h src b n w = go (ℕ_discrete b c)
    where
      go : Dec (b ≡ c) → ⊥
      go (yes e) = let (u, s) = Walk-last (put cs c y) n b b w in src u (subst (Step (put cs c y) u) e s)
      go (no m) = h b n (avoiding src (suc n) b b m w)

  pub put_law : (r r' : ℕ → ℕ)
      → Law cs r
      → r' c + sends c y + count_of cs c ≡ r c + sends c (at cs c) + y.count
      → ((d : ℕ) → d ≢ c → d ≢ 0 → r' d + sends d y ≡ r d + sends d (at cs c))
      → Law (put cs c y) r'
  put_law r r' law at_c at_others d n = go (ℕ_discrete d c)
    where
      sum : (d : ℕ) → into (put cs c y) d + sends d (at cs c) ≡ into cs d + sends d y
      sum d = put-tally (sends d) cs c y inside.0 inside.1

      go : Dec (d ≡ c) → count_of (put cs c y) d ≡ r' d + into (put cs c y) d
      go (yes e) =
          let k : count_of (put cs c y) c ≡ r' c + into (put cs c y) c = omega (arith, sum c, law c (omega arith), ap (λ x. x.count) put-here, at_c) in
          rw e k
      go (no m) = omega (arith, sum d, law d n, ap (λ x. x.count) (put_other cs c d y m), at_others d m n)

  pub Held-put : (f : ℕ) (r a r' a' : ℕ → ℕ)
      → Held f cs r a
      → r' c + sends c y + count_of cs c ≡ r c + sends c (at cs c) + y.count
      → ((d : ℕ) → d ≢ c → d ≢ 0 → r' d + sends d y ≡ r d + sends d (at cs c))
      → (0 < y.count → y.kind ≤ 1)
      → (0 < a c) ⊎ (y.next ≡ next_of cs c)
      → a' c + same (count_of cs c) 0 ≡ a c + same y.count 0
      → ((d : ℕ) → d ≢ c → a' d ≡ a d)
      → Acyclic (put cs c y)
      → Held f (put cs c y) r' a'
  Held-put f r a r' a' h at_c at_others kind next aside_c aside-others acyclic = record {
    law = put_law r r' h.law at_c at_others;
    kinds = λ d l. kinds d l (ℕ_discrete d c);
    chain = (h.chain.0, Chain_frame cs (put cs c y) f h.chain.0 (λ g o. nexts g o (ℕ_discrete g c)) h.chain.1, λ d. marks d (ℕ_discrete d c));
    acyclic = acyclic;
  }
    where
      kinds : (d : ℕ) → Live (put cs c y) d → Dec (d ≡ c) → kind_of (put cs c y) d ≤ 1
      kinds d l (yes e) =
          let l' : Live (put cs c y) c = rw e at l in
          let k : kind_of (put cs c y) c ≤ 1 = rw (put-here, kind_of) (kind (omega (arith, l', ap (λ x. x.count) put-here))) in rw e k
      kinds d l (no m) = omega (arith, ap (λ x. x.kind) (put_other cs c d y m), h.kinds d (omega (arith, l, ap (λ x. x.count) (put_other cs c d y m))))

      nexts : (g : ℕ) → 0 < occ h.chain.0 g → Dec (g ≡ c) → next_of (put cs c y) g ≡ next_of cs g
      nexts g o (no m) = ap (λ x. x.next) (put_other cs c g y m)
      nexts g o (yes e) = rw e (go next)
        where
          go : (0 < a c) ⊎ (y.next ≡ next_of cs c) → next_of (put cs c y) c ≡ next_of cs c
          go (inr k) = ap (λ x. x.next) put-here ∙ k
          go (inl k) =
              let o' : 0 < occ h.chain.0 c = rw e at o in
              absurd (omega (arith, h.chain.2 c, mark-cell cs c inside.0 inside.1, same_le (count_of cs c) 0))

      marks : (d : ℕ) → Dec (d ≡ c) → occ h.chain.0 d + a' d ≡ mark (put cs c y) d
      marks d (no m) = omega (arith, h.chain.2 d, mark-other cs c d y m, aside-others d m)
      marks d (yes e) =
          let len : c ≤ length (put cs c y) = rw put-length inside.1 in
          let k : occ h.chain.0 c + a' c ≡ mark (put cs c y) c = omega (
            arith,
            h.chain.2 c,
            mark-cell cs c inside.0 inside.1,
            mark-cell (put cs c y) c inside.0 len,
            ap (λ x. same
                x.count 0) put-here,
            aside_c,
          ) in
          rw e k
