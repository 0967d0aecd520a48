-- What holds of the test as it is run: it drops roots as Peels does, unless it has failed, and it does not fail where counts and types are right.
use Rattle.std.specs.Prelude.{◌≡◌, refl, ◌≢◌, Bool, true, false, cond, ◌&&◌, List, [], ◌∷◌, ℕ, zero, suc, ◌+◌, ◌≤◌, ◌<◌, eqb, leb}
use Rattle.std.proofs.Common.{sym, ap, ◌∙◌, subst, arith, drop-cons, leb-true, le-leb}
use Rattle.std.proofs.lemmas.Bool.{false≢true}
use Rattle.std.proofs.Math.Decide.{ℕ_discrete}
use lib.ListN.{length, get_or}
use Rattle.std.proofs.Math.Seq.{drop-length}
use Rattle.pool.specs.Tally.{same, tally, occ}
use Rattle.pool.specs.Laws.TallyLaws.{same_eq, same_ne, Same, eq, ne, same?}
use Rattle.pool.specs.Pool.{Cell, Pool, at, put, kind_of, count_of, next_of, counted, set_count, InPool, Live, if_live, gives, sends, lives, into}
use Rattle.pool.specs.Check.{Peeling, lowered, meet, arrow, taken, pop, popped, turns, named, unmet, after_holders}
use Rattle.pool.specs.Laws.Edit.{put-length, put_same, put_other, put-tally, at-tally, find_tally, live_cell}
use Rattle.pool.specs.Laws.Held.{Acyclic, Law}
use Rattle.pool.specs.Laws.Arrows.{if_live_pos, if_live-zero, sends_live, sends-free, gives-counted}
use Rattle.pool.specs.Laws.Reach.{into-step}
use Rattle.pool.specs.Laws.Frame.{put-cases, put-lives}
use Rattle.pool.specs.Laws.Peel.{Peels, done, skip, less, away, Peels_law, peeled}

pub and_both : (a b : Bool) → (a && b) ≡ true → (a ≡ true) × (b ≡ true)
and_both true b h = (refl, h)
and_both false b h = absurd (false≢true h)

pub and_of : (a b : Bool) → a ≡ true → b ≡ true → (a && b) ≡ true
and_of true b h k = k
and_of false b h k = absurd (false≢true h)

pub Peels_then : {cs ds es : List Cell} {r s u : ℕ → ℕ} → Peels cs r ds s → Peels ds s es u → Peels cs r es u
Peels_then done k = k
Peels_then (skip e t) k = skip e (Peels_then t k)
Peels_then (less x j e roots t) k = less x j e roots (Peels_then t k)
Peels_then (away x e l roots t) k = away x e l roots (Peels_then t k)

-- the arrows to d that the stacked cells have still to meet
abbrev pub owed : List Cell → List ℕ → ℕ → ℕ
owed cs xs d = tally (λ c. gives d (at cs c)) xs

-- the types of live cells
abbrev pub Typed : List Cell → Type 0
Typed cs = (c : ℕ) → Live cs c → kind_of cs c ≤ 1

-- r₀ are the roots at the start, rest those that are left beside what the stack owes
pub record PeelInv (cs : List Cell) (r₀ rest : ℕ → ℕ) (st : Peeling) : Type 0 where
  pub size : length st.cells ≡ length cs
  pub alike : (c : ℕ) → counted (at st.cells c) 0 ≡ counted (at cs c) 0
  pub falls : (c : ℕ) → Live st.cells c → Live cs c
  pub waits : (c : ℕ) → 0 < occ st.stack c → Live cs c
  pub number : st.gone + length st.stack + lives st.cells ≡ lives cs
  pub peels : st.ok ≡ true → Peels cs r₀ st.cells (λ d. owed cs st.stack d + rest d)
  pub typed : st.ok ≡ true → (c : ℕ) → Live cs c → count_of st.cells c ≡ 0 → occ st.stack c ≡ 0 → kind_of cs c ≤ 1
  pub never : Law cs r₀ → Typed cs → st.ok ≡ true

gives_alike : (d : ℕ) (x y : Cell) → counted x 0 ≡ counted y 0 → gives d x ≡ gives d y
gives_alike d x y e = sym (gives-counted d x 0) ∙ ap (gives d) e ∙ gives-counted d y 0

pub meet-inv : (cs : List Cell) (r₀ rest rest' : ℕ → ℕ) (x : ℕ) (st : Peeling) → PeelInv cs r₀ rest st
    → ((d : ℕ) → d ≢ 0 → rest d ≡ same x d + rest' d) → PeelInv cs r₀ rest' (meet x st)
unfolding meet lowered tally
meet-inv cs r₀ rest rest' zero st i q = record {
  size = i.size;
  alike = i.alike;
  falls = i.falls;
  waits = i.waits;
  number = i.number;
  peels = λ o. Peels_then (i.peels o) (skip (λ d n. omega (arith, q d n, same_ne 0 d (λ e. n (sym e)))) done);
  typed = i.typed;
  never = i.never;
}
meet-inv cs r₀ rest rest' (suc j) st i q = go (count_of st.cells (suc j)) refl
  where
    x : ℕ
    x = suc j

    ds : List Cell
    ds = st.cells

    alike_set : (k : ℕ) → InPool ds x → (c : ℕ) → counted (at (set_count ds x k) c) 0 ≡ counted (at cs c) 0
    alike_set k h = put-cases ds x (counted (at ds x) k) h (λ c u. counted u 0 ≡ counted (at cs c) 0) (i.alike x) i.alike

    -- a count that was not 0 set
    falls_set : (k : ℕ) → InPool ds x → 0 < count_of ds x → (c : ℕ) → Live (set_count ds x k) c → Live cs c
    falls_set k h l = put-cases ds x (counted (at ds x) k) h (λ c u. 0 < u.count → Live cs c) (λ n. i.falls x l) i.falls

    typed_set : (k : ℕ) (xs : List ℕ) → InPool ds x → st.ok ≡ true → 0 < k + occ xs x → ((c : ℕ) → occ xs c ≡ 0 → occ st.stack c ≡ 0)
        → (c : ℕ) → Live cs c → count_of (set_count ds x k) c ≡ 0 → occ xs c ≡ 0 → kind_of cs c ≤ 1
    typed_set k xs h o l s =
        put-cases ds x (counted (at ds x) k) h (λ c u. Live cs c → u.count ≡ 0 → occ xs c ≡ 0 → kind_of cs c ≤ 1) (λ m z w. absurd (omega arith))
        (λ c m z w. i.typed o c m z (s c w))

    go : (n : ℕ) → count_of ds x ≡ n → PeelInv cs r₀ rest' (lowered st x n)
    go zero e = record {
      size = i.size;
      alike = i.alike;
      falls = i.falls;
      waits = i.waits;
      number = i.number;
      peels = λ o. absurd (false≢true o);
      typed = λ o. absurd (false≢true o);
      never = λ law t. absurd (omega (arith, Peels_law (i.peels (i.never law t)) law x (omega arith), q x (omega arith), same_eq x));
    }
    go (suc zero) e =
        let h = live_cell ds x (omega arith) in
        record {
          size = put-length ds x (counted (at ds x) 0) ∙ i.size;
          alike = alike_set 0 h;
          falls = falls_set 0 h (omega arith);
          waits = λ c o. more c o (same? x c);
          number = omega (arith, i.number, put-lives ds x (counted (at ds x) 0) h, if_live_pos (count_of ds x) 1 (omega arith), if_live-zero 0 1 refl);
          peels = λ o. Peels_then (i.peels o)
              (away x e (omega (arith, q x (omega arith), same_eq x)) (λ d n. omega (arith, q d n, gives_alike d (at ds x) (at cs x) (i.alike x))) done);
          typed = λ o. typed_set 0 (x ∷ st.stack) h o (omega (arith, same_eq x)) (λ c z. omega arith);
          never = i.never;
        }
      where
        more : (c : ℕ) → 0 < occ (x ∷ st.stack) c → Same x c → Live cs c
        more c o (eq u s) = subst (Live cs) u (i.falls x (omega arith))
        more c o (ne u s) = i.waits c (omega arith)
    go (suc (suc k)) e =
        let h = live_cell ds x (omega arith) in
        record {
          size = put-length ds x (counted (at ds x) (suc k)) ∙ i.size;
          alike = alike_set (suc k) h;
          falls = falls_set (suc k) h (omega arith);
          waits = i.waits;
          number = omega (arith, i.number, put-lives ds x (counted (at ds x) (suc k)) h, if_live_pos (count_of ds x) 1 (omega arith), if_live_pos (suc k) 1 (omega arith));
          peels = λ o. Peels_then (i.peels o) (less x k e (λ d n. omega (arith, q d n)) done);
          typed = λ o. typed_set (suc k) st.stack h o (omega arith) (λ c z. z);
          never = i.never;
        }

-- a cell taken off the stack

pub gives-arrow : (d : ℕ) (x : Cell) → d ≢ 0 → gives d x ≡ same x.next d + same (arrow x) d
unfolding gives arrow
gives-arrow d x n = omega (arith, go (eqb x.kind 1) x.elem)
  where
    go : (b : Bool) (e : ℕ) → cond b (same e d) 0 ≡ same (cond b e 0) d
    go true e = refl
    go false e = sym (same_ne 0 d (λ q. n (sym q)))

pub taken-inv : (cs : List Cell) (r₀ rest : ℕ → ℕ) (st : Peeling) (c : ℕ) (xs : List ℕ) → PeelInv cs r₀ rest st → st.stack ≡ c ∷ xs
    → PeelInv cs r₀ (λ d. gives d (at cs c) + rest d) (taken cs st c xs)
unfolding tally
taken-inv cs r₀ rest st c xs i e = record {
  size = i.size;
  alike = i.alike;
  falls = i.falls;
  waits = λ d o. i.waits d (omega (arith, ap (λ u. occ u d) e));
  number = omega (arith, i.number, ap length e);
  peels = λ o. Peels_then (i.peels (and_both (leb (kind_of cs c) 1) st.ok o).1) (skip (λ d n. omega (arith, ap (λ u. owed cs u d) e)) done);
  typed = λ o d l z w. fine (and_both (leb (kind_of cs c) 1) st.ok o) d l z w (same? c d);
  never = λ law t. and_of (leb (kind_of cs c) 1) st.ok (le-leb (kind_of cs c) 1 (t c (i.waits c (omega (arith, ap (λ u. occ u c) e, same_eq c)))))
      (i.never law t);
}
  where
    fine : (leb (kind_of cs c) 1 ≡ true) × (st.ok ≡ true) → (d : ℕ) → Live cs d → count_of st.cells d ≡ 0 → occ xs d ≡ 0 → Same c d → kind_of cs d ≤ 1
    fine o d l z w (eq u s) = subst (λ v. kind_of cs v ≤ 1) u (leb-true (kind_of cs c) 1 o.0)
    fine o d l z w (ne u s) = i.typed o.1 d l z (omega (arith, ap (λ v. occ v d) e))

pub popped-inv : (cs : List Cell) (r₀ rest : ℕ → ℕ) (st : Peeling) → PeelInv cs r₀ rest st → PeelInv cs r₀ rest (popped cs st)
unfolding popped pop
popped-inv cs r₀ rest st i = go st.stack refl
  where
    go : (xs : List ℕ) → st.stack ≡ xs → PeelInv cs r₀ rest (pop cs xs st)
    go [] e = i
    go (c ∷ xs) e =
        meet-inv cs r₀ (λ d. same (next_of cs c) d + rest d) rest (next_of cs c) (meet (arrow (at cs c)) (taken cs st c xs))
        (meet-inv cs r₀ (λ d. gives d (at cs c) + rest d) (λ d. same (next_of cs c) d + rest d) (arrow (at cs c)) (taken cs st c xs)
        (taken-inv cs r₀ rest st c xs i e) (λ d n. omega (arith, gives-arrow d (at cs c) n)))
        (λ d n. refl)

pub turns-inv : (k : ℕ) (cs : List Cell) (r₀ rest : ℕ → ℕ) (st : Peeling) → PeelInv cs r₀ rest st → PeelInv cs r₀ rest (turns k cs st)
unfolding turns
turns-inv zero cs r₀ rest st i = i
turns-inv (suc k) cs r₀ rest st i = popped-inv cs r₀ rest (turns k cs st) (turns-inv k cs r₀ rest st i)

-- the holders

pub start-inv : (cs : List Cell) (r₀ : ℕ → ℕ) → PeelInv cs r₀ r₀ (unmet cs)
unfolding tally
start-inv cs r₀ = record {
  size = refl;
  alike = λ c. refl;
  falls = λ c l. l;
  waits = λ c o. absurd (omega arith);
  number = omega arith;
  peels = λ o. skip {r = r₀} {r₁ = λ d. owed cs [] d + r₀ d} (λ d n. omega arith) done;
  typed = λ o c l z w. absurd (omega arith);
  never = λ l t. refl;
}

pub named-inv : (k : ℕ) (cs : List Cell) (hs : List ℕ) → k ≤ length hs → PeelInv cs (occ hs) (occ (lib.ListN.drop k hs)) (named k hs (unmet cs))
unfolding named tally
named-inv zero cs hs l = start-inv cs (occ hs)
named-inv (suc k) cs hs l =
    meet-inv cs (occ hs) (occ (lib.ListN.drop k hs)) (occ (lib.ListN.drop (suc k) hs)) (get_or hs k 0) (named k hs (unmet cs)) (named-inv k cs hs (omega arith))
    (λ d n. ap (λ u. occ u d) (drop-cons hs k 0 l))

reroot : (cs : List Cell) (r₀ rest rest' : ℕ → ℕ) (st : Peeling) → PeelInv cs r₀ rest st → ((d : ℕ) → rest d ≡ rest' d) → PeelInv cs r₀ rest' st
reroot cs r₀ rest rest' st i q = record {
  size = i.size;
  alike = i.alike;
  falls = i.falls;
  waits = i.waits;
  number = i.number;
  peels = λ o. Peels_then (i.peels o) (skip (λ d n. omega (arith, q d)) done);
  typed = i.typed;
  never = i.never;
}

-- after all holders no root is left but what the stack owes
pub holders_inv : (p : Pool) → PeelInv p.cells (occ p.holders) (λ d. 0) (after_holders p)
unfolding tally
holders_inv p = reroot p.cells (occ p.holders) (occ (lib.ListN.drop (length p.holders) p.holders)) (λ d. 0) (after_holders p)
    (named-inv (length p.holders) p.cells p.holders (omega arith)) (λ d. ap (λ u. occ u d) (drop-length p.holders))

-- the laws go backwards too, so the counts need no check of their own

law_back : (cs : List Cell) (c : ℕ) (y : Cell) → InPool cs c → (r r' : ℕ → ℕ)
    → Law (put cs c y) r'
    → r' c + sends c y + count_of cs c ≡ r c + sends c (at cs c) + y.count
    → ((d : ℕ) → d ≢ c → d ≢ 0 → r' d + sends d y ≡ r d + sends d (at cs c))
    → Law cs r
law_back cs c y inside r r' law at_c at_others d n = go (ℕ_discrete d c)
  where
    sum : (d : ℕ) → into (put cs c y) d + sends d (at cs c) ≡ into cs d + sends d y
    sum d = put-tally (sends d) cs c y inside.0 inside.1

    go : Dec (d ≡ c) → count_of cs d ≡ r d + into cs d
    go (yes e) =
        let k : count_of cs c ≡ r c + into cs c = omega
        (arith, sum c, law c (omega (arith, inside.0)), ap (λ x. x.count) (put_same cs c y inside.0 inside.1), at_c) in
        rw e k
    go (no m) = omega (arith, sum d, law d n, ap (λ x. x.count) (put_other cs c d y m), at_others d m n)

pub Peels_law_back : {cs ds : List Cell} {r s : ℕ → ℕ} → Peels cs r ds s → Law ds s → Law cs r
Peels_law_back done law = law
Peels_law_back (skip e t) law = let l = Peels_law_back t law in λ d n. omega (arith, l d n, e d n)
Peels_law_back (less {cs = cs} {r = r} {r₁ = r₁} x k e roots t) law =
    let inside = live_cell cs x (omega arith) in
    let y : Cell = counted (at cs x) (suc k) in
    let alike : (d : ℕ) → sends d y ≡ sends d (at cs x) = λ d. sends_live d y (omega arith) ∙ gives-counted d (at cs x) (suc k) ∙ sym
    (sends_live d (at cs x) (omega arith)) in
    law_back cs x y inside r r₁ (Peels_law_back t law) (omega (arith, alike x, roots x (omega (arith, inside.0)), same_eq x))
    (λ d n m. omega (arith, alike d, roots d m, same_ne x d (λ q. n (sym q))))
Peels_law_back (away {cs = cs} {r = r} {r₁ = r₁} x e l roots t) law =
    let inside = live_cell cs x (omega arith) in
    let y : Cell = counted (at cs x) 0 in
    let old : (d : ℕ) → sends d (at cs x) ≡ gives d (at cs x) = λ d. sends_live d (at cs x) (omega arith) in
    let now : (d : ℕ) → sends d y ≡ 0 = λ d. sends-free d y refl in
    law_back cs x y inside r r₁ (Peels_law_back t law) (omega (arith, old x, now x, roots x (omega (arith, inside.0)), same_eq x))
    (λ d n m. omega (arith, old d, now d, roots d m, same_ne x d (λ q. n (sym q))))

-- no cell is live, and none has roots
dead_law : (ds : List Cell) → ((c : ℕ) → count_of ds c ≡ 0) → Law ds (λ c. 0)
dead_law ds z c n = go (ℕ_discrete (into ds c) 0)
  where
    go : Dec (into ds c ≡ 0) → count_of ds c ≡ 0 + into ds c
    go (yes e) = omega (arith, z c)
    go (no m) = let (b, s) = into-step ds c (omega arith) in absurd (omega (arith, z b, s.0))

dead : (ds : List Cell) → lives ds ≡ 0 → (c : ℕ) → count_of ds c ≡ 0
unfolding lives
dead ds e c = go (ℕ_discrete (count_of ds c) 0)
  where
    go : Dec (count_of ds c ≡ 0) → count_of ds c ≡ 0
    go (yes z) = z
    go (no n) = absurd (omega (arith, at-tally (λ x. if_live x.count 1) ds c (if_live-zero 0 1 refl), if_live_pos (count_of ds c) 1 (omega arith)))

alive : (ds : List Cell) → ((c : ℕ) → count_of ds c ≡ 0) → lives ds ≡ 0
unfolding lives
alive ds z = go (ℕ_discrete (tally (λ x. if_live x.count 1) ds) 0)
  where
    go : Dec (tally (λ x. if_live x.count 1) ds ≡ 0) → tally (λ x. if_live x.count 1) ds ≡ 0
    go (yes e) = e
    go (no n) = let (c, l) = find_tally (λ x. if_live x.count 1) ds (omega arith) in absurd (omega (arith, if_live-zero (count_of ds c) 1 (z c)))

-- the stack is empty: what the end says
pub passed : (cs : List Cell) (r₀ : ℕ → ℕ) (st : Peeling) → PeelInv cs r₀ (λ d. 0) st → st.stack ≡ [] → st.ok ≡ true → st.gone ≡ lives cs
    → Law cs r₀ × Typed cs × Acyclic cs
unfolding tally
passed cs r₀ st i e o g =
    let z = dead st.cells (omega (arith, i.number)) in
    let t : Peels cs r₀ st.cells (λ d. 0) = Peels_then (i.peels o) (skip (λ d n. omega (arith, ap (λ u. owed cs u d) e)) done) in
    let law = Peels_law_back t (dead_law st.cells z) in
    (law, (λ c l. i.typed o c l (z c) (omega (arith, ap (λ u. occ u c) e))), (peeled t law (λ c n. refl)).0 z)

pub passes : (cs : List Cell) (r₀ : ℕ → ℕ) (st : Peeling) → PeelInv cs r₀ (λ d. 0) st → st.stack ≡ [] → Law cs r₀ → Typed cs → Acyclic cs
    → (st.ok ≡ true) × (st.gone ≡ lives cs)
unfolding tally
passes cs r₀ st i e law k a =
    let o = i.never law k in
    let t : Peels cs r₀ st.cells (λ d. 0) = Peels_then (i.peels o) (skip (λ d n. omega (arith, ap (λ u. owed cs u d) e)) done) in
    let z = (peeled t law (λ c n. refl)).1 a in
    (o, omega (arith, i.number, alive st.cells z, ap length e))
