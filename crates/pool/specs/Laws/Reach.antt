-- What finite and acyclic gives: every live cell stands for a list, and every live cell is reached from a root.
use Rattle.std.specs.Prelude.{◌≡◌, ◌≢◌, Bool, true, false, cond, eqb, T}
use Rattle.std.proofs.Math.Path.{refl}
use Rattle.std.proofs.Common.{◌∙◌, eq-eqb, ne_eqb, eqb→eq}
use Rattle.std.proofs.Math.Logic.{inl, inr}
use mathlib.Core.List.{List, [], ◌∷◌}
use Prim.Native.Nat.{ℕ, zero, suc, ◌+◌, ◌≤◌, ◌<◌}
use Rattle.std.proofs.Math.Decide.{ℕ_discrete}
use native.Mathlib.Omega.{arith}
use Rattle.std.proofs.Math.ListN.{length}
use Rattle.lists.specs.Lst.{Lst, nil, atom, list, len, path}
use Rattle.lists.specs.Laws.LstLaws.{len-path}
use Rattle.pool.specs.Tally.{same, tally, occ}
use Rattle.pool.specs.Laws.TallyLaws.{same_eq, same_ne, Same, eq, ne, same?, same_pos}
use Rattle.pool.specs.Pool.{Cell, at, kind_of, elem_of, count_of, next_of, Live, NullOrLive, ListAt, gives, sends, StepOf, Step, Walk, into}
use Rattle.pool.specs.Operations.{item, list_from}
use Rattle.pool.specs.Laws.Edit.{find_tally, live_cell}
use Rattle.pool.specs.Laws.Held.{Acyclic, Law, Held, step_live}
use Rattle.pool.specs.Laws.Arrows.{Walk_snoc, sends_live, sends-free}

-- pigeons: a list with no number twice and all of them from 1 to n is no longer than n

unfoldable pub upto : ℕ → (ℕ → ℕ) → ℕ
upto zero f = 0
upto (suc n) f = upto n f + f (suc n)

upto_zero : (n : ℕ) → upto n (λ c. 0) ≡ 0
unfolding upto
upto_zero zero = refl
upto_zero (suc n) = let e = upto_zero n in omega arith

pub upto_add : (n : ℕ) (f g : ℕ → ℕ) → upto n (λ c. f c + g c) ≡ upto n f + upto n g
unfolding upto
upto_add zero f g = omega arith
upto_add (suc n) f g = let e = upto_add n f g in omega arith

upto-past : (n v : ℕ) → n < v → upto n (same v) ≡ 0
unfolding upto
upto-past zero v h = refl
upto-past (suc n) v h = omega (arith, upto-past n v (omega arith), same_ne v (suc n) (omega arith))

pub upto-same : (n v : ℕ) → 0 < v → v ≤ n → upto n (same v) ≡ 1
unfolding upto
upto-same zero v h k = absurd (omega arith)
upto-same (suc n) v h k = go (same? v (suc n)) (upto-same n v h)
  where
    go : Same v (suc n) → (v ≤ n → upto n (same v) ≡ 1) → upto n (same v) + same v (suc n) ≡ 1
    go (eq e q) r = omega (arith, upto-past n v (omega arith))
    go (ne m q) r = omega (arith, r (omega arith))

upto_le : (n : ℕ) (f : ℕ → ℕ) → ((c : ℕ) → f c ≤ 1) → upto n f ≤ n
unfolding upto
upto_le zero f h = omega arith
upto_le (suc n) f h = omega (arith, upto_le n f h, h (suc n))

pub upto-occ : (n : ℕ) (vs : List ℕ) → ((v : ℕ) → 0 < occ vs v → (0 < v) × (v ≤ n)) → upto n (occ vs) ≡ length vs
unfolding tally
upto-occ n [] h = upto_zero n
upto-occ n (v ∷ vs) h =
    let (lo, hi) = h v (omega (arith, same_eq v)) in
    omega (arith, upto_add n (same v) (occ vs), upto-same n v lo hi, upto-occ n vs (λ w k. h w (omega arith)))

pub pigeons : (n : ℕ) (vs : List ℕ) → ((v : ℕ) → occ vs v ≤ 1) → ((v : ℕ) → 0 < occ vs v → (0 < v) × (v ≤ n)) → length vs ≤ n
pigeons n vs one h = omega (arith, upto_le n (occ vs) one, upto-occ n vs h)

-- arrows and steps

pub gives-step : (d : ℕ) (x : Cell) → 0 < x.count → 0 < gives d x → StepOf x d
unfolding gives
gives-step d x l h = go (same? x.next d) (ℕ_discrete x.kind 1)
  where
    go : Same x.next d → Dec (x.kind ≡ 1) → StepOf x d
    go (eq e q) _ = (l, inl e)
    go (ne m q) (yes k) =
        let z : 0 < 0 + cond (eqb 1 1) (same x.elem d) 0 = rw (q, k) at h in
        (l, inr (k, same_pos x.elem d (omega arith)))
    go (ne m q) (no k) = absurd (omega (arith, off x.kind (same x.elem d) k))
      where
        offb : (b : Bool) (n : ℕ) → (T b → ⊥) → cond b n 0 ≡ 0
        offb true n f = absurd (f tt)
        offb false n f = refl

        off : (k n : ℕ) → k ≢ 1 → cond (eqb k 1) n 0 ≡ 0
        off k n f = offb (eqb k 1) n (λ t. f (eqb→eq k 1 t))

pub into-step : (cs : List Cell) (d : ℕ) → 0 < into cs d → (b : ℕ) × Step cs b d
into-step cs d h = go (find_tally (sends d) cs h)
  where
    go : (b : ℕ) × (0 < sends d (at cs b)) → (b : ℕ) × Step cs b d
    go (b, k) = (b, at_b (ℕ_discrete (count_of cs b) 0))
      where
        at_b : Dec (count_of cs b ≡ 0) → Step cs b d
        at_b (yes z) = absurd (omega (arith, sends-free d (at cs b) z))
        at_b (no z) = gives-step d (at cs b) (omega arith) (omega (arith, sends_live d (at cs b) (omega arith)))

null_or_live : (cs : List Cell) (c : ℕ) → (c ≢ 0 → Live cs c) → NullOrLive cs c
null_or_live cs c g = go (ℕ_discrete c 0)
  where
    go : Dec (c ≡ 0) → NullOrLive cs c
    go (yes e) = inl e
    go (no n) = inr (g n)

pub next_ok : (f : ℕ) (cs : List Cell) (r a : ℕ → ℕ) (c : ℕ) → Held f cs r a → Live cs c → NullOrLive cs (next_of cs c)
next_ok f cs r a c h l = null_or_live cs (next_of cs c) (λ n. step_live f cs r a c (next_of cs c) h n (l, inl refl))

pub elem_ok : (f : ℕ) (cs : List Cell) (r a : ℕ → ℕ) (c : ℕ) → Held f cs r a → Live cs c → kind_of cs c ≡ 1 → NullOrLive cs (elem_of cs c)
elem_ok f cs r a c h l k = null_or_live cs (elem_of cs c) (λ n. step_live f cs r a c (elem_of cs c) h n (l, inr (k, refl)))

-- cells visited: none twice

new : (vs : List ℕ) (c : ℕ) → ((v : ℕ) → occ vs v ≤ 1) → (0 < occ vs c → ⊥) → (v : ℕ) → occ (c ∷ vs) v ≤ 1
unfolding tally
new vs c one out v = go (same? c v)
  where
    go : Same c v → same c v + occ vs v ≤ 1
    go (ne m q) = omega (arith, one v)
    go (eq e q) = zero-there (ℕ_discrete (occ vs c) 0)
      where
        zero-there : Dec (occ vs c ≡ 0) → same c v + occ vs v ≤ 1
        zero-there (yes z) = let z' : occ vs v ≡ 0 = rw e at z in omega arith
        zero-there (no z) = absurd (out (omega arith))

module _ (cs : List Cell) where
  -- those of vs are live, none twice, and each goes on to c
  abbrev Before : List ℕ → ℕ → Type 0
  Before vs c = (v : ℕ) → 0 < occ vs v → Live cs v × ((n : ℕ) × Walk cs (suc n) v c)

  before-step : (vs : List ℕ) (c d : ℕ) → Live cs c → Step cs c d → Before vs c → Before (c ∷ vs) d
  unfolding tally Walk
  before-step vs c d l s b v k = go (same? c v)
    where
      go : Same c v → Live cs v × ((n : ℕ) × Walk cs (suc n) v d)
      go (eq e q) = let w : Live cs c × ((n : ℕ) × Walk cs (suc n) c d) = (l, (0, (d, s, refl))) in rw e at w
      go (ne m q) = let (lv, (n, w)) = b v (omega arith) in (lv, (suc n, Walk_snoc cs (suc n) v c d w s))

  abbrev After : List ℕ → ℕ → Type 0
  After vs c = (v : ℕ) → 0 < occ vs v → Live cs v × ((n : ℕ) × Walk cs (suc n) c v)

  after-step : (vs : List ℕ) (b c : ℕ) → Live cs c → Step cs b c → After vs c → After (c ∷ vs) b
  unfolding tally Walk
  after-step vs b c l s g v k = go (same? c v)
    where
      go : Same c v → Live cs v × ((n : ℕ) × Walk cs (suc n) b v)
      go (eq e q) = let w : Live cs c × ((n : ℕ) × Walk cs (suc n) b c) = (l, (0, (c, s, refl))) in rw e at w
      go (ne m q) = let (lv, (n, w)) = g v (omega arith) in (lv, (suc n, (c, s, w)))

  too_many : (vs : List ℕ) (c : ℕ) → ((v : ℕ) → occ vs v ≤ 1) → ((v : ℕ) → 0 < occ vs v → Live cs v) → length cs < length vs → ⊥
  too_many vs c one b m =
      let k = pigeons (length cs) vs one (λ v o. live_cell cs v (b v o)) in omega arith

-- every live cell is reached from a root

module _ (cs : List Cell) (r : ℕ → ℕ) (law : Law cs r) (acyclic : Acyclic cs) where
  abbrev pub Rooted : ℕ → Type 0
  Rooted c = (b : ℕ) × (b ≢ 0) × (0 < r b) × ((n : ℕ) × Walk cs n b c)

  roots : (k : ℕ) (vs : List ℕ) (c : ℕ) → ((v : ℕ) → occ vs v ≤ 1) → After cs vs c → Live cs c → length cs < length vs + k → Rooted c
  unfolding Walk
  roots zero vs c one g l m = absurd (too_many cs vs c one (λ v q. (g v q).0) (omega arith))
  roots (suc k) vs c one g l m =
      go (λ b s. roots k (c ∷ vs) b (new vs c one (λ o. acyclic c (g c o).1.0 (g c o).1.1)) (after-step cs vs b c l s g) s.0 (omega arith))
      (ℕ_discrete (r c) 0)
    where
      go : ((b : ℕ) → Step cs b c → Rooted b) → Dec (r c ≡ 0) → Rooted c
      go up (no n) = (c, omega (arith, live_cell cs c l), omega arith, (0, refl))
      go up (yes z) =
          let (b, s) = into-step cs c (omega (arith, law c (omega (arith, live_cell cs c l)))) in
          let (u, nu, ru, (n, w)) = up b s in
          (u, nu, ru, (suc n, Walk_snoc cs n u b c w s))

  pub rooted : (c : ℕ) → Live cs c → Rooted c
  unfolding tally
  rooted c l = roots (suc (length cs)) [] c (λ v. omega arith) (λ v k. absurd (omega arith)) l (omega arith)

-- lists

module _ (f : ℕ) (cs : List Cell) (r a : ℕ → ℕ) (h : Held f cs r a) where
  -- a cell is new to those that go on to it
  fresh-cell : (c : ℕ) (vs : List ℕ) → ((v : ℕ) → occ vs v ≤ 1) → Before cs vs c → (v : ℕ) → occ (c ∷ vs) v ≤ 1
  fresh-cell c vs one b = new vs c one (λ o. h.acyclic c (b c o).1.0 (b c o).1.1)

  lists : (k : ℕ) (vs : List ℕ) (c : ℕ) → ((v : ℕ) → occ vs v ≤ 1) → Before cs vs c → NullOrLive cs c → length cs < length vs + k → (l : Lst) × ListAt cs c l
  unfolding ListAt
  lists zero vs c one b o m = absurd (too_many cs vs c one (λ v q. (b v q).0) (omega arith))
  lists (suc k) vs c one b (inl e) m = (nil, e)
  lists (suc k) vs c one b (inr l) m =
      let one' = fresh-cell c vs one b in
      go one'
      (λ q. lists k (c ∷ vs) (next_of cs c) one' (before-step cs vs c (next_of cs c) l (l, inl refl) b) (next_ok f cs r a c h l) q)
      (λ t q. lists k (c ∷ vs) (elem_of cs c) one' (before-step cs vs c (elem_of cs c) l (l, inr (t, refl)) b) (elem_ok f cs r a c h l t) q)
      (ℕ_discrete (kind_of cs c) 0)
    where
      go : ((v : ℕ) → occ (c ∷ vs) v ≤ 1)
          → (length cs < length (c ∷ vs) + k → (m : Lst) × ListAt cs (next_of cs c) m)
          → (kind_of cs c ≡ 1 → length cs < length (c ∷ vs) + k → (e : Lst) × ListAt cs (elem_of cs c) e)
          → Dec (kind_of cs c ≡ 0) → (l : Lst) × ListAt cs c l
      go _ tail item (yes t) = let (ls, q) = tail (omega arith) in (atom (elem_of cs c) ls, (l, t, refl, q))
      go _ tail item (no t) =
          let t' : kind_of cs c ≡ 1 = omega (arith, h.kinds c l) in
          let (ls, q) = tail (omega arith) in
          let (e, s) = item t' (omega arith) in
          (list e ls, (l, t', s, q))

  pub list_of : (c : ℕ) → NullOrLive cs c → (l : Lst) × ListAt cs c l
  unfolding tally
  list_of c o = lists (suc (length cs)) [] c (λ v. omega arith) (λ v k. absurd (omega arith)) o (omega arith)

  -- a way through a list is no longer than the pool
  paths : (l : Lst) (vs : List ℕ) (c : ℕ) → ((v : ℕ) → occ vs v ≤ 1) → Before cs vs c → ListAt cs c l → length vs + path l ≤ length cs
  unfolding ListAt path
  paths nil vs c one b e =
      let k = pigeons (length cs) vs one (λ v o. live_cell cs v (b v o).0) in omega arith
  paths (atom v l) vs c one b h' =
      let k = paths l (c ∷ vs) (next_of cs c) (fresh-cell c vs one b) (before-step cs vs c (next_of cs c) h'.0 (h'.0, inl refl) b) h'.3 in omega arith
  paths (list e l) vs c one b h' =
      let k = paths l (c ∷ vs) (next_of cs c) (fresh-cell c vs one b) (before-step cs vs c (next_of cs c) h'.0 (h'.0, inl refl) b) h'.3 in
      let i = paths e (c ∷ vs) (elem_of cs c) (fresh-cell c vs one b) (before-step cs vs c (elem_of cs c) h'.0 (h'.0, inr (h'.1, refl)) b)
      h'.2 in omega arith

  pub path_le : (l : Lst) (c : ℕ) → ListAt cs c l → path l ≤ length cs
  unfolding tally
  path_le l c k = let m = paths l [] c (λ v. omega arith) (λ v o. absurd (omega arith)) k in omega arith

  -- so is a main level
  pub len_le : (l : Lst) (c : ℕ) → ListAt cs c l → len l ≤ length cs
  len_le l c k = omega (arith, path_le l c k, len-path l)

-- the steps of reading a list off a pool
null_list_lem : (k : ℕ) (cs : List Cell) → list_from k cs 0 ≡ nil
unfolding list_from
null_list_lem zero cs = refl
null_list_lem (suc k) cs = refl

read-atom : (k : ℕ) (cs : List Cell) (c : ℕ) → Live cs c → kind_of cs c ≡ 0 → list_from (suc k) cs c ≡ atom (elem_of cs c) (list_from k cs (next_of cs c))
unfolding list_from
read-atom k cs zero l e = absurd (omega (arith, live_cell cs zero l))
read-atom k cs (suc i) l e = rw (eq-eqb (kind_of cs (suc i)) 0 e)

read_list : (k : ℕ) (cs : List Cell) (c : ℕ) → Live cs c → kind_of cs c ≡ 1
    → list_from (suc k) cs c ≡ list (list_from k cs (elem_of cs c)) (list_from k cs (next_of cs c))
unfolding list_from
read_list k cs zero l e = absurd (omega (arith, live_cell cs zero l))
read_list k cs (suc i) l e = rw (ne_eqb (kind_of cs (suc i)) 0 (omega arith))

-- read off a pool, a list is the one that the number stands for
pub list_from_is : (l : Lst) (k : ℕ) (cs : List Cell) (c : ℕ) → path l ≤ k → ListAt cs c l → list_from k cs c ≡ l
unfolding ListAt path
list_from_is nil k cs c m h = rw h (null_list_lem k cs)
list_from_is (atom v l) zero cs c m h = absurd (omega arith)
list_from_is (list e l) zero cs c m h = absurd (omega arith)
list_from_is (atom v l) (suc k) cs c m h =
    let q = list_from_is l k cs (next_of cs c) (omega arith) h.3 in
    read-atom k cs c h.0 h.1 ∙ cc (q, h.2)
list_from_is (list e l) (suc k) cs c m h =
    let q = list_from_is l k cs (next_of cs c) (omega arith) h.3 in
    let g = list_from_is e k cs (elem_of cs c) (omega arith) h.2 in
    read_list k cs c h.0 h.1 ∙ cc (q, g)
