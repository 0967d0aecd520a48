-- The main level of a list as the walks see it: its length, its counts and its last cell, one cell after another.
-- By induction on the number of its cells.
use Rattle.std.specs.Prelude.{◌≡◌, refl, ◌≢◌, Bool, true, false, ◌||◌, List, ℕ, zero, suc, ◌≤◌, ◌<◌, ltb, length}
use Rattle.std.proofs.Common.{sym, ap, ◌∙◌, true≢false, arith, ltb-false, lt-ltb, le-ltb}
use Rattle.std.proofs.Math.Decide.{ℕ_discrete}
use Rattle.lists.specs.Lst.{Lst, nil, atom, list, len}
use Rattle.pool.specs.Tally.{occ}
use Rattle.pool.specs.Pool.{Cell, Pool, count_of, next_of, holder, Live, InPool, ListAt, Sound}
use Rattle.pool.specs.Operations.{last_of, span, length_of, any_shared, shared_at}
use Rattle.pool.specs.Laws.Edit.{live_cell}
use Rattle.pool.specs.Laws.Reach.{len_le}
use Rattle.pool.specs.Laws.SoundLaws.{none_aside, sound_held, denoted}
use Rattle.pool.specs.Laws.Inverse.{Alone}
use Rattle.pool.specs.Laws.LastCell.{last_of_end, last_of-next}

-- from c on there are n live cells, and then null
unfoldable pub Level : ℕ → List Cell → ℕ → Type 0
Level zero cs c = c ≡ 0
Level (suc n) cs c = Live cs c × Level n cs (next_of cs c)

pub list_level : (cs : List Cell) (l : Lst) (c : ℕ) → ListAt cs c l → Level (len l) cs c
unfolding Level ListAt len
list_level cs nil c h = h
list_level cs (atom v l) c h = (h.0, list_level cs l (next_of cs c) h.3)
list_level cs (list e l) c h = (h.0, list_level cs l (next_of cs c) h.3)

-- one cell of a walk

span-null : (k : ℕ) (cs : List Cell) (c : ℕ) → c ≡ 0 → span k cs c ≡ 0
unfolding span
span-null zero cs c e = refl
span-null (suc k) cs zero e = refl
span-null (suc k) cs (suc i) e = absurd (omega arith)

span-next : (k : ℕ) (cs : List Cell) (c : ℕ) → Live cs c → span (suc k) cs c ≡ suc (span k cs (next_of cs c))
unfolding span
span-next k cs zero l = absurd (omega (arith, live_cell cs zero l))
span-next k cs (suc i) l = refl

shared-null : (k : ℕ) (cs : List Cell) (c : ℕ) → c ≡ 0 → any_shared k cs c ≡ false
unfolding any_shared
shared-null zero cs c e = refl
shared-null (suc k) cs zero e = refl
shared-null (suc k) cs (suc i) e = absurd (omega arith)

shared-next : (k : ℕ) (cs : List Cell) (c : ℕ) → Live cs c → any_shared (suc k) cs c ≡ (ltb 1 (count_of cs c) || any_shared k cs (next_of cs c))
unfolding any_shared
shared-next k cs zero l = absurd (omega (arith, live_cell cs zero l))
shared-next k cs (suc i) l = refl

-- as many turns as there are cells are enough

pub span_is : (n k : ℕ) (cs : List Cell) (c : ℕ) → n ≤ k → Level n cs c → span k cs c ≡ n
unfolding Level
span_is zero k cs c s w = span-null k cs c w
span_is (suc n) zero cs c s w = absurd (omega arith)
span_is (suc n) (suc k) cs c s w = span-next k cs c w.0 ∙ ap suc (span_is n k cs (next_of cs c) (omega arith) w.1)

shared_enough : (n j k : ℕ) (cs : List Cell) (c : ℕ) → n ≤ j → n ≤ k → Level n cs c → any_shared j cs c ≡ any_shared k cs c
unfolding Level
shared_enough zero j k cs c s r w = shared-null j cs c w ∙ sym (shared-null k cs c w)
shared_enough (suc n) zero k cs c s r w = absurd (omega arith)
shared_enough (suc n) (suc j) zero cs c s r w = absurd (omega arith)
shared_enough (suc n) (suc j) (suc k) cs c s r w =
    shared-next j cs c w.0 ∙ ap (λ (b : Bool). ltb 1 (count_of cs c) || b) (shared_enough n j k cs (next_of cs c) (omega arith) (omega arith) w.1)
    ∙ sym (shared-next k cs c w.0)

last_enough : (n j k : ℕ) (cs : List Cell) (c : ℕ) → n ≤ j → n ≤ k → c ≢ 0 → Level n cs c → last_of j cs c ≡ last_of k cs c
unfolding Level
last_enough zero j k cs c s r m w = absurd (m w)
last_enough (suc n) zero k cs c s r m w = absurd (omega arith)
last_enough (suc n) (suc j) zero cs c s r m w = absurd (omega arith)
last_enough (suc n) (suc j) (suc k) cs c s r m w =
    go (ℕ_discrete (next_of cs c) 0) (λ q. last_enough n j k cs (next_of cs c) (omega arith) (omega arith) q w.1)
  where
    go : Dec (next_of cs c ≡ 0) → (next_of cs c ≢ 0 → last_of j cs (next_of cs c) ≡ last_of k cs (next_of cs c)) → last_of (suc j) cs c ≡ last_of (suc k) cs c
    go (yes e) ih = last_of_end (suc j) cs c e ∙ sym (last_of_end (suc k) cs c e)
    go (no q) ih = last_of-next j cs c q ∙ ih q ∙ sym (last_of-next k cs c q)

-- what is left of a walk that stands at c
pub record Left (cs : List Cell) (c : ℕ) : Type 0 where
  pub number : ℕ
  pub level : Level number cs c
  pub few : number ≤ length cs

-- one cell of it
pub record Onward (cs : List Cell) (c : ℕ) : Type 0 where
  pub inside : InPool cs c
  pub rest : Left cs (next_of cs c)
  pub longer : span (length cs) cs c ≡ suc (span (length cs) cs (next_of cs c))
  pub found : 1 < count_of cs c → any_shared (length cs) cs c ≡ true
  pub passed : count_of cs c ≤ 1 → any_shared (length cs) cs c ≡ any_shared (length cs) cs (next_of cs c)
  pub ends : next_of cs c ≡ 0 → last_of (length cs) cs c ≡ c
  pub goes : next_of cs c ≢ 0 → last_of (length cs) cs c ≡ last_of (length cs) cs (next_of cs c)

pub onward : (cs : List Cell) (c : ℕ) → c ≢ 0 → Left cs c → Onward cs c
unfolding Level
onward cs c m r = go r.number r.level r.few (length cs) refl
  where
    go : (n : ℕ) → Level n cs c → n ≤ length cs → (k : ℕ) → length cs ≡ k → Onward cs c
    go zero w s k e = absurd (m w)
    go (suc n) w s zero e = absurd (omega arith)
    go (suc n) w s (suc k) e = record {
      inside = live_cell cs c w.0;
      rest = record { number = n; level = w.1; few = omega arith };
      longer = span_is (suc n) (length cs) cs c s w ∙ ap suc (sym (span_is n (length cs) cs (next_of cs c) (omega arith) w.1));
      found = λ q. rw e (shared-next k cs c w.0 ∙ ap (λ (b : Bool). b || any_shared k cs (next_of cs c)) (lt-ltb 1 (count_of cs c) q));
      passed = λ q. rw e
          (shared-next k cs c w.0 ∙ ap (λ (b : Bool). b || any_shared k cs (next_of cs c)) (le-ltb 1 (count_of cs c) q)
          ∙ shared_enough n k (suc k) cs (next_of cs c) (omega arith) (omega arith) w.1);
      ends = last_of_end (length cs) cs c;
      goes = λ q. rw e (last_of-next k cs c q ∙ last_enough n k (suc k) cs (next_of cs c) (omega arith) (omega arith) q w.1);
    }

pub none_left : (cs : List Cell) (c : ℕ) → c ≡ 0 → (span (length cs) cs c ≡ 0) × (any_shared (length cs) cs c ≡ false)
none_left cs c e = (span-null (length cs) cs c e, shared-null (length cs) cs c e)

pub span_le : (k : ℕ) (cs : List Cell) (c : ℕ) → span k cs c ≤ k
unfolding span
span_le zero cs c = omega arith
span_le (suc k) cs zero = omega arith
span_le (suc k) cs (suc i) = omega (arith, span_le k cs (next_of cs (suc i)))

-- the walks from a holder of a sound pool

pub all_left : (p : Pool) (h : ℕ) → Sound p → Left p.cells (holder p h)
all_left p h s =
    let (l, w) = denoted p s h in
    record { number = len l; level = list_level p.cells l (holder p h) w; few = len_le p.free p.cells (occ p.holders) none_aside (sound_held p s) l (holder p h) w }

pub length_is : (p : Pool) (h : ℕ) (l : Lst) → Sound p → ListAt p.cells (holder p h) l → length_of p h ≡ len l
length_is p h l s w =
    span_is (len l) (length p.cells) p.cells (holder p h)
    (len_le p.free p.cells (occ p.holders) none_aside (sound_held p s) l (holder p h) w) (list_level p.cells l (holder p h) w)

-- no count over 1: each is 1

pub both_false : (a b : Bool) → (a || b) ≡ false → (a ≡ false) × (b ≡ false)
both_false true b e = absurd (true≢false e)
both_false false b e = (refl, e)

lone : (l : Lst) (k : ℕ) (cs : List Cell) (c : ℕ) → len l ≤ k → ListAt cs c l → any_shared k cs c ≡ false → Alone cs c l
unfolding len ListAt Alone
lone nil k cs c s w o = tt
lone (atom v l) zero cs c s w o = absurd (omega arith)
lone (list e l) zero cs c s w o = absurd (omega arith)
lone (atom v l) (suc k) cs c s w o =
    let (one, on) = both_false (ltb 1 (count_of cs c)) (any_shared k cs (next_of cs c)) (sym (shared-next k cs c w.0) ∙ o) in
    (omega (arith, ltb-false 1 (count_of cs c) one, w.0), lone l k cs (next_of cs c) (omega arith) w.3 on)
lone (list e l) (suc k) cs c s w o =
    let (one, on) = both_false (ltb 1 (count_of cs c)) (any_shared k cs (next_of cs c)) (sym (shared-next k cs c w.0) ∙ o) in
    (omega (arith, ltb-false 1 (count_of cs c) one, w.0), lone l k cs (next_of cs c) (omega arith) w.3 on)

pub alone : (p : Pool) (h : ℕ) (l : Lst) → Sound p → ListAt p.cells (holder p h) l → shared_at p h ≡ false → Alone p.cells (holder p h) l
alone p h l s w o =
    lone l (length p.cells) p.cells (holder p h) (len_le p.free p.cells (occ p.holders) none_aside (sound_held p s) l (holder p h) w) w o
