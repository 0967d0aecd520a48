-- The stores of the check's code, as steps of the state that the work space shows.
use Rattle.std.specs.Prelude.{◌≡◌, refl, ◌≢◌, List, ◌∷◌, ℕ, zero, suc, ◌+◌, ◌-◌, ◌≤◌, ◌<◌, length, get_or, set}
use Rattle.std.proofs.Common.{ap, sym, ◌∙◌, subst, add-one, arith, length-set, get_or-set_same, get_or-set_other, drop-set-lt}
use Rattle.std.proofs.Math.Decide.{ℕ_discrete}
use Rattle.pool.specs.Tally.{tally, occ}
use Rattle.pool.specs.Laws.TallyLaws.{same_of}
use Rattle.pool.specs.Pool.{Cell, at, count_of, counted, set_count}
use Rattle.pool.specs.Check.{Peeling, lowered, meet}
use Rattle.pool.specs.Laws.Edit.{put-length, put_same, put_other, at-past}
use Rattle.sound.specs.declared.Peel.{Peel}
use Rattle.sound.specs.Mirror.{below, on_top, Counted, Mirrors, Within, Room, ArrowMet, Stows, Refills}

-- the words that wait

below-same : (n : ℕ) (ws us : List ℕ) (k : ℕ) → ((i : ℕ) → i < k → get_or us (n + i) 0 ≡ get_or ws (n + i) 0) → below n us k ≡ below n ws k
unfolding below
below-same n ws us zero h = refl
below-same n ws us (suc k) h = let r = below-same n ws us k (λ i l. h i (omega arith)) in let q = h k (omega arith) in cc

below_low : (n : ℕ) (ws : List ℕ) (j v k : ℕ) → j < n → below n (set ws j v) k ≡ below n ws k
below_low n ws j v k l = below-same n ws (set ws j v) k (λ i m. get_or-set_other ws j (n + i) v 0 (omega arith))

below-push : (n : ℕ) (ws : List ℕ) (k v : ℕ) → n + k < length ws → below n (set ws (n + k) v) (suc k) ≡ v ∷ below n ws k
unfolding below
below-push n ws k v l =
    let r = below-same n ws (set ws (n + k) v) k (λ i m. get_or-set_other ws (n + k) (n + i) v 0 (omega arith)) in
    let q = get_or-set_same ws (n + k) v 0 l in cc

below-pop : (n : ℕ) (ws : List ℕ) (k : ℕ) → k ≢ 0 → below n ws k ≡ get_or ws (n + (k - 1)) 0 ∷ below n ws (k - 1)
unfolding below
below-pop n ws zero h = absurd (h refl)
below-pop n ws (suc k) h = let q : suc k - 1 ≡ k = omega arith in rw q

pub below_length : (n : ℕ) (ws : List ℕ) (k : ℕ) → length (below n ws k) ≡ k
unfolding below
below_length n ws zero = refl
below_length n ws (suc k) = ap suc (below_length n ws k)

-- a cell at hand, or none

pub on_top_some : (c : ℕ) (xs : List ℕ) → c ≢ 0 → on_top c xs ≡ c ∷ xs
unfolding on_top
on_top_some zero xs h = absurd (h refl)
on_top_some (suc i) xs h = refl

pub on_top-none : (c : ℕ) (xs : List ℕ) → c ≡ 0 → on_top c xs ≡ xs
unfolding on_top
on_top-none c xs e = rw e

idle : {n : ℕ} {ws : List ℕ} {e : Peel} {st : Peeling} → Mirrors n ws e st → e.at ≡ 0 → below n ws e.top ≡ st.stack
idle {n} {ws} {e} m z = sym (on_top-none e.at (below n ws e.top) z) ∙ m.stack

-- one store

pub within-set : (n : ℕ) (ws : List ℕ) (j v : ℕ) → j < n + n → Within n ws (set ws j v)
within-set n ws j v l = record { size = length-set ws j v; rest = drop-set-lt (n + n) ws j v l }

pub within_self : (n : ℕ) (ws : List ℕ) → Within n ws ws
within_self n ws = record { size = refl; rest = refl }

pub within_then : {n : ℕ} {ws us vs : List ℕ} → Within n ws us → Within n us vs → Within n ws vs
within_then a b = record { size = b.size ∙ a.size; rest = b.rest ∙ a.rest }

counts_set : (n : ℕ) (ws : List ℕ) (ds : List Cell) (j v : ℕ) → j < n → n ≤ length ws → length ds ≡ n → Counted n ws ds
    → Counted n (set ws j v) (set_count ds (suc j) v)
counts_set n ws ds j v l long e h i m = go (ℕ_discrete i j)
  where
    go : Dec (i ≡ j) → get_or (set ws j v) i 0 ≡ count_of (set_count ds (suc j) v) (suc i)
    go (yes q) =
        rw q (get_or-set_same ws j v 0 (omega arith) ∙ sym (ap (λ x. x.count) (put_same ds (suc j) (counted (at ds (suc j)) v) (omega arith) (omega arith))))
    go (no q) = get_or-set_other ws j i v 0 q ∙ h i m ∙ sym (ap (λ x. x.count) (put_other ds (suc j) (suc i) (counted (at ds (suc j)) v) (omega arith)))

-- the ways through follow

meet_as : (x n : ℕ) (st : Peeling) → 0 < x → count_of st.cells x ≡ n → meet x st ≡ lowered st x n
unfolding meet
meet_as zero n st l e = absurd (omega arith)
meet_as (suc i) n st l e = ap (lowered st (suc i)) e

pub follow_null : (n x : ℕ) (ws : List ℕ) (e : Peel) → x ≡ 0 → ArrowMet n x ws e ws e
unfolding meet
follow_null n x ws e z = record { within = within_self n ws; shows = λ st m. subst (λ u. Mirrors n ws e (meet u st)) (sym z) m }

abbrev failed : Peel → Peel
failed e = record { ok = 0; at = 0; top = e.top; gone = e.gone }

bad : (n x : ℕ) (ws : List ℕ) (e : Peel) → e.at ≡ 0 → 0 < x → ((st : Peeling) → Mirrors n ws e st → count_of st.cells x ≡ 0)
    → ArrowMet n x ws e ws (failed e)
unfolding lowered on_top
bad n x ws e z l f = record {
  within = within_self n ws;
  shows = λ st m. rw (meet_as x 0 st l (f st m)) (record { ok = refl; gone = m.gone; stack = idle m z; size = m.size; counts = m.counts });
}

pub follow_far : (n x : ℕ) (ws : List ℕ) (e : Peel) → e.at ≡ 0 → n < x → ArrowMet n x ws e ws (failed e)
follow_far n x ws e z l = bad n x ws e z (omega arith) (λ st m. ap (λ x. x.count) (at-past st.cells x (omega (arith, m.size))))

-- cell x is the one at word x - 1
word : (n x : ℕ) (ws : List ℕ) (e : Peel) (st : Peeling) → 0 < x → x ≤ n → Mirrors n ws e st → get_or ws (x - 1) 0 ≡ count_of st.cells x
word n zero ws e st l h m = absurd (omega arith)
word n (suc i) ws e st l h m = let q : suc i - 1 ≡ i = omega arith in rw q (m.counts i h)

pub follow_free : (n x : ℕ) (ws : List ℕ) (e : Peel) → e.at ≡ 0 → 0 < x → x ≤ n → get_or ws (x - 1) 0 ≡ 0 → ArrowMet n x ws e ws (failed e)
follow_free n x ws e z l h q = bad n x ws e z l (λ st m. sym (word n x ws e st l h m) ∙ q)

pub follow_one : (n x : ℕ) (ws : List ℕ) (e : Peel) → 0 < x → x ≤ n → n + n ≤ length ws → 1 < get_or ws (x - 1) 0
    → ArrowMet n x ws e (set ws (x - 1) (get_or ws (x - 1) 0 - 1)) e
unfolding lowered
follow_one n zero ws e l h long big = absurd (omega arith)
follow_one n (suc i) ws e l h long big =
    let q : suc i - 1 ≡ i = omega arith in
    rw q (record {
      within = within-set n ws i (get_or ws i 0 - 1) (omega arith);
      shows = λ st m. go st m (get_or ws i 0 - 2) (omega (arith, subst (λ u. 1 < get_or ws u 0) q big));
    })
  where
    go : (st : Peeling) → Mirrors n ws e st → (k : ℕ) → get_or ws i 0 ≡ suc (suc k) → Mirrors n (set ws i (get_or ws i 0 - 1)) e (meet (suc i) st)
    go st m k r =
        let v : get_or ws i 0 - 1 ≡ suc k = omega arith in
        rw (meet_as (suc i) (suc (suc k)) st (omega arith) (sym (m.counts i h) ∙ r), v) (record {
          ok = m.ok;
          gone = m.gone;
          stack = ap (on_top e.at) (below_low n ws i (suc k) e.top h) ∙ m.stack;
          size = put-length st.cells (suc i) (counted (at st.cells (suc i)) (suc k)) ∙ m.size;
          counts = counts_set n ws st.cells i (suc k) h (omega arith) m.size m.counts;
        })

pub follow_last : (n x : ℕ) (ws : List ℕ) (e : Peel) → e.at ≡ 0 → 0 < x → x ≤ n → n + n ≤ length ws → get_or ws (x - 1) 0 ≡ 1
    → ArrowMet n x ws e (set ws (x - 1) (get_or ws (x - 1) 0 - 1)) (record { ok = e.ok; at = x; top = e.top; gone = e.gone })
unfolding lowered on_top
follow_last n zero ws e z l h long one = absurd (omega arith)
follow_last n (suc i) ws e z l h long one =
    let q : suc i - 1 ≡ i = omega arith in
    let one' : get_or ws i 0 ≡ 1 = subst (λ u. get_or ws u 0 ≡ 1) q one in
    let v : get_or ws i 0 - 1 ≡ 0 = omega arith in
    rw (q, v) (record { within = within-set n ws i 0 (omega arith); shows = λ st m. go st m one' })
  where
    go : (st : Peeling) → Mirrors n ws e st → get_or ws i 0 ≡ 1
        → Mirrors n (set ws i 0) (record { ok = e.ok; at = suc i; top = e.top; gone = e.gone }) (meet (suc i) st)
    go st m one' =
        rw (meet_as (suc i) 1 st (omega arith) (sym (m.counts i h) ∙ one')) (record {
          ok = m.ok;
          gone = m.gone;
          stack = ap (λ u. suc i ∷ u) (below_low n ws i 0 e.top h ∙ idle m z);
          size = put-length st.cells (suc i) (counted (at st.cells (suc i)) 0) ∙ m.size;
          counts = counts_set n ws st.cells i 0 h (omega arith) m.size m.counts;
        })

-- the ways through stow and refill: the state stays

pub stow_some : (n : ℕ) (ws : List ℕ) (e : Peel) → Room n ws e → e.at ≢ 0
    → Stows n ws e (set ws (n + e.top) e.at) (record { ok = e.ok; at = 0; top = e.top + 1; gone = e.gone })
unfolding on_top
stow_some n ws e r s =
    let l : e.top < n = r.more s in
    record {
      within = within-set n ws (n + e.top) e.at (omega arith);
      none = refl;
      shows = λ st m. record {
        ok = m.ok;
        gone = m.gone;
        stack =
            ap (below n (set ws (n + e.top) e.at)) (add-one e.top) ∙ below-push n ws e.top e.at (omega (arith, r.long))
            ∙ sym (on_top_some e.at (below n ws e.top) s) ∙ m.stack;
        size = m.size;
        counts = λ j k. get_or-set_other ws (n + e.top) j e.at 0 (omega arith) ∙ m.counts j k;
      };
    }

pub refill_held : (n : ℕ) (ws : List ℕ) (e : Peel) → e.at ≢ 0 → Refills n ws e e
refill_held n ws e s st m z = record { shows = m; rests = λ q. absurd (s q) }

pub refill_empty : (n : ℕ) (ws : List ℕ) (e : Peel) → e.at ≡ 0 → e.top ≡ 0 → Refills n ws e e
unfolding below
refill_empty n ws e s q st m z = record { shows = m; rests = λ _. sym (idle m s) ∙ ap (below n ws) q }

pub refill_top : (n : ℕ) (ws : List ℕ) (e : Peel) → e.at ≡ 0 → e.top ≢ 0
    → Refills n ws e (record { ok = e.ok; at = get_or ws (n + (e.top - 1)) 0; top = e.top - 1; gone = e.gone })
unfolding tally
refill_top n ws e s q st m z =
    let c : ℕ = get_or ws (n + (e.top - 1)) 0 in
    let top : below n ws e.top ≡ c ∷ below n ws (e.top - 1) = below-pop n ws e.top q in
    let stacked : st.stack ≡ c ∷ below n ws (e.top - 1) = sym (idle m s) ∙ top in
    let some : c ≢ 0 = λ u. absurd (omega (arith, ap (λ v. occ v 0) stacked, same_of c 0 u)) in
    record {
      shows = record { ok = m.ok; gone = m.gone; stack = on_top_some c (below n ws (e.top - 1)) some ∙ sym stacked; size = m.size; counts = m.counts };
      rests = λ u. absurd (some u);
    }
