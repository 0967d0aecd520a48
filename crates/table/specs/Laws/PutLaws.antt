-- One field of a cell stored, in each layout: the words before the cells, the other cells and the other fields stay.
use Rattle.std.specs.Prelude.{ℕ, ◌+◌, ◌*◌, ◌<◌, ◌≢◌, ◌≡◌, refl, Bool, true, false, cond, List, length, get_or, set, eqb}
use Rattle.std.proofs.Common.{ap, ap₂, ◌∙◌, arith, length-set, get_or-set_same, get_or-set_other, eq-eqb, ne_eqb}
use Rattle.std.proofs.Math.Decide.{ℕ_discrete}
use Rattle.table.specs.Fields.{pick}
use Rattle.table.specs.Pack.{part, room, with_part}
use Rattle.table.specs.Laws.PackLaws.{part_with, part_elem}
use Rattle.table.specs.View.{cell_word, stored_two}

-- us is ws with v put in field k of cell i + 1; a is where the cells begin
pub record Put (b : Bool) (a : ℕ) (ws us : List ℕ) (k i v : ℕ) : Type 0 where
  pub heads : (w : ℕ) → w < a → get_or us w 0 ≡ get_or ws w 0
  pub others : (j d : ℕ) → j < 4 → d ≢ i → cell_word b a j us d ≡ cell_word b a j ws d
  pub there : (j : ℕ) → j < 4 → cell_word b a j us i ≡ pick (eqb k j) v (cell_word b a j ws i)
  pub long : length us ≡ length ws

pub put_four : (a : ℕ) (ws : List ℕ) (k i v : ℕ) → k < 4 → a + 4 * i + 3 < length ws → Put false a ws (set ws (a + 4 * i + k) v) k i v
unfolding cell_word
put_four a ws k i v lk l = record {
  heads = λ w m. get_or-set_other ws (a + 4 * i + k) w v 0 (omega arith);
  others = λ j d lj ne. get_or-set_other ws (a + 4 * i + k) (a + 4 * d + j) v 0 (λ q. ne (omega arith));
  there = λ j lj. go j lj (ℕ_discrete k j);
  long = length-set ws (a + 4 * i + k) v;
}
  where
    go : (j : ℕ) → j < 4 → Dec (k ≡ j) → get_or (set ws (a + 4 * i + k) v) (a + 4 * i + j) 0 ≡ pick (eqb k j) v (get_or ws (a + 4 * i + j) 0)
    go j lj (yes q) = rw (eq-eqb k j q, ← q) (get_or-set_same ws (a + 4 * i + k) v 0 (omega arith))
    go j lj (no ne) = rw (ne_eqb k j ne) (get_or-set_other ws (a + 4 * i + k) (a + 4 * i + j) v 0 (λ q. ne (omega arith)))

-- the element, a word of its own
put_second : (a : ℕ) (ws : List ℕ) (i v : ℕ) → a + 2 * i + 1 < length ws → Put true a ws (set ws (a + 2 * i + 1) v) 1 i v
unfolding cell_word
put_second a ws i v l =
    let z : ℕ = a + 2 * i + 1 in
    record {
      heads = λ w m. get_or-set_other ws z w v 0 (omega arith);
      others = λ j d lj ne. ap₂ (part j) (get_or-set_other ws z (a + 2 * d) v 0 (omega arith)) (get_or-set_other ws z (a + 2 * d + 1) v 0 (λ q. ne (omega arith)));
      there = λ j lj. ap₂ (part j) (get_or-set_other ws z (a + 2 * i) v 0 (omega arith)) (get_or-set_same ws z v 0 l) ∙ part_elem j v (get_or ws (a + 2 * i) 0) (get_or ws z 0) lj;
      long = length-set ws z v;
    }

-- one of the three that share a word
put_first : (a : ℕ) (ws : List ℕ) (k i v : ℕ) → k < 4 → k ≢ 1 → v < room k → a + 2 * i + 1 < length ws → Put true a ws (set ws (a + 2 * i) (with_part k v (get_or ws (a + 2 * i) 0))) k i v
unfolding cell_word
put_first a ws k i v lk n lv l =
    let y : ℕ = a + 2 * i in
    let x : ℕ = with_part k v (get_or ws y 0) in
    record {
      heads = λ w m. get_or-set_other ws y w x 0 (omega arith);
      others = λ j d lj ne. ap₂ (part j) (get_or-set_other ws y (a + 2 * d) x 0 (λ q. ne (omega arith))) (get_or-set_other ws y (a + 2 * d + 1) x 0 (omega arith));
      there = λ j lj. ap₂ (part j) (get_or-set_same ws y x 0 (omega arith)) (get_or-set_other ws y (a + 2 * i + 1) x 0 (omega arith)) ∙ part_with j k v (get_or ws y 0) (get_or ws (a + 2 * i + 1) 0) lj lk n lv;
      long = length-set ws y x;
    }

pub put_two : (a : ℕ) (ws : List ℕ) (k i v : ℕ) → k < 4 → v < room k → a + 2 * i + 1 < length ws → Put true a ws (stored_two a i k v ws) k i v
unfolding stored_two
put_two a ws k i v lk lv l = go (ℕ_discrete k 1)
  where
    go : Dec (k ≡ 1) → Put true a ws (cond (eqb k 1) (set ws (a + 2 * i + 1) v) (set ws (a + 2 * i) (with_part k v (get_or ws (a + 2 * i) 0)))) k i v
    go (yes e) = rw e (put_second a ws i v l)
    go (no n) = rw (ne_eqb k 1 n) (put_first a ws k i v lk n lv l)

-- which of the words is stored
pub elem_stored : (a i k v : ℕ) (ws : List ℕ) → k ≡ 1 → set ws (a + 2 * i + 1) v ≡ stored_two a i k v ws
unfolding stored_two
elem_stored a i k v ws e = rw (eq-eqb k 1 e) refl

pub word-stored : (a i k v x : ℕ) (ws : List ℕ) → k ≢ 1 → x ≡ with_part k v (get_or ws (a + 2 * i) 0) → set ws (a + 2 * i) x ≡ stored_two a i k v ws
unfolding stored_two
word-stored a i k v x ws n e = rw (ne_eqb k 1 n) (ap (λ (u : ℕ). set ws (a + 2 * i) u) e)

pub stored-length : (a i k v : ℕ) (ws : List ℕ) → length (stored_two a i k v ws) ≡ length ws
unfolding stored_two
stored-length a i k v ws = go (eqb k 1)
  where
    go : (b : Bool) → length (cond b (set ws (a + 2 * i + 1) v) (set ws (a + 2 * i) (with_part k v (get_or ws (a + 2 * i) 0)))) ≡ length ws
    go true = length-set ws (a + 2 * i + 1) v
    go false = length-set ws (a + 2 * i) (with_part k v (get_or ws (a + 2 * i) 0))
