-- The stores of ADV where the first count is over 1 make the pool that its definition gives. By computation, once what the code has read is put in.
use Rattle.std.specs.Prelude.{◌≡◌, refl, ◌≢◌, ℕ, ◌+◌, ◌*◌, ◌-◌, ◌<◌, length, set}
use Rattle.std.proofs.Common.{sym, ◌∙◌, arith}
use Rattle.pool.specs.Laws.AdvanceWays.{adv-shared, tail-less}
use Rattle.pool.specs.Operations.{share, item, adv}
use Rattle.pool.specs.Pool.{Pool, count_of, next_of, set_count, holder, Sound}
use Rattle.pool.specs.Setters.{celled, put_count, put_holder}

-- by the numbers that the code has: the cell, its successor, its element, its count
stores : (p : Pool) (a b x nx e n : ℕ) → x ≡ holder p a → nx ≡ next_of p.cells x → e ≡ item p.cells x → n ≡ count_of p.cells x
    → put_holder b e (put_holder a nx (put_count x (n - 1) (celled (share (share p.cells e) nx) p)))
    ≡ record {
      free = p.free;
      holders = set (set p.holders a (next_of p.cells (holder p a))) b (item p.cells (holder p a));
      cells =
          set_count (share (share p.cells (item p.cells (holder p a))) (next_of p.cells (holder p a))) (holder p a)
          (count_of p.cells (holder p a) - 1);
    }
stores p a b x nx e n ex en ee ec = rw (en, ee, ec, ex) refl

module _ (p : Pool) (a b : ℕ) (s : Sound p) (la : a < length p.holders) (lb : b < length p.holders) (ab : a ≢ b) (nb : holder p b ≡ 0)
    (more : 1 < count_of p.cells (holder p a)) where
  pub is_adv : (x nx e n : ℕ) → x ≡ holder p a → nx ≡ next_of p.cells x → e ≡ item p.cells x → n ≡ count_of p.cells x
      → put_holder b e (put_holder a nx (put_count x (n - 1) (celled (share (share p.cells e) nx) p))) ≡ adv p a b
  is_adv x nx e n ex en ee ec = stores p a b x nx e n ex en ee ec ∙ sym (adv-shared p a b s la lb ab nb (omega arith) more)

  -- the tail can be borrowed after the element
  pub tail_fits : (x nx e : ℕ) → x ≡ holder p a → nx ≡ next_of p.cells x → e ≡ item p.cells x → nx ≢ 0
      → count_of (share p.cells e) nx < length p.holders + 2 * length p.cells
  tail_fits x nx e ex en ee = rw (en, ee, ex) (tail-less p a b s la lb ab nb (omega arith))
