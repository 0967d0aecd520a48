-- The stores of each operation, in their order, make the pool that its definition gives. By computation, once what the code has read is put in.
use Rattle.std.specs.Prelude.{◌≡◌, ℕ}
use Rattle.std.proofs.Math.Path.{refl}
use Rattle.pool.specs.Operations.{share, item, pfa, pfl, decap, borrow}
use Rattle.pool.specs.Pool.{Pool, next_of, holder}
use Rattle.pool.specs.Setters.{cell, celled, put_cell, put_count, put_next, put_free, put_holder}

module _ (p : Pool) (a : ℕ) where
  pub is_pfa : (v x y : ℕ) → y ≡ holder p a → x ≡ p.free → put_holder a x (put_cell x (cell 0 v 1 y) (put_free (next_of p.cells x) p)) ≡ pfa p a v
  unfolding pfa
  is_pfa v x y ey ex = rw (ex, ey) refl

  pub is_pfl : (b x y e : ℕ) → y ≡ holder p a → e ≡ holder p b → x ≡ p.free
      → put_holder b 0 (put_holder a x (put_cell x (cell 1 e 1 y) (put_free (next_of p.cells x) p))) ≡ pfl p a b
  unfolding pfl
  is_pfl b x y e ey ee ex = rw (ex, ey, ee) refl

  module _ (b x : ℕ) (ex : x ≡ holder p a) where
    pub is_decap : (s e : ℕ) → s ≡ next_of p.cells x → e ≡ item p.cells x
        → put_holder b e (put_holder a s (put_free x (put_next x p.free (put_count x 0 p)))) ≡ decap p a b
    unfolding decap
    is_decap s e es ee = rw (es, ee, ex) refl

    pub is_borrow : put_holder b x (celled (share p.cells x) p) ≡ borrow p a b
    unfolding borrow
    is_borrow = rw ex refl
