-- What holds of the pool that each operation makes, and of a pool left as it is, holds of the effect of every operation.
use Rattle.std.specs.Prelude.{◌≡◌, refl, Bool, true, false, cond, ℕ, eqb}
use package.borrow.Author.Tests.{eqb-true}
use Rattle.pool.specs.Pool.{Pool}
use Rattle.pool.specs.Operations.{pfa, pfl, decap, adv, borrow, erase, inv, cinv, conc}
use Rattle.pool.specs.Script.{PFA, PFL, DECAP, ADV, BORROW, ERASE, INV, CINV, CONC, FIRST, Operation, Effect, effect}

-- the two ways of a test
pub either_way : {A : Type 0} (P : A → Type 0) (b : Bool) (x y : A) → (b ≡ true → P x) → (b ≡ false → P y) → P (cond b x y)
either_way P true x y h k = h refl
either_way P false x y h k = k refl

by_test : (P : Pool → Type 0) (c k : ℕ) (x y : Effect) → (c ≡ k → P x.pool) → P y.pool → P (cond (eqb c k) x y).pool
by_test P c k x y h r = either_way (λ (d : Effect). P d.pool) (eqb c k) x y (λ e. h (eqb-true c k e)) (λ e. r)

pub by_code : (P : Pool → Type 0) (p : Pool) (o : Operation)
    → (o.code ≡ PFA → P (pfa p o.a o.v)) → (o.code ≡ PFL → P (pfl p o.a o.b)) → (o.code ≡ DECAP → P (decap p o.a o.b))
    → (o.code ≡ ADV → P (adv p o.a o.b)) → (o.code ≡ BORROW → P (borrow p o.a o.b)) → (o.code ≡ ERASE → P (erase p o.a).0)
    → (o.code ≡ INV → P (inv p o.a)) → (o.code ≡ CINV → P (cinv p o.a o.b)) → (o.code ≡ CONC → P (conc p o.a o.b))
    → P p → P (effect p o).pool
unfolding effect
by_code P p o h1 h2 h3 h4 h5 h6 h7 h8 h9 h =
    let c = o.code in
    by_test P c PFA _ _ h1 (by_test P c PFL _ _ h2 (by_test P c DECAP _ _ h3 (by_test P c ADV _ _ h4 (by_test P c BORROW _ _ h5
    (by_test P c ERASE _ _ h6 (by_test P c INV _ _ h7 (by_test P c CINV _ _ h8 (by_test P c CONC _ _ h9 (by_test P c FIRST _ _ (λ e. h) h)))))))))
