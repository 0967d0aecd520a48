-- The tests of an operation that look at its words alone, 6 to 8, where there are n holders; and 9 and 10 as DECAP and
-- ADV have them.
use Rattle.std.specs.Prelude.{Bool, cond, not, ◌&&◌, ◌||◌, ℕ, eqb, leb}
use Rattle.answers.specs.Answers.{DONE, CODE, HOLDER, SAME, NULL, OCCUPIED}
use Rattle.pool.specs.Pool.{Pool, holder}
use Rattle.pool.specs.Script.{Operation, uses_b, bad_code, same_holder}

abbrev pub no_holder : ℕ → Operation → Bool
no_holder n o = leb n o.a || (uses_b o.code && leb n o.b)

unfoldable pub early : ℕ → Operation → ℕ
early n o = cond (bad_code o) CODE (cond (no_holder n o) HOLDER (cond (same_holder o) SAME DONE))

unfoldable pub parting : Pool → ℕ → ℕ → ℕ
parting p a b = cond (eqb (holder p a) 0) NULL (cond (not (eqb (holder p b) 0)) OCCUPIED DONE)
