-- A walk to the end of a main level: what it knows of the counts and of the last cell.
use Rattle.std.specs.Prelude.{◌≡◌, refl, ◌≢◌, ℕ, ◌≤◌, length}
use Rattle.std.proofs.Common.{sym, ◌∙◌}
use Rattle.levels.specs.Joining.{last_cell}
use Rattle.pool.specs.Laws.Level.{Left, Onward, all_left}
use Rattle.pool.specs.Operations.{last_of, any_shared, shared_at}
use Rattle.pool.specs.Pool.{Pool, count_of, next_of, holder, Sound}

-- the walk stands at x, before which it was at z
pub record Ending (p : Pool) (a x z : ℕ) : Type 0 where
  pub left : Left p.cells x
  pub shared : any_shared (length p.cells) p.cells x ≡ shared_at p a
  pub ahead : x ≢ 0 → last_of (length p.cells) p.cells x ≡ last_cell p a
  pub reached : x ≡ 0 → holder p a ≢ 0 → z ≡ last_cell p a

module _ (p : Pool) (a : ℕ) where
  pub ending : (z : ℕ) → Sound p → Ending p a (holder p a) z
  ending z s = record { left = all_left p a s; shared = refl; ahead = λ _. refl; reached = λ e n. absurd (n e) }

  pub ending-on : (x z : ℕ) → x ≢ 0 → Onward p.cells x → count_of p.cells x ≤ 1 → Ending p a x z → Ending p a (next_of p.cells x) x
  ending-on x z n o one e = record {
    left = o.rest;
    shared = sym (o.passed one) ∙ e.shared;
    ahead = λ q. sym (o.goes q) ∙ e.ahead n;
    reached = λ q _. sym (o.ends q) ∙ e.ahead n;
  }
