-- A walk on a main level with the free chain beside it: it tells whether the free cells are enough.
use Rattle.std.specs.Prelude.{◌≡◌, ◌≢◌, true, ℕ, ◌+◌, ◌<◌}
use Rattle.std.proofs.Math.Path.{sym, subst}
use Rattle.std.proofs.Common.{◌∙◌, arith, le-leb}
use Rattle.std.proofs.Math.Bool.{false}
use mathlib.Core.List.{List, [], ◌∷◌}
use Rattle.std.proofs.lemmas.Bool.{lt-leb}
use Rattle.std.proofs.Math.Dec.{leb}
use Rattle.std.proofs.Math.ListN.{length}
use Rattle.pool.specs.Laws.Chains.{sound_chain_length}
use Rattle.pool.specs.Laws.Edit.{mark-past}
use Rattle.pool.specs.Laws.Level.{Left, Onward, onward, none_left, all_left}
use Rattle.pool.specs.Operations.{span, length_of}
use Rattle.pool.specs.Pool.{Pool, next_of, holder, InPool, Chain, frees, Sound}
use Rattle.pool.specs.Laws.Room.{frees-lives}
use Rattle.pool.specs.Tally.{tally, occ}
use Rattle.pool.specs.Laws.TallyLaws.{same_of}

-- the walk stands at x, and the free chain at f
pub record Beside (p : Pool) (a x f : ℕ) : Type 0 where
  pub left : Left p.cells x
  pub chain : List ℕ
  pub links : Chain p.cells f chain
  pub inside : (c : ℕ) → 0 < occ chain c → InPool p.cells c
  pub level : length_of p a + length chain ≡ frees p.cells + span (length p.cells) p.cells x

module _ (p : Pool) (a : ℕ) where
  pub beside : Sound p → Beside p a (holder p a) p.free
  beside s = record {
    left = all_left p a s;
    chain = s.chain.0;
    links = s.chain.1;
    inside = λ c o. mark-past p.cells c (omega (arith, s.chain.2 c));
    level = omega (arith, sound_chain_length p s, frees-lives p.cells);
  }

  -- one of each
  pub record Pair (x f : ℕ) : Type 0 where
    pub here : Onward p.cells x
    pub free : InPool p.cells f
    pub rest : Beside p a (next_of p.cells x) (next_of p.cells f)

  pub pair : (x f : ℕ) → x ≢ 0 → f ≢ 0 → Beside p a x f → Pair x f
  unfolding Chain tally
  pair x f nx nf b = go b.chain b.links b.inside b.level
    where
      go : (fs : List ℕ) → Chain p.cells f fs → ((c : ℕ) → 0 < occ fs c → InPool p.cells c)
          → length_of p a + length fs ≡ frees p.cells + span (length p.cells) p.cells x → Pair x f
      go [] k i e = absurd (nf k)
      go (g ∷ gs) k i e =
          let o = onward p.cells x nx b.left in
          record {
            here = o;
            free = i f (omega (arith, same_of g f (sym k.0)));
            rest = record {
              left = o.rest;
              chain = gs;
              links = subst (λ u. Chain p.cells (next_of p.cells u) gs) (sym k.0) k.2;
              inside = λ c q. i c (omega arith);
              level = omega (arith, o.longer);
            };
          }

  -- the main level ends first, or the free chain
  pub enough : (x f : ℕ) → x ≡ 0 → Beside p a x f → true ≡ leb (length_of p a) (frees p.cells)
  enough x f e b = sym (le-leb (length_of p a) (frees p.cells) (omega (arith, b.level, (none_left p.cells x e).0)))

  pub too_few : (x f : ℕ) → x ≢ 0 → f ≡ 0 → Beside p a x f → false ≡ leb (length_of p a) (frees p.cells)
  unfolding Chain
  too_few x f nx e b = go b.chain b.links b.level
    where
      go : (fs : List ℕ) → Chain p.cells f fs → length_of p a + length fs ≡ frees p.cells + span (length p.cells) p.cells x
          → false ≡ leb (length_of p a) (frees p.cells)
      go [] k q = sym (lt-leb (length_of p a) (frees p.cells) (omega (arith, (onward p.cells x nx b.left).longer)))
      go (g ∷ gs) k q = absurd (k.1 (sym k.0 ∙ e))
