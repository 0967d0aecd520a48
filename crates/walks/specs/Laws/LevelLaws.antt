-- One turn of a walk: a list that has ended gives way to the level outside it, an atom is passed, a list is opened; and
-- where a walk begins.
use Prim.Native.Nat.{ℕ, zero, suc, ◌+◌, ◌-◌, ◌≤◌, ◌<◌}
use Rattle.std.specs.Prelude.{◌≡◌, refl, ◌≢◌, eqb, set, replicate}
use Rattle.std.proofs.Common.{sym, subst, ◌∙◌, arith, length-set, get_or-set_same, get_or-set_other}
use Rattle.std.proofs.Math.Path.{ap}
use mathlib.Core.List.{List, [], ◌∷◌}
use Rattle.std.proofs.Math.ListN.{length, get_or}
use Rattle.lists.specs.Lst.{Lst, nil, atom, list, len, path}
use Rattle.lists.specs.Laws.LstLaws.{len-path}
use Rattle.pool.specs.Operations.{list_from, list_at, Stands, span}
use Rattle.pool.specs.Pool.{Cell, kind_of, elem_of, next_of, InPool, ListAt}
use Rattle.pool.specs.Laws.Edit.{live_cell}
use Rattle.pool.specs.Laws.Level.{Left, list_level, span_is}
use Rattle.text.specs.Limits.{levels}
use Rattle.text.specs.Laws.TextLaws.{by_case}
use Rattle.walks.specs.Levels.{Ahead, Above, Here, Levels}

-- a list read off a pool is no longer than it was read
path-from : (k : ℕ) (cs : List Cell) (c : ℕ) → path (list_from k cs c) ≤ k
unfolding list_from path
path-from zero cs c = omega arith
path-from (suc k) cs zero = omega arith
path-from (suc k) cs (suc i) =
    by_case (eqb (kind_of cs (suc i)) 0) (λ (l : Lst). path l ≤ suc k)
    (λ e. omega (arith, path-from k cs (next_of cs (suc i))))
    (λ e. omega (arith, path-from k cs (next_of cs (suc i)), path-from k cs (elem_of cs (suc i))))

pub ahead : (cs : List Cell) (x : ℕ) → Stands cs x → Ahead cs x (list_at cs x)
ahead cs x h = (h, path-from (length cs) cs x)

-- its main level
pub left_of : (cs : List Cell) (c : ℕ) (l : Lst) → Ahead cs c l → Left cs c
left_of cs c l h = record { number = len l; level = list_level cs l c h.0; few = omega (arith, len-path l, h.1) }

pub span_of : (cs : List Cell) (c : ℕ) (l : Lst) → Ahead cs c l → (span (length cs) cs c ≡ len l) × (len l ≤ length cs)
span_of cs c l h =
    let few : len l ≤ length cs = omega (arith, len-path l, h.1) in
    (span_is (len l) (length cs) cs c few (list_level cs l c h.0), few)

pub begin-levels : (cs : List Cell) (x : ℕ) → Stands cs x → Levels cs (replicate levels 0) x 1 (list_at cs x ∷ [])
begin-levels cs x h = record { deep = refl; here = (ahead cs x h, tt); floor = refl; wide = refl; low = omega arith }

-- what is kept higher leaves the levels below
above_kept : (cs : List Cell) (after : List ℕ) (ls : List Lst) (d y : ℕ) → length ls < d → Above cs after ls → Above cs (set after d y) ls
above_kept cs after [] d y l h = tt
above_kept cs after (a ∷ ls) d y l h =
    let q = get_or-set_other after d (suc (length ls)) y 0 (λ e. omega arith) in
    (subst (λ (n : ℕ). Ahead cs n a) (sym q) h.0, above_kept cs after ls d y (omega arith) h.1)

-- the levels after a turn, from those before it
pub record Shut (cs : List Cell) (after : List ℕ) (d : ℕ) (opened : List Lst) : Type 0 where
  pub outer : List Lst
  pub was : opened ≡ nil ∷ outer
  pub now : Levels cs after (get_or after (d - 1) 0) (d - 1) outer

pub record Passed (cs : List Cell) (after : List ℕ) (x d : ℕ) (opened : List Lst) : Type 0 where
  pub more : Lst
  pub outer : List Lst
  pub was : opened ≡ atom (elem_of cs x) more ∷ outer
  pub now : Levels cs after (next_of cs x) d (more ∷ outer)

pub record Opened (cs : List Cell) (after : List ℕ) (x d : ℕ) (opened : List Lst) : Type 0 where
  pub inner : Lst
  pub more : Lst
  pub outer : List Lst
  pub was : opened ≡ list inner more ∷ outer
  pub there : Ahead cs (elem_of cs x) inner
  pub now : d < levels → Levels cs (set after d (next_of cs x)) (elem_of cs x) (d + 1) (inner ∷ (more ∷ outer))

module _ (cs : List Cell) (after : List ℕ) (x d : ℕ) (opened : List Lst) (g : Levels cs after x d opened) (some : 1 ≤ d) where
  pub in_pool : x ≢ 0 → InPool cs x
  unfolding ListAt
  in_pool n = go opened g.deep g.here
    where
      go : (ls : List Lst) → length ls ≡ d → Here cs after x ls → InPool cs x
      go [] e h = absurd (omega arith)
      go (nil ∷ ls) e h = absurd (n h.0.0)
      go (atom v k ∷ ls) e h = live_cell cs x h.0.0.0
      go (list m k ∷ ls) e h = live_cell cs x h.0.0.0

  pub shut_level : x ≡ 0 → Shut cs after d opened
  unfolding ListAt
  shut_level z = go opened g.deep g.here
    where
      at : (n : ℕ) → d - 1 ≡ n → get_or after n 0 ≡ get_or after (d - 1) 0
      at n e = ap (λ (k : ℕ). get_or after k 0) (sym e)

      go : (ls : List Lst) → length ls ≡ d → Here cs after x ls → Shut cs after d ls
      go [] e h = absurd (omega arith)
      go (atom v k ∷ ls) e h = absurd (omega (arith, live_cell cs x h.0.0.0))
      go (list m k ∷ ls) e h = absurd (omega (arith, live_cell cs x h.0.0.0))
      go (nil ∷ []) e h = record {
        outer = [];
        was = refl;
        now = record { deep = omega arith; here = tt; floor = g.floor; wide = g.wide; low = omega (arith, g.low) };
      }
      go (nil ∷ (a ∷ ls)) e h =
          let k : d - 1 ≡ suc (length ls) = omega arith in
          record {
            outer = a ∷ ls;
            was = refl;
            now = record {
              deep = sym k;
              here = (subst (λ (n : ℕ). Ahead cs n a) (at (suc (length ls)) k) h.1.0, h.1.1);
              floor = g.floor;
              wide = g.wide;
              low = omega (arith, g.low);
            };
          }

  pub pass_level : x ≢ 0 → kind_of cs x ≡ 0 → Passed cs after x d opened
  unfolding ListAt path
  pass_level n t = go opened g.deep g.here
    where
      go : (ls : List Lst) → length ls ≡ d → Here cs after x ls → Passed cs after x d ls
      go [] e h = absurd (omega arith)
      go (nil ∷ ls) e h = absurd (n h.0.0)
      go (list m k ∷ ls) e h = absurd (omega (arith, h.0.0.1))
      go (atom v k ∷ ls) e h = record {
        more = k;
        outer = ls;
        was = ap (λ (a : ℕ). atom a k ∷ ls) (sym h.0.0.2);
        now = record { deep = e; here = ((h.0.0.3, omega (arith, h.0.1)), h.1); floor = g.floor; wide = g.wide; low = g.low };
      }

  pub open_level : x ≢ 0 → kind_of cs x ≢ 0 → Opened cs after x d opened
  unfolding ListAt path
  open_level n t = go opened g.deep g.here
    where
      y : ℕ
      y = next_of cs x

      go : (ls : List Lst) → length ls ≡ d → Here cs after x ls → Opened cs after x d ls
      go [] e h = absurd (omega arith)
      go (nil ∷ ls) e h = absurd (n h.0.0)
      go (atom v k ∷ ls) e h = absurd (t h.0.0.1)
      go (list m k ∷ ls) e h =
          let inner : Ahead cs (elem_of cs x) m = (h.0.0.2, omega (arith, h.0.1)) in
          let more : Ahead cs y k = (h.0.0.3, omega (arith, h.0.1)) in
          record {
            inner = m;
            more = k;
            outer = ls;
            was = refl;
            there = inner;
            now = λ r.
                let q : get_or (set after d y) (suc (length ls)) 0 ≡ y
                = ap (λ (j : ℕ). get_or (set after d y) j 0) e ∙ get_or-set_same after d y 0 (omega (arith, g.wide)) in
                record {
                  deep = omega arith;
                  here = (inner, (subst (λ (j : ℕ). Ahead cs j k) (sym q) more, above_kept cs after ls d y (omega arith) h.1));
                  floor = get_or-set_other after d 0 y 0 (λ z. omega arith) ∙ g.floor;
                  wide = length-set after d y ∙ g.wide;
                  low = omega arith;
                };
          }
