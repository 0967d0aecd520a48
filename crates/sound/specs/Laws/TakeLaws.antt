-- One cell in the code is one turn of the test: its type, its element, its successor.
use Rattle.std.specs.Prelude.{◌≡◌, refl, ◌≢◌, ◌&&◌, List, ◌∷◌}
use Rattle.std.proofs.Math.Path.{ap, subst}
use Rattle.std.proofs.Common.{sym, ◌∙◌, arith, eq-eqb, ne_eqb, le-leb}
use Prim.Native.Nat.{ℕ, suc, ◌+◌, ◌≤◌, ◌<◌}
use Rattle.std.proofs.Math.Numerals.{add-one}
use Rattle.std.proofs.Math.Dec.{eqb, leb}
use Rattle.std.proofs.lemmas.Bool.{lt-leb}
use Rattle.pool.specs.Tally.{same, occ}
use Rattle.pool.specs.Pool.{Cell, Pool, at, kind_of, elem_of, next_of, InPool, gives}
use Rattle.pool.specs.Check.{Peeling, meet, arrow, taken, pop, popped, turns}
use Rattle.pool.specs.Laws.CheckInv.{PeelInv, meet-inv, taken-inv, gives-arrow}
use Rattle.pool.specs.Laws.CheckLaws.{pop_gone}
use Rattle.table.specs.declared.Shape.{Shape}
use Rattle.table.specs.View.{view, IsCell}
use Rattle.sound.specs.declared.Peel.{Peel}
use Rattle.sound.specs.Mirror.{below, on_top, Mirrors, Within, Reached, Room, ArrowMet, Stows, Refills, state_at, Taking, element_met, ElementMet}
use Rattle.sound.specs.Laws.MirrorLaws.{within_self, within_then}
use Rattle.sound.specs.Laws.RoomLaws.{held, at-cell, done_few, room, none-null, state-inv}

arrow_list : (x : Cell) (k e : ℕ) → k ≡ x.kind → k ≡ 1 → e ≡ x.elem → e ≡ arrow x
unfolding arrow
arrow_list x k e q o r = rw (eq-eqb x.kind 1 (sym q ∙ o)) r

arrow-atom : (x : Cell) (k : ℕ) → k ≡ x.kind → k ≢ 1 → 0 ≡ arrow x
unfolding arrow
arrow-atom x k q n = rw (ne_eqb x.kind 1 (λ o. n (q ∙ o)))

-- types 0 and 1 leave ok as it is, any other clears it
pub typed_yes : (k ok : ℕ) → k ≤ 1 → eqb ok 1 ≡ (leb k 1 && eqb ok 1)
typed_yes k ok h = rw (le-leb k 1 h)

pub typed_no : (k ok : ℕ) → 1 < k → eqb 0 1 ≡ (leb k 1 && eqb ok 1)
typed_no k ok h = rw (lt-leb k 1 h)

module _ (p : Pool) (n : ℕ) (ws : List ℕ) (e : Peel) (g : Taking p n ws e) where
  abbrev pub cs : List Cell
  cs = p.cells

  abbrev pub st : Peeling
  st = state_at p e.gone

  abbrev pub xs : List ℕ
  xs = below n ws e.top

  stacked : st.stack ≡ e.at ∷ xs
  stacked = held cs (occ p.holders) (λ d. 0) st n ws e (state-inv p e.gone) g.shows g.sized g.some

  hand_live : InPool cs e.at
  hand_live = at-cell cs (occ p.holders) (λ d. 0) st n ws e (state-inv p e.gone) g.shows g.sized g.some

  pub hand_few : e.gone + 1 + e.top ≤ n
  hand_few = done_few cs (occ p.holders) (λ d. 0) st n ws e (state-inv p e.gone) g.shows g.sized g.some

  -- its type looked at
  module _ (k b : ℕ) (ke : k ≡ kind_of p.cells e.at) (be : eqb b 1 ≡ (leb k 1 && eqb e.ok 1)) where
    abbrev pub off : Peel
    off = record { ok = b; at = 0; top = e.top; gone = e.gone + 1 }

    off_mirrors : Mirrors n ws off (taken cs st e.at xs)
    unfolding on_top
    off_mirrors = record {
      ok = be ∙ ap (λ u. leb u 1 && eqb e.ok 1) ke ∙ ap (λ u. leb (kind_of cs e.at) 1 && u) g.shows.ok;
      gone = add-one e.gone ∙ ap suc g.shows.gone;
      stack = refl;
      size = g.shows.size;
      counts = g.shows.counts;
    }

    -- an atom, or no type at all
    pub no_element : k ≢ 1 → ElementMet p n ws e ws (record { ok = b; at = 0; top = e.top; gone = e.gone + 1 })
    unfolding meet
    no_element m = record {
      within = within_self n ws;
      none = refl;
      shows = subst (λ u. Mirrors n ws off (meet u (taken cs st e.at xs))) (arrow-atom (at cs e.at) k ke m) off_mirrors;
    }

    -- a list
    module _ (y : ℕ) (us : List ℕ) (f : Peel) (one : k ≡ 1) (ye : y ≡ elem_of p.cells e.at)
        (d : ArrowMet n y ws (record { ok = b; at = 0; top = e.top; gone = e.gone + 1 }) us f) where
      element_mirrors : Mirrors n us f (element_met p n ws e)
      element_mirrors =
          subst (λ u. Mirrors n us f (meet u (taken cs st e.at xs))) (arrow_list (at cs e.at) k y ke one ye)
          (d.shows (taken cs st e.at xs) off_mirrors)

      element-inv : PeelInv cs (occ p.holders) (λ d. same (next_of cs e.at) d + 0) (element_met p n ws e)
      element-inv =
          meet-inv cs (occ p.holders) (λ d. gives d (at cs e.at) + 0) (λ d. same (next_of cs e.at) d + 0) (arrow (at cs e.at))
          (taken cs st e.at xs)
          (taken-inv cs (occ p.holders) (λ d. 0) st e.at xs (state-inv p e.gone) stacked) (λ d q. omega (arith, gives-arrow d (at cs e.at) q))

      pub element-room : Room n us f
      element-room =
          room cs (occ p.holders) (λ d. same (next_of cs e.at) d + 0) (element_met p n ws e) n us f element-inv element_mirrors g.sized g.few
          (omega (arith, d.within.size, g.long))

      pub some_element : (vs : List ℕ) (r : Peel) → Stows n us f vs r → ElementMet p n ws e vs r
      some_element vs r a = record { within = within_then d.within a.within; none = a.none; shows = a.shows (element_met p n ws e) element_mirrors }

  -- its successor met
  module _ (us : List ℕ) (f : Peel) (m : ElementMet p n ws e us f) (x : ℕ) (zs : List ℕ) (r : Peel) (xe : x ≡ next_of p.cells e.at)
      (d : ArrowMet n x us f zs r) where
    next_mirrors : Mirrors n zs r (state_at p (suc e.gone))
    unfolding turns popped pop
    next_mirrors =
        subst (λ u. Mirrors n zs r (pop cs u st)) (sym stacked)
        (subst (λ u. Mirrors n zs r (meet u (element_met p n ws e))) xe (d.shows (element_met p n ws e) m.shows))

    next-within : Within n ws zs
    next-within = within_then m.within d.within

    pub next-room : Room n zs r
    next-room =
        room cs (occ p.holders) (λ d. 0) (state_at p (suc e.gone)) n zs r (state-inv p (suc e.gone)) next_mirrors g.sized g.few
        (omega (arith, next-within.size, g.long))

    pub took : (o : Peel) → Refills n zs r o → Reached n ws zs o (state_at p (suc e.gone))
    took o q = record {
      within = next-within;
      refilled =
          q (state_at p (suc e.gone)) next_mirrors (none-null cs (occ p.holders) (λ d. 0) (state_at p (suc e.gone)) (state-inv p (suc e.gone)));
    }

  -- one more is done
  pub one_more : (us : List ℕ) (r : Peel) → Reached n ws us r (state_at p (suc e.gone)) → r.gone ≡ suc e.gone
  unfolding turns popped
  one_more us r b =
      b.refilled.shows.gone ∙ ap (λ u. (pop cs u st).gone) stacked ∙ pop_gone cs e.at xs st ∙ ap suc (sym g.shows.gone)

pub hand_cell : (s : Shape) (ts ws : List ℕ) (e : Peel) → Taking (view s ts) s.cells ws e → IsCell s e.at
hand_cell s ts ws e g = let i = hand_live (view s ts) s.cells ws e g in record { low = i.0; high = omega (arith, i.1, g.sized) }
