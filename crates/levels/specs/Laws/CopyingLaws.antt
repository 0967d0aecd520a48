-- The loop of CINV ends where the free cells are enough, and makes what the operation is defined to make.
-- By induction on the number of cells, with the step of the pool's own proof.
use Rattle.std.specs.Prelude.{◌≡◌, refl, ◌≢◌, get_or, set}
use Rattle.std.proofs.Common.{sym, ap, ◌∙◌, arith, eq-eqb, ne_eqb, get_or-set_same}
use Rattle.std.proofs.Math.Path.{subst}
use mathlib.Core.List.{List, [], ◌∷◌}
use Prim.Native.Nat.{ℕ, zero, suc, ◌+◌, ◌≤◌, ◌<◌}
use Rattle.std.proofs.Math.Decide.{ℕ_discrete}
use Rattle.std.proofs.Math.ListN.{length}
use Rattle.cells.specs.Laws.RangeLaws.{null_or_high, free_high, ranged}
use Rattle.lists.specs.Lst.{len}
use Rattle.loops.specs.Loop.{run, Runs, stop, more}
use Rattle.loops.specs.Laws.LoopLaws.{run_halt, run_go}
use Rattle.pool.specs.Laws.Advance.{null_or_item}
use Rattle.pool.specs.Laws.Bound.{tally_le, into-lives}
use Rattle.pool.specs.Laws.Copy.{copy_end, copy-next, one, cinv-does}
use Rattle.pool.specs.Laws.Edit.{live_cell}
use Rattle.pool.specs.Laws.Frame.{Kept}
use Rattle.pool.specs.Laws.Held.{Held, reroot}
use Rattle.pool.specs.Laws.Level.{Level, list_level, length_is}
use Rattle.pool.specs.Operations.{share, item, with_twin, copy, cinv, length_of}
use Rattle.pool.specs.Pool.{Cell, blank, Pool, count_of, next_of, counted, holder, Live, lives, frees, Sound}
use Rattle.pool.specs.Laws.Reach.{elem_ok, len_le}
use Rattle.pool.specs.Laws.Room.{room, frees-lives}
use Rattle.pool.specs.Laws.SoundLaws.{none_aside, sound_held, denoted}
use Rattle.pool.specs.Tally.{same, occ}
use Rattle.pool.specs.Laws.TallyLaws.{same_ne, same_le}
use Rattle.pool.specs.Setters.{put_holder}
use Rattle.levels.specs.Copying.{copying, over, moved, told, Copyable, Sure, made, placed, Copies}

-- one more arrow to a cell changes no successor
counted_next : (cs : List Cell) (i j k : ℕ) → (get_or (set cs i (counted (get_or cs i blank) k)) j blank).next ≡ (get_or cs j blank).next
counted_next [] i j k = refl
counted_next (x ∷ xs) zero zero k = refl
counted_next (x ∷ xs) zero (suc j) k = refl
counted_next (x ∷ xs) (suc i) zero k = refl
counted_next (x ∷ xs) (suc i) (suc j) k = counted_next xs i j k

pub share-next : (cs : List Cell) (c d : ℕ) → next_of (share cs c) d ≡ next_of cs d
unfolding share
share-next cs zero d = refl
share-next cs (suc i) zero = refl
share-next cs (suc i) (suc j) = counted_next cs i j (suc (count_of cs (suc i)))

level_grown : (cs ds : List Cell) → Kept ds cs → (n c : ℕ) → Level n cs c → Level n ds c
unfolding Level
level_grown cs ds k zero c h = h
level_grown cs ds k (suc n) c h =
    let (l, e) = k c h.0 in
    (l, subst (Level n ds) (ap (λ x. x.next) e) (level_grown cs ds k n (next_of cs c) h.1))

module _ (m : ℕ) (r : ℕ → ℕ) (few : (d : ℕ) → r d ≤ m) where
  copyable : (f : ℕ) (cs : List Cell) (x y : ℕ) → Held f cs (λ d. same y d + r d) none_aside → y ≤ length cs → Live cs x → lives cs < length cs
      → Copyable m cs f x y
  copyable f cs x y h ly lx lt =
      let rs : ℕ → ℕ = λ d. same y d + r d in
      let n : f ≢ 0 = room f cs rs h lt in
      record {
        here = live_cell cs x lx;
        free = (omega arith, free_high f cs rs none_aside h);
        next = ly;
        kind = h.kinds x lx;
        elem = null_or_high cs (item cs x) (null_or_item cs x (h.kinds x lx) (λ k. elem_ok f cs rs none_aside x h lx k));
        more = λ q. omega (arith, h.law (item cs x) q, few (item cs x), same_le y (item cs x), into-lives cs (item cs x));
      }

  copies : (n f : ℕ) (cs : List Cell) (x y : ℕ) → n + lives cs ≤ length cs → Held f cs (λ d. same y d + r d) none_aside → y ≤ length cs → Level n cs x
      → Runs over moved (Sure m) n (copying cs f x y)
  unfolding Level moved
  copies zero f cs x y lt h ly w = stop (eq-eqb x 0 w)
  copies (suc n) f cs x y lt h ly w =
      let t = one f cs x y r h w.0 (omega arith) in
      let ds : List Cell = with_twin f cs x y in
      let ok = copyable f cs x y h ly w.0 (omega arith) in
      more (ne_eqb x 0 (omega (arith, ok.here)))
      ok
      (copies n (next_of (share cs (item cs x)) f) ds (next_of cs x) f (omega (arith, t.up, t.long)) t.held (omega (arith, ok.free, t.long))
      (level_grown cs ds t.grown n (next_of cs x) w.1))

-- the loop is the one that CINV is defined by
pub is_copy : (k f : ℕ) (cs : List Cell) (x y : ℕ) → copy k f cs x y ≡ told (run over moved k (copying cs f x y))
unfolding run copy moved
is_copy zero f cs x y = refl
is_copy (suc k) f cs x y = go (ℕ_discrete x 0) (is_copy k (next_of (share cs (item cs x)) f) (with_twin f cs x y) (next_of cs x) f)
  where
    go : Dec (x ≡ 0)
        → copy k (next_of (share cs (item cs x)) f) (with_twin f cs x y) (next_of cs x) f
        ≡ told (run over moved k (copying (with_twin f cs x y) (next_of (share cs (item cs x)) f) (next_of cs x) f))
        → copy (suc k) f cs x y ≡ told (run over moved (suc k) (copying cs f x y))
    go (yes e) ih = copy_end (suc k) f cs x y e ∙ ap told (sym (run_halt over moved (suc k) (copying cs f x y) (eq-eqb x 0 e)))
    go (no n) ih = copy-next k f cs x y n ∙ ih ∙ ap told (sym (run_go over moved k (copying cs f x y) (ne_eqb x 0 n)))

module _ (p : Pool) (a b : ℕ) (s : Sound p) (lb : b < length p.holders) (nb : holder p b ≡ 0) (fits : length_of p a ≤ frees p.cells) where
  sound_after : Sound (cinv p a b)
  sound_after =
      let (l, w) = denoted p s a in
      (cinv-does p a b l s lb nb w (omega (arith, length_is p a l s w, frees-lives p.cells, fits))).sound

  pub room-copies : Copies (length p.holders) p (holder p a)
  unfolding cinv
  room-copies =
      let (l, w) = denoted p s a in
      let h = sound_held p s in
      record {
        ends = record {
          turns = len l;
          runs =
              copies (length p.holders) (occ p.holders) (λ d. omega (arith, tally_le (λ u. same u d) 1 p.holders (λ u. same_le u d))) (len l) p.free
              p.cells (holder p a) 0
              (omega (arith, length_is p a l s w, frees-lives p.cells, fits))
              (reroot p.free p.cells (occ p.holders) none_aside (λ d. same 0 d + occ p.holders d) none_aside h
              (λ d n. omega (arith, same_ne 0 d (λ q. n (sym q)))) (λ d. refl))
              (omega arith) (list_level p.cells l (holder p a) w);
          short = len_le p.free p.cells (occ p.holders) none_aside h l (holder p a) w;
        };
        top = (ranged (cinv p a b) sound_after).free_top;
      }

  -- the first cell of the copy is in range
  pub head_top : (made p (holder p a)).head ≤ length (made p (holder p a)).cells
  unfolding cinv
  head_top =
      subst (λ u. u ≤ length (made p (holder p a)).cells) (get_or-set_same p.holders b (made p (holder p a)).head 0 lb)
      ((ranged (cinv p a b) sound_after).holders_top b)

pub is_cinv : (p : Pool) (a b : ℕ) → put_holder b (made p (holder p a)).head (placed (made p (holder p a)) p) ≡ cinv p a b
unfolding cinv
is_cinv p a b = refl
