-- CINV puts its copy into free cells: those that are live stay as they are but for their counts. By induction on the list copied.
use Rattle.std.specs.Prelude.{refl, ◌≢◌, List, length}
use Rattle.std.proofs.Common.{sym, arith}
use Rattle.std.proofs.Math.Path.{subst}
use Prim.Native.Nat.{ℕ, zero, suc, ◌+◌, ◌≤◌}
use Rattle.lists.specs.Lst.{Lst, nil, atom, list, len}
use Rattle.pool.specs.Tally.{same}
use Rattle.pool.specs.Pool.{Cell, next_of, Live, ListAt, lives}
use Rattle.pool.specs.Laws.Held.{Held}
use Rattle.pool.specs.Laws.Frame.{Kept, Kept_trans, ListAt_grown}
use Rattle.pool.specs.Laws.SoundLaws.{none_aside}
use Rattle.pool.specs.Operations.{Made, with_twin, copy}
use Rattle.pool.specs.Laws.Copy.{copy_end, copy-next, one}

live_some : (cs : List Cell) (x : ℕ) → Live cs x → x ≢ 0
live_some cs x l e = let z : Live cs 0 = subst (Live cs) e l in omega arith

module _ (r : ℕ → ℕ) where
  abbrev Grows : List Cell → Made → Type 0
  Grows cs z = Kept z.cells cs

  abbrev Start : ℕ → List Cell → ℕ → Type 0
  Start f cs y = Held f cs (λ d. same y d + r d) none_aside

  -- one cell copied, and then the list behind it
  on : (k f : ℕ) (cs : List Cell) (x y : ℕ) (l : Lst) → Live cs x → ListAt cs (next_of cs x) l → suc (len l + lives cs) ≤ length cs → Start f cs y
      → ((g : ℕ) (ds : List Cell) → len l + lives ds ≤ length ds → Start g ds f → ListAt ds (next_of cs x) l → Grows ds (copy k g ds (next_of cs x) f))
      → Grows cs (copy (suc k) f cs x y)
  on k f cs x y l v w lt h ih =
      let c = one f cs x y r h v (omega arith) in
      let ds = with_twin f cs x y in
      let rest = ih _ ds (omega (arith, c.up, c.long)) c.held (ListAt_grown cs ds c.grown l (next_of cs x) w) in
      subst (Grows cs) (sym (copy-next k f cs x y (live_some cs x v))) (Kept_trans _ ds cs rest c.grown)

  pub copy_grows : (l : Lst) (k f : ℕ) (cs : List Cell) (x y : ℕ) → len l + lives cs ≤ length cs → Start f cs y → ListAt cs x l → Grows cs (copy k f cs x y)
  unfolding len ListAt copy
  copy_grows nil k f cs x y lt h w = subst (Grows cs) (sym (copy_end k f cs x y w)) (λ c v. (v, refl))
  copy_grows (atom a l) zero f cs x y lt h w = λ c v. (v, refl)
  copy_grows (list e l) zero f cs x y lt h w = λ c v. (v, refl)
  copy_grows (atom a l) (suc k) f cs x y lt h w = on k f cs x y l w.0 w.3 (omega arith) h (λ g ds. copy_grows l k g ds (next_of cs x) f)
  copy_grows (list e l) (suc k) f cs x y lt h w = on k f cs x y l w.0 w.3 (omega arith) h (λ g ds. copy_grows l k g ds (next_of cs x) f)
