-- The cells of chains: the main level of a list is a chain of live cells, the free chain one of free cells; and what INV and CONC make of a
-- chain, by induction on it.
use Rattle.std.specs.Prelude.{◌≡◌, refl, ◌≢◌, List, [], ◌∷◌, ℕ, zero, suc, ◌≤◌, ◌<◌, length, get_or}
use Rattle.std.proofs.Common.{sym, ap, ◌∙◌, subst, arith}
use Rattle.lists.specs.Lst.{Lst, nil, atom, list, len}
use Rattle.pool.specs.Tally.{tally, occ}
use Rattle.pool.specs.Pool.{Cell, Pool, at, count_of, next_of, followed, set_next, Live, InPool, ListAt, Chain, frees, Sound}
use Rattle.pool.specs.Laws.Edit.{put_same, put_other, live_cell}
use Rattle.pool.specs.Laws.Chains.{Chain_unique, Chain_once, sound_chain_length}
use Rattle.pool.specs.Laws.Room.{frees-lives}
use Rattle.pool.specs.Laws.Inverse.{flip_end, flip-next}
use Rattle.pool.specs.Operations.{flip, last_of}
use Rattle.pool.specs.Laws.TallyLaws.{Same, eq, ne, same?, same_eq, same_of}
use Rattle.pool.specs.Laws.LastCell.{last_of_end, last_of-next}
use Rattle.promises.specs.Cells.{nth, before, end_of}
use Rattle.promises.specs.Laws.ErasingLaws.{chain_put}
use Rattle.promises.specs.Laws.FreeCells.{free-zero}

-- what stands at a place stands there
pub nth-occ : (xs : List ℕ) (i : ℕ) → i < length xs → 0 < occ xs (nth xs i)
unfolding tally
nth-occ [] i l = absurd (omega arith)
nth-occ (x ∷ xs) zero l = omega (arith, same_eq x)
nth-occ (x ∷ xs) (suc i) l = omega (arith, nth-occ xs i (omega arith))

pub nth-other : (xs : List ℕ) (i c : ℕ) → i < length xs → occ xs c ≡ 0 → nth xs i ≢ c
nth-other xs i c l o e = omega (arith, nth-occ xs i l, ap (occ xs) e)

-- the first of a chain is not met again
pub first_once : (cs : List Cell) (c x : ℕ) (xs : List ℕ) → Chain cs c (x ∷ xs) → occ xs x ≡ 0
unfolding tally
first_once cs c x xs h = omega (arith, Chain_once cs c (x ∷ xs) h x, same_eq x)

-- a chain has its first cell
pub chain_has : (cs : List Cell) (c : ℕ) (fs : List ℕ) → c ≢ 0 → Chain cs c fs → 0 < occ fs c
unfolding Chain tally
chain_has cs c [] n h = absurd (n h)
chain_has cs c (f ∷ fs) n h = omega (arith, same_of f c (sym h.0))

pub chain_first : (cs : List Cell) (c : ℕ) (fs : List ℕ) → Chain cs c fs → c ≡ nth fs 0
unfolding Chain
chain_first cs c [] h = h
chain_first cs c (f ∷ fs) h = h.0

-- its cells follow each other, and are different
pub chain_next : (cs : List Cell) (c : ℕ) (fs : List ℕ) → Chain cs c fs → (j : ℕ) → j < length fs → next_of cs (nth fs j) ≡ nth fs (suc j)
unfolding Chain
chain_next cs c [] h j l = absurd (omega arith)
chain_next cs c (f ∷ fs) h zero l = chain_first cs (next_of cs f) fs h.2
chain_next cs c (f ∷ fs) h (suc j) l = chain_next cs (next_of cs f) fs h.2 j (omega arith)

pub nth_apart : (xs : List ℕ) (i j : ℕ) → ((c : ℕ) → occ xs c ≤ 1) → i < length xs → j < length xs → nth xs i ≡ nth xs j → i ≡ j
unfolding tally
nth_apart [] i j o l m e = absurd (omega arith)
nth_apart (x ∷ xs) zero zero o l m e = refl
nth_apart (x ∷ xs) zero (suc j) o l m e = absurd (omega (arith, o (nth xs j), same_of x (nth xs j) e, nth-occ xs j (omega arith)))
nth_apart (x ∷ xs) (suc i) zero o l m e = absurd (omega (arith, o (nth xs i), same_of x (nth xs i) (sym e), nth-occ xs i (omega arith)))
nth_apart (x ∷ xs) (suc i) (suc j) o l m e = ap suc (nth_apart xs i j (λ c. omega (arith, o c)) (omega arith) (omega arith) e)

-- all cells of a list are live
abbrev pub AllLive : List Cell → List ℕ → Type 0
AllLive cs xs = (c : ℕ) → 0 < occ xs c → Live cs c

pub live_first : (cs : List Cell) (x : ℕ) (xs : List ℕ) → AllLive cs (x ∷ xs) → Live cs x
unfolding tally
live_first cs x xs h = h x (omega (arith, same_eq x))

pub live_later : (cs : List Cell) (x : ℕ) (xs : List ℕ) → AllLive cs (x ∷ xs) → AllLive cs xs
unfolding tally
live_later cs x xs h c o = h c (omega arith)

pub live_more : (cs : List Cell) (x : ℕ) (xs : List ℕ) → Live cs x → AllLive cs xs → AllLive cs (x ∷ xs)
unfolding tally
live_more cs x xs v h c o = go (same? x c)
  where
    go : Same x c → Live cs c
    go (eq q z) = subst (Live cs) q v
    go (ne n z) = h c (omega arith)

null_live : (cs : List Cell) (x : ℕ) → x ≡ 0 → Live cs x → ⊥
null_live cs x e v = let z : Live cs 0 = subst (Live cs) e v in omega arith

-- a main level is a chain of live cells
pub level_of : (cs : List Cell) (l : Lst) (x : ℕ) (xs : List ℕ) → ListAt cs x l → Chain cs x xs → (length xs ≡ len l) × AllLive cs xs
unfolding ListAt Chain len tally
level_of cs nil x [] w h = (refl, λ c o. absurd (omega arith))
level_of cs nil x (y ∷ ys) w h = absurd (h.1 (sym h.0 ∙ w))
level_of cs (atom v l) x [] w h = absurd (null_live cs x h w.0)
level_of cs (atom v l) x (y ∷ ys) w h =
    let r = level_of cs l (next_of cs y) ys (subst (λ (c : ℕ). ListAt cs (next_of cs c) l) h.0 w.3) h.2 in
    (ap suc r.0, live_more cs y ys (subst (Live cs) h.0 w.0) r.1)
level_of cs (list e l) x [] w h = absurd (null_live cs x h w.0)
level_of cs (list e l) x (y ∷ ys) w h =
    let r = level_of cs l (next_of cs y) ys (subst (λ (c : ℕ). ListAt cs (next_of cs c) l) h.0 w.3) h.2 in
    (ap suc r.0, live_more cs y ys (subst (Live cs) h.0 w.0) r.1)

pub level : (cs : List Cell) (l : Lst) (x : ℕ) → ListAt cs x l → (xs : List ℕ) × Chain cs x xs
unfolding ListAt Chain
level cs nil x w = ([], w)
level cs (atom v l) x w = let (ys, h) = level cs l (next_of cs x) w.3 in (x ∷ ys, (refl, (λ e. null_live cs x e w.0), h))
level cs (list e l) x w = let (ys, h) = level cs l (next_of cs x) w.3 in (x ∷ ys, (refl, (λ q. null_live cs x q w.0), h))

-- the free chain of a sound pool is all its free cells
abbrev pub AllFree : List Cell → List ℕ → Type 0
AllFree cs fs = (c : ℕ) → 0 < occ fs c → InPool cs c × (count_of cs c ≡ 0)

pub all-free : (p : Pool) → Sound p → (fs : List ℕ) → Chain p.cells p.free fs → AllFree p.cells fs
all-free p s fs h c o = free-zero p s c (fs, h, o)

pub free-length : (p : Pool) → Sound p → (fs : List ℕ) → Chain p.cells p.free fs → length fs ≡ frees p.cells
free-length p s fs h = omega
    (arith, sound_chain_length p s, frees-lives p.cells, ap length (Chain_unique p.cells p.free fs s.chain.0 h s.chain.1))

-- INV: a chain is turned before y
pub record Flipped (xs : List ℕ) (y : ℕ) (cs ds : List Cell) (z : ℕ) : Type 0 where
  pub head : z ≡ get_or (y ∷ xs) (length xs) 0
  pub turned : (i : ℕ) → i < length xs → at ds (nth xs i) ≡ followed (at cs (nth xs i)) (get_or (y ∷ xs) i 0)
  pub rest : (c : ℕ) → occ xs c ≡ 0 → at ds c ≡ at cs c

flip_one : (cs ds : List Cell) (x y z : ℕ) (xs : List ℕ) → Live cs x → occ xs x ≡ 0 → Flipped xs x (set_next cs x y) ds z → Flipped (x ∷ xs) y cs ds z
unfolding tally
flip_one cs ds x y z xs v once r = record {
  head = r.head;
  turned = go;
  rest = λ c o. r.rest c (omega arith)
      ∙ put_other cs x c new (λ e. omega (arith, same_of x c (sym e)));
}
  where
    new : Cell
    new = followed (at cs x) y

    go : (i : ℕ) → i < length (x ∷ xs) → at ds (nth (x ∷ xs) i) ≡ followed (at cs (nth (x ∷ xs) i)) (get_or (y ∷ x ∷ xs) i 0)
    go zero l = let k = live_cell cs x v in r.rest x once ∙ put_same cs x new k.0 k.1
    go (suc i) l = r.turned i (omega arith)
        ∙ ap (λ (u : Cell). followed u (get_or (x ∷ xs) i 0)) (put_other cs x (nth xs i) new (nth-other xs i x (omega arith) once))

pub flip_cells : (xs : List ℕ) (k : ℕ) (cs : List Cell) (x y : ℕ) → Chain cs x xs → AllLive cs xs → length xs ≤ k
    → let r = flip k cs x y in Flipped xs y cs r.0 r.1
unfolding Chain
flip_cells [] k cs x y h v l = subst (λ (r : List Cell × ℕ). Flipped [] y cs r.0 r.1) (sym (flip_end k cs x y h))
    (record { head = refl; turned = λ i m. absurd (omega arith); rest = λ c o. refl })
flip_cells (u ∷ xs) zero cs x y h v l = absurd (omega arith)
flip_cells (u ∷ xs) (suc k) cs x y h v l =
    let w = live_first cs u xs v in
    let once = first_once cs x u xs h in
    let next : next_of cs x ≡ next_of cs u = ap (next_of cs) h.0 in
    let on : Chain (set_next cs u y) (next_of cs u) xs = chain_put cs u (followed (at cs u) y) (next_of cs u) xs once h.2 in
    let same_live : AllLive (set_next cs u y) xs = λ c o. live_on c o (live_later cs u xs v c o) in
    let r = flip_cells xs k (set_next cs u y) (next_of cs u) u on same_live (omega arith) in
    subst (λ (t : List Cell × ℕ). Flipped (u ∷ xs) y cs t.0 t.1) (sym (ap (λ (c : ℕ). flip (suc k) cs c y) h.0 ∙ flip-next k cs u y h.1))
    (flip_one cs _ u y _ xs w once r)
  where
    live_on : (c : ℕ) → 0 < occ xs c → Live cs c → Live (set_next cs u y) c
    live_on c o m = omega
        (arith, ap (λ (z : Cell). z.count) (put_other cs u c (followed (at cs u) y) (λ e. omega (arith, ap (occ xs) e, first_once cs x u xs h))))

-- CONC: the last of a chain
pub last-cell : (xs : List ℕ) (k : ℕ) (cs : List Cell) (x : ℕ) → Chain cs x xs → x ≢ 0 → length xs ≤ suc k → last_of k cs x ≡ end_of xs
unfolding Chain
last-cell [] k cs x h n l = absurd (n h)
last-cell (u ∷ []) k cs x h n l = last_of_end k cs x (ap (next_of cs) h.0 ∙ h.2) ∙ h.0
last-cell (u ∷ v ∷ xs) zero cs x h n l = absurd (omega arith)
last-cell (u ∷ v ∷ xs) (suc k) cs x h n l =
    let e : next_of cs x ≡ next_of cs u = ap (next_of cs) h.0 in
    let m : next_of cs u ≢ 0 = λ z. h.2.1 (sym h.2.0 ∙ z) in
    last_of-next k cs x (λ z. m (sym e ∙ z)) ∙ ap (last_of k cs) e ∙ last-cell (v ∷ xs) k cs (next_of cs u) h.2 m (omega arith)

pub last_live : (cs : List Cell) (xs : List ℕ) → AllLive cs xs → 0 < length xs → Live cs (end_of xs)
last_live cs xs v l = go (length xs) refl l
  where
    go : (n : ℕ) → length xs ≡ n → 0 < n → Live cs (before xs n)
    go zero e m = absurd (omega arith)
    go (suc n) e m = v (nth xs n) (nth-occ xs n (omega arith))
