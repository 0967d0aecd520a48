-- Where CINV puts its copy: of the free chain the i-th cell is the copy of the i-th of the main level, and the lists among the elements are
-- borrowed. By induction on the main level; its cells are live and those of the free chain are not, so neither disturbs the other.
use Rattle.std.specs.Prelude.{◌≡◌, refl, ◌≢◌, ℕ, zero, suc, ◌+◌, ◌≤◌, ◌<◌, length, get_or, take}
use Rattle.std.proofs.Common.{sym, ◌∙◌, subst, arith}
use Rattle.std.proofs.Math.Path.{ap}
use Rattle.std.proofs.Math.Logic.{inl, inr}
use mathlib.Core.List.{List, [], ◌∷◌, map}
use Rattle.std.proofs.Math.Decide.{ℕ_discrete}
use Rattle.pool.specs.Tally.{same, tally, occ}
use Rattle.pool.specs.Pool.{Cell, at, put, kind_of, elem_of, count_of, next_of, counted, Live, NullOrLive, InPool, Chain}
use Rattle.pool.specs.Laws.Edit.{put-length, put_same, put_other, live_cell}
use Rattle.pool.specs.Laws.ShareLaws.{share-length}
use Rattle.pool.specs.Laws.Copy.{copy_end, copy-next}
use Rattle.pool.specs.Operations.{share, item_of, item, Made, twin, with_twin, copy}
use Rattle.pool.specs.Laws.TallyLaws.{Same, eq, ne, same?, same_eq, same_ne, same_of}
use Rattle.table.specs.Laws.ViewLaws.{cell-path}
use Rattle.promises.specs.Cells.{nth}
use Rattle.promises.specs.Laws.ErasingLaws.{chain_put}
use Rattle.promises.specs.Laws.Levels.{nth-occ, first_once, chain_first, AllLive, live_later, AllFree}

-- one more arrow to a cell
pub share_counts : (cs : List Cell) (x c : ℕ) → NullOrLive cs x → c ≢ 0 → at (share cs x) c ≡ counted (at cs c) (count_of cs c + same x c)
unfolding share
share_counts cs zero c o n = ap (counted (at cs c)) (omega (arith, same_ne 0 c (λ e. n (sym e))))
share_counts cs (suc i) c (inl e) n = absurd (omega arith)
share_counts cs (suc i) c (inr l) n = go (same? (suc i) c)
  where
    y : Cell
    y = counted (at cs (suc i)) (suc (count_of cs (suc i)))

    go : Same (suc i) c → at (put cs (suc i) y) c ≡ counted (at cs c) (count_of cs c + same (suc i) c)
    go (eq e z) =
        let k = live_cell cs (suc i) l in
        let up : suc (count_of cs (suc i)) ≡ count_of cs (suc i) + same (suc i) c = omega (arith, z) in
        subst (λ (d : ℕ). at (put cs (suc i) y) d ≡ counted (at cs d) (count_of cs d + same (suc i) c)) e
        (put_same cs (suc i) y k.0 k.1 ∙ ap (counted (at cs (suc i))) up)
    go (ne m z) = put_other cs (suc i) c y (λ e. m (sym e)) ∙ ap (counted (at cs c)) (omega (arith, z))

-- changes no more than its count
pub share-stays : (cs : List Cell) (x c : ℕ) → NullOrLive cs x → counted (at (share cs x) c) 0 ≡ counted (at cs c) 0
share-stays cs x c o = go (ℕ_discrete c 0)
  where
    go : Dec (c ≡ 0) → counted (at (share cs x) c) 0 ≡ counted (at cs c) 0
    go (yes e) = rw e refl
    go (no n) = ap (λ (z : Cell). counted z 0) (share_counts cs x c o n)

chain_same : (cs ds : List Cell) → ((c : ℕ) → next_of ds c ≡ next_of cs c) → (c : ℕ) (fs : List ℕ) → Chain cs c fs → Chain ds c fs
unfolding Chain
chain_same cs ds s c [] h = h
chain_same cs ds s c (f ∷ fs) h = (h.0, h.1, subst (λ (d : ℕ). Chain ds d fs) (sym (s f)) (chain_same cs ds s (next_of cs f) fs h.2))

take_less : (n : ℕ) (xs : List ℕ) (c : ℕ) → occ (take n xs) c ≤ occ xs c
unfolding tally
take_less zero xs c = omega arith
take_less (suc n) [] c = omega arith
take_less (suc n) (x ∷ xs) c = omega (arith, take_less n xs c)

pub map_same : (f g : ℕ → ℕ) (xs : List ℕ) → ((c : ℕ) → 0 < occ xs c → f c ≡ g c) → map f xs ≡ map g xs
unfolding tally
map_same f g [] h = refl
map_same f g (x ∷ xs) h = let r = map_same f g xs (λ c o. h c (omega arith)) in let e = h x (omega (arith, same_eq x)) in cc (e, r)

-- the lists among the elements are null or live
abbrev pub LiveItems : List Cell → List ℕ → Type 0
LiveItems cs xs = (c : ℕ) → c ≢ 0 → 0 < occ (map (item cs) xs) c → Live cs c

pub record CopiedTo (xs fs : List ℕ) (y : ℕ) (cs : List Cell) (z : Made) : Type 0 where
  pub free : z.free ≡ nth fs (length xs)
  pub head : z.head ≡ get_or (y ∷ fs) (length xs) 0
  pub copied : (i : ℕ) → i < length xs
      → at z.cells (nth fs i) ≡ record { kind = kind_of cs (nth xs i); elem = elem_of cs (nth xs i); count = 1; next = get_or (y ∷ fs) i 0 }
  pub rest : (c : ℕ) → c ≢ 0 → occ (take (length xs) fs) c ≡ 0 → at z.cells c ≡ counted (at cs c) (count_of cs c + occ (map (item cs) xs) c)

-- one cell of the copy: the first of the main level u in the first free cell g
module _ (cs : List Cell) (u g y : ℕ) (xs fs : List ℕ) (cu : Chain cs u (u ∷ xs)) (cg : Chain cs g (g ∷ fs)) (lv : AllLive cs (u ∷ xs))
    (it : LiveItems cs (u ∷ xs)) (fr : AllFree cs (g ∷ fs)) where
  abbrev e₀ : ℕ
  e₀ = item cs u

  abbrev sh : List Cell
  sh = share cs e₀

  abbrev ds : List Cell
  ds = with_twin g cs u y

  ok : NullOrLive cs e₀
  unfolding tally
  ok = go (ℕ_discrete e₀ 0)
    where
      go : Dec (e₀ ≡ 0) → NullOrLive cs e₀
      go (yes z) = inl z
      go (no n) = inr (it e₀ n (omega (arith, same_eq e₀)))

  inside : InPool cs g × (count_of cs g ≡ 0)
  unfolding tally
  inside = fr g (omega (arith, same_eq g))

  -- a live cell is not the free one
  apart : (c : ℕ) → Live cs c → c ≢ g
  apart c l e = omega (arith, ap (count_of cs) e, inside.1)

  next-same : (c : ℕ) → next_of sh c ≡ next_of cs c
  next-same c = ap (λ (z : Cell). z.next) (share-stays cs e₀ c ok)

  -- every other cell is as it was, but for its count
  other : (c : ℕ) → c ≢ 0 → c ≢ g → at ds c ≡ counted (at cs c) (count_of cs c + same e₀ c)
  other c n m = put_other sh g c (twin cs u y) m ∙ share_counts cs e₀ c ok n

  live_on : (c : ℕ) → Live cs c → Live ds c
  live_on c l = omega (arith, ap (λ (z : Cell). z.count) (other c (λ e. omega (arith, live_cell cs c l)) (apart c l)))

  stays : (c : ℕ) → Live cs c → (kind_of ds c ≡ kind_of cs c) × (elem_of ds c ≡ elem_of cs c)
  stays c l = let z = other c (λ e. omega (arith, live_cell cs c l)) (apart c l) in (ap (λ (w : Cell). w.kind) z, ap (λ (w : Cell). w.elem) z)

  later : AllLive cs xs
  later = live_later cs u xs lv

  items-same : map (item ds) xs ≡ map (item cs) xs
  items-same = map_same (item ds) (item cs) xs (λ c o. let s = stays c (later c o) in λ i. item_of (s.0 i) (s.1 i))

  none_here : occ (map (item cs) xs) g ≡ 0
  unfolding tally
  none_here = go (ℕ_discrete (occ (map (item cs) xs) g) 0)
    where
      go : Dec (occ (map (item cs) xs) g ≡ 0) → occ (map (item cs) xs) g ≡ 0
      go (yes z) = z
      go (no n) = absurd (omega (arith, it g (λ e. omega (arith, inside.0)) (omega arith), inside.1))

  chain_level : Chain ds (next_of cs u) xs
  unfolding Chain
  chain_level = chain_put sh g (twin cs u y) (next_of cs u) xs away (chain_same cs sh next-same (next_of cs u) xs cu.2)
    where
      away : occ xs g ≡ 0
      away = go (ℕ_discrete (occ xs g) 0)
        where
          go : Dec (occ xs g ≡ 0) → occ xs g ≡ 0
          go (yes z) = z
          go (no n) = absurd (apart g (later g (omega arith)) refl)

  chain_free : Chain ds (next_of sh g) fs
  unfolding Chain
  chain_free = chain_put sh g (twin cs u y) (next_of sh g) fs (first_once cs g g fs cg)
      (chain_same cs sh next-same (next_of sh g) fs (subst (λ (c : ℕ). Chain cs c fs) (sym (next-same g)) cg.2))

  items-on : LiveItems ds xs
  unfolding tally
  items-on c n o = live_on c (it c n (omega (arith, ap (λ (es : List ℕ). occ es c) items-same)))

  free_on : AllFree ds fs
  unfolding tally
  free_on c o =
      let (i, z) = fr c (omega arith) in
      let n : c ≢ g = λ e. omega (arith, ap (occ fs) e, first_once cs g g fs cg) in
      let m : e₀ ≢ c = λ e. not_item e in (
        (i.0, omega (arith, put-length sh g (twin cs u y), share-length cs e₀, i.1)),
        ap (λ (w : Cell). w.count) (other c (λ e. omega (arith, i.0)) n)
            ∙ omega (arith, z, same_ne e₀ c m),
      )
    where
      not_item : e₀ ≡ c → ⊥
      not_item e = go ok
        where
          go : NullOrLive cs e₀ → ⊥
          go (inl q) = omega (arith, (fr c (omega arith)).0.0)
          go (inr l) = omega (arith, (fr c (omega arith)).1, ap (count_of cs) e)

  joined : (z : Made) → CopiedTo xs fs g ds z → CopiedTo (u ∷ xs) (g ∷ fs) y cs z
  unfolding tally
  joined z r = record { free = r.free; head = r.head; copied = at_place; rest = elsewhere }
    where
      twinned : at ds g ≡ twin cs u y
      twinned = put_same sh g (twin cs u y) inside.0.0 (omega (arith, share-length cs e₀, inside.0.1))

      at_place : (i : ℕ) → i < suc (length xs)
          → at z.cells (nth (g ∷ fs) i) ≡ record {
            kind = kind_of cs (nth (u ∷ xs) i);
            elem = elem_of cs (nth (u ∷ xs) i);
            count = 1;
            next = get_or
                (y ∷ g ∷ fs) i 0;
          }
      at_place zero l =
          let one : count_of ds g + occ (map (item ds) xs) g ≡ 1
          = omega (arith, ap (λ (w : Cell). w.count) twinned, none_here, ap (λ (es : List ℕ). occ es g) items-same) in
          r.rest g (λ e. omega (arith, inside.0)) (omega (arith, take_less (length xs) fs g, first_once cs g g fs cg)) ∙ ap (counted (at ds g)) one
          ∙ ap (λ (w : Cell). counted w 1) twinned
      at_place (suc i) l =
          let s = stays (nth xs i) (later (nth xs i) (nth-occ xs i (omega arith))) in
          r.copied i (omega arith) ∙ cell-path s.0 s.1 refl refl

      elsewhere : (c : ℕ) → c ≢ 0 → occ (take (suc (length xs)) (g ∷ fs)) c ≡ 0
          → at z.cells c ≡ counted (at cs c) (count_of cs c + occ (map (item cs) (u ∷ xs)) c)
      elsewhere c n o =
          let m : c ≢ g = λ e. omega (arith, same_of g c (sym e)) in
          let w = other c n m in
          let sum : count_of ds c + occ (map (item ds) xs) c ≡ count_of cs c + (same e₀ c + occ (map (item cs) xs) c)
          = omega (arith, ap (λ (v : Cell). v.count) w, ap (λ (es : List ℕ). occ es c) items-same) in
          r.rest c n (omega arith) ∙ ap (counted (at ds c)) sum ∙ ap (λ (v : Cell). counted v (count_of cs c + (same e₀ c + occ (map (item cs) xs) c))) w

pub copy_cells : (xs fs : List ℕ) (k f : ℕ) (cs : List Cell) (x y : ℕ) → Chain cs x xs → Chain cs f fs → AllLive cs xs → LiveItems cs xs → AllFree cs fs
    → length xs ≤ length fs → length xs ≤ k
    → CopiedTo xs fs y cs (copy k f cs x y)
unfolding Chain tally
copy_cells [] fs k f cs x y cx cf lv it fr l m = subst (CopiedTo [] fs y cs) (sym (copy_end k f cs x y cx)) (record {
  free = chain_first cs f fs cf;
  head = refl;
  copied = λ i h. absurd (omega arith);
  rest = λ c n o. ap (counted (at cs c)) (omega arith);
})
copy_cells (u ∷ xs) [] k f cs x y cx cf lv it fr l m = absurd (omega arith)
copy_cells (u ∷ xs) (g ∷ fs) zero f cs x y cx cf lv it fr l m = absurd (omega arith)
copy_cells (u ∷ xs) (g ∷ fs) (suc k) f cs x y cx cf lv it fr l m =
    let cu : Chain cs u (u ∷ xs) = (refl, cx.1, cx.2) in
    let cg : Chain cs g (g ∷ fs) = (refl, cf.1, cf.2) in
    let r = copy_cells xs fs k (next_of (share cs (item cs u)) g) (with_twin g cs u y) (next_of cs u) g (chain_level cs u g y xs fs cu cg lv it fr)
    (chain_free cs u g y xs fs cu cg lv it fr)
    (λ c o. live_on cs u g y xs fs cu cg lv it fr c (live_later cs u xs lv c o)) (items-on cs u g y xs fs cu cg lv it fr)
    (free_on cs u g y xs fs cu cg lv it fr) (omega arith) (omega arith) in
    subst (CopiedTo (u ∷ xs) (g ∷ fs) y cs)
    (sym (ap (λ (c : ℕ). copy (suc k) f cs c y) cx.0 ∙ ap (λ (c : ℕ). copy (suc k) c cs u y) cf.0 ∙ copy-next k g cs u y cx.1))
    (joined cs u g y xs fs cu cg lv it fr _ r)
