-- The statements about cells leave one pool: two that an operation, or reading, may make of the same one are equal, holder by holder and cell
-- by cell.
use Rattle.std.specs.Prelude.{◌≡◌, refl, ◌≢◌, false, List, [], ◌∷◌, ℕ, zero, suc, ◌+◌, ◌≤◌, ◌<◌, length, take}
use Rattle.std.proofs.Common.{sym, ap, ◌∙◌, subst, inl, inr, arith, length-take, ext_get_or, get_or-take}
use Rattle.std.proofs.Math.Decide.{ℕ_discrete, dec_lt}
use Rattle.answers.specs.Answers.{DONE}
use Rattle.lists.specs.Lst.{Lst, nil, atom, list, extent}
use Rattle.pool.specs.Tally.{same, occ}
use Rattle.pool.specs.Pool.{Cell, blank, Pool, at, holder, Chain, Sound}
use Rattle.pool.specs.Script.{PFA, PFL, DECAP, ADV, BORROW, ERASE, INV, CINV, CONC, LENGTH, Operation, among}
use Rattle.pool.specs.Laws.SoundLaws.{denoted}
use Rattle.pool.specs.Laws.TallyLaws.{same_pos, tally_find}
use Rattle.table.specs.declared.Form.{Form}
use Rattle.table.specs.declared.Shape.{Shape}
use Rattle.table.specs.Limits.{holders_told}
use Rattle.table.specs.Sizes.{cells_of, shape_of}
use Rattle.table.specs.View.{shape, view, Table}
use Rattle.table.proofs.SizesLaws.{cells_table}
use Rattle.table.specs.Laws.ViewLaws.{pool-path}
use Rattle.table.specs.Laws.TabLaws.{length-tab}
use Rattle.table.specs.Laws.FixedLaws.{view_fixes}
use Rattle.calls.specs.Entry.{shown}
use Rattle.promises.specs.Engine.{Engine}
use Rattle.promises.specs.Rows.{OneOf}
use Rattle.promises.specs.Grounds.{with_b, UsesB}
use Rattle.promises.specs.Demand1.{words_of}
use Rattle.promises.specs.Demand2.{Demand2}
use Rattle.promises.specs.Erasing.{Erased}
use Rattle.promises.specs.Cells.{Sized, Only, nth, Raised, Prefixed, Decapped, Advanced, Borrowed, Turned, Copied, Joined, asking, Laid, ReadIn}
use Rattle.promises.specs.Laws.Tells.{tells_among}
use Rattle.promises.specs.Laws.TestsTell.{shown_holders}
use Rattle.promises.specs.Laws.ErasingLaws.{one_end}
use Rattle.promises.specs.Laws.Levels.{level}

-- cells, and pools, that agree everywhere
same_cells : (cs ds : List Cell) → length cs ≡ length ds → ((c : ℕ) → c ≢ 0 → at cs c ≡ at ds c) → cs ≡ ds
same_cells cs ds l h = ext_get_or blank cs ds l (λ i _. h (suc i) (λ z. omega arith))

same-pool : (p q r : Pool) → Sized p q → Sized p r → ((i : ℕ) → holder q i ≡ holder r i) → q.free ≡ r.free → q.cells ≡ r.cells → q ≡ r
same-pool p q r s t h f c = pool-path f (ext_get_or 0 q.holders r.holders (s.holders ∙ sym t.holders) (λ i _. h i)) c

-- a number stands among others, at some place, or does not
find : (xs : List ℕ) (c : ℕ) → 0 < occ xs c → (i : ℕ) × (i < length xs) × (nth xs i ≡ c)
find xs c o = let (i, l, s) = tally_find (λ h. same h c) xs 0 o in (i, l, same_pos (nth xs i) c s)

find_taken : (n : ℕ) (xs : List ℕ) (c : ℕ) → 0 < occ (take n xs) c → (i : ℕ) × (i < n) × (nth xs i ≡ c)
find_taken n xs c o =
    let (i, l, e) = find (take n xs) c o in
    let b : i < n = omega (arith, length-take n xs) in
    (i, b, sym (get_or-take n xs i 0 b) ∙ e)

-- cells that two pools have alike: those at the places of a list, and those that do not stand in it
by_place : (xs : List ℕ) (n : ℕ) (cs ds : List Cell) → ((i : ℕ) → i < n → at cs (nth xs i) ≡ at ds (nth xs i))
    → ((c : ℕ) → c ≢ 0 → occ (take n xs) c ≡ 0 → at cs c ≡ at ds c) → (c : ℕ) → c ≢ 0 → at cs c ≡ at ds c
by_place xs n cs ds f g c some = go (ℕ_discrete (occ (take n xs) c) 0)
  where
    go : Dec (occ (take n xs) c ≡ 0) → at cs c ≡ at ds c
    go (yes z) = g c some z
    go (no z) = let (i, l, e) = find_taken n xs c (omega arith) in subst (λ (d : ℕ). at cs d ≡ at ds d) e (f i l)

only_once : {x : ℕ} {y : Cell} {p q r : Pool} → Only x y p q → Only x y p r → (c : ℕ) → at q.cells c ≡ at r.cells c
only_once {x} {y} {p} {q} {r} a b c = go (ℕ_discrete c x)
  where
    go : Dec (c ≡ x) → at q.cells c ≡ at r.cells c
    go (yes e) = subst (λ (d : ℕ). at q.cells d ≡ at r.cells d) (sym e) (a.here ∙ sym b.here)
    go (no n) = a.rest c n ∙ sym (b.rest c n)

pub lent_once : {xs : List ℕ} {cs ds es : List Cell} → Raised xs cs ds → Raised xs cs es → ds ≡ es
lent_once {xs} {cs} {ds} {es} a b = same_cells ds es (a.size ∙ sym b.size) (λ c n. a.counts c n ∙ sym (b.counts c n))

-- what every operation keeps
pub record Framed (o : Operation) (p q : Pool) : Type 0 where
  pub sized : Sized p q
  pub others : (i : ℕ) → i ≢ o.a → (UsesB o.code → i ≢ o.b) → holder q i ≡ holder p i

module _ (o : Operation) (p q r : Pool) (f : Framed o p q) (g : Framed o p r) where
  -- the holders of an operation that uses a, and of one that uses a and b
  with_a : (UsesB o.code → ⊥) → holder q o.a ≡ holder r o.a → (i : ℕ) → holder q i ≡ holder r i
  with_a n e i = go (ℕ_discrete i o.a)
    where
      go : Dec (i ≡ o.a) → holder q i ≡ holder r i
      go (yes z) = rw z e
      go (no z) = f.others i z (λ u. absurd (n u)) ∙ sym (g.others i z (λ u. absurd (n u)))

  by_b : holder q o.a ≡ holder r o.a → holder q o.b ≡ holder r o.b → (i : ℕ) → holder q i ≡ holder r i
  by_b x y i = go (ℕ_discrete i o.a) (ℕ_discrete i o.b)
    where
      go : Dec (i ≡ o.a) → Dec (i ≡ o.b) → holder q i ≡ holder r i
      go (yes z) d = rw z x
      go (no z) (yes w) = rw w y
      go (no z) (no w) = f.others i z (λ u. w) ∙ sym (g.others i z (λ u. w))

  equal : ((i : ℕ) → holder q i ≡ holder r i) → q.free ≡ r.free → q.cells ≡ r.cells → q ≡ r
  equal = same-pool p q r f.sized g.sized

  alike : ((c : ℕ) → c ≢ 0 → at q.cells c ≡ at r.cells c) → q.cells ≡ r.cells
  alike = same_cells q.cells r.cells (f.sized.cells ∙ sym g.sized.cells)

  pub one_prefixed : {t e : ℕ} → (UsesB o.code → ⊥) → Prefixed t e o.a p q → Prefixed t e o.a p r → q ≡ r
  one_prefixed n x y = equal (with_a n (x.head ∙ sym y.head)) (x.free ∙ sym y.free) (alike (λ c _. only_once x.cells y.cells c))

  pub one_prefixed_list : {t e : ℕ} → Prefixed t e o.a p q × (holder q o.b ≡ 0) → Prefixed t e o.a p r × (holder r o.b ≡ 0) → q ≡ r
  one_prefixed_list (x, u) (y, v) = equal (by_b (x.head ∙ sym y.head) (u ∙ sym v)) (x.free ∙ sym y.free)
      (alike (λ c _. only_once x.cells y.cells c))

  pub one-decapped : Decapped o.a o.b p q → Decapped o.a o.b p r → q ≡ r
  one-decapped x y = equal (by_b (x.tail ∙ sym y.tail) (x.element ∙ sym y.element)) (x.free ∙ sym y.free)
      (alike (λ c _. only_once x.cells y.cells c))

  pub one_advanced : Advanced o.a o.b p q → Advanced o.a o.b p r → q ≡ r
  one_advanced x y =
      let m = lent_once x.lent y.lent in
      let e = one_end (subst (λ (cs : List Cell). Erased q.free q.cells p.free cs (holder p o.a) [] x.freed) m x.erased) y.erased in
      equal (by_b (x.tail ∙ sym y.tail) (x.element ∙ sym y.element)) e.free e.cells

  pub one-borrowed : Borrowed o.a o.b p q → Borrowed o.a o.b p r → q ≡ r
  one-borrowed x y = equal (by_b (x.kept ∙ sym y.kept) (x.shared ∙ sym y.shared)) (x.free ∙ sym y.free) (lent_once x.cells y.cells)

  pub one_erased : {n m : ℕ} → (UsesB o.code → ⊥) → holder q o.a ≡ 0 → holder r o.a ≡ 0
      → Erased q.free q.cells p.free p.cells (holder p o.a) [] n → Erased r.free r.cells p.free p.cells (holder p o.a) [] m
      → (q ≡ r) × (n ≡ m)
  one_erased u x y d e = let s = one_end d e in (equal (with_a u (x ∙ sym y)) s.free s.cells, s.freed)

  pub one-turned : {xs : List ℕ} → (UsesB o.code → ⊥) → Turned xs o.a p q → Turned xs o.a p r → q ≡ r
  one-turned {xs} n x y =
      equal (with_a n (x.head ∙ sym y.head)) (x.free ∙ sym y.free)
      (alike (by_place xs (length xs) q.cells r.cells (λ i l. x.turned i l ∙ sym (y.turned i l))
      (λ c _ z. let w = ap (λ (us : List ℕ). occ us c) (sym (take_all xs)) ∙ z in x.rest c w ∙ sym (y.rest c w))))
    where
      take_all : (us : List ℕ) → take (length us) us ≡ us
      take_all [] = refl
      take_all (u ∷ us) = ap (λ (vs : List ℕ). u ∷ vs) (take_all us)

  pub one_copied : {xs fs : List ℕ} → Copied xs fs o.a o.b p q → Copied xs fs o.a o.b p r → q ≡ r
  one_copied {xs} {fs} x y =
      equal (by_b (x.kept ∙ sym y.kept) (x.head ∙ sym y.head)) (x.free ∙ sym y.free)
      (alike (by_place fs (length xs) q.cells r.cells (λ i l. x.copied i l ∙ sym (y.copied i l)) (λ c n z. x.rest c n z ∙ sym (y.rest c n z))))

  pub one-joined : {xs : List ℕ} → Joined xs o.a o.b p q → Joined xs o.a o.b p r → q ≡ r
  one-joined {xs} x y = let (h, c) = go (ℕ_discrete (holder p o.b) 0) (ℕ_discrete (holder p o.a) 0) in equal (by_b h (x.null ∙ sym y.null))
      (x.free ∙ sym y.free) (alike c)
    where
      Agree : Type 0
      Agree = (holder q o.a ≡ holder r o.a) × ((c : ℕ) → c ≢ 0 → at q.cells c ≡ at r.cells c)

      go : Dec (holder p o.b ≡ 0) → Dec (holder p o.a ≡ 0) → Agree
      go (yes b) d = ((x.nothing b).0 ∙ sym (y.nothing b).0, λ c _. (x.nothing b).1 c ∙ sym ((y.nothing b).1 c))
      go (no b) (yes a) = ((x.given b a).0 ∙ sym (y.given b a).0, λ c _. (x.given b a).1 c ∙ sym ((y.given b a).1 c))
      go (no b) (no a) = ((x.joined b a).0 ∙ sym (y.joined b a).0, λ c _. only_once (x.joined b a).1 (y.joined b a).1 c)

-- a list read: its elements fix the cells that it takes
laid_once : (ds es : List Cell) (fs : ℕ → ℕ) (l : Lst) (k : ℕ) → Laid ds fs k l → Laid es fs k l → (j : ℕ) → k ≤ j → j < k + extent l
    → at ds (fs j) ≡ at es (fs j)
unfolding Laid extent
laid_once ds es fs nil k x y j h m = absurd (omega arith)
laid_once ds es fs (atom v l) k x y j h m = go (ℕ_discrete j k) (laid_once ds es fs l (suc k) x.1 y.1 j)
  where
    go : Dec (j ≡ k) → (suc k ≤ j → j < suc k + extent l → at ds (fs j) ≡ at es (fs j)) → at ds (fs j) ≡ at es (fs j)
    go (yes e) ih = rw e (x.0 ∙ sym y.0)
    go (no n) ih = ih (omega arith) (omega arith)
laid_once ds es fs (list e l) k x y j h m = go (ℕ_discrete j k) (dec_lt j (suc k + extent e)) (laid_once ds es fs e (suc k) x.1 y.1 j)
    (laid_once ds es fs l (suc k + extent e) x.2 y.2 j)
  where
    go : Dec (j ≡ k) → Dec (j < suc k + extent e) → (suc k ≤ j → j < suc k + extent e → at ds (fs j) ≡ at es (fs j))
        → (suc k + extent e ≤ j → j < suc k + extent e + extent l → at ds (fs j) ≡ at es (fs j)) → at ds (fs j) ≡ at es (fs j)
    go (yes q) d inner later = rw q (x.0 ∙ sym y.0)
    go (no n) (yes d) inner later = inner (omega arith) d
    go (no n) (no d) inner later = later (omega arith) (omega arith)

pub one-read : (l : Lst) (fs : List ℕ) (h : ℕ) (p q r : Pool) → ReadIn l fs h p q → ReadIn l fs h p r → q ≡ r
one-read l fs h p q r x y = same-pool p q r x.sized y.sized held (x.free ∙ sym y.free)
    (same_cells q.cells r.cells (x.sized.cells ∙ sym y.sized.cells)
    (by_place fs (extent l) q.cells r.cells (λ i m. laid_once q.cells r.cells (nth fs) l 0 x.laid y.laid i (omega arith) (omega arith))
    (λ c _ z. x.rest c z ∙ sym (y.rest c z))))
  where
    held : (i : ℕ) → holder q i ≡ holder r i
    held i = go (ℕ_discrete i h)
      where
        go : Dec (i ≡ h) → holder q i ≡ holder r i
        go (yes e) = rw e (x.head ∙ sym y.head)
        go (no n) = x.others i n ∙ sym (y.others i n)

-- all that is said of an operation that is done

pub record Does (o : Operation) (p q : Pool) : Type 0 where
  pub framed : Framed o p q
  pub pfa : o.code ≡ PFA → Prefixed 0 o.v o.a p q
  pub pfl : o.code ≡ PFL → Prefixed 1 (holder p o.b) o.a p q × (holder q o.b ≡ 0)
  pub decap : o.code ≡ DECAP → Decapped o.a o.b p q
  pub adv : o.code ≡ ADV → Advanced o.a o.b p q
  pub borrow : o.code ≡ BORROW → Borrowed o.a o.b p q
  pub erase : o.code ≡ ERASE → (holder q o.a ≡ 0) × ((n : ℕ) × Erased q.free q.cells p.free p.cells (holder p o.a) [] n)
  pub inv : o.code ≡ INV → (xs : List ℕ) → Chain p.cells (holder p o.a) xs → Turned xs o.a p q
  pub cinv : o.code ≡ CINV → (xs fs : List ℕ) → Chain p.cells (holder p o.a) xs → Chain p.cells p.free fs → Copied xs fs o.a o.b p q
  pub conc : o.code ≡ CONC → (xs : List ℕ) → Chain p.cells (holder p o.a) xs → Joined xs o.a o.b p q
  pub asks : OneOf o.code asking → q ≡ p

pub does : (form : Form) (E : Engine) → Demand2 form E → (ts ws rs : List ℕ) (o : Operation) → let r = E.run ts ws (words_of o) rs in r.answer ≡ DONE
    → Does o (shown form ts) (shown form r.table)
does form E D ts ws rs o e = record {
  framed = record { sized = D.sizes_stay ts ws rs o e; others = D.holders_stay ts ws rs o e };
  pfa = D.prefix_takes_head ts ws rs o e;
  pfl = D.prefix_list_takes_head ts ws rs o e;
  decap = D.decap-frees_to_head ts ws rs o e;
  adv = D.adv_erases ts ws rs o e;
  borrow = D.borrow_shares ts ws rs o e;
  erase = λ c. let (null, (n, gone, _)) = D.erase_erases ts ws rs o e c in (null, (n, gone));
  inv = D.inv-turns ts ws rs o e;
  cinv = D.cinv-copies ts ws rs o e;
  conc = D.conc_joins ts ws rs o e;
  asks = λ c. ap (shown form) (D.asking-leaves ts ws rs o e c);
}

-- the codes from n down to 1
abbrev codes : ℕ → List ℕ
codes zero = []
codes (suc n) = suc n ∷ codes n

code_of : (n c : ℕ) → 1 ≤ c → c ≤ n → OneOf c (codes n)
code_of zero c l m = absurd (omega arith)
code_of (suc n) c l m = go (ℕ_discrete c (suc n)) (code_of n c l)
  where
    go : Dec (c ≡ suc n) → (c ≤ n → OneOf c (codes n)) → OneOf c (codes (suc n))
    go (yes e) r = inl e
    go (no k) r = inr (r (omega arith))

pub one-pool : (o : Operation) (p q r : Pool) → Sound p → 1 ≤ o.code → o.code ≤ LENGTH → Does o p q → Does o p r → q ≡ r
one-pool o p q r s l m x y = go (code_of LENGTH o.code l m)
  where
    main : (xs : List ℕ) × Chain p.cells (holder p o.a) xs
    main = let (k, w) = denoted p s o.a in level p.cells k (holder p o.a) w

    alone : (c : ℕ) → among c with_b ≡ false → o.code ≡ c → UsesB o.code → ⊥
    alone c n e u = (tells_among c with_b).1 n (subst UsesB e u)

    go : OneOf o.code (codes LENGTH) → q ≡ r
    go (inl e) = x.asks (inr (inl e)) ∙ sym (y.asks (inr (inl e)))
    go (inr (inl e)) = x.asks (inl e) ∙ sym (y.asks (inl e))
    go (inr (inr (inl e))) = one-joined o p q r x.framed y.framed (x.conc e main.0 main.1) (y.conc e main.0 main.1)
    go (inr (inr (inr (inl e)))) = one_copied o p q r x.framed y.framed (x.cinv e main.0 s.chain.0 main.1 s.chain.1)
        (y.cinv e main.0 s.chain.0 main.1 s.chain.1)
    go (inr (inr (inr (inr (inl e))))) = one-turned o p q r x.framed y.framed (alone INV refl e) (x.inv e main.0 main.1)
        (y.inv e main.0 main.1)
    go (inr (inr (inr (inr (inr (inl e)))))) = (one_erased o p q r x.framed y.framed (alone ERASE refl e) (x.erase e).0 (y.erase e).0
        (x.erase e).1.1 (y.erase e).1.1).0
    go (inr (inr (inr (inr (inr (inr (inl e))))))) = one-borrowed o p q r x.framed y.framed (x.borrow e) (y.borrow e)
    go (inr (inr (inr (inr (inr (inr (inr (inl e)))))))) = one_advanced o p q r x.framed y.framed (x.adv e) (y.adv e)
    go (inr (inr (inr (inr (inr (inr (inr (inr (inl e))))))))) = one-decapped o p q r x.framed y.framed (x.decap e) (y.decap e)
    go (inr (inr (inr (inr (inr (inr (inr (inr (inr (inl e)))))))))) = one_prefixed_list o p q r x.framed y.framed (x.pfl e) (y.pfl e)
    go (inr (inr (inr (inr (inr (inr (inr (inr (inr (inr (inl e))))))))))) = one_prefixed o p q r x.framed y.framed (alone PFA refl e) (x.pfa e)
        (y.pfa e)
    go (inr (inr (inr (inr (inr (inr (inr (inr (inr (inr (inr e))))))))))) = absurd e

-- a table is fixed by the pool that it shows, if that has cells
shown_cells : (form : Form) (us : List ℕ) → length (shown form us).cells ≡ cells_of form us
unfolding view
shown_cells form us = length-tab (cells_of form us) _

pub same_table : (form : Form) (us vs : List ℕ) → Table (shape_of form vs) vs → shown form us ≡ shown form vs → us ≡ vs
same_table form us vs t e =
    let cells : cells_of form us ≡ cells_of form vs = sym (shown_cells form us) ∙ ap (λ (p : Pool). length p.cells) e ∙ shown_cells form vs in
    let held : holders_told form us ≡ holders_told form vs = sym (shown_holders form us) ∙ ap (λ (p : Pool). length p.holders) e ∙ shown_holders form vs in
    let s : shape_of form us ≡ shape_of form vs = λ i. shape form (held i) (cells i) in
    let u : Table (shape_of form us) us = cells_table form us (λ z. omega (arith, t.some)) in
    view_fixes (shape_of form vs) us vs (subst (λ (g : Shape). Table g us) s u) t (ap (λ (g : Shape). view g us) (sym s) ∙ e)
