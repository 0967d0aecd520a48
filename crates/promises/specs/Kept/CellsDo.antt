-- Our operations use the cells that document 01 names: the table afterwards shows the effect on the pool, and each effect says which cells it
-- uses. Here those that take one cell, or erase; LevelsDo has those that go along a level.
use Rattle.std.specs.Prelude.{◌≡◌, ◌≢◌, true, cond, List, [], ◌∷◌, eqb, length, get_or, set}
use Rattle.std.proofs.Math.Path.{refl}
use Rattle.std.proofs.Common.{sym, ap, ◌∙◌, subst, arith, get_or-set_same, get_or-set_other}
use Prim.Native.Nat.{ℕ, zero, suc, ◌+◌, ◌≤◌, ◌<◌}
use package.borrow.Author.Tests.{not-false, eqb-true, eqb-false, ltb-false}
use Rattle.pool.specs.Tally.{same, tally, occ}
use Rattle.pool.specs.Pool.{Cell, Pool, at, put, kind_of, elem_of, count_of, next_of, counted, holder, Live, NullOrLive, InPool, frees, Sound}
use Rattle.pool.specs.Laws.Edit.{put_same, put_other, live_cell}
use Rattle.pool.specs.Erase.{dropped}
use Rattle.pool.specs.Operations.{share, item_of, item, pfa, pfl, decap, adv, borrow, erase, inv, cinv, conc_at, conc}
use Rattle.pool.specs.Laws.Held.{reroot}
use Rattle.pool.specs.Laws.Holders.{occ-take, both, both_a, both-b}
use Rattle.pool.specs.Laws.ShareLaws.{share-length, share_live}
use Rattle.pool.specs.Laws.SoundLaws.{none_aside, sound_held}
use Rattle.pool.specs.Laws.Advance.{holder_live, null_or_item, lends}
use Rattle.pool.proofs.Whole.{effect_alike}
use Rattle.pool.specs.Laws.ByCode.{by_code}
use Rattle.pool.specs.Script.{number_kind, PFA, PFL, DECAP, ADV, BORROW, ERASE, CINV, CONC, Operation, Effect, among, effect}
use Rattle.pool.specs.Laws.ScriptLaws.{Allowed, allowed, a_holder, b-holder, some_free}
use Rattle.calls.specs.Entry.{shown, over}
use Rattle.promises.specs.Engine.{ours}
use Rattle.promises.specs.Grounds.{with_b, UsesB}
use Rattle.promises.specs.Erasing.{Erased}
use Rattle.promises.specs.Cells.{Makes, Sized, SizesStay, HoldersStay, Only, sublist, Raised, Prefixed, PrefixTakesHead, PrefixListTakesHead, Decapped, DecapFreesToHead, Advanced, AdvErases, Borrowed, BorrowShares, EraseErases}
use Rattle.promises.specs.Laws.Tells.{tells_among}
use Rattle.promises.specs.Laws.OneOperation.{one-accepted, effect-stored}
use Rattle.promises.specs.Laws.FreeCells.{free-zero}
use Rattle.promises.specs.Laws.ErasingLaws.{two-stores, dropped_erased}
use Rattle.promises.specs.Laws.Levels.{chain_has}
use Rattle.promises.specs.Laws.CopyCells.{share_counts}
use Rattle.table.specs.declared.Form.{Form}

-- what holds of the effect of an operation that is allowed holds of the tables
pub makes : (form : Form) → (R : Operation → Pool → Pool → Type 0) → ((p : Pool) (o : Operation) → Sound p → Allowed p o → R o p (effect p o).pool)
    → Makes form (ours form) R
makes form R f ts ws rs o e =
    let w = one-accepted form ts ws rs o e in
    subst (λ (q : Pool). R o (shown form ts) q) (sym (ap (shown form) w.table ∙ (effect-stored form ts o w.good w.allows).shows))
    (f (shown form ts) o w.good.sound (allowed (shown form ts) o w.allows))

-- the same of one operation
abbrev pub op : ℕ → Operation → Operation
op c o = record { code = c; a = o.a; b = o.b; v = o.v }

pub by_op : (form : Form) → (c : ℕ) (R : Operation → Pool → Pool → Type 0)
    → ((p : Pool) (o : Operation) → Sound p → Allowed p (op c o) → R (op c o) p (effect p (op c o)).pool)
    → Makes form (ours form) (λ o p q. o.code ≡ c → R o p q)
by_op form c R f = makes form (λ o p q. o.code ≡ c → R o p q)
    (λ p o s h e. subst (λ (k : ℕ). R (op k o) p (effect p (op k o)).pool) (sym e) (f p o s (subst (λ (k : ℕ). Allowed p (op k o)) e h)))

-- whatever the operation

pub sizes_stay : (form : Form) → SizesStay form (ours form)
sizes_stay form = makes form (λ o p q. Sized p q) (λ p o s h. let a = effect_alike p o in record { cells = a.cells; holders = a.holders })

module _ (p : Pool) (o : Operation) (i : ℕ) (na : i ≢ o.a) (nb : UsesB o.code → i ≢ o.b) where
  abbrev Stays : Pool → Type 0
  Stays q = holder q i ≡ holder p i

  b_apart : (k : ℕ) → among k with_b ≡ true → o.code ≡ k → i ≢ o.b
  b_apart k u e = nb (subst UsesB (sym e) ((tells_among k with_b).0 u))

  at_a : (x : ℕ) → get_or (set p.holders o.a x) i 0 ≡ holder p i
  at_a x = get_or-set_other p.holders o.a i x 0 na

  at_b : (y : ℕ) → i ≢ o.b → get_or (set p.holders o.b y) i 0 ≡ holder p i
  at_b y n = get_or-set_other p.holders o.b i y 0 n

  at_both : (x y : ℕ) → i ≢ o.b → get_or (set (set p.holders o.a x) o.b y) i 0 ≡ holder p i
  at_both x y n = get_or-set_other (set p.holders o.a x) o.b i y 0 n ∙ at_a x

  in_conc : (x y : ℕ) → i ≢ o.b → Stays (conc_at p o.a o.b x y)
  unfolding conc_at
  in_conc x zero n = refl
  in_conc zero (suc j) n = at_both _ _ n
  in_conc (suc k) (suc j) n = at_both _ _ n

  holder-same : Stays (effect p o).pool
  unfolding pfa pfl decap adv borrow erase inv cinv conc
  holder-same = by_code Stays p o (λ e. at_a _) (λ e. at_both _ _ (b_apart PFL refl e)) (λ e. at_both _ _ (b_apart DECAP refl e))
      (λ e. at_both _ _ (b_apart ADV refl e)) (λ e. at_b _ (b_apart BORROW refl e))
      (λ e. at_a _) (λ e. at_a _) (λ e. at_b _ (b_apart CINV refl e)) (λ e. in_conc _ _ (b_apart CONC refl e)) refl

pub holders_stay : (form : Form) → HoldersStay form (ours form)
holders_stay form = makes form (λ o p q. (i : ℕ) → i ≢ o.a → (UsesB o.code → i ≢ o.b) → holder q i ≡ holder p i)
    (λ p o s h i na nb. holder-same p o i na nb)

-- PFA and PFL

-- one cell replaced
pub only : (p q : Pool) (x : ℕ) (y : Cell) → InPool p.cells x → q.cells ≡ put p.cells x y → Only x y p q
only p q x y k e = record {
  here = ap (λ (cs : List Cell). at cs x) e
      ∙ put_same p.cells x y k.0 k.1;
  rest = λ c n. ap (λ (cs : List Cell). at cs c) e ∙ put_other p.cells x c y n;
}

head-inside : (p : Pool) → Sound p → p.free ≢ 0 → InPool p.cells p.free
head-inside p s n = (free-zero p s p.free (s.chain.0, s.chain.1, chain_has p.cells p.free s.chain.0 n s.chain.1)).0

pfa_prefixes : (p : Pool) (o : Operation) → Sound p → Allowed p (op PFA o) → Prefixed 0 o.v o.a p (effect p (op PFA o)).pool
unfolding effect pfa
pfa_prefixes p o s h =
    let k = head-inside p s (some_free p s (ltb-false (frees p.cells) 1 h.room)) in
    record {
      head = get_or-set_same p.holders o.a p.free 0 (a_holder p (op PFA o) h.opened);
      free = refl;
      cells = only p (pfa p o.a o.v)
          p.free _ k refl;
    }

pub prefix_takes : (form : Form) → PrefixTakesHead form (ours form)
prefix_takes form = by_op form PFA (λ o p q. Prefixed 0 o.v o.a p q) pfa_prefixes

pfl_prefixes : (p : Pool) (o : Operation) → Sound p → Allowed p (op PFL o) → let q = (effect p (op PFL o)).pool in Prefixed 1 (holder p o.b) o.a p q
    × (holder q o.b ≡ 0)
unfolding effect pfl
pfl_prefixes p o s h =
    let k = head-inside p s (some_free p s (ltb-false (frees p.cells) 1 h.room)) in
    let la = a_holder p (op PFL o) h.opened in
    let (lb, ab) = b-holder p (op PFL o) h.opened refl in (
      record { head = both_a p.holders o.a o.b p.free 0 la lb ab; free = refl; cells = only p (pfl p o.a o.b) p.free _ k refl },
      both-b
          p.holders o.a o.b p.free 0 la lb ab,
    )

pub prefix_list_takes : (form : Form) → PrefixListTakesHead form (ours form)
prefix_list_takes form = by_op form PFL (λ o p q. Prefixed 1 (holder p o.b) o.a p q × (holder q o.b ≡ 0)) pfl_prefixes

-- DECAP and ADV

item_is : (t e : ℕ) → t ≤ 1 → item_of t e ≡ cond (eqb t 1) e 0
unfolding item_of
item_is zero e l = refl
item_is (suc zero) e l = refl
item_is (suc (suc t)) e l = absurd (omega arith)

pub element_is : (p : Pool) (x : ℕ) → Sound p → Live p.cells x → item p.cells x ≡ sublist p.cells x
element_is p x s l = item_is (kind_of p.cells x) (elem_of p.cells x) ((sound_held p s).kinds x l)

decap_beheads : (p : Pool) (o : Operation) → Sound p → Allowed p (op DECAP o) → Decapped o.a o.b p (effect p (op DECAP o)).pool
unfolding effect decap
decap_beheads p o s h =
    let x = holder p o.a in
    let l = holder_live p o.a s (eqb-false x 0 h.filled) in
    let la = a_holder p (op DECAP o) h.opened in
    let (lb, ab) = b-holder p (op DECAP o) h.opened refl in
    let k = live_cell p.cells x l in
    record {
      tail = both_a p.holders o.a o.b (next_of p.cells x) (item p.cells x) la lb ab;
      element = both-b p.holders o.a o.b (next_of p.cells x) (item p.cells x) la lb ab ∙ element_is p x s l;
      free = refl;
      cells = only p (decap p o.a o.b) x _ k (two-stores p.cells x p.free k);
    }

pub decap-frees : (form : Form) → DecapFreesToHead form (ours form)
decap-frees form = by_op form DECAP (λ o p q. Decapped o.a o.b p q) decap_beheads

-- two lists borrowed one after the other
lent_both : (cs : List Cell) (x y z : ℕ) → NullOrLive cs x → NullOrLive cs y → x ≡ z → Raised (z ∷ y ∷ []) cs (share (share cs x) y)
unfolding tally
lent_both cs x y z ox oy e = record {
  size = share-length (share cs x) y ∙ share-length cs x;
  counts = λ c n.
      let sum : count_of cs c + same x c + same y c ≡ count_of cs c + occ (z ∷ y ∷ []) c = omega (arith, ap (λ (d : ℕ). same d c) e) in
      share_counts (share cs x) y c (share_live cs x y ox oy) n ∙ ap (λ (w : Cell). counted w (w.count + same y c)) (share_counts cs x c ox n)
      ∙ ap (counted (at cs c)) sum;
}

adv_advances : (p : Pool) (o : Operation) → Sound p → Allowed p (op ADV o) → Advanced o.a o.b p (effect p (op ADV o)).pool
unfolding effect adv
adv_advances p o s h =
    let cs = p.cells in
    let x = holder p o.a in
    let l = holder_live p o.a s (eqb-false x 0 h.filled) in
    let la = a_holder p (op ADV o) h.opened in
    let (lb, ab) = b-holder p (op ADV o) h.opened refl in
    let e = item cs x in
    let nx = next_of cs x in
    let (w, u) = lends p o.a o.b s la lb ab (eqb-true (holder p o.b) 0 (not-false _ h.vacant)) l in
    let ds = share (share cs e) nx in
    record {
      tail = both_a p.holders o.a o.b nx e la lb ab;
      element = both-b p.holders o.a o.b nx e la lb ab ∙ element_is p x s l;
      borrowed = ds;
      lent = lent_both cs e nx (sublist cs x) (null_or_item cs x ((sound_held p s).kinds x l) (λ k. s.elems x l k)) (s.nexts x l) (element_is p x s l);
      freed = (dropped p.free ds x).freed;
      erased = dropped_erased (occ (both p.holders o.a o.b nx e la lb ab)) p.free ds x u.held;
    }

pub adv_erases : (form : Form) → AdvErases form (ours form)
adv_erases form = by_op form ADV (λ o p q. Advanced o.a o.b p q) adv_advances

-- BORROW and ERASE

borrow_lends : (p : Pool) (o : Operation) → Sound p → Allowed p (op BORROW o) → Borrowed o.a o.b p (effect p (op BORROW o)).pool
unfolding effect borrow tally
borrow_lends p o s h =
    let x = holder p o.a in
    let (lb, ab) = b-holder p (op BORROW o) h.opened refl in
    record {
      kept = get_or-set_other p.holders o.b o.a x 0 ab;
      shared = get_or-set_same p.holders o.b x 0 lb;
      free = refl;
      cells = record {
        size = share-length p.cells x;
        counts = λ c n. let sum : count_of p.cells c + same x c ≡ count_of p.cells c + occ
            (x ∷ []) c = omega arith in share_counts p.cells x c (s.holds o.a) n ∙ ap (counted (at p.cells c)) sum;
      };
    }

pub borrow_shares : (form : Form) → BorrowShares form (ours form)
borrow_shares form = by_op form BORROW (λ o p q. Borrowed o.a o.b p q) borrow_lends

erase-frees : (p : Pool) (a : ℕ) → Sound p → a < length p.holders → let (q, n) = erase p a in (holder q a ≡ 0)
    × Erased q.free q.cells p.free p.cells (holder p a) [] n
unfolding erase
erase-frees p a s la =
    let x = holder p a in
    let r : ℕ → ℕ = occ (set p.holders a 0) in (
      get_or-set_same p.holders a 0 0 la,
      dropped_erased r p.free p.cells x
          (reroot p.free p.cells (occ p.holders) none_aside (λ d. same x d + r d) none_aside (sound_held p s)
          (λ d n. omega (arith, occ-take p.holders a d la n)) (λ d. refl)),
    )

effect-erase : (p : Pool) (o : Operation) → o.code ≡ ERASE → effect p o ≡ record { pool = (erase p o.a).0; kind = number_kind; value = (erase p o.a).1 }
unfolding effect
effect-erase p o e = rw e

pub erase_erases : (form : Form) → EraseErases form (ours form)
erase_erases form ts ws rs o e c =
    let w = one-accepted form ts ws rs o e in
    let p = shown form ts in
    let d = effect-erase p o c in
    let q = ap (shown form) w.table ∙ (effect-stored form ts o w.good w.allows).shows ∙ ap (λ (z : Effect). z.pool) d in
    let (null, gone) = erase-frees p o.a w.good.sound (a_holder p o (allowed p o w.allows).opened) in (
      ap (λ (z : Pool). holder z o.a) q ∙ null,
      (
        (erase p o.a).1,
        subst (λ (z : Pool). Erased z.free z.cells p.free p.cells (holder p o.a) [] (erase p o.a).1)
            (sym q) gone,
        w.results ∙ ap (λ (z : Effect). over (z.kind ∷ z.value ∷ []) rs) d,
      ),
    )
