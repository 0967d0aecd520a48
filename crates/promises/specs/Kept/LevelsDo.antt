-- INV, CINV and CONC go along the main level of a, and use the cells that document 01 names; so does reading along the free chain. FIRST and
-- LENGTH leave all words.
use Rattle.std.specs.Prelude.{◌≡◌, refl, ◌≢◌, List, [], ◌∷◌, map, length, take}
use Rattle.std.proofs.Math.Path.{sym, ap}
use Rattle.std.proofs.Common.{◌∙◌, subst, inl, inr, arith, get_or-set_same, get_or-set_other, get_or-take, length-take-le}
use Prim.Native.Nat.{ℕ, zero, suc, ◌+◌, ◌≤◌, ◌<◌}
use package.borrow.Author.Tests.{ltb-false, leb-false}
use Rattle.answers.specs.Answers.{DONE}
use Rattle.lists.specs.Lst.{Lst, extent}
use Rattle.pool.specs.Tally.{tally, occ}
use Rattle.pool.specs.Pool.{Pool, at, put, count_of, counted, followed, set_next, holder, Live, NullOrLive, Chain, frees, Sound}
use Rattle.pool.specs.Laws.Edit.{live_cell}
use Rattle.pool.specs.Operations.{item, inv, cinv, conc_at, conc, last_of, length_of, read}
use Rattle.pool.specs.Laws.Holders.{both_a, both-b}
use Rattle.pool.specs.Laws.SoundLaws.{none_aside, sound_held, denoted}
use Rattle.pool.specs.Laws.Advance.{null_or_item}
use Rattle.pool.specs.Laws.Level.{length_is}
use Rattle.pool.specs.Laws.Reach.{len_le}
use Rattle.pool.specs.Laws.Chains.{Chain_once}
use Rattle.pool.specs.Script.{INV, CINV, CONC, Operation, effect}
use Rattle.pool.specs.Laws.ScriptLaws.{Allowed, a_holder, b-holder}
use Rattle.pool.specs.Laws.TallyLaws.{Same, eq, ne, same?}
use Rattle.groups.specs.Stored.{list_in}
use Rattle.table.specs.Limits.{holders_told}
use Rattle.calls.specs.Entry.{shown, stored}
use Rattle.calls.specs.Read.{Read as Reading}
use Rattle.promises.specs.Engine.{ours}
use Rattle.promises.specs.Rows.{OneOf}
use Rattle.promises.specs.StoredGrounds.{Spells}
use Rattle.promises.specs.Cells.{nth, end_of, sublist, Turned, InvTurns, Copied, CinvCopies, Joined, ConcJoins, AskingLeaves, asking, ReadIn, ReadingUsesItsCells}
use Rattle.promises.specs.Laws.OneOperation.{one-accepted}
use Rattle.promises.specs.Laws.Tables.{stored_same}
use Rattle.promises.specs.Laws.Levels.{nth-occ, nth-other, nth_apart, chain_has, chain_first, chain_next, AllLive, live_first, live_later, level_of, all-free, free-length, flip_cells, last-cell, last_live}
use Rattle.promises.specs.Laws.CopyCells.{map_same, LiveItems, copy_cells}
use Rattle.promises.specs.Laws.LoadCells.{load_cells}
use Rattle.promises.specs.Laws.StoredRows.{spells_once, spells_ours}
use Rattle.promises.specs.Laws.ReadLaws.{reading_good, read_ways}
use Rattle.promises.specs.Laws.Invariant.{read_alike, read-stored}
use Rattle.table.specs.declared.Form.{Form}
use Rattle.promises.specs.Kept.CellsDo.{op, by_op, only, element_is}

-- INV

level_live : (p : Pool) (a : ℕ) (s : Sound p) (xs : List ℕ) → Chain p.cells (holder p a) xs → AllLive p.cells xs × (length xs ≤ length p.cells)
    × (length xs ≡ length_of p a)
level_live p a s xs h =
    let (l, w) = denoted p s a in
    let (e, v) = level_of p.cells l (holder p a) xs w h in
    (v, omega (arith, len_le p.free p.cells (occ p.holders) none_aside (sound_held p s) l (holder p a) w), e ∙ sym (length_is p a l s w))

inv-turns : (p : Pool) (o : Operation) → Sound p → Allowed p (op INV o) → (xs : List ℕ) → Chain p.cells (holder p o.a) xs
    → Turned xs o.a p (effect p (op INV o)).pool
unfolding effect inv
inv-turns p o s h xs c =
    let (v, l, _) = level_live p o.a s xs c in
    let r = flip_cells xs (length p.cells) p.cells (holder p o.a) 0 c v l in
    record { head = get_or-set_same p.holders o.a _ 0 (a_holder p (op INV o) h.opened) ∙ r.head; free = refl; turned = r.turned; rest = r.rest }

pub inv-turns_cells : (form : Form) → InvTurns form (ours form)
inv-turns_cells form = by_op form INV (λ o p q. (xs : List ℕ) → Chain p.cells (holder p o.a) xs → Turned xs o.a p q) inv-turns

-- CINV

live_items : (p : Pool) → Sound p → (xs : List ℕ) → AllLive p.cells xs → LiveItems p.cells xs
unfolding tally
live_items p s [] v c n o = absurd (omega arith)
live_items p s (x ∷ xs) v c n o = go (same? (item p.cells x) c) (live_items p s xs (live_later p.cells x xs v) c n)
  where
    item_live : (d : ℕ) → d ≢ 0 → NullOrLive p.cells d → Live p.cells d
    item_live d m (inl e) = absurd (m e)
    item_live d m (inr l) = l

    go : Same (item p.cells x) c → (0 < occ (map (item p.cells) xs) c → Live p.cells c) → Live p.cells c
    go (eq e z) r = let l = live_first p.cells x xs v in item_live c n
        (subst (NullOrLive p.cells) e (null_or_item p.cells x ((sound_held p s).kinds x l) (λ k. s.elems x l k)))
    go (ne m z) r = r (omega arith)

cinv-copies : (p : Pool) (o : Operation) → Sound p → Allowed p (op CINV o) → (xs fs : List ℕ) → Chain p.cells (holder p o.a) xs
    → Chain p.cells p.free fs → Copied xs fs o.a o.b p (effect p (op CINV o)).pool
unfolding effect cinv
cinv-copies p o s h xs fs cx cf =
    let (v, l, m) = level_live p o.a s xs cx in
    let (lb, ab) = b-holder p (op CINV o) h.opened refl in
    let room : length xs ≤ length fs = omega (arith, m, free-length p s fs cf, ltb-false (frees p.cells) (length_of p o.a) h.room) in
    let r = copy_cells xs fs (length p.cells) p.free p.cells (holder p o.a) 0 cx cf v (live_items p s xs v) (all-free p s fs cf) room l in
    let lists : map (item p.cells) xs ≡ map (sublist p.cells) xs = map_same (item p.cells) (sublist p.cells) xs (λ c k. element_is p c s (v c k)) in
    record {
      kept = get_or-set_other p.holders o.b o.a _ 0 ab;
      head = get_or-set_same p.holders o.b _ 0 lb ∙ r.head;
      free = r.free;
      copied = r.copied;
      rest = λ c n k. r.rest c n k ∙ ap (λ (es : List ℕ). counted (at p.cells c) (count_of p.cells c + occ es c)) lists;
    }

pub cinv-copies_cells : (form : Form) → CinvCopies form (ours form)
cinv-copies_cells form = by_op form CINV
    (λ o p q. (xs fs : List ℕ) → Chain p.cells (holder p o.a) xs → Chain p.cells p.free fs → Copied xs fs o.a o.b p q) cinv-copies

-- CONC

module _ (p : Pool) (a b : ℕ) (la : a < length p.holders) (lb : b < length p.holders) (ab : a ≢ b) (xs : List ℕ) (v : AllLive p.cells xs) where
  joins : (x y : ℕ) → holder p a ≡ x → holder p b ≡ y → (x ≢ 0 → (last_of (length p.cells) p.cells x ≡ end_of xs) × (0 < length xs))
      → Joined xs a b p (conc_at p a b x y)
  unfolding conc_at
  joins x zero e f r = record { free = refl; null = f; nothing = λ z. (refl, λ c. refl); given = λ n. absurd (n f); joined = λ n. absurd (n f) }
  joins zero (suc j) e f r = record {
    free = refl;
    null = both-b p.holders a b (suc j) 0 la lb ab;
    nothing = λ z. absurd (omega arith);
    given = λ n z. (both_a p.holders a b (suc j) 0 la lb ab ∙ sym f, λ c. refl);
    joined = λ n m. absurd (m e);
  }
  joins (suc i) (suc j) e f r =
      let (at_end_lem, some) = r (λ z. omega arith) in
      let q = conc_at p a b (suc i) (suc j) in
      let k = live_cell p.cells (end_of xs) (last_live p.cells xs v some) in
      let cells : q.cells ≡ put p.cells (end_of xs) (followed (at p.cells (end_of xs)) (holder p b))
      = ap (λ (d : ℕ). set_next p.cells d (suc j)) at_end_lem ∙ ap (set_next p.cells (end_of xs)) (sym f) in
      record {
        free = refl;
        null = both-b p.holders a b (suc i) 0 la lb ab;
        nothing = λ z. absurd (omega arith);
        given = λ n z. absurd (omega arith);
        joined = λ n m. (both_a p.holders a b (suc i) 0 la lb ab ∙ sym e, only p q (end_of xs) _ k cells);
      }

conc_joins : (p : Pool) (o : Operation) → Sound p → Allowed p (op CONC o) → (xs : List ℕ) → Chain p.cells (holder p o.a) xs
    → Joined xs o.a o.b p (effect p (op CONC o)).pool
unfolding effect conc tally
conc_joins p o s h xs c =
    let (v, l, _) = level_live p o.a s xs c in
    let (lb, ab) = b-holder p (op CONC o) h.opened refl in
    joins p o.a o.b (a_holder p (op CONC o) h.opened) lb ab xs v (holder p o.a) (holder p o.b) refl refl
    (λ n. (last-cell xs (length p.cells) p.cells (holder p o.a) c n (omega arith), some xs c n))
  where
    some : (us : List ℕ) → Chain p.cells (holder p o.a) us → holder p o.a ≢ 0 → 0 < length us
    some [] k n = absurd (omega (arith, chain_has p.cells (holder p o.a) [] n k))
    some (u ∷ us) k n = omega arith

pub conc_joins_cells : (form : Form) → ConcJoins form (ours form)
conc_joins_cells form = by_op form CONC (λ o p q. (xs : List ℕ) → Chain p.cells (holder p o.a) xs → Joined xs o.a o.b p q) conc_joins

-- FIRST and LENGTH

asked : (p : Pool) (o : Operation) → OneOf o.code asking → (effect p o).pool ≡ p
unfolding effect
asked p o (inl e) = rw e refl
asked p o (inr (inl e)) = rw e refl
asked p o (inr (inr e)) = absurd e

pub asking-leaves : (form : Form) → AskingLeaves form (ours form)
asking-leaves form ts ws rs o e c =
    let w = one-accepted form ts ws rs o e in
    w.table ∙ ap (stored form ts) (asked (shown form ts) o c) ∙ stored_same form ts w.good.table

-- reading

read_in_lem : (p : Pool) (h : ℕ) (l : Lst) → Sound p → h < length p.holders → extent l ≤ frees p.cells → (fs : List ℕ) → Chain p.cells p.free fs
    → ReadIn l fs h p (read p h l)
unfolding read
read_in_lem p h l s lh room fs c =
    let free = all-free p s fs c in
    let long : extent l ≤ length fs = omega (arith, free-length p s fs c) in
    let r = load_cells (nth fs) (length fs) (length p.cells) (λ i j m n e. nth_apart fs i j (Chain_once p.cells p.free fs c) m n e)
    (λ j m. (free (nth fs j) (nth-occ fs j m)).0)
    l 0 p.free p.cells (chain_first p.cells p.free fs c) (λ j _ m. chain_next p.cells p.free fs c j (omega arith)) (omega arith) refl in
    let zero-add : 0 + extent l ≡ extent l = omega arith in
    record {
      sized = let a = read_alike p h l in record { cells = a.cells; holders = a.holders };
      head = get_or-set_same p.holders h _ 0 lh ∙ r.head;
      others = λ i n. get_or-set_other p.holders h i _ 0 n;
      free = r.free ∙ ap (nth fs) zero-add;
      laid = r.laid;
      rest = λ d o. r.rest d
          (λ j _ m e. nth-other (take (extent l) fs) j d (omega (arith, length-take-le (extent l) fs long)) o
          (get_or-take (extent l) fs j 0 (omega arith) ∙ sym e));
    }

pub reading_uses : (form : Form) → ReadingUsesItsCells form (ours form)
reading_uses form k ts ws h xs =
    read_ways form k ts ws h xs
    (λ (r : Reading). r.answer ≡ DONE → (l : Lst) (fs : List ℕ) → Spells k xs r.count l → Chain (shown form ts).cells (shown form ts).free fs
    → ReadIn l fs h (shown form ts) (shown form r.table))
    (λ n us d e. absurd (d e))
    (λ t _ l fs w c.
    let g = reading_good form k ts ws h xs t.entered in
    let below = leb-false (holders_told form ts) h t.entered.held in
    let same_list : list_in k xs ≡ l = (spells_once k xs _ _ (list_in k xs) l (spells_ours k xs t.right) w).1 in
    subst (λ (q : Pool). ReadIn l fs h (shown form ts) q) (sym (read-stored form t).shows)
    (subst (λ (j : Lst). ReadIn j fs h (shown form ts) (read (shown form ts) h (list_in k xs))) same_list
    (read_in_lem (shown form ts) h (list_in k xs) g.sound (omega (arith, g.table.held)) t.room fs c)))
