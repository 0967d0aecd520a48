-- What a step of the pass from the end does to the lists that are open.
use Prim.Native.Nat.{ℕ, zero, suc, ◌+◌, ◌-◌, ◌*◌, ◌<◌, ◌≤◌}
use Rattle.std.specs.Prelude.{◌≡◌, refl, Bool, true, cond, get_or, drop, set}
use Rattle.std.proofs.Common.{sym, ◌∙◌, length-set, length-append, drop-cons, drop-drop, get_or-drop, get_or-set_same, get_or-set_other}
use Rattle.std.proofs.Math.Path.{ap, subst}
use Rattle.std.proofs.Math.Bool.{false}
use mathlib.Core.List.{List, [], ◌∷◌, ◌++◌}
use native.Mathlib.Omega.{arith}
use Rattle.std.proofs.Math.ListN.{length}
use borrow.Author.Tests.{ne_eqb}
use Rattle.groups.specs.Groups.{number, atom_number, list_number, elements}
use Rattle.groups.specs.Laws.Sizes.{number_size}
use Rattle.lists.specs.Lst.{Lst, nil, atom, list, len, order}
use Rattle.scan.specs.Runs.{digit_run, numeral}
use Rattle.text.specs.Limits.{levels, text_most}
use Rattle.text.specs.ListText.{is_digit_byte}
use Rattle.text.specs.Marks.{Mark, opened, shut, value, push, pushes, list_in}
use Rattle.text.specs.Laws.TextLaws.{decide, no_yes}
use Rattle.togroups.specs.Atoms.{Ends, Before}
use Rattle.togroups.specs.Backward.{mark_of, begun, marks_from, open_in}
use Rattle.togroups.specs.Listed.{Listed}
use Rattle.togroups.specs.OpenLists.{groups_in, Shallow, Within, Pushable}
use Rattle.togroups.specs.Walking.{shut_at, open_at, pass_at, AtomAt, blank_at, Above, Here, Whole, Walking, Stepped}
use Rattle.togroups.specs.declared.atoms.Atom.{Atom}
use Rattle.togroups.specs.declared.walk.Walk.{Walk}
use Rattle.togroups.specs.Laws.Descent.{Placed, met_back, atom-groups, list_groups}
use Rattle.togroups.specs.Laws.Judging.{some_order}
use Rattle.togroups.specs.Laws.ListedLaws.{placed}

-- ---- the counts

above_kept : (outer : List ℕ) (ls : List Lst) (d n : ℕ) → length ls < d → Above outer ls → Above (set outer d n) ls
above_kept outer [] d n h a = tt
above_kept outer (l ∷ ls) d n h a =
    (get_or-set_other outer d (suc (length ls)) n 0 (λ e. omega arith) ∙ a.0, above_kept outer ls d n (omega arith) a.1)

kept : (outer : List ℕ) (ls : List Lst) (d n : ℕ) → length ls ≡ d → d < length outer → Here outer n ls → Above (set outer d n) ls
kept outer [] d n e h a = tt
kept outer (l ∷ ls) d n e h a = (
  ap (λ (i : ℕ). get_or (set outer d n) i 0) e ∙ get_or-set_same outer d n 0 h ∙ a.0,
  above_kept outer ls d n (omega arith) a.1,
)

-- an element has a byte
len_small : (l : Lst) → len l ≤ length (elements l)
unfolding len elements
len_small nil = omega arith
len_small (atom v l) = omega (arith, len_small l, number_size (atom_number v), length-append (number (atom_number v)) (elements l))
len_small (list m l) =
    omega (
      arith,
      len_small l,
      number_size (list_number m),
      length-append (number (list_number m)) (elements m ++ elements l),
      length-append (elements m) (elements l),
    )

here_few : (outer : List ℕ) (n : ℕ) (ls : List Lst) → 1 ≤ length ls → Here outer n ls → n ≤ length (groups_in ls)
here_few outer n [] h a = absurd (omega arith)
here_few outer n (l ∷ ls) h a = omega (arith, a.0, len_small l, length-append (elements l) (groups_in ls))

-- "(" makes two lists one
record Joined (outer : List ℕ) (d n : ℕ) (ls : List Lst) : Type 0 where
  here : Here outer (get_or outer (d - 1) 0 + 1) (push opened ls)
  deep : length (push opened ls) ≡ d - 1
  groups : groups_in (push opened ls) ≡ number (2 * n + 1) ++ groups_in ls
  inner : n ≤ length (groups_in ls)
  outside : get_or outer (d - 1) 0 ≤ length (groups_in ls)

joined : (outer : List ℕ) (d n : ℕ) (ls : List Lst) → 2 ≤ length ls → length ls ≡ d → Here outer n ls → Joined outer d n ls
unfolding len
joined outer d n [] h e a = absurd (omega arith)
joined outer d n (m ∷ []) h e a = absurd (omega arith)
joined outer d n (m ∷ (x ∷ r)) h e a =
    let k : d - 1 ≡ suc (length r) = omega arith in
    let c : get_or outer (d - 1) 0 ≡ len x = ap (λ (i : ℕ). get_or outer i 0) k ∙ a.1.0 in
    record {
      here = (omega arith, a.1.1);
      deep = sym k;
      groups = list_groups m x r ∙ ap (λ (i : ℕ). number (2 * i + 1) ++ groups_in (m ∷ (x ∷ r))) (sym a.0);
      inner = omega (arith, a.0, len_small m, length-append (elements m) (elements x ++ groups_in r));
      outside = omega (arith, len_small x, length-append (elements m) (elements x ++ groups_in r), length-append (elements x) (groups_in r));
    }

-- an atom more in the innermost list
record Longer (outer : List ℕ) (d n v : ℕ) (ls : List Lst) : Type 0 where
  here : Here outer (n + 1) (push (value v) ls)
  deep : length (push (value v) ls) ≡ d
  groups : groups_in (push (value v) ls) ≡ number (2 * v) ++ groups_in ls

longer : (outer : List ℕ) (d n v : ℕ) (ls : List Lst) → 1 ≤ length ls → length ls ≡ d → Here outer n ls → Longer outer d n v ls
unfolding len
longer outer d n v [] h e a = absurd (omega arith)
longer outer d n v (x ∷ r) h e a = record { here = (omega arith, a.1); deep = e; groups = atom-groups v x r }

-- no more lists are open than there are levels
levelled : (ls : List Lst) → Shallow ls → length ls ≤ levels
levelled [] s = omega arith
levelled (l ∷ ls) s = omega (arith, s.0, some_order l)

-- ---- the marks

-- behind no digit or behind one, where no digit comes
no_flag : (u : List ℕ) → is_digit_byte (get_or u 0 0) ≡ false → marks_from true u ≡ marks_from false u
no_flag [] e = refl
no_flag (b ∷ u) e =
    ap (λ (c : Bool). cond c (marks_from true u) (mark_of b ++ marks_from false u)) e
    ∙ sym (ap (λ (c : Bool). cond c (value (numeral 0 (b ∷ u)) ∷ marks_from true u) (mark_of b ++ marks_from false u)) e)

-- digits have no marks of their own
digits-past : (u : List ℕ) (n : ℕ) → digit_run u ≡ n → marks_from true u ≡ marks_from true (drop n u)
digits-past [] zero e = refl
digits-past [] (suc n) e = refl
digits-past (b ∷ u) zero e = refl
digits-past (b ∷ u) (suc n) e =
    decide (is_digit_byte b) (marks_from true (b ∷ u) ≡ marks_from true (drop n u))
    (λ d. ap (λ (c : Bool). cond c (marks_from true u) (mark_of b ++ marks_from false u)) d
    ∙ digits-past u n (suc_inj (sym (ap (λ (c : Bool). cond c (suc (digit_run u)) 0) d) ∙ e)))
    (λ d. let z : 0 ≡ suc n = sym (ap (λ (c : Bool). cond c (suc (digit_run u)) 0) d) ∙ e in absurd (omega arith))
  where
    suc_inj : {x y : ℕ} → suc x ≡ suc y → x ≡ y
    suc_inj q = omega arith

-- ---- the places

-- the lists that are open at the place of r
pub stands : (t outer : List ℕ) (r : Walk) (ls : List Lst) → open_in (drop r.at t) ≡ ls → 1 ≤ r.at → r.at ≤ length t → Whole t r.at
    → length ls ≡ r.depth → Here outer r.count ls → r.count ≤ length (groups_in ls) → length outer ≡ levels → Within (list_in t) ls → Walking t outer r
stands t outer r ls e h l o d a f n w = record {
  some = h;
  within = l;
  whole = o;
  deep = ap length e ∙ d;
  here = subst (Here outer r.count) (sym e) a;
  few = subst (λ (us : List Lst). r.count ≤ length (groups_in us)) (sym e) f;
  wide = n;
  lists = subst (Within (list_in t)) (sym e) w;
}

module _ (t outer : List ℕ) (w : Walk) (g : Listed t) (k : Walking t outer w) where
  abbrev lists : List Lst
  lists = open_in (drop w.at t)

  room : length (groups_in lists) ≤ text_most
  room = omega (arith, k.lists.small, g.small, g.short, length-append (number (list_number (list_in t))) (elements (list_in t)))

  module _ (h : 2 ≤ w.at) where
    abbrev last : ℕ
    last = get_or t (w.at - 1) 0

    rest : drop (w.at - 1) t ≡ last ∷ drop w.at t
    rest =
        let j : suc (w.at - 1) ≡ w.at = omega arith in
        drop-cons t (w.at - 1) 0 (omega (arith, k.within)) ∙ ap (λ (n : ℕ). last ∷ drop n t) j

    -- no digit
    module _ (d : is_digit_byte last ≡ false) where
      marks : (c : Bool) (es : List Mark) → mark_of last ≡ es → marks_from c (drop (w.at - 1) t) ≡ es ++ marks_from false (drop w.at t)
      marks c es e =
          ap (marks_from c) rest
          ∙ ap (λ (x : Bool). cond x (begun c (last ∷ drop w.at t) ++ marks_from true (drop w.at t)) (mark_of last ++ marks_from false (drop w.at t))) d
          ∙ ap (λ (es : List Mark). es ++ marks_from false (drop w.at t)) e

      -- a bracket
      bracket : (e : Mark) → mark_of last ≡ e ∷ [] → (open_in (drop (w.at - 1) t) ≡ push e lists) × Pushable e lists × Within (list_in t) (push e lists)
      unfolding open_in
      bracket e q =
          let j : suc (w.at - 2) ≡ w.at - 1 = omega arith in
          let p : Placed (list_in t) (is_digit_byte (get_or t (w.at - 2) 0)) (drop (w.at - 1) t)
          = subst (λ (n : ℕ). Placed (list_in t) (is_digit_byte (get_or t (w.at - 2) 0)) (drop n t)) j (placed t g (w.at - 2) (omega (arith, k.within))) in
          let b = met_back (list_in t) (is_digit_byte (get_or t (w.at - 2) 0)) (drop (w.at - 1) t) e (marks_from false (drop w.at t)) p (marks (is_digit_byte (get_or t (w.at - 2) 0)) (e ∷ []) q) in
          (ap (λ (es : List Mark). pushes es []) (marks false (e ∷ []) q), b.0, b.1)

    -- ")"
    module _ (e : last ≡ 41) where
      shut_back : (open_in (drop (w.at - 1) t) ≡ push shut lists) × Pushable shut lists × Within (list_in t) (push shut lists)
      shut_back = bracket (ap is_digit_byte e) shut (ap mark_of e)

      pub may_shut_lem : w.depth < levels
      unfolding order
      may_shut_lem = omega (arith, k.deep, shut_back.2.shallow.0)

      pub shuts : Stepped t (set outer w.depth w.count) w (shut_at w)
      unfolding len elements
      shuts =
          let p = shut_back in
          let o : w.depth < length outer = omega (arith, may_shut_lem, k.wide) in
          record {
            walks = stands t (set outer w.depth w.count) (shut_at w) (nil ∷ lists) p.0 (omega arith) (omega (arith, k.within)) (λ y. ap is_digit_byte e)
                (omega (arith, k.deep)) (refl, kept outer lists w.depth w.count k.deep o k.here) (omega arith) (length-set outer w.depth w.count ∙ k.wide) p.2;
            back = omega arith;
            groups = ap groups_in p.0;
            small = tt;
          }

    -- "(" of an element
    module _ (e : last ≡ 40) where
      open_back : (open_in (drop (w.at - 1) t) ≡ push opened lists) × Pushable opened lists × Within (list_in t) (push opened lists)
      open_back = bracket (ap is_digit_byte e) opened (ap mark_of e)

      its : Joined outer w.depth w.count lists
      its = joined outer w.depth w.count lists open_back.1 k.deep k.here

      pub may_open_lem : (1 ≤ w.depth) × (w.depth ≤ levels) × (w.count ≤ text_most) × (get_or outer (w.depth - 1) 0 ≤ text_most)
      may_open_lem = (omega (arith, k.deep, open_back.1), omega (arith, k.deep, levelled lists k.lists.shallow), omega (arith, its.inner, room), omega (arith, its.outside, room))

      pub opens : Stepped t outer w (open_at outer w)
      opens =
          let p = open_back in
          record {
            walks = stands t outer (open_at outer w) (push opened lists) p.0 (omega arith) (omega (arith, k.within)) (λ y. ap is_digit_byte e)
                its.deep its.here (here_few outer _ (push opened lists) (omega (arith, its.deep, k.deep, p.1)) its.here) k.wide p.2;
            back = omega arith;
            groups = ap groups_in p.0 ∙ its.groups;
            small = omega (arith, its.inner, room);
          }

    -- fill, or a ","
    pub passes : is_digit_byte last ≡ false → (last ≡ 41 → ⊥) → (last ≡ 40 → ⊥) → Stepped t outer w (blank_at w)
    unfolding open_in
    passes d n m =
        let e : mark_of last ≡ [] = rw (ne_eqb last 40 m, ne_eqb last 41 n) in
        let same : open_in (drop (w.at - 1) t) ≡ lists = ap (λ (es : List Mark). pushes es []) (marks d false [] e) in
        record {
          walks = stands t outer (blank_at w) lists same (omega arith) (omega (arith, k.within)) (λ y. d) k.deep k.here k.few k.wide k.lists;
          back = omega arith;
          groups = ap groups_in same;
          small = tt;
        }

    -- an atom
    pub ends : is_digit_byte last ≡ true → Ends t w.at
    ends d = record {
      text = record { begins = ap is_digit_byte g.starts; runs = g.runs };
      some = k.some;
      within = k.within;
      last = d;
      ended = k.whole d;
    }

    pub few_yet : w.count ≤ text_most
    few_yet = omega (arith, k.few, room)

    -- its digits, from the first on
    module _ (d : is_digit_byte last ≡ true) (a : Atom) (b : Before t w.at a) where
      atom-marks : marks_from false (drop a.from t) ≡ value a.value ∷ marks_from false (drop w.at t)
      atom-marks =
          let f = a.from in
          let x = get_or t f 0 in
          let u = drop (suc f) t in
          let l : f < length t = omega (arith, b.digits.before, k.within) in
          let e : drop f t ≡ x ∷ u = drop-cons t f 0 l in
          let run : digit_run (drop f t) ≡ suc (digit_run u) = ap digit_run e ∙ ap (λ (c : Bool). cond c (suc (digit_run u)) 0) b.digits.first in
          let n : suc f + digit_run u ≡ w.at = omega (arith, b.digits.run, run) in
          let behind : drop (digit_run u) u ≡ drop w.at t = drop-drop (digit_run u) (suc f) t ∙ ap (λ (j : ℕ). drop j t) n in
          let z : w.at + 0 ≡ w.at = omega arith in
          let ended : is_digit_byte (get_or (drop w.at t) 0 0) ≡ false
          = ap is_digit_byte (get_or-drop w.at t 0 0 ∙ ap (λ (j : ℕ). get_or t j 0) z) ∙ k.whole d in
          ap (marks_from false) e
          ∙ ap (λ (c : Bool). cond c (value (numeral 0 (x ∷ u)) ∷ marks_from true u) (mark_of x ++ marks_from false u)) b.digits.first
          ∙ ap (λ (v : ℕ). value v ∷ marks_from true u) (sym (ap (numeral 0) e) ∙ sym b.value)
          ∙ ap (λ (ms : List Mark). value a.value ∷ ms) (digits-past u (digit_run u) refl ∙ ap (marks_from true) behind ∙ no_flag (drop w.at t) ended)

      atom_back : (open_in (drop a.from t) ≡ push (value a.value) lists) × Pushable (value a.value) lists × Within (list_in t) (push (value a.value) lists)
      unfolding open_in
      atom_back =
          let f = a.from in
          let one = b.digits.some in
          let j : suc (f - 1) ≡ f = omega arith in
          let p : Placed (list_in t) false (drop f t)
          = subst (λ (c : Bool). Placed (list_in t) c (drop f t)) b.starts
          (subst (λ (n : ℕ). Placed (list_in t) (is_digit_byte (get_or t (f - 1) 0)) (drop n t)) j (placed t g (f - 1) (omega (arith, b.digits.before, k.within)))) in
          let q = met_back (list_in t) false (drop f t) (value a.value) (marks_from false (drop w.at t)) p atom-marks in
          (ap (λ (es : List Mark). pushes es []) atom-marks, q.0, q.1)

      atom-step : Stepped t outer w (pass_at w a)
      atom-step =
          let p = atom_back in
          let v = a.value in
          let m = longer outer w.depth w.count v lists p.1.1 k.deep k.here in
          record {
            walks = stands t outer (pass_at w a) (push (value v) lists) p.0 b.digits.some (omega (arith, b.digits.before, k.within))
                (λ y. no_yes (sym b.starts ∙ y)) m.deep m.here
                (here_few outer (w.count + 1) (push (value v) lists) (omega (arith, m.deep, k.deep, p.1.1)) m.here) k.wide p.2;
            back = b.digits.before;
            groups = ap groups_in p.0 ∙ m.groups;
            small = omega (arith, p.1.0);
          }

    pub atoms : is_digit_byte last ≡ true → (r : Walk) → AtomAt t w r → Stepped t outer w r
    atoms d r (a, b, q) = subst (Stepped t outer w) (sym q) (atom-step d a b)
