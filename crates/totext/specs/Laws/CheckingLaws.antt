-- The check goes along the automaton: it begins with a list, ends a list, takes a number, meets a fault, and ends with
-- the bytes taken and the size of the text.
use Prim.Native.Nat.{ℕ, zero, suc, ◌+◌, ◌-◌, ◌/◌, ◌%◌, ◌≤◌, ◌<◌}
use Rattle.std.specs.Prelude.{◌≡◌, refl, ◌≢◌, Bool, cond, ltb, length, get_or, drop, set, replicate, Ok, Err}
use Rattle.std.proofs.Common.{sym, subst, ◌∙◌, take-append-drop, length-set, get_or-set_same, get_or-set_other, eq-eqb, ne_eqb, lt-ltb, le-ltb}
use Rattle.std.proofs.Math.Path.{ap}
use mathlib.Core.List.{List, [], ◌∷◌, ◌++◌, append_assoc}
use native.Mathlib.Omega.{arith}
use Rattle.answers.specs.Answers.{DEEP, GROUPS}
use Rattle.answers.specs.declared.refusal.Refusal.TheVariants as why
use Rattle.groups.specs.Groups.{number}
use Rattle.groups.specs.Holding.{Holding}
use Rattle.groups.specs.Reading.{Token, num, bad, tokens, State, begin, at, refused, closing, next, run, answer, scanned, list_in}
use Rattle.groups.specs.Laws.RunLaws.{rests_refused, rests_taken}
use Rattle.groups.specs.Laws.Taking.{tokens-number, scanned_holds}
use Rattle.lists.specs.Lst.{Lst}
use Rattle.numbers.specs.Numbered.{Numbered, Unnumbered}
use Rattle.text.specs.Limits.{levels}
use Rattle.text.specs.ListText.{text_of}
use Rattle.text.specs.Text.{done, refusal}
use Rattle.totext.specs.declared.put.Walk.{Walk}
use Rattle.totext.specs.Checking.{around, chars_in, Checking, Passes, Checks}
use Rattle.totext.specs.Sizing.{numbers_of, groups_of_all, Below, chars, chars_most, chars_of_all}
use Rattle.totext.specs.Turns.{walk, behind_list}
use Rattle.totext.specs.Laws.SizingLaws.{numbers_groups, numbers_below, text-size}

-- ---- the numbers of a list that is held
all-chars : (vs later : List ℕ) → Below vs → chars_in (tokens (groups_of_all vs ++ later)) ≡ chars_of_all vs + chars_in (tokens later)
unfolding chars_in chars_of_all
all-chars [] later b = omega arith
all-chars (v ∷ vs) later b =
    let e : tokens ((number v ++ groups_of_all vs) ++ later) ≡ num v (length (number v)) ∷ tokens (groups_of_all vs ++ later)
    = ap tokens (append_assoc (number v) (groups_of_all vs) later) ∙ tokens-number v (groups_of_all vs ++ later) b.0 in
    omega (arith, ap chars_in e, all-chars vs later b.1)

held-chars : (s : List ℕ) (m : ℕ) (l : Lst) → Holding s m l → chars_in (tokens s) ≡ length (text_of l) + 1 + chars_in (tokens (drop m s))
held-chars s m l h =
    let e : s ≡ groups_of_all (numbers_of l) ++ drop m s
    = sym (take-append-drop m s) ∙ ap (λ (t : List ℕ). t ++ drop m s) (h.bytes ∙ numbers_groups l) in
    ap (λ (t : List ℕ). chars_in (tokens t)) e ∙ all-chars (numbers_of l) (drop m s) (numbers_below l h.fits) ∙ ap (λ (k : ℕ). k + chars_in (tokens (drop m s))) (text-size l)

-- ---- the lists around
around-length : (kept : List ℕ) (d : ℕ) → length (around kept d) ≡ d
around-length kept zero = refl
around-length kept (suc d) = ap suc (around-length kept d)

-- what is kept higher leaves those below
around-kept : (kept : List ℕ) (d e y : ℕ) → e < d → around (set kept d y) e ≡ around kept e
around-kept kept d zero y l = refl
around-kept kept d (suc e) y l =
    ap (λ (k : ℕ). k ∷ around (set kept d y) e) (get_or-set_other kept d (suc e) y 0 (λ q. omega arith))
    ∙ ap (λ (t : List ℕ). get_or kept (suc e) 0 ∷ t) (around-kept kept d e y (omega arith))

-- ---- one number
odd_opens : (v j : ℕ) → v % 2 ≢ 0 → next begin (num v j) ≡ closing (v / 2 ∷ []) j
odd_opens v j n = ap (λ (b : Bool). cond b (refused GROUPS) (closing (v / 2 ∷ []) j)) (ne_eqb (v % 2) 0 n)

module _ (k : ℕ) (st : List ℕ) (i v j : ℕ) where
  passes : v % 2 ≡ 0 → next (at (suc k ∷ st) i) (num v j) ≡ closing (k ∷ st) (i + j)
  passes e =
      ap (λ (b : Bool). cond b (closing (k ∷ st) (i + j)) (cond (ltb (length (k ∷ st)) levels) (closing (v / 2 ∷ (k ∷ st)) (i + j)) (refused DEEP)))
      (eq-eqb (v % 2) 0 e)

  opens : v % 2 ≢ 0 → length (k ∷ st) < levels → next (at (suc k ∷ st) i) (num v j) ≡ closing (v / 2 ∷ (k ∷ st)) (i + j)
  opens n l = rw (ne_eqb (v % 2) 0 n, lt-ltb (length (k ∷ st)) levels l) refl

  too_deep_lem : v % 2 ≢ 0 → levels ≤ length (k ∷ st) → next (at (suc k ∷ st) i) (num v j) ≡ refused DEEP
  too_deep_lem n l = rw (ne_eqb (v % 2) 0 n, le-ltb (length (k ∷ st)) levels l) refl

unread : (k : ℕ) (st : List ℕ) (i : ℕ) (ts : List Token) → Unnumbered ts → answer (run (at (suc k ∷ st) i) ts) ≡ refusal GROUPS
unread k st i [] n = refl
unread k st i (bad ∷ ts) n = ap answer (rests_refused GROUPS ts)
unread k st i (num v m ∷ ts) n = absurd (n v m ts refl)

none_first : (ts : List Token) → Unnumbered ts → answer (run begin ts) ≡ refusal GROUPS
none_first [] n = refl
none_first (bad ∷ ts) n = ap answer (rests_refused GROUPS ts)
none_first (num v m ∷ ts) n = absurd (n v m ts refl)

atom-first : (v j : ℕ) (ts : List Token) → v % 2 ≡ 0 → answer (run begin (num v j ∷ ts)) ≡ refusal GROUPS
atom-first v j ts e =
    ap (λ (b : Bool). answer (run (cond b (refused GROUPS) (closing (v / 2 ∷ []) j)) ts)) (eq-eqb (v % 2) 0 e) ∙ ap answer (rests_refused GROUPS ts)

-- ---- the beginning
module _ (s : List ℕ) where
  pub no_number : Unnumbered (tokens (drop 0 s)) → Checks s (Err why.Groups)
  unfolding scanned
  no_number n = none_first (tokens s) n

  module _ {v j : ℕ} (n : Numbered s 0 v j) where
    pub no_list : v % 2 ≡ 0 → Checks s (Err why.Groups)
    unfolding scanned
    no_list e = ap (λ (ts : List Token). answer (run begin ts)) n.is ∙ atom-first v (j - 0) (tokens (drop j s)) e

    pub check-begins : (k : ℕ) → v % 2 ≢ 0 → k ≡ chars v → k ≤ chars_most → Checking s (replicate levels 0) (walk j k 1 (v / 2))
    unfolding chars_in
    check-begins k o e most =
        let back : j - 0 ≡ j = omega arith in
        record {
          runs = ap (run begin) n.is ∙ ap (λ (q : State). run q (tokens (drop j s))) (odd_opens v (j - 0) o)
              ∙ ap (λ (i : ℕ). run (closing (v / 2 ∷ []) i) (tokens (drop j s))) back;
          sum = ap chars_in n.is ∙ ap (λ (x : ℕ). x + chars_in (tokens (drop j s))) (sym e);
          few = omega (arith, n.on);
          within = n.within;
          floor = refl;
          wide = refl;
          low = omega arith;
        }

-- ---- a turn
-- the end of a list
shut_goes : (s kept : List ℕ) (i k d n : ℕ) → Checking s kept (walk i k d n) → 1 ≤ d → n ≡ 0
    → Checking s kept (walk i k (d - 1) (get_or kept (d - 1) 0))
shut_goes s kept i k zero n c l z = absurd (omega arith)
shut_goes s kept i k (suc zero) n c l z = record {
  runs = c.runs ∙ ap (λ (x : ℕ). run (closing (x ∷ []) i) (tokens (drop i s))) z;
  sum = c.sum;
  few = c.few;
  within = c.within;
  floor = c.floor;
  wide = c.wide;
  low = omega arith;
}
shut_goes s kept i k (suc (suc d)) n c l z =
    let e : suc (suc d) - 1 ≡ suc d = omega arith in
    subst (λ (x : ℕ). Checking s kept (walk i k x (get_or kept x 0))) (sym e) (record {
      runs = c.runs ∙ ap (λ (x : ℕ). run (closing (x ∷ around kept (suc d)) i) (tokens (drop i s))) z;
      sum = c.sum;
      few = c.few;
      within = c.within;
      floor = c.floor;
      wide = c.wide;
      low = omega (arith, c.low);
    })

-- the number v, which takes the bytes from i up to j and for which x characters are counted
module _ (s kept : List ℕ) (i k v j x : ℕ) (N : Numbered s i v j) (is : x ≡ chars v) (most : x ≤ chars_most) where
  counts : chars_in (tokens s) ≡ k + chars_in (tokens (drop i s)) → chars_in (tokens s) ≡ k + x + chars_in (tokens (drop j s))
  unfolding chars_in
  counts e = omega (arith, ap chars_in N.is)

  reads : (st : List ℕ) (n : ℕ) (q : State) → run begin (tokens s) ≡ run (at (suc n ∷ st) i) (tokens (drop i s))
      → next (at (suc n ∷ st) i) (num v (j - i)) ≡ q → run begin (tokens s) ≡ run q (tokens (drop j s))
  reads st n q e g = e ∙ ap (run (at (suc n ∷ st) i)) N.is ∙ ap (λ (y : State). run y (tokens (drop j s))) g

  behind : i + (j - i) ≡ j
  behind = omega (arith, N.on)

  atom_goes : (d n : ℕ) → Checking s kept (walk i k d n) → 1 ≤ d → n ≢ 0 → v % 2 ≡ 0 → Checking s kept (walk j (k + x) d (n - 1))
  atom_goes zero n c l z e = absurd (omega arith)
  atom_goes (suc d) zero c l z e = absurd (z refl)
  atom_goes (suc d) (suc n) c l z e =
      let less : suc n - 1 ≡ n = omega arith in
      subst (λ (y : ℕ). Checking s kept (walk j (k + x) (suc d) y)) (sym less) (record {
        runs = reads (around kept d) n (closing (n ∷ around kept d) j) c.runs
            (passes n (around kept d) i v (j - i) e ∙ ap (closing (n ∷ around kept d)) behind);
        sum = counts c.sum;
        few = omega (arith, c.few, N.on);
        within = N.within;
        floor = c.floor;
        wide = c.wide;
        low = c.low;
      })

  kept_here : (d n : ℕ) → length kept ≡ levels → suc d < levels → around (set kept (suc d) n) (suc d) ≡ n ∷ around kept d
  kept_here d n w l =
      ap (λ (y : ℕ). y ∷ around (set kept (suc d) n) d) (get_or-set_same kept (suc d) n 0 (omega arith))
      ∙ ap (λ (t : List ℕ). n ∷ t) (around-kept kept (suc d) d n (omega arith))

  list_goes : (d n : ℕ) → Checking s kept (walk i k d n) → 1 ≤ d → n ≢ 0 → v % 2 ≢ 0 → d < levels
      → Checking s (set kept d (n - 1)) (walk j (k + x) (d + 1) (v / 2))
  list_goes zero n c l z e h = absurd (omega arith)
  list_goes (suc d) zero c l z e h = absurd (z refl)
  list_goes (suc d) (suc n) c l z e h =
      let less : suc n - 1 ≡ n = omega arith in
      let more : suc d + 1 ≡ suc (suc d) = omega arith in
      let short : length (n ∷ around kept d) < levels = omega (arith, around-length kept d) in
      subst (λ (y : ℕ). Checking s (set kept (suc d) y) (walk j (k + x) (suc d + 1) (v / 2))) (sym less)
      (subst (λ (y : ℕ). Checking s (set kept (suc d) n) (walk j (k + x) y (v / 2))) (sym more) (record {
        runs = reads (around kept d) n (closing (v / 2 ∷ (n ∷ around kept d)) j) c.runs
            (opens n (around kept d) i v (j - i) e short ∙ ap (closing (v / 2 ∷ (n ∷ around kept d))) behind)
            ∙ ap (λ (t : List ℕ). run (closing (v / 2 ∷ t) j) (tokens (drop j s))) (sym (kept_here d n c.wide h));
        sum = counts c.sum;
        few = omega (arith, c.few, N.on);
        within = N.within;
        floor = get_or-set_other kept (suc d) 0 n 0 (λ q. omega arith) ∙ c.floor;
        wide = length-set kept (suc d) n ∙ c.wide;
        low = omega arith;
      }))

  deep_stops : (d n : ℕ) → Checking s kept (walk i k d n) → 1 ≤ d → n ≢ 0 → v % 2 ≢ 0 → levels ≤ d → scanned s ≡ refusal DEEP
  unfolding scanned
  deep_stops zero n c l z e h = absurd (omega arith)
  deep_stops (suc d) zero c l z e h = absurd (z refl)
  deep_stops (suc d) (suc n) c l z e h =
      ap answer (reads (around kept d) n (refused DEEP) c.runs
      (too_deep_lem n (around kept d) i v (j - i) e (omega (arith, around-length kept d))) ∙ rests_refused DEEP (tokens (drop j s)))

none-stops : (s kept : List ℕ) (i k d n : ℕ) → Checking s kept (walk i k d n) → 1 ≤ d → n ≢ 0 → Unnumbered (tokens (drop i s)) → scanned s ≡ refusal GROUPS
unfolding scanned
none-stops s kept i k zero n c l z u = absurd (omega arith)
none-stops s kept i k (suc d) zero c l z u = absurd (z refl)
none-stops s kept i k (suc d) (suc n) c l z u = ap answer c.runs ∙ unread n (around kept d) i (tokens (drop i s)) u

module _ {s kept : List ℕ} {w : Walk} (c : Checking s kept w) (some : 1 ≤ w.depth) where
  pub shut_on : w.left ≡ 0 → Checking s kept (behind_list kept w)
  shut_on z = shut_goes s kept w.from w.to w.depth w.left c some z

  module _ (z : w.left ≢ 0) where
    pub pass_none : Unnumbered (tokens (drop w.from s)) → Passes s w kept (Err why.Groups)
    pass_none u = none-stops s kept w.from w.to w.depth w.left c some z u

    module _ {v j : ℕ} (N : Numbered s w.from v j) {x : ℕ} (is : x ≡ chars v) (most : x ≤ chars_most) where
      pub pass_atom : v % 2 ≡ 0 → Passes s w kept (Ok (walk j (w.to + x) w.depth (w.left - 1)))
      pass_atom e =
          (atom_goes s kept w.from w.to v j x N is most w.depth w.left c some z e, some, omega (arith, N.on))

      pub pass_deep : v % 2 ≢ 0 → levels ≤ w.depth → Passes s w kept (Err why.Deep)
      pass_deep e l = deep_stops s kept w.from w.to v j x N is most w.depth w.left c some z e l

      pub pass_list : v % 2 ≢ 0 → w.depth < levels
          → Passes s w (set kept w.depth (w.left - 1)) (Ok (walk j (w.to + x) (w.depth + 1) (v / 2)))
      pass_list e l =
          (list_goes s kept w.from w.to v j x N is most w.depth w.left c some z e l, omega arith, omega (arith, N.on))

-- ---- the end
ended : (s kept : List ℕ) (i k d n : ℕ) → Checking s kept (walk i k d n) → d ≡ 0 → scanned s ≡ done i
unfolding scanned
ended s kept i k zero n c z = ap answer (c.runs ∙ rests_taken i (tokens (drop i s)))
ended s kept i k (suc d) n c z = absurd (omega arith)

module _ {s kept : List ℕ} {w : Walk} (c : Checking s kept w) (z : w.depth ≡ 0) where
  taken : scanned s ≡ done w.from
  taken = ended s kept w.from w.to w.depth w.left c z

  pub check-size : w.to ≡ length (text_of (list_in s)) + 1
  check-size = omega (arith, c.sum, held-chars s w.from (list_in s) (scanned_holds s w.from taken).0)

  pub check_ends : Checks s (Ok (record { taken = w.from; size = w.to - 1 }))
  check_ends = (taken, omega (arith, check-size))
