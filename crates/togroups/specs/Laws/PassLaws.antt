-- The pass from the end begins behind the text, goes on by a step and the number that it meets, and ends with the
-- number of the whole list.
use Rattle.std.specs.Prelude.{ℕ, ◌+◌, ◌*◌, ◌<◌, ◌≤◌, ◌≡◌, refl, Bool, true, false, List, [], ◌∷◌, ◌++◌, reverse, length, drop, replicate}
use Rattle.std.proofs.Common.{sym, ap, subst, ◌∙◌, append-nil, arith, length-append, length-drop}
use Rattle.std.proofs.lemmas.List.{reverse-append, length-replicate, length-reverse}
use Rattle.std.proofs.Math.ListN.{get_or-eq_default}
use Rattle.std.proofs.Math.Seq.{drop-length}
use Rattle.groups.specs.Groups.{numbers_end, number, list_number, elements, groups_of}
use Rattle.text.specs.Limits.{levels, text_most}
use Rattle.text.specs.ListText.{is_digit_byte}
use Rattle.text.specs.Marks.{pushes, list_in}
use Rattle.togroups.specs.Backward.{marks_from, open_in}
use Rattle.togroups.specs.Laid.{laid_back, over_back}
use Rattle.togroups.specs.Listed.{Listed}
use Rattle.togroups.specs.OpenLists.{groups_in}
use Rattle.togroups.specs.Passing.{Passing}
use Rattle.togroups.specs.Walking.{behind, Here, groups_from, met, Walking, Stepped}
use Rattle.togroups.specs.declared.walk.Walk.{Walk}
use Rattle.togroups.specs.Laws.LaidLaws.{laid-over}
use Rattle.togroups.specs.Laws.ListedLaws.{whole_open}
use Rattle.togroups.specs.Laws.StepLaws.{stands}

-- one number more
over-more : (puts : Bool) (bs gs old : List ℕ) (n : ℕ) → n ≡ length gs → laid_back puts (over_back puts gs old) n bs ≡ over_back puts (bs ++ gs) old
over-more true bs gs old n e =
    laid-over (reverse gs) old (reverse bs) n (e ∙ sym (length-reverse gs)) ∙ ap (λ (t : List ℕ). t ++ drop (length t) old) (sym (reverse-append bs gs))
over-more false bs gs old n e = refl

length_over : (puts : Bool) (gs old : List ℕ) → (puts ≡ true → length gs ≤ length old) → length (over_back puts gs old) ≡ length old
length_over true gs old h =
    omega (arith, h refl, length-append (reverse gs) (drop (length (reverse gs)) old), length-reverse gs, length-drop (length (reverse gs)) old)
length_over false gs old h = refl

-- behind the text
pub pass_begins : (t old : List ℕ) (puts : Bool) (w : Walk) → Listed t → w ≡ behind (length t) → Passing t old puts old (replicate levels 0) w 0
unfolding open_in
pass_begins t old puts w g e = subst (λ (v : Walk). Passing t old puts old (replicate levels 0) v 0) (sym e) begun
  where
    none : open_in (drop (length t) t) ≡ []
    none = ap (λ (u : List ℕ). pushes (marks_from false u) []) (drop-length t)

    untouched : (b : Bool) → old ≡ over_back b [] old
    untouched true = refl
    untouched false = refl

    begun : Passing t old puts old (replicate levels 0) (behind (length t)) 0
    begun = record {
      walks = stands t (replicate levels 0) (behind (length t)) [] none g.some (omega arith) (λ y. ap is_digit_byte (get_or-eq_default t 0 (omega arith)))
          refl tt (omega arith) (length-replicate {A = ℕ} levels 0) (record { shallow = tt; atoms = tt; small = omega arith });
      size = sym (ap (λ ls. length (groups_in ls)) none);
      bytes = untouched puts ∙ ap (λ ls. over_back puts (groups_in ls) old) (sym none);
    }

module _ (t old : List ℕ) (puts : Bool) (out outer : List ℕ) (w : Walk) (n : ℕ) (g : Listed t) (k : Passing t old puts out outer w n)
    (fits : puts ≡ true → length (groups_of (list_in t)) ≤ length old) where
  -- the groups of the elements are fewer than those of the list
  within : (v : Walk) (next : List ℕ) → Walking t next v → length (groups_from t v.at) ≤ length (groups_of (list_in t))
  within v next q = omega (arith, q.lists.small, length-append (number (list_number (list_in t))) (elements (list_in t)))

  pub same-room : length out ≡ length old
  same-room = ap length k.bytes ∙ length_over puts (groups_from t w.at) old (λ y. omega (arith, fits y, within w outer k.walks))

  pub few_bytes : n ≤ text_most
  few_bytes = omega (arith, k.size, within w outer k.walks, g.small, g.short)

  -- a step that meets the number of some groups, or none
  module _ (next : List ℕ) (r : Walk) (s : Stepped t next w r) (bs : List ℕ) (m : met r.number ≡ bs) where
    grown : groups_from t r.at ≡ bs ++ groups_from t w.at
    grown = s.groups ∙ ap (λ (u : List ℕ). u ++ groups_from t w.at) m

    pub room-on : puts ≡ true → n + length bs ≤ length out
    room-on y = omega (arith, k.size, ap length grown, length-append bs (groups_from t w.at), within r next s.walks, fits y, same-room)

    pub pass_on : (new : List ℕ) (m : ℕ) → m ≡ n + length bs → new ≡ laid_back puts out n bs → Passing t old puts new next r m
    pass_on new m e b = record {
      walks = s.walks;
      size = omega (arith, k.size, ap length grown, length-append bs (groups_from t w.at));
      bytes = b ∙ ap (λ (u : List ℕ). laid_back puts u n bs) k.bytes ∙ over-more puts bs (groups_from t w.at) old n k.size
          ∙ ap (λ (u : List ℕ). over_back puts u old) (sym grown);
    }

  -- at the outermost "(", with the number v of the whole list
  module _ (e : w.at ≡ 1) (v : ℕ) (is : v ≡ 2 * w.count + 1) where
    all : open_in (drop w.at t) ≡ list_in t ∷ []
    all = ap (λ (i : ℕ). open_in (drop i t)) e ∙ whole_open t g

    its_number : v ≡ list_number (list_in t)
    its_number = let h = subst (Here outer w.count) all k.walks.here in is ∙ ap (λ (i : ℕ). 2 * i + 1) h.0

    elements-met : groups_from t w.at ≡ elements (list_in t)
    elements-met = ap groups_in all ∙ append-nil (elements (list_in t))

    pub number_fits : v < numbers_end
    number_fits = omega (arith, is, k.walks.few, few_bytes, k.size)

    abbrev header : List ℕ
    header = number v

    whole : header ++ groups_from t w.at ≡ groups_of (list_in t)
    whole = ap (λ (i : ℕ). number i ++ groups_from t w.at) its_number ∙ ap (λ (u : List ℕ). number (list_number (list_in t)) ++ u) elements-met

    pub room_end : puts ≡ true → n + length header ≤ length out
    room_end y = omega (arith, k.size, ap length whole, length-append header (groups_from t w.at), fits y, same-room)

    pub pass_ends : (new : List ℕ) (m : ℕ) → m ≡ n + length header → new ≡ laid_back puts out n header
        → (m ≡ length (groups_of (list_in t))) × (new ≡ over_back puts (groups_of (list_in t)) old)
    pass_ends new m a b = (
      omega (arith, k.size, ap length whole, length-append header (groups_from t w.at)),
      b ∙ ap (λ (u : List ℕ). laid_back puts u n header) k.bytes ∙ over-more puts header (groups_from t w.at) old n k.size
          ∙ ap (λ (u : List ℕ). over_back puts u old) whole,
    )

pub overs_length : (puts : Bool) (gs old new : List ℕ) → (puts ≡ true → length gs ≤ length old) → new ≡ over_back puts gs old → length new ≡ length old
overs_length puts gs old new h e = ap length e ∙ length_over puts gs old h
