-- A turn of the writing: by the innermost list it is ")", an atom or "(", and its characters and the bytes of its
-- number come off the front of what is to come.
use Rattle.std.specs.Prelude.{ℕ, suc, ◌+◌, ◌-◌, ◌*◌, ◌/◌, ◌%◌, ◌≤◌, ◌<◌, ◌≡◌, refl, Some, IsSome, ◌≢◌, true, false, List, [], ◌∷◌, ◌++◌, length, drop, take, get_or, set}
use Rattle.std.proofs.Common.{sym, ap, ◌∙◌, append_assoc, arith, length-append, length-drop, length-set, drop-drop, get_or-set_same, get_or-set_other}
use Rattle.std.proofs.Math.Seq.{drop-append_seam, take-append_seam}
use Rattle.lists.specs.Lst.{Lst, nil, atom, list, len, order}
use Rattle.groups.specs.Groups.{numbers_end, number, elements, atom_number, list_number, Fit}
use Rattle.numbers.specs.declared.Number.{Number}
use Rattle.numbers.specs.Numbers.{number_in}
use Rattle.text.specs.Limits.{levels}
use Rattle.text.specs.ListText.{items}
use Rattle.text.specs.Laws.OpenLists.{body, opens_body}
use Rattle.text.specs.Laws.RoundTrip.{order_pos}
use Rattle.octal.specs.Numeral.{numeral}
use Rattle.writing.specs.Steps.{comma}
use Rattle.writing.specs.Walking.{above, rest}
use Rattle.octal.specs.Laws.NumeralLaws.{some_digits}
use Rattle.totext.specs.declared.put.Walk.{Walk}
use Rattle.totext.specs.Standing.{todo, Around, Sound, Levels, Standing}
use Rattle.totext.specs.Turns.{parted, behind_shut, behind_atom, behind_open, kept_at, Turned}
use Rattle.numbers.specs.Laws.GroupLaws.{read_there, some_there, behind-number}

-- the elements that follow another
follows : (l : Lst) → items false l ≡ comma (len l) ++ body l
unfolding len
follows nil = refl
follows (atom v l) = refl
follows (list m l) = refl

going : (n : ℕ) (l : Lst) (ls : List Lst) → n ≡ len l → above (l ∷ ls) ≡ comma n ++ rest (l ∷ ls)
going n l ls e =
    ap (λ (t : List ℕ). t ++ above ls) (follows l ∙ ap (λ (k : ℕ). comma k ++ body l) (sym e))
    ∙ append_assoc (comma n) (body l) (above ls)

-- what is kept higher leaves the levels below
around-kept : (kept : List ℕ) (ls : List Lst) (d y : ℕ) → length ls < d → Around kept ls → Around (set kept d y) ls
around-kept kept [] d y l h = tt
around-kept kept (a ∷ ls) d y l h =
    (get_or-set_other kept d (suc (length ls)) y 0 (λ e. omega arith) ∙ h.0, around-kept kept ls d y (omega arith) h.1)

module _ (s t : List ℕ) (w : Walk) (opened : List Lst) (text : drop w.to t ≡ rest opened) (within : w.to ≤ length t) where
  -- the characters bs come off the front
  turn : (kept : List ℕ) (r : Walk) (bs : List ℕ) (next : List Lst) (later : List ℕ) → Levels kept r next
      → drop r.from s ≡ todo next ++ later → rest opened ≡ bs ++ rest next → 1 ≤ length bs → r.to ≡ w.to + length bs
      → Turned s t kept w r bs
  turn kept r bs next later l e q some k =
      let front : drop w.to t ≡ bs ++ rest next = text ∙ q in
      record {
        stands = record {
          opened = next;
          stands = l;
          later = later;
          groups = e;
          text = ap (λ (j : ℕ). drop j t) k ∙ sym (drop-drop (length bs) w.to t) ∙ ap (drop (length bs)) front
              ∙ drop-append_seam bs (rest next);
          within = omega (arith, ap length front, length-drop w.to t, length-append bs (rest next));
        };
        more = some;
        size = k;
        text = ap (take (length bs)) front ∙ take-append_seam bs (rest next);
      }

-- ")"
shut_goes : (s t kept : List ℕ) (w : Walk) (opened : List Lst) (later : List ℕ) → Levels kept w opened → 1 ≤ w.depth → w.left ≡ 0
    → drop w.from s ≡ todo opened ++ later → drop w.to t ≡ rest opened → w.to ≤ length t
    → Turned s t kept w (parted (behind_shut kept w)) (41 ∷ comma (get_or kept (w.depth - 1) 0))
unfolding len elements
shut_goes s t kept w [] later l some z e text within = absurd (omega (arith, l.deep))
shut_goes s t kept w (atom v k ∷ ls) later l some z e text within = absurd (omega (arith, l.counted.0))
shut_goes s t kept w (list m k ∷ ls) later l some z e text within = absurd (omega (arith, l.counted.0))
shut_goes s t kept w (nil ∷ []) later l some z e text within =
    let d : w.depth - 1 ≡ 0 = omega (arith, l.deep) in
    let n : get_or kept (w.depth - 1) 0 ≡ 0 = ap (λ (j : ℕ). get_or kept j 0) d ∙ l.floor in
    turn s t w (nil ∷ []) text within kept _ _ [] later
    (record { deep = sym d; counted = tt; sound = tt; floor = l.floor; wide = l.wide })
    e (ap (λ (j : ℕ). 41 ∷ comma j ++ []) (sym n)) (omega arith) (omega arith)
shut_goes s t kept w (nil ∷ (a ∷ ls)) later l some z e text within =
    let d : w.depth - 1 ≡ suc (length ls) = omega (arith, l.deep) in
    let n : get_or kept (w.depth - 1) 0 ≡ len a = ap (λ (j : ℕ). get_or kept j 0) d ∙ l.counted.1.0 in
    turn s t w (nil ∷ (a ∷ ls)) text within kept _ _ (a ∷ ls) later
    (record { deep = sym d; counted = (n, l.counted.1.1); sound = l.sound.2; floor = l.floor; wide = l.wide })
    e (ap (λ (b : List ℕ). 41 ∷ b) (going _ a ls n)) (omega arith) (omega arith)

-- an atom, by the number that is read
halved : (v : ℕ) → 2 * v / 2 ≡ v
halved v = omega arith

atom_goes : (s t kept : List ℕ) (w : Walk) (n : Number) (opened : List Lst) (later : List ℕ) → Levels kept w opened → 1 ≤ w.depth → w.left ≢ 0
    → Some n ≡ number_in s w.from → n.value % 2 ≡ 0 → drop w.from s ≡ todo opened ++ later → drop w.to t ≡ rest opened → w.to ≤ length t
    → Turned s t kept w (parted (behind_atom n w)) (numeral (n.value / 2) ++ comma (w.left - 1))
unfolding len elements Fit order numeral
atom_goes s t kept w n [] later l some z q p e text within = absurd (omega (arith, l.deep))
atom_goes s t kept w n (nil ∷ ls) later l some z q p e text within = absurd (z l.counted.0)
atom_goes s t kept w n (list m k ∷ ls) later l some z q p e text within =
    let split : drop w.from s ≡ number (list_number m) ++ (((elements m ++ elements k) ++ todo ls) ++ later) = e ∙ simp append_assoc in
    let told = read_there s _ w.from (list_number m) split q l.sound.0.0 in
    absurd (omega (arith, ap (λ (x : Number). x.value) told))
atom_goes s t kept w n (atom v k ∷ ls) later l some z q p e text within =
    let split : drop w.from s ≡ number (atom_number v) ++ ((elements k ++ todo ls) ++ later) = e ∙ simp append_assoc in
    let told = read_there s _ w.from (atom_number v) split q l.sound.0.0 in
    let half : n.value / 2 ≡ v = ap (λ (x : Number). x.value / 2) told ∙ halved v in
    let count : w.left - 1 ≡ len k = omega (arith, l.counted.0) in
    let bs : List ℕ = numeral (n.value / 2) in
    turn s t w (atom v k ∷ ls) text within kept _ _ (k ∷ ls) later
    (record { deep = l.deep; counted = (count, l.counted.1); sound = (l.sound.0.1, l.sound.1, l.sound.2); floor = l.floor; wide = l.wide })
    (ap (λ (x : Number). drop x.end s) told ∙ behind-number s _ w.from (atom_number v) split)
    (append_assoc (numeral v) (items false k) (above ls) ∙ ap (λ (x : ℕ). numeral x ++ above (k ∷ ls)) (sym half)
    ∙ ap (λ (b : List ℕ). bs ++ b) (going _ k ls count) ∙ sym (append_assoc bs (comma (w.left - 1)) (rest (k ∷ ls))))
    (omega (arith, length-append bs (comma (w.left - 1)), some_digits (n.value / 2)))
    (omega (arith, length-append bs (comma (w.left - 1))))

-- "("
opened_goes : (s t kept : List ℕ) (w : Walk) (n : Number) (opened : List Lst) (later : List ℕ) → Levels kept w opened → 1 ≤ w.depth → w.left ≢ 0
    → Some n ≡ number_in s w.from → n.value % 2 ≢ 0 → drop w.from s ≡ todo opened ++ later → drop w.to t ≡ rest opened → w.to ≤ length t
    → Turned s t (kept_at kept w) w (behind_open n w) (40 ∷ []) × (w.depth < levels)
unfolding len elements Fit order
opened_goes s t kept w n [] later l some z q p e text within = absurd (omega (arith, l.deep))
opened_goes s t kept w n (nil ∷ ls) later l some z q p e text within = absurd (z l.counted.0)
opened_goes s t kept w n (atom v k ∷ ls) later l some z q p e text within =
    let split : drop w.from s ≡ number (atom_number v) ++ ((elements k ++ todo ls) ++ later) = e ∙ simp append_assoc in
    let told = read_there s _ w.from (atom_number v) split q l.sound.0.0 in
    absurd (p (omega (arith, ap (λ (x : Number). x.value) told)))
opened_goes s t kept w n (list m k ∷ ls) later l some z q p e text within =
    let split : drop w.from s ≡ number (list_number m) ++ ((elements m ++ (elements k ++ todo ls)) ++ later) = e ∙ simp append_assoc in
    let told = read_there s _ w.from (list_number m) split q l.sound.0.0 in
    let half : n.value / 2 ≡ len m = omega (arith, ap (λ (x : Number). x.value) told) in
    let count : w.left - 1 ≡ len k = omega (arith, l.counted.0) in
    let y : ℕ = w.left - 1 in
    let d : suc (length ls) ≡ w.depth = l.deep in
    let room : w.depth < levels = omega (arith, l.sound.1, order_pos m) in
    let there : get_or (set kept w.depth y) (suc (length ls)) 0 ≡ len k =
    ap (λ (j : ℕ). get_or (set kept w.depth y) j 0) d ∙ get_or-set_same kept w.depth y 0 (omega (arith, l.wide)) ∙ count in (
      turn s t w (list m k ∷ ls) text within (kept_at kept w) _ _ (m ∷ (k ∷ ls)) later
          (record {
            deep = omega arith;
            counted = (half, (there, around-kept kept ls w.depth y (omega arith) l.counted.1));
            sound = (l.sound.0.1, omega (arith, l.sound.1), (l.sound.0.2, omega (arith, l.sound.1), l.sound.2));
            floor = get_or-set_other kept w.depth 0 y 0 (λ j. omega arith) ∙ l.floor;
            wide = length-set kept w.depth y ∙ l.wide;
          })
          (ap (λ (x : Number). drop x.end s) told ∙ behind-number s _ w.from (list_number m) split)
          (append_assoc (items true m) (items false k) (above ls) ∙ ap (λ (b : List ℕ). b ++ above (k ∷ ls)) (opens_body m))
          (omega arith) refl,
      room,
    )

-- the number of an element
below_goes : (s kept : List ℕ) (w : Walk) (n : Number) (opened : List Lst) (later : List ℕ) → Levels kept w opened → 1 ≤ w.depth → w.left ≢ 0
    → Some n ≡ number_in s w.from → drop w.from s ≡ todo opened ++ later → n.value < numbers_end
unfolding len elements Fit
below_goes s kept w n [] later l some z q e = absurd (omega (arith, l.deep))
below_goes s kept w n (nil ∷ ls) later l some z q e = absurd (z l.counted.0)
below_goes s kept w n (atom v k ∷ ls) later l some z q e =
    let split : drop w.from s ≡ number (atom_number v) ++ ((elements k ++ todo ls) ++ later) = e ∙ simp append_assoc in
    omega (arith, l.sound.0.0, ap (λ (x : Number). x.value) (read_there s _ w.from (atom_number v) split q l.sound.0.0))
below_goes s kept w n (list m k ∷ ls) later l some z q e =
    let split : drop w.from s ≡ number (list_number m) ++ (((elements m ++ elements k) ++ todo ls) ++ later) = e ∙ simp append_assoc in
    omega (arith, l.sound.0.0, ap (λ (x : Number). x.value) (read_there s _ w.from (list_number m) split q l.sound.0.0))

some_goes : (s kept : List ℕ) (w : Walk) (opened : List Lst) (later : List ℕ) → Levels kept w opened → 1 ≤ w.depth → w.left ≢ 0
    → drop w.from s ≡ todo opened ++ later → IsSome (number_in s w.from)
unfolding len elements Fit
some_goes s kept w [] later l some z e = absurd (omega (arith, l.deep))
some_goes s kept w (nil ∷ ls) later l some z e = absurd (z l.counted.0)
some_goes s kept w (atom v k ∷ ls) later l some z e =
    let split : drop w.from s ≡ number (atom_number v) ++ ((elements k ++ todo ls) ++ later) = e ∙ simp append_assoc in
    some_there s _ w.from (atom_number v) split l.sound.0.0
some_goes s kept w (list m k ∷ ls) later l some z e =
    let split : drop w.from s ≡ number (list_number m) ++ (((elements m ++ elements k) ++ todo ls) ++ later) = e ∙ simp append_assoc in
    some_there s _ w.from (list_number m) split l.sound.0.0

module _ {s t kept : List ℕ} {w : Walk} (g : Standing s t kept w) (some : 1 ≤ w.depth) where
  pub some_number : w.left ≢ 0 → IsSome (number_in s w.from)
  some_number z = some_goes s kept w g.opened g.later g.stands some z g.groups

  pub shut_turned : w.left ≡ 0 → Turned s t kept w (parted (behind_shut kept w)) (41 ∷ comma (get_or kept (w.depth - 1) 0))
  shut_turned z = shut_goes s t kept w g.opened g.later g.stands some z g.groups g.text g.within

  -- the number n is read where elements are to come
  module _ (z : w.left ≢ 0) {n : Number} (q : Some n ≡ number_in s w.from) where
    pub below : n.value < numbers_end
    below = below_goes s kept w n g.opened g.later g.stands some z q g.groups

    pub atom-turned : n.value % 2 ≡ 0 → Turned s t kept w (parted (behind_atom n w)) (numeral (n.value / 2) ++ comma (w.left - 1))
    atom-turned p = atom_goes s t kept w n g.opened g.later g.stands some z q p g.groups g.text g.within

    pub open_turned : n.value % 2 ≢ 0 → Turned s t (kept_at kept w) w (behind_open n w) (40 ∷ []) × (w.depth < levels)
    open_turned p = opened_goes s t kept w n g.opened g.later g.stands some z q p g.groups g.text g.within

-- no level too many is open
shallow_goes : (opened : List Lst) → Sound opened → length opened ≤ levels
shallow_goes [] h = omega arith
shallow_goes (l ∷ ls) h = omega (arith, h.1, order_pos l)

pub shallow : {s t kept : List ℕ} {w : Walk} → Standing s t kept w → w.depth ≤ levels
shallow g = omega (arith, g.stands.deep, shallow_goes g.opened g.stands.sound)
