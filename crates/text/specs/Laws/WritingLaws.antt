-- Writing is refused exactly where the list is too deep or its text too long; what is written is read again, and what was read can be written.
-- The deepest level of a list's text is its order, by induction on the list; the judgement compares it and the length, by induction on the characters.
use Rattle.std.specs.Prelude.{ℕ, zero, suc, ◌+◌, ◌-◌, ◌/◌, ◌%◌, ◌≤◌, ◌<◌, max, ◌≡◌, refl, List, [], ◌∷◌, ◌++◌, Bool, true, false, cond, length, take, eqb, leb, ltb}
use Rattle.std.proofs.Common.{sym, ap, ◌∙◌, append_assoc, append-nil, arith, length-append, length-take, ne_eqb, le-leb, leb-false}
use Rattle.std.proofs.lemmas.List.{length-replicate}
use Rattle.std.proofs.Math.Dec.{leb-suc-suc}
use Rattle.std.proofs.lemmas.Bool.{lt-leb, eqb-false}
use Rattle.answers.specs.Answers.{OUTPUT}
use Rattle.lists.specs.Lst.{Lst, nil, atom, list, order, Atoms}
use Rattle.text.specs.Limits.{levels, record_bytes}
use Rattle.text.specs.Text.{verdict, done}
use Rattle.text.specs.ListText.{octal_f, octal, items, text_of, is_digit_byte, idle, bare, fill, written}
use Rattle.text.specs.Marks.{list_in}
use Rattle.text.specs.Writing.{usable, depth_after, too_deep, judged, deepest}
use Rattle.text.specs.Laws.TextLaws.{by_case}
use Rattle.text.specs.Laws.RoundTrip.{order_pos, write_read}
use Rattle.text.specs.Laws.OpenLists.{body, opens_body}
use Rattle.text.specs.Laws.Accepted.{sized, taken-within, accepted}
use Rattle.text.specs.Laws.Bounds.{limits}

-- characters that are no parentheses change no level
abbrev pub Plain : List ℕ → Type 0
Plain [] = Unit {0}
Plain (b ∷ bs) = (b ≡ 40 → ⊥) × (b ≡ 41 → ⊥) × Plain bs

pub plain-append : (a b : List ℕ) → Plain a → Plain b → Plain (a ++ b)
plain-append [] b p q = q
plain-append (x ∷ a) b p q = (p.0, p.1, plain-append a b p.2 q)

pub plain-octal : (f v : ℕ) → Plain (octal_f f v)
plain-octal zero v = ((λ e. omega arith), (λ e. omega arith), tt)
plain-octal (suc f) v =
    by_case (ltb v 8) Plain (λ e. ((λ e. omega arith), (λ e. omega arith), tt))
    (λ e. plain-append (octal_f f (v / 8)) ((48 + v % 8) ∷ []) (plain-octal f (v / 8)) ((λ e. omega arith), (λ e. omega arith), tt))

plain_depth : (d b : ℕ) → (b ≡ 40 → ⊥) → (b ≡ 41 → ⊥) → depth_after d b ≡ d
plain_depth d b p q = simp (ne_eqb _ _ p, ne_eqb _ _ q)

-- the deepest level
deepest-from : (d : ℕ) (t : List ℕ) → d ≤ deepest d t
deepest-from d [] = omega arith
deepest-from d (b ∷ t) = omega arith

deepest-plain : (a t : List ℕ) (d : ℕ) → Plain a → deepest d (a ++ t) ≡ deepest d t
deepest-plain [] t d p = refl
deepest-plain (b ∷ a) t d p =
    let e = ap (λ (n : ℕ). deepest n (a ++ t)) (plain_depth d b p.0 p.1) ∙ deepest-plain a t d p.2 in
    omega (arith, e, deepest-from d t)

abbrev Levelled : Lst → (Lst → List ℕ) → Type 0
Levelled l text = (d : ℕ) (t : List ℕ) → deepest (d + 1) (text l ++ t) ≡ max (d + order l) (deepest d t)

-- elements that follow another
follows : (l : Lst) → Levelled l body → Levelled l (items false)
unfolding order
follows nil f d t = f d t
follows (atom v l) f d t = omega (arith, f d t, order_pos l)
follows (list m l) f d t = omega (arith, f d t, order_pos l)

-- the greatest of a level, an element's levels and those of the elements behind it
greatest : (d m l t : ℕ) → max (d + 1) (max (d + 1 + m) (max (d + l) t)) ≡ max (d + max (suc m) l) t
greatest d m l t = omega arith

levelled : (l : Lst) → Levelled l body
unfolding order
levelled nil d t = let e : d + 1 - 1 ≡ d = omega arith in ap (λ (k : ℕ). max (d + 1) (deepest k t)) e
levelled (atom v l) d t =
    ap (deepest (d + 1)) (append_assoc (octal v) (items false l) t) ∙ deepest-plain (octal v) (items false l ++ t) (d + 1) (plain-octal 10 v)
    ∙ follows l (levelled l) d t
levelled (list m l) d t =
    let q : body (list m l) ++ t ≡ 40 ∷ (body m ++ (items false l ++ t))
    = append_assoc (items true m) (items false l) t ∙ ap (λ (u : List ℕ). u ++ (items false l ++ t)) (opens_body m) in
    ap (deepest (d + 1)) q ∙ ap (max (d + 1)) (levelled m (d + 1) (items false l ++ t) ∙ ap (max (d + 1 + order m)) (follows l (levelled l) d t))
    ∙ greatest d (order m) (order l) (deepest d t)

pub deepest-order : (l : Lst) → deepest 0 (text_of l) ≡ order l
deepest-order l =
    let q : deepest 1 (body l) ≡ max (0 + order l) 0 = ap (deepest 1) (sym (append-nil (body l))) ∙ levelled l 0 [] in
    ap (deepest 0) (opens_body l) ∙ omega arith

-- the judgement
stays : (d b : ℕ) → d ≤ levels → too_deep d b ≡ false → depth_after d b ≤ levels
stays d b h =
    by_case (eqb b 40) (λ (t : Bool). t ≡ false → depth_after d b ≤ levels) {x = leb levels d} {y = false}
    (λ e f. rw e (omega (arith, leb-false levels d f)))
    (λ e f. rw e (by_case (eqb b 41) (λ (n : ℕ). n ≤ levels) (λ g. omega arith) (λ g. h)))

abbrev Fits : List ℕ → ℕ → ℕ → Type 0
Fits t u d = (deepest d t ≤ levels) × (length t ≤ u)

pub judged_fits : (t : List ℕ) (u d : ℕ) → d ≤ levels → judged u d t ≡ 0 → Fits t u d
judged_fits [] u d h e = (h, omega arith)
judged_fits (b ∷ t) u d h e =
    by_case (too_deep d b) (λ (n : ℕ). n ≡ 0 → Fits (b ∷ t) u d)
    (λ f z. absurd (omega arith))
    (λ f. by_case (eqb u 0) (λ (n : ℕ). n ≡ 0 → Fits (b ∷ t) u d)
    (λ g z. absurd (omega arith))
    (λ g z. let ih = judged_fits t (u - 1) (depth_after d b) (stays d b h f) z in
    let some : u ≡ 0 → ⊥ = eqb-false u 0 g in
    (omega (arith, ih.0), omega (arith, ih.1))))
    e

shallow : (d b : ℕ) → depth_after d b ≤ levels → too_deep d b ≡ false
shallow d b =
    by_case (eqb b 40) (λ (n : ℕ). n ≤ levels → too_deep d b ≡ false)
    (λ e h. rw e (lt-leb levels d (omega arith)))
    (λ e h. rw e)

pub fits_judged : (t : List ℕ) (u d : ℕ) → deepest d t ≤ levels → length t ≤ u → judged u d t ≡ 0
fits_judged [] u d h k = refl
fits_judged (b ∷ t) u d h k =
    let e = shallow d b (omega (arith, deepest-from (depth_after d b) t)) in
    let f : u ≡ 0 → ⊥ = λ z. omega arith in
    simp (e, ne_eqb u 0 f) (fits_judged t (u - 1) (depth_after d b) (omega arith) (omega arith))

too_long : (t : List ℕ) (u d : ℕ) → deepest d t ≤ levels → u < length t → judged u d t ≡ OUTPUT
too_long [] u d h k = absurd (omega arith)
too_long (b ∷ t) zero d h k = simp (shallow d b (omega (arith, deepest-from (depth_after d b) t)))
too_long (b ∷ t) (suc u) d h k =
    let e = shallow d b (omega (arith, deepest-from (depth_after d b) t)) in
    let z : suc u - 1 ≡ u = omega arith in
    simp (e, ne_eqb (suc u) 0 (λ q. omega arith), z) (too_long t u (depth_after d b) (omega arith) (omega arith))

-- characters that are no parentheses are judged by their number
pub judged-plain : (a t : List ℕ) (u d : ℕ) → Plain a → judged u d (a ++ t) ≡ cond (leb (length a) u) (judged (u - length a) d t) 18
judged-plain [] t u d p =
    let z : u - 0 ≡ u = omega arith in
    rw (le-leb 0 u (omega arith)) (ap (λ (k : ℕ). judged k d t) (sym z))
judged-plain (b ∷ a) t zero d p = simp (ne_eqb _ _ p.0, lt-leb (suc (length a)) 0 (omega arith))
judged-plain (b ∷ a) t (suc u) d p =
    let z : suc u - 1 ≡ u = omega arith in
    let n : suc u - suc (length a) ≡ u - length a = omega arith in
    simp (ne_eqb _ _ p.0, ne_eqb _ _ p.1, ne_eqb (suc u) 0 (λ e. omega arith), z, n, leb-suc-suc) (judged-plain a t u d p.2)

-- writing is refused exactly where the list has over 200 levels or its text does not fit
pub writable : (u : ℕ) (l : Lst) → judged u 0 (text_of l) ≡ 0 → (order l ≤ levels) × (length (text_of l) ≤ u)
writable u l e =
    let f = judged_fits (text_of l) u 0 (omega arith) e in
    (omega (arith, f.0, deepest-order l), f.1)

pub writes : (u : ℕ) (l : Lst) → order l ≤ levels → length (text_of l) ≤ u → judged u 0 (text_of l) ≡ 0
writes u l h k = fits_judged (text_of l) u 0 (omega (arith, deepest-order l)) k

pub overflows : (u : ℕ) (l : Lst) → order l ≤ levels → u < length (text_of l) → judged u 0 (text_of l) ≡ OUTPUT
overflows u l h k = too_long (text_of l) u 0 (omega (arith, deepest-order l)) k

-- the text with its fill ends with its record
written-length : (l : Lst) → length (written l) ≡ length (text_of l) + (record_bytes - length (text_of l) % record_bytes) % record_bytes
written-length l =
    let n = length (text_of l) in
    length-append (text_of l) (fill n) ∙ ap (λ (j : ℕ). n + j) (length-replicate ((record_bytes - n % record_bytes) % record_bytes) 32)

-- what is written fits, and is read again as the list
pub written_read : (room : ℕ) (l : Lst) → Atoms l → judged (usable room) 0 (text_of l) ≡ 0
    → (length (written l) ≤ usable room) × (verdict (written l) ≡ done (length (written l))) × (list_in (written l) ≡ l)
written_read room l a e =
    let w = writable (usable room) l e in
    let fits : length (written l) ≤ usable room = omega (arith, written-length l, w.1) in
    let read = write_read l w.0 a (omega arith) in
    (fits, read.0, read.1)

-- a text is no longer without its blanks and leading zeros
bare-length : (k : Bool) (t : List ℕ) → length (bare k t) ≤ length t
bare-length k [] = omega arith
bare-length k (b ∷ t) =
    let P : List ℕ → Type 0 = λ l. length l ≤ suc (length t) in
    by_case (eqb b 32) P (λ e. omega (arith, bare-length k t))
    (λ e. by_case (is_digit_byte b) P
    (λ f. by_case (idle k b t) P (λ g. omega (arith, bare-length false t)) (λ g. omega (arith, bare-length true t)))
    (λ f. omega (arith, bare-length false t)))

-- what was read can be written where the bytes taken are lent
pub read-written : (s : List ℕ) (m room : ℕ) → verdict s ≡ done m → m ≤ room → judged (usable room) 0 (text_of (list_in s)) ≡ 0
read-written s m room e h =
    let short : length (text_of (list_in s)) ≤ m
    = omega (arith, ap length (accepted s m e).1, bare-length false (take m s), length-take m s) in
    let within = taken-within s m e in
    let fits : m ≤ usable room = omega (arith, (sized s m e).0) in
    writes (usable room) (list_in s) (limits s m e).0 (omega arith)
