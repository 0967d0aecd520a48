-- Bytes that begin like the groups of a list, up to and with the number that opens level 201, are refused there. By
-- induction on the list, from any lists that are open around it.
use Rattle.std.specs.Prelude.{ℕ, suc, ◌+◌, ◌<◌, ◌≤◌, ◌≡◌, refl, List, [], ◌∷◌, ◌++◌, leb, ltb, take, drop}
use Rattle.std.proofs.Common.{sym, ◌∙◌, inl, inr, append_assoc, arith, take-append-drop}
use Rattle.std.proofs.Math.Path.{ap}
use Rattle.std.proofs.Math.ListN.{length}
use Rattle.std.proofs.lemmas.List.{take-append-le}
use Rattle.std.proofs.Math.Seq.{take-append-add}
use borrow.Author.Tests.{leb-true, leb-false, ltb-true, ltb-false}
use Rattle.answers.specs.Answers.{DEEP}
use Rattle.lists.specs.Lst.{Lst, nil, atom, list, len, order}
use Rattle.text.specs.Limits.{levels}
use Rattle.text.specs.Laws.TextLaws.{decide}
use Rattle.groups.specs.Depth.{Opens, OpensIn}
use Rattle.groups.specs.Groups.{number, atom_number, list_number, elements, groups_of, Fit, Fits}
use Rattle.groups.specs.Reading.{tokens, begin, at, refused, closing, run}
use Rattle.groups.specs.Laws.ElementLaws.{atom-length, list_length}
use Rattle.groups.specs.Laws.RoundTrip.{along, deep}
use Rattle.groups.specs.Laws.Steps.{Seen, atom-step, list_step, deep_step, begin-step}

-- the number that opens a level stands among the elements
pub opens_within : (l : Lst) (d e k v : ℕ) → Opens d l e k v → k + length (number v) ≤ length (elements l)
unfolding Opens
opens_within nil d e k v o = absurd o
opens_within (atom w l) d e k v o = omega (arith, o.1, opens_within l d e o.0 v o.2, atom-length w l)
opens_within (list m l) d e k v (inl o) =
    omega (arith, o.1, ap (λ (x : ℕ). length (number x)) o.2, list_length m l)
opens_within (list m l) d e k v (inr (inl o)) =
    omega (arith, o.1, opens_within m (d + 1) e o.0 v o.2, list_length m l)
opens_within (list m l) d e k v (inr (inr o)) =
    omega (arith, o.1, opens_within l d e o.0 v o.2, list_length m l)

-- the first n bytes of s, and then others
abbrev cut : ℕ → List ℕ → List ℕ → List ℕ
cut n s rest = take n s ++ rest

-- a part that the first bytes go beyond, and one that they do not
beyond : (a s rest : List ℕ) (n j : ℕ) → n ≡ length a + j → cut n (a ++ s) rest ≡ a ++ cut j s rest
beyond a s rest n j e =
    ap (λ (i : ℕ). cut i (a ++ s) rest) e ∙ ap (λ (t : List ℕ). t ++ rest) (take-append-add a s j)
    ∙ append_assoc a (take j s) rest

short_of : (a s rest : List ℕ) (n : ℕ) → n ≤ length a → cut n (a ++ s) rest ≡ cut n a rest
short_of a s rest n h = ap (λ (t : List ℕ). t ++ rest) (take-append-le n a s h)

-- from any lists around it
abbrev Refused : Lst → Type 0
Refused l = (d k v : ℕ) → Opens d l (suc levels) k v → (st : List ℕ) → suc (length st) ≡ d → d ≤ levels → Fit l
    → (n : ℕ) (rest : List ℕ)
    → run (closing (len l ∷ st) n) (tokens (cut (k + length (number v)) (elements l) rest)) ≡ refused DEEP

-- a list's number, and then what follows it
module _ (m l : Lst) (st : List ℕ) (f : Fit (list m l)) (n : ℕ) where
  abbrev from : List ℕ → Type 0
  from s = run (at (suc (len l) ∷ st) n) (tokens s) ≡ refused DEEP

  abbrev j : ℕ
  j = n + length (number (list_number m))

  past-number : (s : List ℕ)
      → (suc (length st) < levels → run (closing (len m ∷ len l ∷ st) j) (tokens s) ≡ refused DEEP)
      → from (number (list_number m) ++ s)
  unfolding Fit
  past-number s h =
      decide (leb levels (suc (length st))) (from (number (list_number m) ++ s))
      (λ g. deep_step (len l) st n s m f.0 (leb-true levels (suc (length st)) g))
      (λ g.
      let room = leb-false levels (suc (length st)) g in
      ap (λ (x : Seen). x.state) (list_step (len l) st n s m f.0 room) ∙ h room)

  past_list : (s : List ℕ) → suc (length st) < levels
      → ((i : ℕ) → run (closing (len l ∷ st) i) (tokens s) ≡ refused DEEP)
      → run (closing (len m ∷ len l ∷ st) j) (tokens (elements m ++ s)) ≡ refused DEEP
  unfolding Fit
  past_list s room h =
      decide (ltb levels (suc (length st) + order m))
      (run (closing (len m ∷ len l ∷ st) j) (tokens (elements m ++ s)) ≡ refused DEEP)
      (λ g. deep m (len l ∷ st) j s f.1 room (ltb-true levels (suc (length st) + order m) g))
      (λ g.
      ap (λ (x : Seen). x.state)
      (along m (len l ∷ st) j s f.1 (ltb-false levels (suc (length st) + order m) g))
      ∙ h (j + length (elements m)))

refused-at : (l : Lst) → Refused l
unfolding Opens len Fit elements
refused-at nil d k v o st e h f n rest = absurd o
refused-at (atom w l) d k v o st e h f n rest =
    let a = number (atom_number w) in
    let q : k + length (number v) ≡ length a + (o.0 + length (number v)) = omega (arith, o.1) in
    ap (λ (s : List ℕ). run (at (suc (len l) ∷ st) n) (tokens s))
    (beyond a (elements l) rest (k + length (number v)) (o.0 + length (number v)) q)
    ∙ ap (λ (x : Seen). x.state)
    (atom-step (len l) st n (cut (o.0 + length (number v)) (elements l) rest) w f.0)
    ∙ refused-at l d o.0 v o.2 st e h f.1 (n + length a) rest
refused-at (list m l) d k v (inl o) st e h f n rest =
    let a = number (list_number m) in
    let q : k + length (number v) ≡ length a + 0 = omega (arith, o.1, ap (λ (x : ℕ). length (number x)) o.2) in
    let s = elements m ++ elements l in
    ap (λ (t : List ℕ). run (at (suc (len l) ∷ st) n) (tokens t)) (beyond a s rest (k + length (number v)) 0 q)
    ∙ past-number m l st f n (cut 0 s rest) (λ room. absurd (omega (arith, o.0)))
refused-at (list m l) d k v (inr (inl o)) st e h f n rest =
    let a = number (list_number m) in
    let i = o.0 + length (number v) in
    let q : k + length (number v) ≡ length a + i = omega (arith, o.1) in
    let s = elements m ++ elements l in
    let deeper : suc (suc (length st)) ≡ d + 1 = omega arith in
    ap (λ (t : List ℕ). run (at (suc (len l) ∷ st) n) (tokens t)) (beyond a s rest (k + length (number v)) i q)
    ∙ past-number m l st f n (cut i s rest)
    (λ room.
    ap (λ (t : List ℕ). run (closing (len m ∷ len l ∷ st) (n + length a)) (tokens t))
    (short_of (elements m) (elements l) rest i (opens_within m (d + 1) (suc levels) o.0 v o.2))
    ∙ refused-at m (d + 1) o.0 v o.2 (len l ∷ st) deeper (omega arith) f.1 (n + length a) rest)
refused-at (list m l) d k v (inr (inr o)) st e h f n rest =
    let a = number (list_number m) in
    let i = o.0 + length (number v) in
    let q : k + length (number v) ≡ length a + (length (elements m) + i) = omega (arith, o.1) in
    let s = elements m ++ elements l in
    ap (λ (t : List ℕ). run (at (suc (len l) ∷ st) n) (tokens t))
    (beyond a s rest (k + length (number v)) (length (elements m) + i) q)
    ∙ past-number m l st f n (cut (length (elements m) + i) s rest)
    (λ room.
    ap (λ (t : List ℕ). run (closing (len m ∷ len l ∷ st) (n + length a)) (tokens t))
    (beyond (elements m) (elements l) rest (length (elements m) + i) i refl)
    ∙ past_list m l st f n (cut i (elements l) rest) room
    (λ g. refused-at l d o.0 v o.2 st e h f.2 g rest))

-- the whole list
pub deep_ahead : (s : List ℕ) (l : Lst) (k v : ℕ) → Fits l → OpensIn l (suc levels) k v
    → take (k + length (number v)) s ≡ take (k + length (number v)) (groups_of l) → run begin (tokens s) ≡ refused DEEP
deep_ahead s l k v f o e =
    let a = number (list_number l) in
    let n = k + length (number v) in
    let i = o.0 + length (number v) in
    let rest = drop n s in
    let q : n ≡ length a + i = omega (arith, o.1) in
    let parts : s ≡ a ++ cut i (elements l) rest
    = sym (take-append-drop n s) ∙ ap (λ (t : List ℕ). t ++ rest) e ∙ beyond a (elements l) rest n i q in
    ap (λ (t : List ℕ). run begin (tokens t)) parts
    ∙ ap (λ (x : Seen). x.state) (begin-step l (cut i (elements l) rest) f.0)
    ∙ refused-at l 1 o.0 v o.2 [] refl (omega arith) f.1 (length a) rest
