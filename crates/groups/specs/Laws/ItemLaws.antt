-- The numbers of a list: their bytes are its groups, and none is too deep exactly where its order is at most 200. By
-- induction on the list.
use Rattle.std.specs.Prelude.{ℕ, ◌+◌, ◌%◌, ◌<◌, ◌≤◌, ◌≡◌, refl, List, [], ◌∷◌, ◌++◌, Bool, false, ◌&&◌, leb}
use Rattle.std.proofs.Common.{sym, ap, ap₂, ◌∙◌, append_assoc, arith, eq-eqb, ne_eqb, leb-false}
use Rattle.std.proofs.lemmas.Bool.{lt-leb}
use Rattle.lists.specs.Lst.{Lst, nil, atom, list, order}
use Rattle.text.specs.Limits.{levels}
use Rattle.text.specs.Laws.RoundTrip.{order_pos}
use Rattle.groups.specs.Groups.{number, atom_number, list_number, elements, groups_of}
use Rattle.groups.specs.Writing.{Item, item, items_at, items, too_deep}
use Rattle.groups.specs.Laws.Judging.{bytes_in, Shallow}

bytes-append : (a b : List Item) → bytes_in (a ++ b) ≡ bytes_in a ++ bytes_in b
bytes-append [] b = refl
bytes-append (i ∷ a) b =
    ap (λ (t : List ℕ). number i.value ++ t) (bytes-append a b)
    ∙ sym (append_assoc (number i.value) (bytes_in a) (bytes_in b))

pub bytes-at : (l : Lst) (d : ℕ) → bytes_in (items_at d l) ≡ elements l
unfolding items_at elements
bytes-at nil d = refl
bytes-at (atom v l) d = ap (λ (t : List ℕ). number (atom_number v) ++ t) (bytes-at l d)
bytes-at (list e l) d =
    ap (λ (t : List ℕ). number (list_number e) ++ t)
    (bytes-append (items_at (d + 1) e) (items_at d l) ∙ ap₂ ◌++◌ (bytes-at e (d + 1)) (bytes-at l d))

pub bytes_of : (l : Lst) → bytes_in (items l) ≡ groups_of l
bytes_of l = ap (λ (t : List ℕ). number (list_number l) ++ t) (bytes-at l 1)

-- an atom opens no level, a list the next one
pub atom_not_deep : (v d : ℕ) → too_deep (item (atom_number v) d) ≡ false
atom_not_deep v d = ap (λ (b : Bool). b && leb levels d) (ne_eqb (atom_number v % 2) 1 (λ e. omega arith))

pub list_deep : (l : Lst) (d : ℕ) → too_deep (item (list_number l) d) ≡ leb levels d
list_deep l d = ap (λ (b : Bool). b && leb levels d) (eq-eqb (list_number l % 2) 1 (omega arith))

shallow_append : (a b : List Item) → Shallow a → Shallow b → Shallow (a ++ b)
shallow_append [] b h k = k
shallow_append (i ∷ a) b h k = (h.0, shallow_append a b h.1 k)

shallow_parts : (a b : List Item) → Shallow (a ++ b) → Shallow a × Shallow b
shallow_parts [] b h = (tt, h)
shallow_parts (i ∷ a) b h = let p = shallow_parts a b h.1 in ((h.0, p.0), p.1)

pub order_shallow : (l : Lst) (d : ℕ) → d + order l ≤ levels + 1 → Shallow (items_at d l)
unfolding items_at order
order_shallow nil d h = tt
order_shallow (atom v l) d h = (atom_not_deep v d, order_shallow l d h)
order_shallow (list e l) d h = (
  list_deep e d ∙ lt-leb levels d (omega (arith, order_pos e)),
  shallow_append (items_at (d + 1) e) (items_at d l) (order_shallow e (d + 1) (omega arith))
      (order_shallow l d (omega arith)),
)

pub shallow_order : (l : Lst) (d : ℕ) → d ≤ levels → Shallow (items_at d l) → d + order l ≤ levels + 1
unfolding items_at order
shallow_order nil d h s = omega arith
shallow_order (atom v l) d h s = shallow_order l d h s.1
shallow_order (list e l) d h s =
    let p = shallow_parts (items_at (d + 1) e) (items_at d l) s.1 in
    let below : d < levels = leb-false levels d (sym (list_deep e d) ∙ s.0) in
    omega (arith, shallow_order e (d + 1) (omega arith) p.0, shallow_order l d h p.1)
