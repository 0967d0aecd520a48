-- Where a list opens levels, against its numbers: a number that is too deep opens level 201 or a deeper one, and before
-- or at a number that opens a deeper level one opens level 201. By induction on the list.
use Rattle.std.specs.Prelude.{ℕ, suc, ◌+◌, ◌<◌, ◌≤◌, ◌≡◌, refl, ◌⊎◌, List, [], ◌∷◌, ◌++◌, leb, length}
use Rattle.std.proofs.Common.{sym, ap, subst, ◌∙◌, inl, inr, arith, length-append, le-leb, leb-true, leb-false}
use Rattle.lists.specs.Lst.{Lst, nil, atom, list}
use Rattle.text.specs.Limits.{levels}
use Rattle.text.specs.Laws.TextLaws.{decide}
use Rattle.groups.specs.Depth.{Opens, OpensIn}
use Rattle.groups.specs.Groups.{number, atom_number, list_number, elements}
use Rattle.groups.specs.Writing.{Item, items_at, items}
use Rattle.groups.specs.Laws.Judging.{bytes_in, DeepAt, never}
use Rattle.groups.specs.Laws.ItemLaws.{bytes-at, atom_not_deep, list_deep}

-- among the numbers of two parts
deep_front : (a b : List Item) (k v : ℕ) → DeepAt a k v → DeepAt (a ++ b) k v
deep_front [] b k v h = absurd h
deep_front (i ∷ a) b k v (inl h) = inl h
deep_front (i ∷ a) b k v (inr h) = inr (h.0, h.1, deep_front a b h.0 v h.2)

deep_back : (a b : List Item) (k v : ℕ) → DeepAt b k v → DeepAt (a ++ b) (length (bytes_in a) + k) v
deep_back [] b k v h = let z : k ≡ 0 + k = omega arith in subst (λ (n : ℕ). DeepAt b n v) z h
deep_back (i ∷ a) b k v h =
    inr (length (bytes_in a) + k, omega (arith, length-append (number i.value) (bytes_in a)), deep_back a b k v h)

deep_parts : (a b : List Item) (k v : ℕ) → DeepAt (a ++ b) k v
    → DeepAt a k v ⊎ ((j : ℕ) × (k ≡ length (bytes_in a) + j) × DeepAt b j v)
deep_parts [] b k v h = inr (k, omega arith, h)
deep_parts (i ∷ a) b k v (inl h) = inl (inl h)
deep_parts (i ∷ a) b k v (inr h) = go (deep_parts a b h.0 v h.2)
  where
    go : DeepAt a h.0 v ⊎ ((j : ℕ) × (h.0 ≡ length (bytes_in a) + j) × DeepAt b j v)
        → DeepAt (i ∷ a) k v ⊎ ((j : ℕ) × (k ≡ length (bytes_in (i ∷ a)) + j) × DeepAt b j v)
    go (inl x) = inl (inr (h.0, h.1, x))
    go (inr x) =
        inr (x.0, omega (arith, h.1, x.1, length-append (number i.value) (bytes_in a)), x.2)

-- a number that opens level 201 or a deeper one is too deep
opens_deep : (l : Lst) (d e k v : ℕ) → Opens d l e k v → levels < e → DeepAt (items_at d l) k v
unfolding Opens items_at
opens_deep nil d e k v o h = absurd o
opens_deep (atom w l) d e k v o h = inr (o.0, o.1, opens_deep l d e o.0 v o.2 h)
opens_deep (list m l) d e k v (inl o) h =
    inl (list_deep m d ∙ le-leb levels d (omega (arith, o.0)), o.1, o.2)
opens_deep (list m l) d e k v (inr (inl o)) h =
    inr (o.0, o.1, deep_front (items_at (d + 1) m) (items_at d l) o.0 v (opens_deep m (d + 1) e o.0 v o.2 h))
opens_deep (list m l) d e k v (inr (inr o)) h =
    inr (
      length (bytes_in (items_at (d + 1) m)) + o.0,
      omega (arith, o.1, ap length (bytes-at m (d + 1))),
      deep_back (items_at (d + 1) m) (items_at d l) o.0 v (opens_deep l d e o.0 v o.2 h),
    )

abbrev OpensDeep : ℕ → Lst → ℕ → ℕ → Type 0
OpensDeep d l k v = (e : ℕ) × (levels < e) × Opens d l e k v

deep_opens : (l : Lst) (d k v : ℕ) → DeepAt (items_at d l) k v → OpensDeep d l k v
unfolding Opens items_at
deep_opens nil d k v h = absurd h
deep_opens (atom w l) d k v (inl h) = never h.0 (atom_not_deep w d)
deep_opens (atom w l) d k v (inr h) =
    let o = deep_opens l d h.0 v h.2 in (o.0, o.1, (h.0, h.1, o.2))
deep_opens (list m l) d k v (inl h) =
    let deep : levels ≤ d = leb-true levels d (sym (list_deep m d) ∙ h.0) in
    (d + 1, omega arith, inl (refl, h.1, h.2))
deep_opens (list m l) d k v (inr h) =
    go (deep_opens m (d + 1)) (deep_opens l d) (deep_parts (items_at (d + 1) m) (items_at d l) h.0 v h.2)
  where
    go : ((j w : ℕ) → DeepAt (items_at (d + 1) m) j w → OpensDeep (d + 1) m j w)
        → ((j w : ℕ) → DeepAt (items_at d l) j w → OpensDeep d l j w)
        → DeepAt (items_at (d + 1) m) h.0 v
        ⊎ ((j : ℕ) × (h.0 ≡ length (bytes_in (items_at (d + 1) m)) + j) × DeepAt (items_at d l) j v)
        → OpensDeep d (list m l) k v
    go f g (inl x) = let o = f h.0 v x in (o.0, o.1, inr (inl (h.0, h.1, o.2)))
    go f g (inr x) =
        let o = g x.0 v x.2 in
        (o.0, o.1, inr (inr (x.0, omega (arith, h.1, x.1, ap length (bytes-at m (d + 1))), o.2)))

-- level 201 opens before a deeper one
abbrev OpensFirst : ℕ → Lst → ℕ → Type 0
OpensFirst d l k = (j : ℕ) × (w : ℕ) × Opens d l (suc levels) j w × (j ≤ k)

opens_first : (l : Lst) (d e k v : ℕ) → Opens d l e k v → d ≤ levels → levels < e → OpensFirst d l k
unfolding Opens
opens_first nil d e k v o h g = absurd o
opens_first (atom w l) d e k v o h g =
    let f = opens_first l d e o.0 v o.2 h g in
    (length (number (atom_number w)) + f.0, f.1, (f.0, refl, f.2), omega (arith, o.1, f.3))
opens_first (list m l) d e k v (inl o) h g =
    (0, list_number m, inl (omega (arith, o.0), refl, refl), omega arith)
opens_first (list m l) d e k v (inr (inl o)) h g =
    decide (leb levels d) (OpensFirst d (list m l) k)
    (λ t.
    let deep : levels ≤ d = leb-true levels d t in
    (0, list_number m, inl (omega arith, refl, refl), omega arith))
    (λ t.
    let f = opens_first m (d + 1) e o.0 v o.2 (omega (arith, leb-false levels d t)) g in
    (length (number (list_number m)) + f.0, f.1, inr (inl (f.0, refl, f.2)), omega (arith, o.1, f.3)))
opens_first (list m l) d e k v (inr (inr o)) h g =
    let f = opens_first l d e o.0 v o.2 h g in (
      length (number (list_number m)) + length (elements m) + f.0,
      f.1,
      inr (inr (f.0, refl, f.2)),
      omega (arith, o.1, f.3),
    )

-- a whole list: too deep where it opens level 201
pub opens_items : (l : Lst) (k v : ℕ) → OpensIn l (suc levels) k v → DeepAt (items l) k v
opens_items l k v o = inr (o.0, o.1, opens_deep l 1 (suc levels) o.0 v o.2 (omega arith))

pub items_open : (l : Lst) (k v : ℕ) → DeepAt (items l) k v
    → (j : ℕ) × (w : ℕ) × OpensIn l (suc levels) j w × (j ≤ k)
items_open l k v (inl h) = absurd (omega (arith, leb-true levels 0 (sym (list_deep l 0) ∙ h.0)))
items_open l k v (inr h) =
    let o = deep_opens l 1 h.0 v h.2 in
    let f = opens_first l 1 o.0 h.0 v o.2 (omega arith) o.1 in
    (length (number (list_number l)) + f.0, f.1, (f.0, refl, f.2), omega (arith, h.1, f.3))
