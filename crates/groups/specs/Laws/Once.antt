-- Groups are those of one list: where the groups of two begin the same bytes, the lists are the same. By induction on
-- both.
use Rattle.std.specs.Prelude.{ℕ, ◌<◌, ◌≡◌, refl, List, ◌∷◌, ◌++◌, length, drop}
use Rattle.std.proofs.Common.{sym, ap, ap₂, ◌∙◌, append_assoc, arith}
use Rattle.std.proofs.Math.Seq.{drop-append_seam}
use Rattle.lists.specs.Lst.{Lst, nil, atom, list, len}
use Rattle.groups.specs.Groups.{numbers_end, number, atom_number, list_number, elements, groups_of, Fit, Fits}
use Rattle.groups.specs.Reading.{num, tokens}
use Rattle.groups.specs.Laws.ElementLaws.{nil_parts, atom_parts, list_parts}
use Rattle.groups.specs.Laws.NumberLaws.{tokens-number}

-- one number
pub number_once : (v w : ℕ) (a b : List ℕ) → number v ++ a ≡ number w ++ b → v < numbers_end → w < numbers_end
    → (v ≡ w) × (a ≡ b)
number_once v w a b e h k =
    let q : num v (length (number v)) ∷ tokens a ≡ num w (length (number w)) ∷ tokens b
    = sym (tokens-number v a h) ∙ ap tokens e ∙ tokens-number w b k in
    let same : v ≡ w = cc in (
      same,
      sym (drop-append_seam (number v) a) ∙ ap₂ drop (ap (λ (x : ℕ). length (number x)) same) e
          ∙ drop-append_seam (number w) b,
    )

pub elements_once : (l k : Lst) (a b : List ℕ) → elements l ++ a ≡ elements k ++ b → len l ≡ len k → Fit l → Fit k
    → (l ≡ k) × (a ≡ b)
unfolding len Fit
elements_once nil nil a b e n f g = (refl, sym (nil_parts a) ∙ e ∙ nil_parts b)
elements_once nil (atom w k) a b e n f g = absurd (omega arith)
elements_once nil (list m k) a b e n f g = absurd (omega arith)
elements_once (atom v l) nil a b e n f g = absurd (omega arith)
elements_once (atom v l) (atom w k) a b e n f g =
    let t = sym (atom_parts v l a) ∙ e ∙ atom_parts w k b in
    let (p, r) = number_once (atom_number v) (atom_number w) (elements l ++ a) (elements k ++ b) t f.0 g.0 in
    let same : v ≡ w = omega arith in
    let s = elements_once l k a b r (omega arith) f.1 g.1 in
    (ap₂ atom same s.0, s.1)
elements_once (atom v l) (list m k) a b e n f g =
    let t = sym (atom_parts v l a) ∙ e ∙ list_parts m k b in
    let r = number_once (atom_number v) (list_number m) (elements l ++ a) (elements m ++ (elements k ++ b)) t
    f.0 g.0 in
    absurd (omega (arith, r.0))
elements_once (list m l) nil a b e n f g = absurd (omega arith)
elements_once (list m l) (atom w k) a b e n f g =
    let t = sym (list_parts m l a) ∙ e ∙ atom_parts w k b in
    let r = number_once (list_number m) (atom_number w) (elements m ++ (elements l ++ a)) (elements k ++ b) t
    f.0 g.0 in
    absurd (omega (arith, r.0))
elements_once (list m l) (list o k) a b e n f g =
    let t = sym (list_parts m l a) ∙ e ∙ list_parts o k b in
    let r
    = number_once (list_number m) (list_number o) (elements m ++ (elements l ++ a)) (elements o ++ (elements k ++ b)) t
    f.0 g.0 in
    let inner = elements_once m o (elements l ++ a) (elements k ++ b) r.1 (omega (arith, r.0)) f.1 g.1 in
    let outer = elements_once l k a b inner.1 (omega arith) f.2 g.2 in
    (ap₂ list inner.0 outer.0, outer.1)

pub groups_once : (l k : Lst) (a b : List ℕ) → groups_of l ++ a ≡ groups_of k ++ b → Fits l → Fits k
    → (l ≡ k) × (a ≡ b)
groups_once l k a b e f g =
    let t = sym (append_assoc (number (list_number l)) (elements l) a) ∙ e
    ∙ append_assoc (number (list_number k)) (elements k) b in
    let r = number_once (list_number l) (list_number k) (elements l ++ a) (elements k ++ b) t f.0 g.0 in
    elements_once l k a b r.1 (omega (arith, r.0)) f.1 g.1
