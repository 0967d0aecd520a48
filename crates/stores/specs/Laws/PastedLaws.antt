-- One byte stored is pasted, and what is pasted right behind what was pasted makes one paste.
use Rattle.std.specs.Prelude.{ℕ, suc, ◌+◌, ◌<◌, ◌≤◌, ◌≡◌, List, [], ◌∷◌, ◌++◌, length, take, drop, set}
use Rattle.std.proofs.Common.{sym, ap, ◌∙◌, append_assoc, add-one, le_refl, arith, length-append, drop-drop}
use Rattle.std.proofs.lemmas.List.Edits.{length-paste, take-paste, drop-paste}
use Rattle.std.proofs.Math.Seq.{take-length, append_snoc}
use Rattle.std.proofs.lemmas.List.{set_split}
use Rattle.stores.specs.Pasted.{pasted}

pub pasted_length : (old : List ℕ) (at : ℕ) (bs : List ℕ) → at + length bs ≤ length old → length (pasted old at bs) ≡ length old
pasted_length old at bs l = length-paste old at bs (length bs) l (le_refl (length bs))

-- up to the end of the bytes, and from any place behind it
pub pasted_front : (old : List ℕ) (at : ℕ) (bs : List ℕ) → at ≤ length old → take (at + length bs) (pasted old at bs) ≡ take at old ++ bs
pasted_front old at bs l = take-paste old at bs (length bs) l (le_refl (length bs)) ∙ ap (λ (t : List ℕ). take at old ++ t) (take-length bs)

pub pasted-behind : (old : List ℕ) (at : ℕ) (bs : List ℕ) (k : ℕ) → at ≤ length old
    → drop (at + length bs + k) (pasted old at bs) ≡ drop (at + length bs + k) old
pasted-behind old at bs k l =
    let end : ℕ = at + length bs in
    sym (drop-drop k end (pasted old at bs)) ∙ ap (drop k) (drop-paste old at bs (length bs) l (le_refl (length bs))) ∙ drop-drop k end old

pub pasted-one : (old : List ℕ) (at b : ℕ) → at < length old → set old at b ≡ pasted old at (b ∷ [])
pasted-one old at b l =
    set_split old at b l ∙ sym (append_snoc (take at old) b (drop (suc at) old))
    ∙ ap (λ (k : ℕ). (take at old ++ (b ∷ [])) ++ drop k old) (sym (add-one at))

pub pasted_then : (old : List ℕ) (at : ℕ) (cs bs : List ℕ) → at ≤ length old
    → pasted (pasted old at cs) (at + length cs) bs ≡ pasted old at (cs ++ bs)
pasted_then old at cs bs l =
    let rest = drop (at + length cs + length bs) old in
    let size : at + length cs + length bs ≡ at + length (cs ++ bs) = omega (arith, length-append cs bs) in
    ap (λ (t : List ℕ). (t ++ take (length bs) bs) ++ drop (at + length cs + length bs) (pasted old at cs)) (pasted_front old at cs l)
    ∙ ap (λ (t : List ℕ). ((take at old ++ cs) ++ take (length bs) bs) ++ t) (pasted-behind old at cs (length bs) l)
    ∙ ap (λ (t : List ℕ). ((take at old ++ cs) ++ t) ++ rest) (take-length bs)
    ∙ ap (λ (t : List ℕ). t ++ rest) (append_assoc (take at old) cs bs)
    ∙ ap (λ (t : List ℕ). (take at old ++ t) ++ rest) (sym (take-length (cs ++ bs)))
    ∙ ap (λ (k : ℕ). (take at old ++ take (length (cs ++ bs)) (cs ++ bs)) ++ drop k old) size
