-- Laws of bytes laid over others, one after another.
use Rattle.std.specs.Prelude.{ℕ, ◌+◌, ◌≡◌, refl, Bool, true, false, List, [], ◌++◌, length, take, drop}
use Rattle.std.proofs.Common.{sym, ap, ◌∙◌, append_assoc, arith, length-append, take-append-drop, drop-drop}
use Rattle.std.proofs.Math.Seq.{take-append_seam, drop-append-add}
use Rattle.calls.specs.Entry.{over}
use Rattle.togroups.specs.Laid.{laid, laid_back}

-- nothing
pub laid_none : (old : List ℕ) (at : ℕ) → old ≡ laid old at []
laid_none old at =
    let z : at + 0 ≡ at = omega arith in
    sym (take-append-drop at old) ∙ ap (λ (i : ℕ). take at old ++ drop i old) (sym z)

-- behind others that begin the words
pub laid-over : (xs old bs : List ℕ) (n : ℕ) → n ≡ length xs → laid (over xs old) n bs ≡ over (xs ++ bs) old
laid-over xs old bs n e =
    let rest = drop (length xs) old in
    let k : length (xs ++ bs) ≡ length xs + length bs = length-append xs bs in
    ap (λ (i : ℕ). laid (over xs old) i bs) e
    ∙ ap (λ (t : List ℕ). t ++ (bs ++ drop (length xs + length bs) (xs ++ rest))) (take-append_seam xs rest)
    ∙ ap (λ (t : List ℕ). xs ++ (bs ++ t)) (drop-append-add xs rest (length bs) ∙ drop-drop (length bs) (length xs) old ∙ ap (λ (i : ℕ). drop i old) (sym k))
    ∙ sym (append_assoc xs bs (drop (length (xs ++ bs)) old))

-- nothing laid, put or counted
pub laid_back_none : (puts : Bool) (old : List ℕ) (at : ℕ) → old ≡ laid_back puts old at []
laid_back_none true old at = laid_none old at
laid_back_none false old at = refl
