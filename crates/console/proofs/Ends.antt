-- What the end of input prints: nothing, or the answer of a last line.
use Rattle.std.specs.Prelude.{◌≡◌, ◌≢◌, Bool, List, [], ◌∷◌, ℕ, length}
use Rattle.std.proofs.Common.{refl, sym, ap, ◌∙◌, append-nil, arith}
use Rattle.lines.specs.Splitting.{Line, Part, ready, last}
use Rattle.answering.specs.Session.{answered, prints}
use Rattle.answering.specs.Kept.{Prints, Speaks}
use Rattle.console.specs.Serving.{closing}
use Rattle.console.specs.Standing.{mid}

last_none : (ks : List ℕ) (o : Bool) → length ks ≡ 0 → last ks o ≡ []
last_none [] o e = refl
last_none (c ∷ ks) o e = absurd (omega (arith, e))

last_some : (ks : List ℕ) (o : Bool) → length ks ≢ 0 → last ks o ≡ ready ks o ∷ []
last_some [] o n = absurd (n refl)
last_some (c ∷ ks) o n = refl

-- with nothing left, or with a last line
pub closes_none : (p : Part) (ts out : List ℕ) → length p.kept ≡ 0 → Prints (closing (mid p ts)) 0 out
unfolding prints
closes_none p ts out e = rw (last_none p.kept p.over e) record { bytes = refl; fits = omega arith }

pub closes_line : (p : Part) (ts us out : List ℕ) (count : ℕ) (l : Line) → length p.kept ≢ 0 → l ≡ ready p.kept p.over
    → Speaks (answered ts l) us count out
    → Prints (closing (mid p ts)) count out
unfolding prints
closes_line p ts us out count l n e k = record {
  bytes = k.printed.bytes ∙ sym (append-nil (answered ts l).printed) ∙ ap (prints ts) (ap (λ (x : Line). x ∷ []) e ∙ sym (last_some p.kept p.over n));
  fits = k.printed.fits;
}
