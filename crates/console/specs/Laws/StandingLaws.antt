-- What gathering and answering leave, joined to steps, and steps joined along a chunk.
use Rattle.std.specs.Prelude.{◌≡◌, List, [], ◌∷◌, ◌++◌, ℕ, ◌-◌, length, take}
use Rattle.std.proofs.Math.Path.{refl, sym}
use Rattle.std.proofs.Common.{ap, ◌∙◌, append-nil, append_assoc}
use Rattle.std.proofs.lemmas.List.{take-append-drop}
use Rattle.lines.specs.Splitting.{Line, Part, empty, going, ready, eaten}
use Rattle.lines.specs.Meaning.{Ends}
use Rattle.answering.specs.Session.{answered, prints}
use Rattle.answering.specs.Kept.{Speaks}
use Rattle.console.specs.Serving.{Mid, leaves}
use Rattle.console.specs.Standing.{mid, Passed, Stepped, Served}
use Rattle.console.specs.Laws.ServingLaws.{takes_none, takes_then}

-- no line is whole yet, or one is and is answered
pub passes_on : (old new : Part) (chunk ts : List ℕ) → going new ≡ eaten (going old) chunk → Passed (mid old ts) chunk (mid new ts)
unfolding prints leaves
passes_on old new chunk ts h = record { lines = []; split = sym h; words = refl; printed = refl }

pub steps_line : (old p : Part) (chunk rest ts us out : List ℕ) (count : ℕ) (l : Line) → Ends chunk old rest p → l ≡ ready p.kept p.over
    → Speaks (answered ts l) us count out → Stepped (mid old ts) chunk rest count (mid empty us) out
unfolding prints leaves
steps_line old p chunk rest ts us out count l h e k = record {
  takes = record {
    lines = l ∷ [];
    split = rw e (sym h.is);
    words = k.words;
    printed = k.printed.bytes ∙ sym (append-nil (answered ts l).printed);
  };
  behind = h.behind;
  on = h.some;
  fits = k.printed.fits;
}

-- what the loop over a chunk knows
pub record Along (chunk : List ℕ) (m : Mid) (rest : List ℕ) (n : Mid) : Type 0 where
  pub taken : List ℕ
  pub is : chunk ≡ taken ++ rest
  pub served : Served m taken n

pub along-start : (m : Mid) (chunk : List ℕ) → Along chunk m chunk m
along-start m chunk = record { taken = []; is = refl; served = record { out = []; takes = takes_none m } }

pub along-step : (chunk rest behind out : List ℕ) (m n k : Mid) (wrote : ℕ) → Along chunk m rest n → Stepped n rest behind wrote k out → Along chunk m behind k
along-step chunk rest behind out m n k wrote a s =
    let j : ℕ = length rest - length behind in
    record {
      taken = a.taken ++ take j rest;
      is = a.is ∙ ap (λ (u : List ℕ). a.taken ++ u) (sym (take-append-drop j rest) ∙ ap (λ (u : List ℕ). take j rest ++ u) (sym s.behind)) ∙ sym (append_assoc a.taken (take j rest) behind);
      served = record { out = a.served.out ++ take wrote out; takes = takes_then m n k _ _ _ _ a.served.takes s.takes };
    }

pub along-end : (chunk rest : List ℕ) (m n k : Mid) → Along chunk m rest n → Passed n rest k → Served m chunk k
along-end chunk rest m n k a p = rw a.is (record { out = a.served.out ++ []; takes = takes_then m n k _ _ _ _ a.served.takes p })
