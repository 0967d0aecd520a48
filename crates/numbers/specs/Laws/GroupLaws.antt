-- The number at a place where its groups stand, and what stands behind it.
use Rattle.std.specs.Prelude.{ℕ, ◌+◌, ◌<◌, ◌≡◌, List, ◌++◌, length, drop, Some, IsSome}
use Rattle.std.proofs.Common.{rules, sym, ap, ◌∙◌, drop-drop}
use Rattle.std.proofs.Math.Seq.{drop-append_seam}
use Rattle.groups.specs.Groups.{numbers_end, number}
use Rattle.groups.specs.Reading.{tokens}
use Rattle.groups.specs.Laws.Taking.{tokens-number}
use Rattle.numbers.specs.Numbers.{first, ending, number_in}
use Rattle.numbers.specs.declared.Number.{Number}

module _ (s later : List ℕ) (i v : ℕ) (e : drop i s ≡ number v ++ later) where
  pub value_there : v < numbers_end → number_in s i ≡ ending v (i + length (number v))
  value_there h = ap (first i) (ap tokens e ∙ tokens-number v later h)

  pub read_there : {n : Number} → Some n ≡ number_in s i → v < numbers_end → n ≡ record { value = v; end = i + length (number v) }
  read_there q h = let is = q ∙ value_there h in cc

  pub some_there : v < numbers_end → IsSome (number_in s i)
  some_there h = rw (value_there h) (search rules)

  pub behind-number : drop (i + length (number v)) s ≡ later
  behind-number = sym (drop-drop (length (number v)) i s) ∙ ap (drop (length (number v))) e ∙ drop-append_seam (number v) later
