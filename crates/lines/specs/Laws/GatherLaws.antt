-- Bytes of a chunk one after another, as the code takes them.
use Rattle.std.specs.Prelude.{◌≡◌, refl, List, ℕ, ◌+◌, ◌-◌, ◌<◌, length, get_or, take, drop}
use Rattle.std.proofs.Common.{sym, ap, ◌∙◌, arith, eq-eqb, length-drop, take_all}
use Rattle.lines.specs.Printed.{line_feed}
use Rattle.lines.specs.Splitting.{Part, Gathering, going, eat, eaten}
use Rattle.lines.specs.Laws.SplittingLaws.{eaten-next}
use Rattle.lines.specs.Meaning.{Ends}

-- i bytes of a chunk have been taken in, and the next ends the line or does not
module _ (chunk : List ℕ) (old p : Part) (i : ℕ) (h : going p ≡ eaten (going old) (take i chunk)) (l : i < length chunk) where
  pub gathers_more : (new : Part) → going new ≡ eat (going p) (get_or chunk i 0) → going new ≡ eaten (going old) (take (i + 1) chunk)
  gathers_more new e = e ∙ ap (λ (g : Gathering). eat g (get_or chunk i 0)) h ∙ sym (eaten-next chunk i (going old) l)

  pub gathers_line : get_or chunk i 0 ≡ line_feed → Ends chunk old (take (length chunk - (i + 1)) (drop (i + 1) chunk)) p
  gathers_line e =
      let r : take (length chunk - (i + 1)) (drop (i + 1) chunk) ≡ drop (i + 1) chunk =
      take_all (length chunk - (i + 1)) (drop (i + 1) chunk) (omega (arith, length-drop (i + 1) chunk)) in
      let k : length chunk - length (drop (i + 1) chunk) ≡ i + 1 = omega (arith, length-drop (i + 1) chunk) in
      rw r record {
        is = rw k (sym (eaten-next chunk i (going old) l ∙ ap (λ (g : Gathering). eat g (get_or chunk i 0)) (sym h) ∙ rw (eq-eqb (get_or chunk i 0) line_feed e) refl));
        behind = rw k refl;
        some = omega (arith, length-drop (i + 1) chunk);
      }
