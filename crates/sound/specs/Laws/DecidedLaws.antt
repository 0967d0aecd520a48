-- From the parts of the code to its answer, which is the test for any number of turns, and so soundness.
use Rattle.std.specs.Prelude.{◌≡◌, refl, ◌↔◌, Bool, true, false, ◌&&◌, List, ◌++◌, ℕ, ◌+◌, ◌*◌, ◌≤◌, eqb, length, drop, replicate}
use Rattle.std.proofs.Common.{ap, sym, ◌∙◌, subst, arith}
use Rattle.pool.specs.Pool.{Cell, Pool, frees}
use Rattle.pool.specs.Check.{chained, peeled?, check}
use Rattle.pool.specs.Laws.Room.{frees-lives}
use Rattle.pool.specs.Laws.CheckLaws.{tested, tested_sound, sound_tested, check_decides}
use Rattle.table.specs.declared.Shape.{Shape}
use Rattle.table.specs.View.{view}
use Rattle.table.specs.Sizes.{cleared}
use Rattle.sound.specs.declared.Peel.{Peel}
use Rattle.sound.specs.Decided.{Decided, Examined}
use Rattle.sound.specs.Mirror.{Within, Copied, Peeled}
use Rattle.sound.specs.Laws.MirrorLaws.{within_then}

same_bool : {A : Type 0} (a b : Bool) → (a ≡ true) ↔ A → (b ≡ true) ↔ A → a ≡ b
same_bool true true f g = refl
same_bool true false f g = sym (g.1 (f.0 refl))
same_bool false true f g = f.1 (g.0 refl)
same_bool false false f g = refl

pub frees_few : (cs : List Cell) → frees cs ≤ length cs
frees_few cs = omega (arith, frees-lives cs)

module _ (s : Shape) (ts ws us vs zs : List ℕ) (free : ℕ) (e : Peel) (a r : Bool) (len : length (view s ts).cells ≡ s.cells)
    (c : Copied s.cells (view s ts).cells ws us free) (k : Peeled s.cells (view s ts) us vs e) where
  is_tested : a ≡ chained free (view s ts).cells (view s ts).free → r ≡ (a && (eqb e.ok 1 && eqb (e.gone + free) s.cells)) → r ≡ tested e.gone (view s ts)
  unfolding peeled?
  is_tested ae re = rw (len, ← c.number, ← k.shown.shows.ok, ← k.shown.shows.gone) (rw (re, ae))

  decided : a ≡ chained free (view s ts).cells (view s ts).free → r ≡ (a && (eqb e.ok 1 && eqb (e.gone + free) s.cells))
      → zs ≡ cleared (2 * s.cells) vs → Decided s ts ws zs r
  decided ae re ze =
      let p : Pool = view s ts in
      let n : ℕ = s.cells in
      let v : r ≡ tested e.gone p = is_tested ae re in
      let there = tested_sound e.gone p k.ended in
      let back = sound_tested e.gone p k.ended in
      let answer : r ≡ check p = v ∙ same_bool (tested e.gone p) (check p) (there, back) (check_decides p) in
      let w : Within n ws vs = within_then c.within k.shown.within in
      let q : n + n ≡ 2 * n = omega arith in
      record {
        answer = answer;
        sound = ((λ h. (check_decides p).0 (sym answer ∙ h)), λ h. answer ∙ (check_decides p).1 h);
        work = ze ∙ ap (λ u. replicate (2 * n) 0 ++ u) (subst (λ u. drop u vs ≡ drop u ws) q w.rest);
      }

  pub examined : a ≡ chained free (view s ts).cells (view s ts).free → r ≡ (a && (eqb e.ok 1 && eqb (e.gone + free) s.cells))
      → zs ≡ cleared (2 * s.cells) vs → Examined s ts ws zs (record { sound = r; free = free })
  examined ae re ze = record { decided = decided ae re ze; free = c.number }
