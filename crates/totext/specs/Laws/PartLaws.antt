-- "," behind an element, where a further one is to come; and a turn that ends with it.
use Rattle.std.specs.Prelude.{ℕ, zero, suc, ◌+◌, ◌≤◌, ◌≡◌, refl, ◌≢◌, List, ◌++◌, length, set}
use Rattle.std.proofs.Common.{sym, ap, subst, ◌∙◌, arith}
use Rattle.writing.specs.Put.{Put}
use Rattle.writing.specs.Steps.{comma}
use Rattle.writing.specs.Laws.PutLaws.{put-none, put_one, put_then}
use Rattle.writing.specs.Laws.StepLaws.{one-comma}
use Rattle.totext.specs.declared.put.Walk.{Walk}
use Rattle.totext.specs.Turns.{walk, parted, Parts, Turned, PutTurn}

no_comma : (xs : List ℕ) (at end n : ℕ) → n ≡ 0 → Put xs xs at end (comma n)
no_comma xs at end n e = subst (λ (k : ℕ). Put xs xs at end (comma k)) (sym e) (put-none xs at end)

one : (xs : List ℕ) (at end n : ℕ) → n ≢ 0 → at + length (comma n) ≤ end → end ≤ length xs → Put xs (set xs at 44) at end (comma n)
one xs at end zero z l h = absurd (z refl)
one xs at end (suc n) z l h = put_one xs at end 44 (omega arith) h

module _ (w : Walk) (xs : List ℕ) (end : ℕ) where
  pub parts_none : w.left ≡ 0 → Parts w w xs xs end
  parts_none e =
      let size : w.to ≡ w.to + length (comma w.left) = omega (arith, ap (λ (n : ℕ). length (comma n)) e) in
      record { is = ap (λ (k : ℕ). walk w.from k w.depth w.left) size; put = no_comma xs w.to end w.left e }

  pub parts_one : w.left ≢ 0 → w.to + length (comma w.left) ≤ end → end ≤ length xs
      → Parts w (walk w.from (w.to + 1) w.depth w.left) xs (set xs w.to 44) end
  parts_one z l h = record {
    is = ap (λ (k : ℕ). walk w.from (w.to + k) w.depth w.left) (one-comma w.left z);
    put = one xs w.to end w.left z l h;
  }

-- the characters bs lead to v, which the turn says to be u before "," is put
pub put-parted : {s t next old mid new : List ℕ} {w v u r : Walk} {bs : List ℕ} {end : ℕ} → Turned s t next w (parted u) (bs ++ comma u.left)
    → v ≡ u → u.to ≡ w.to + length bs → Put old mid w.to end bs → Parts v r mid new end → PutTurn s t next w r old new end
put-parted {s} {t} {next} {old} {mid} {new} {w} {v} {u} {r} {bs} {end} d e k p q =
    let put : Put mid new u.to end (comma u.left) = subst (λ (x : Walk). Put mid new x.to end (comma x.left)) e q.put in (
      bs ++ comma u.left,
      subst (λ (x : Walk). Turned s t next w x (bs ++ comma u.left)) (sym (q.is ∙ ap parted e)) d,
      put_then old mid new bs (comma u.left) w.to u.to end p k put,
    )
