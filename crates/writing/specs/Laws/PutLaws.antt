-- Bytes put one after another: one, none, two runs, a store copied.
use Rattle.std.specs.Prelude.{ℕ, zero, suc, ◌+◌, ◌-◌, ◌≤◌, ◌<◌, ◌≡◌, refl, List, [], ◌∷◌, ◌++◌, ◌≢◌, length, take, drop, set}
use Rattle.std.proofs.Common.{sym, ap, subst, ◌∙◌, append-nil, append_assoc, arith, add-one, length-set, length-append, take-suc-set, drop-set-lt, take-take, length-take-le, drop-drop}
use Rattle.std.proofs.lemmas.List.{take-append-le}
use Rattle.std.proofs.Math.Seq.{paste, take-append-add, length_paste_head}
use Rattle.std.proofs.lemmas.List.Edits.{length-paste, drop-paste}
use Rattle.writing.specs.Put.{Put}
use Rattle.writing.specs.Steps.{comma}

pub put_one : (xs : List ℕ) (at end b : ℕ) → at < end → end ≤ length xs → Put xs (set xs at b) at end (b ∷ [])
put_one xs at end b l h = record {
  text = rw (add-one at) (take-suc-set xs at b (omega arith));
  behind = drop-set-lt end xs at b l;
  room = length-set xs at b;
}

-- the end of the text, told otherwise
pub put_until : {xs ys bs : List ℕ} {at n m : ℕ} → n ≡ m → Put xs ys at n bs → Put xs ys at m bs
put_until {xs} {ys} {bs} {at} e p = subst (λ (k : ℕ). Put xs ys at k bs) e p

-- nothing, and one after another
pub put-none : (xs : List ℕ) (at end : ℕ) → Put xs xs at end []
put-none xs at end =
    let z : at + 0 ≡ at = omega arith in
    record { text = ap (λ (k : ℕ). take k xs) z ∙ sym (append-nil (take at xs)); behind = refl; room = refl }

pub put_then : (xs ys zs cs bs : List ℕ) (at k end : ℕ) → Put xs ys at end cs → k ≡ at + length cs → Put ys zs k end bs → Put xs zs at end (cs ++ bs)
put_then xs ys zs cs bs at k end p e q =
    let n : at + length (cs ++ bs) ≡ k + length bs = omega (arith, length-append cs bs) in
    record {
      text = ap (λ (j : ℕ). take j zs) n ∙ q.text ∙ ap (λ (j : ℕ). take j ys ++ bs) e ∙ ap (λ (t : List ℕ). t ++ bs) p.text
          ∙ append_assoc (take at xs) cs bs;
      behind = q.behind ∙ p.behind;
      room = q.room ∙ p.room;
    }

-- "," as the last of k characters
pub put-comma : (xs : List ℕ) (x k end : ℕ) → x ≢ 0 → length (comma x) ≤ k → k ≤ end → end ≤ length xs
    → Put xs (set xs (k - 1) 44) (k - length (comma x)) end (comma x)
put-comma xs zero k end n l h r = absurd (n refl)
put-comma xs (suc i) k end n l h r = put_one xs (k - 1) end 44 (omega arith) r

pub no_comma : (xs : List ℕ) (x k end : ℕ) → x ≡ 0 → Put xs xs (k - length (comma x)) end (comma x)
no_comma xs zero k end e = put-none xs (k - 0) end
no_comma xs (suc i) k end e = absurd (omega arith)

-- n bytes of a store, the first k of which are meant
pub put_store : (xs ys store bs : List ℕ) (at end k n : ℕ) → ys ≡ paste xs at store n → at + n ≤ end → end ≤ length xs → n ≤ length store → k ≡ length bs
    → take k store ≡ bs → k ≤ n → Put xs ys at end bs
put_store xs ys store bs at end k n is fits ends stored size front some =
    let low : at ≤ length xs = omega arith in
    let all : at + n ≤ length xs = omega arith in
    let head = take at xs ++ take n store in
    let d : at + n + (end - (at + n)) ≡ end = omega arith in
    let e : length (take at xs) + k ≡ at + length bs = omega (arith, length-take-le at xs low) in
    let made : Put xs (paste xs at store n) at end bs = record {
      text =
          ap (λ (j : ℕ). take j (paste xs at store n)) (sym e)
          ∙ take-append-le (length (take at xs) + k) head (drop (at + n) xs) (omega (arith, length_paste_head xs at store n low stored))
          ∙ take-append-add (take at xs) (take n store) k
          ∙ ap (λ (t : List ℕ). take at xs ++ t) (take-take k n store some ∙ front);
      behind =
          ap (λ (j : ℕ). drop j (paste xs at store n)) (sym d) ∙ sym (drop-drop (end - (at + n)) (at + n) (paste xs at store n))
          ∙ ap (drop (end - (at + n))) (drop-paste xs at store n low stored)
          ∙ drop-drop (end - (at + n)) (at + n) xs ∙ ap (λ (j : ℕ). drop j xs) d;
      room = length-paste xs at store n all stored;
    } in
    subst (λ (t : List ℕ). Put xs t at end bs) (sym is) made
