-- The number that the code gives is the first of the bytes from its place on, and takes some of them.
use Rattle.std.specs.Prelude.{ℕ, ◌+◌, ◌-◌, ◌*◌, ◌<◌, ◌≤◌, ◌≡◌, refl, List, [], ◌∷◌, Some, None, IsSome, leb, Bool, true, false, cond, eqb, ltb, length, drop, get_or}
use Rattle.std.proofs.Common.{rules, leb-true, leb-false, sym, ap, subst, ◌∙◌, add-one, arith, ltb-true, length-drop, drop-drop}
use Rattle.groups.specs.Groups.{numbers_end}
use Rattle.groups.specs.Reading.{Token, num, bad, more, tokens}
use Rattle.numbers.specs.Numbers.{first, ending, ended, number_in}
use Rattle.numbers.specs.Laws.RaisedLaws.{none_here, tokens-last}
use Rattle.numbers.specs.Numbered.{Numbered, Unnumbered}
use Rattle.numbers.specs.declared.Number.{Number}

-- ---- a number at the front
record Front (s : List ℕ) (v k : ℕ) (ts : List Token) : Type 0 where
  some : 1 ≤ k
  within : k ≤ length s
  small : v < numbers_end
  rest : ts ≡ tokens (drop k s)

no_front : {s : List ℕ} {v k : ℕ} {ts : List Token} → ◌≡◌ {A = ℕ} 0 1 → Front s v k ts
no_front z = absurd (omega (arith, z))

module _ (b : ℕ) (bs : List ℕ) {v k : ℕ} {ts : List Token} where
  longer : (w m : ℕ) → Front bs w m ts → v < numbers_end → k ≡ m + 1 → Front (b ∷ bs) v k ts
  longer w m f l e =
      record {
        some = omega arith;
        within = omega (arith, f.within);
        small = l;
        rest = f.rest ∙ ap (λ (n : ℕ). tokens (drop n (b ∷ bs))) (sym (e ∙ add-one m));
      }

  grown : (g w m : ℕ) (us : List Token) (x y : Bool) → ltb (g + 128 * w) numbers_end ≡ y → Front bs w m us →
      cond x (bad ∷ us) (cond y (num (g + 128 * w) (m + 1) ∷ us) (bad ∷ us)) ≡ num v k ∷ ts → Front (b ∷ bs) v k ts
  grown g w m us true y q f e = no_front (cc)
  grown g w m us false false q f e = no_front (cc)
  grown g w m us false true q f e =
      let same : us ≡ ts = cc in
      let value : g + 128 * w ≡ v = cc in
      let size : k ≡ m + 1 = cc in
      longer w m (subst (Front bs w m) same f) (omega (arith, ltb-true (g + 128 * w) numbers_end q)) size

  front_more : (g : ℕ) (us : List Token) → ((w m : ℕ) (rs : List Token) → us ≡ num w m ∷ rs → Front bs w m rs) →
      more g us ≡ num v k ∷ ts → Front (b ∷ bs) v k ts
  front_more g [] f e = no_front (cc)
  front_more g (bad ∷ us) f e = no_front (cc)
  front_more g (num w m ∷ us) f e =
      grown g w m us (eqb w 0) (ltb (g + 128 * w) numbers_end) refl (f w m us refl) e

  front_by : (x y : Bool) → ltb b 128 ≡ x
      → ((w m : ℕ) (rs : List Token) → tokens bs ≡ num w m ∷ rs → Front bs w m rs)
      → cond x (num b 1 ∷ tokens bs) (cond y (more (b - 128) (tokens bs)) (bad ∷ tokens bs)) ≡ num v k ∷ ts
      → Front (b ∷ bs) v k ts
  front_by true y p f e =
      let value : b ≡ v = cc in
      let size : 1 ≡ k = cc in
      let rest : tokens bs ≡ ts = cc in
      record {
        some = omega arith;
        within = omega arith;
        small = omega (arith, ltb-true b 128 p);
        rest = sym rest ∙ ap (λ (n : ℕ). tokens (drop n (b ∷ bs))) size;
      }
  front_by false true p f e = front_more (b - 128) (tokens bs) f e
  front_by false false p f e = no_front (cc)

front : (s : List ℕ) (v k : ℕ) (ts : List Token) → tokens s ≡ num v k ∷ ts → Front s v k ts
unfolding tokens
front [] v k ts e = no_front (cc)
front (b ∷ bs) v k ts e = front_by b bs (ltb b 128) (ltb b 256) refl (front bs) e

-- ---- at a place
module _ (s : List ℕ) (i : ℕ) where
  at_place : (v k : ℕ) (ts : List Token) → tokens (drop i s) ≡ num v k ∷ ts → Numbered s i v (i + k)
  at_place v k ts e =
      let f = front (drop i s) v k ts e in
      let size : k ≡ i + k - i = omega arith in
      record {
        on = omega (arith, f.some);
        within = omega (arith, f.some, f.within, length-drop i s);
        small = f.small;
        is =
            e
            ∙ ap (λ (n : ℕ). num v n ∷ ts) size
            ∙ ap (λ (us : List Token). num v (i + k - i) ∷ us) (f.rest ∙ ap tokens (drop-drop k i s));
      }

  -- one group
  pub one-numbered : i < length s → get_or s i 0 < 128 → Numbered s i (get_or s i 0) (i + 1)
  one-numbered l h = at_place (get_or s i 0) 1 (tokens (drop (i + 1) s)) (tokens-last s i l h)

  numbered_by : {n : Number} (ts : List Token) → tokens (drop i s) ≡ ts → Some n ≡ first i ts → Numbered s i n.value n.end
  numbered_by [] p e = absurd (cc)
  numbered_by (bad ∷ ts) p e = absurd (cc)
  numbered_by {n} (num v k ∷ ts) p e =
      let is : n ≡ record { value = v; end = i + k } = cc in
      subst (λ (m : Number). Numbered s i m.value m.end) (sym is) (at_place v k ts p)

  pub numbered : {n : Number} → Some n ≡ number_in s i → Numbered s i n.value n.end
  numbered e = numbered_by (tokens (drop i s)) refl e

  unnumbered_by : (ts : List Token) → None ≡ first i ts → Unnumbered ts
  unnumbered_by [] z v k us e = absurd (cc)
  unnumbered_by (bad ∷ ts) z v k us e = absurd (cc)
  unnumbered_by (num w m ∷ ts) z v k us e = absurd (cc)

  pub unnumbered : None ≡ number_in s i → Unnumbered (tokens (drop i s))
  unnumbered z = unnumbered_by (tokens (drop i s)) z

-- ---- a number that is known to be there
pub ended_some : (v w j : ℕ) → IsSome (ended v w j) → ended v w j ≡ ending v j
ended_some v w j = by (eqb w 0) (ltb v numbers_end)
  where
    by : (x y : Bool) → IsSome (cond x None (cond y (ending v j) None)) → cond x None (cond y (ending v j) None) ≡ ending v j
    by true y h = absurd (search (rules, h))
    by false true h = refl
    by false false h = absurd (search (rules, h))

pub there_inside : (s : List ℕ) (i : ℕ) → IsSome (number_in s i) → i < length s
there_inside s i h = by (leb (length s) i) refl
  where
    by : (x : Bool) → leb (length s) i ≡ x → i < length s
    by true e =
        let none = none_here s i (leb-true (length s) i e) in
        absurd (search (rules, rw (← none) at h))
    by false e = leb-false (length s) i e
