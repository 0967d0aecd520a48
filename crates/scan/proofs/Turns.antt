-- One turn of the automaton against a step of the code, from a place with a character to look at: ",", ")" and "(".
use Prim.Native.Nat.{ℕ, ◌+◌, ◌-◌, ◌<◌, ◌≤◌}
use mathlib.Core.Path.{◌≡◌, sym, ap, ◌∙◌}
use mathlib.Core.List.{List, [], ◌∷◌, ◌++◌, append_assoc}
use mathlib.Core.Bool.{true, false, cond}
use Rattle.std.specs.Prelude.{Ok, Err}
use native.Mathlib.Omega.{arith}
use lib.ListN.{length, drop, get_or}
use lib.Dec.{leb, ltb}
use borrow.Author.Tests.{lt-ltb, le-ltb, ne_eqb, eq-eqb, leb-true, leb-false, ltb-true, ltb-false}
use Rattle.text.specs.Limits.{levels}
use Rattle.text.specs.Text as text
use Rattle.text.specs.Text.{Scan, place, after_open, after_comma, after_element, may_open, may_shut, may_part, mark}
use Rattle.text.specs.Text.{fault, State, at, settle, step_of, shut_at, refusal}
use Rattle.text.specs.Marks as marks
use Rattle.text.specs.Marks.{Mark, met, beginnings, pending, shut}
use Rattle.text.specs.Laws.TextLaws.{by_case}
use Rattle.text.specs.Laws.MarkLaws.{beginnings-append}
use Rattle.scan.specs.Places.{Step, placed, open_of, state_of, closed_at, phase_of, Prospect, prospect, prospect_at, behind, shuts, Onward, Told, Closed}
use Rattle.scan.specs.Laws.Ends.{beginnings-shuts}
use Rattle.scan.specs.declared.step.Place.{Place}
use Rattle.scan.proofs.Outlooks.{turned, behind-behind, stops}

-- a place with a level open
pub standing : (p : Place) → 1 ≤ p.depth → state_of p ≡ at (place (phase_of p.first) p.depth 0 0) p.at
standing p h = let n : p.depth ≡ 0 → ⊥ = λ z. omega arith in simp (ne_eqb p.depth 0 n)

-- a ")" of level d
shutting : (i d : ℕ) → 1 ≤ d
    → settle i (cond (ltb d 2) (mark (place text.after_all 0 0 0)) (mark (place after_element (d - 1) 0 0))) ≡ closed_at (d - 1) i
shutting i d h =
    by_case (ltb d 2) (λ (u : text.Step). settle i u ≡ closed_at (d - 1) i)
    (λ t. let z : d - 1 ≡ 0 = omega (arith, ltb-true d 2 t) in simp (eq-eqb (d - 1) 0 z))
    (λ t. let n : d - 1 ≡ 0 → ⊥ = λ z. omega (arith, ltb-false d 2 t) in simp (ne_eqb (d - 1) 0 n))

-- a place i of the automaton, reached from the place a
module _ (s : List ℕ) (a : ℕ) (t : Scan) (i : ℕ) (from : a ≤ i) (some : i < length s) (deep : 1 ≤ t.depth) (fits : t.depth ≤ levels) where
  abbrev here : Prospect
  here = prospect (at t i) (drop i s)

  becomes : (b : ℕ) → get_or s i 0 ≡ b → here ≡ behind (met (at t i) b) (prospect (settle (i + 1) (step_of t b)) (drop (i + 1) s))
  becomes b q = turned s t i some ∙ ap (λ (c : ℕ). behind (met (at t i) c) (prospect (settle (i + 1) (step_of t c)) (drop (i + 1) s))) q

  pub fault_told : (b n : ℕ) → get_or s i 0 ≡ b → step_of t b ≡ fault n → here.answered ≡ refusal n
  fault_told b n q f = stops s t i n some (ap (step_of t) q ∙ f)

  -- ",", which leaves n elements begun
  pub comma-on : (e n top : ℕ) → t.depth ≤ top → may_part t.phase ≡ true → n ≡ e + beginnings (pending t) → n ≤ i + 1 → get_or s i 0 ≡ 44
      → Onward s a e top here (pending t) (placed (i + 1) t.depth n false)
  comma-on e n top high may c count q =
      let st : settle (i + 1) (step_of t 44) ≡ at (place after_comma t.depth 0 0) (i + 1) = simp may in
      record {
        on = omega arith;
        within = omega arith;
        levelled = fits;
        counted = count;
        tallied = c;
        high = high;
        same = becomes 44 q
            ∙ ap (λ (u : State). behind (pending t) (prospect u (drop (i + 1) s))) (st ∙ sym (standing (placed (i + 1) t.depth n false) deep));
      }

  pub shut_same : may_shut t.phase ≡ true → get_or s i 0 ≡ 41
      → here ≡ behind (pending t ++ (shut ∷ [])) (prospect (closed_at (t.depth - 1) (i + 1)) (drop (i + 1) s))
  shut_same may q =
      let u = cond (ltb t.depth 2) (mark (place text.after_all 0 0 0)) (mark (place after_element (t.depth - 1) 0 0)) in
      let step : shut_at t.phase t.depth ≡ u = simp may in
      becomes 41 q
      ∙ ap (λ (v : State). behind (pending t ++ (shut ∷ [])) (prospect v (drop (i + 1) s))) (ap (settle (i + 1)) step ∙ shutting (i + 1) t.depth deep)

  -- ")", which leaves n elements begun, and what follows it
  pub shut_told : (e n : ℕ) (m : Place → List Mark) → n ≡ e + beginnings (pending t)
      → ((q : Place) → q.depth ≤ t.depth - 1 → q.elements ≡ n → m q ≡ pending t ++ (shut ∷ shuts (t.depth - 1 - q.depth)))
      → may_shut t.phase ≡ true → get_or s i 0 ≡ 41 → (u : Step) → Closed s (t.depth - 1) n (i + 1) u → Told s a e (t.depth + 1) here m u
  shut_told e n m c is may q (Ok p) w =
      let k = t.depth - 1 - p.depth in
      let ms : m p ≡ pending t ++ (shut ∷ shuts k) = is p w.high (omega (arith, w.tallied, beginnings-shuts k)) in
      record {
        on = omega (arith, w.on);
        within = w.within;
        levelled = w.levelled;
        counted = w.counted;
        tallied = omega (arith, w.tallied, beginnings-shuts k, ap beginnings ms, beginnings-append (pending t) (shut ∷ shuts k));
        high = omega (arith, w.high);
        same = shut_same may q ∙ ap (behind (pending t ++ (shut ∷ []))) w.same
            ∙ behind-behind (pending t ++ (shut ∷ [])) (shuts k) (prospect_at s p)
            ∙ ap (λ (l : List Mark). behind l (prospect_at s p)) (append_assoc (pending t) (shut ∷ []) (shuts k) ∙ sym ms);
      }
  shut_told e n m c is may q (Err f) w = ap (λ (o : Prospect). o.answered) (shut_same may q) ∙ w

  pub open_told : (e : ℕ) (m : Place → List Mark) → m (placed (i + 1) (t.depth + 1) (e + 1) true) ≡ marks.opened ∷ []
      → may_open t.phase ≡ true → e ≤ i → get_or s i 0 ≡ 40 → Told s a e (t.depth + 1) here m (open_of t.depth e i)
  open_told e m is may count q =
      by_case (leb levels t.depth) (Told s a e (t.depth + 1) here m)
      (λ l. let f : step_of t 40 ≡ fault 17 = simp (may, le-ltb t.depth levels (leb-true levels t.depth l)) in fault_told 40 17 q f)
      (λ l. let less = leb-false levels t.depth l in
      let st : settle (i + 1) (step_of t 40) ≡ at (place after_open (t.depth + 1) 0 0) (i + 1) = simp (may, lt-ltb t.depth levels less) in
      let p = placed (i + 1) (t.depth + 1) (e + 1) true in
      record {
        on = omega arith;
        within = omega arith;
        levelled = omega arith;
        counted = omega arith;
        tallied = omega (arith, ap beginnings is);
        high = omega arith;
        same = becomes 40 q
            ∙ ap (λ (u : State). behind (marks.opened ∷ []) (prospect u (drop (i + 1) s))) (st ∙ sym (standing p (omega arith)))
            ∙ ap (λ (ms : List Mark). behind ms (prospect_at s p)) (sym is);
      })
