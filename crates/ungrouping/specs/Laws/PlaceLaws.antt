-- Each step of the readers is a step of the automaton.
use Rattle.std.specs.Prelude.{ℕ, suc, ◌+◌, ◌-◌, ◌/◌, ◌%◌, ◌<◌, ◌≤◌, ◌≡◌, cond, eqb, ltb, length, drop, get_or, Result, Ok, Err}
use Rattle.std.proofs.Math.Path.{refl, ap}
use Rattle.std.proofs.Common.{subst, ◌∙◌, le_refl, le_trans, arith, lt-ltb, le-ltb, eq-eqb, ne_eqb}
use mathlib.Core.List.{List, [], ◌∷◌}
use Rattle.answers.specs.Answers.{DEEP, GROUPS}
use Rattle.answers.specs.Refusals.{refusal_no}
use Rattle.answers.specs.declared.refusal.Refusal.{Refusal}
use Rattle.answers.specs.declared.refusal.Refusal.TheVariants as why
use Rattle.text.specs.Limits.{levels}
use Rattle.text.specs.Text.{refusal}
use Rattle.groups.specs.Reading.{Token, num, bad, tokens, begin, at, refused, closing, element, run, answer, scanned}
use Rattle.groups.specs.Laws.RunLaws.{rests_refused, rests_taken}
use Rattle.numbers.specs.Numbered.{Numbered, Unnumbered}
use Rattle.numbers.specs.Laws.NumberedLaws.{one-numbered}
use Rattle.ungrouping.specs.Places.{onward, Leads, Stops, Reads, Element, ReadsWhole, Atoms}

-- ---- one place after the other
module _ {s : List ℕ} {level : ℕ} where
  pub leads-none : (i k : ℕ) → i ≤ length s → Leads s level i k i k
  leads-none i k l = record { on = le_refl i; within = l; same = λ st d. refl }

  module _ {i k j m : ℕ} (l : Leads s level i k j m) where
    pub leads-on : {n o : ℕ} → Leads s level j m n o → Leads s level i k n o
    leads-on r =
        record {
          on = le_trans l.on r.on;
          within = r.within;
          same = λ st d. l.same st d ∙ r.same st d;
        }

    pub stops-on : (f : ℕ) → Stops s level j m f → Stops s level i k f
    stops-on f r = λ st d. ap answer (l.same st d) ∙ r st d

-- ---- an element
module _ (s : List ℕ) (level i : ℕ) where
  unread : (k : ℕ) (st : List ℕ) (ts : List Token) → Unnumbered ts → answer (run (at (suc k ∷ st) i) ts) ≡ refusal GROUPS
  unread k st [] n = refl
  unread k st (bad ∷ ts) n = ap answer (rests_refused GROUPS ts)
  unread k st (num v m ∷ ts) n = absurd (n v m ts refl)

  pub no_element : Unnumbered (tokens (drop i s)) → Element s level i (Err why.Groups)
  no_element n = record { takes = tt; reads = λ k st d. unread k st (tokens (drop i s)) n }

  module _ {v j : ℕ} (n : Numbered s i v j) where
    abbrev beyond : List Token
    beyond = tokens (drop j s)

    number_read : (k : ℕ) (st : List ℕ) → onward s i (suc k) st ≡ run (element (k ∷ st) v j) beyond
    number_read k st =
        let size : i + (j - i) ≡ j = omega (arith, n.on) in
        ap (run (at (suc k ∷ st) i)) n.is ∙ ap (λ (e : ℕ). run (element (k ∷ st) v e) beyond) size

    atom-leads : v % 2 ≡ 0 → (k : ℕ) → Leads s level i (suc k) j k
    atom-leads even k =
        record {
          on = omega (arith, n.on);
          within = n.within;
          same = λ st d. number_read k st ∙ rw (eq-eqb (v % 2) 0 even) refl;
        }

    pub atom-element : v % 2 ≡ 0 → Element s level i (Ok j)
    atom-element even = record { takes = n.on; reads = atom-leads even }

    module _ (odd : v % 2 ≡ 0 → ⊥) where
      -- a list is one level further in
      list_read : (k : ℕ) (st : List ℕ) → suc (length st) ≡ level →
          onward s i (suc k) st ≡ run (cond (ltb level levels) (closing (v / 2 ∷ k ∷ st) j) (refused DEEP)) beyond
      list_read k st d =
          number_read k st ∙ rw (ne_eqb (v % 2) 0 odd) refl
          ∙ ap (λ (l : ℕ). run (cond (ltb l levels) (closing (v / 2 ∷ k ∷ st) j) (refused DEEP)) beyond) d

      deep_stops : levels ≤ level → (k : ℕ) → Stops s level i (suc k) DEEP
      deep_stops deep k st d =
          ap answer (list_read k st d) ∙ rw (le-ltb level levels deep) (ap answer (rests_refused DEEP beyond))

      pub deep_element : levels ≤ level → Element s level i (Err why.Deep)
      deep_element deep = record { takes = tt; reads = deep_stops deep }

      module _ (shallow : level < levels) where
        opened : (k : ℕ) (st : List ℕ) → suc (length st) ≡ level → onward s i (suc k) st ≡ onward s j (v / 2) (k ∷ st)
        opened k st d = list_read k st d ∙ rw (lt-ltb level levels shallow) refl

        inner : (st : List ℕ) (k : ℕ) → suc (length st) ≡ level → suc (length (k ∷ st)) ≡ level + 1
        inner st k d = omega (arith, d)

        pub list_element : (r : Result ℕ Refusal) → Reads s (level + 1) j (v / 2) 0 r → Element s level i r
        list_element (Ok r) e =
            record {
              takes = omega (arith, n.on, e.on);
              reads = λ k. record {
                on = omega (arith, n.on, e.on);
                within = e.within;
                same = λ st d. opened k st d ∙ e.same (k ∷ st) (inner st k d);
              };
            }
        list_element (Err f) e =
            record { takes = tt; reads = λ k st d. ap answer (opened k st d) ∙ e (k ∷ st) (inner st k d) }

-- ---- atoms of one byte each
module _ {s : List ℕ} {i k : ℕ} where
  pub atoms-none : i ≤ length s → Atoms s i k i
  atoms-none l =
      let none : k ≡ k - (i - i) = omega arith in
      record {
        on = le_refl i;
        few = omega arith;
        leads = λ level. subst (Leads s level i k i) none (leads-none i k l);
      }

  pub atoms-on : {j : ℕ} → Atoms s i k j → j - i < k → j < length s → get_or s j 0 < 128 → get_or s j 0 % 2 ≡ 0 → Atoms s i k (j + 1)
  atoms-on {j} a some l low even =
      let m = k - (j + 1 - i) in
      let one : k - (j - i) ≡ suc m = omega (arith, a.on) in
      record {
        on = omega (arith, a.on);
        few = omega (arith, a.on);
        leads = λ level.
            leads-on (subst (Leads s level i k j) one (a.leads level))
            (atom-leads s level j (one-numbered s j l low) even m);
      }

-- ---- the elements of a list
module _ {s : List ℕ} {level i k j : ℕ} where
  module _ {m : ℕ} (l : Leads s level i k j m) (some : 0 < m) where
    here : Leads s level i k j (suc (m - 1))
    here = let one-off : m ≡ suc (m - 1) = omega arith in subst (Leads s level i k j) one-off l

    pub element-on : {r : ℕ} → Element s level j (Ok r) → Leads s level i k r (m - 1)
    element-on e = leads-on here (e.reads (m - 1))

    pub element-stops : {f : Refusal} → Element s level j (Err f) → Reads s level i k 0 (Err f)
    element-stops {f} e = stops-on here (refusal_no f) (e.reads (m - 1))

-- ---- the whole
module _ (s : List ℕ) where
  unbegun : (ts : List Token) → Unnumbered ts → answer (run begin ts) ≡ refusal GROUPS
  unbegun [] n = refl
  unbegun (bad ∷ ts) n = ap answer (rests_refused GROUPS ts)
  unbegun (num v k ∷ ts) n = absurd (n v k ts refl)

  pub whole-none : Unnumbered (tokens (drop 0 s)) → ReadsWhole s (Err why.Groups)
  unfolding scanned
  whole-none n = unbegun (tokens s) n

  module _ {v j : ℕ} (n : Numbered s 0 v j) where
    begun : run begin (tokens s) ≡ run (cond (eqb (v % 2) 0) (refused GROUPS) (closing (v / 2 ∷ []) j)) (tokens (drop j s))
    begun =
        let size : j - 0 ≡ j = omega arith in
        ap (run begin) n.is
        ∙ ap (λ (e : ℕ). run (cond (eqb (v % 2) 0) (refused GROUPS) (closing (v / 2 ∷ []) e)) (tokens (drop j s))) size

    pub whole-atom : v % 2 ≡ 0 → ReadsWhole s (Err why.Groups)
    unfolding scanned
    whole-atom even =
        ap answer begun ∙ rw (eq-eqb (v % 2) 0 even) (ap answer (rests_refused GROUPS (tokens (drop j s))))

    module _ (odd : v % 2 ≡ 0 → ⊥) where
      opens : run begin (tokens s) ≡ onward s j (v / 2) []
      opens = begun ∙ rw (ne_eqb (v % 2) 0 odd) refl

      pub whole_list : (r : Result ℕ Refusal) → Reads s 1 j (v / 2) 0 r → ReadsWhole s r
      unfolding scanned
      whole_list (Ok r) e = (e.within, ap answer (opens ∙ e.same [] refl ∙ rests_taken r (tokens (drop r s))))
      whole_list (Err f) e = ap answer opens ∙ e [] refl
