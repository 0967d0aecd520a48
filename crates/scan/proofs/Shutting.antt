-- What follows a ")" until "," or the last ")": one turn of the automaton each, and what ends the run.
use Prim.Native.Nat.{ℕ, ◌+◌, ◌-◌, ◌<◌, ◌≤◌}
use mathlib.Core.Path.{◌≡◌, refl, ap, ◌∙◌}
use mathlib.Core.List.{List, [], ◌∷◌}
use mathlib.Core.Bool.{false}
use Rattle.std.specs.Prelude.{Ok, Err}
use Rattle.answers.specs.declared.refusal.Refusal.TheVariants.{NotAList}
use native.Mathlib.Omega.{arith}
use lib.ListN.{length, drop, get_or, drop_of_length-le}
use borrow.Author.Tests.{ne_eqb}
use Rattle.text.specs.Limits.{levels}
use Rattle.text.specs.Text as text
use Rattle.text.specs.Text.{Scan, place, after_element, State, at}
use Rattle.text.specs.Marks.{Mark, shut}
use Rattle.text.specs.Laws.TextLaws.{class}
use Rattle.scan.specs.Places.{placed, closed_at, Prospect, prospect, behind, shuts, Closing, Closed}
use Rattle.scan.specs.Laws.Ends.{beginnings-shuts, shuts-append}
use Rattle.scan.proofs.Outlooks.{behind-behind}
use Rattle.scan.proofs.Turns.{fault_told, comma-on, shut_same}
use Rattle.scan.proofs.Misplaced.{behind-element}

-- behind a ")" that left depth levels open, before at: d are left before i
pub record Shutting (s : List ℕ) (depth e at d i : ℕ) : Type 0 where
  pub from : at ≤ i
  pub within : i ≤ length s
  pub levelled : d ≤ levels
  pub high : d ≤ depth
  pub counted : e ≤ i
  pub same : prospect (closed_at depth at) (drop at s) ≡ behind (shuts (depth - d)) (prospect (closed_at d i) (drop i s))

pub shut_once : {s : List ℕ} {d e i : ℕ} → Closing s d e i → Shutting s d e i d i
shut_once {s} {d} {e} {i} k =
    let z : 0 ≡ d - d = omega arith in
    record {
      from = omega arith;
      within = k.within;
      levelled = k.levelled;
      high = omega arith;
      counted = k.counted;
      same = ap (λ (n : ℕ). behind (shuts n) (prospect (closed_at d i) (drop i s))) z;
    }

module _ {s : List ℕ} {depth e at d i : ℕ} (k : Shutting s depth e at d i) where
  abbrev closing : Prospect
  closing = prospect (closed_at depth at) (drop at s)

  module _ (deep : 1 ≤ d) where
    abbrev scan_behind : Scan
    scan_behind = place after_element d 0 0

    stands : closing ≡ behind (shuts (depth - d)) (prospect (text.at scan_behind i) (drop i s))
    stands =
        let some : d ≡ 0 → ⊥ = λ z. omega arith in
        let st : closed_at d i ≡ text.at scan_behind i = simp (ne_eqb d 0 some) in
        k.same ∙ ap (λ (u : State). behind (shuts (depth - d)) (prospect u (drop i s))) st

    pub closed_out : length s ≤ i → Closed s depth e at (Err NotAList)
    closed_out h =
        ap (λ (x : Prospect). x.answered)
        (stands ∙ ap (λ (l : List ℕ). behind (shuts (depth - d)) (prospect (text.at scan_behind i) l)) (drop_of_length-le s h))

    module _ (some : i < length s) where
      pub closed-comma : 1 ≤ at → get_or s i 0 ≡ 44 → Closed s depth e at (Ok (placed (i + 1) d e false))
      closed-comma low q =
          let w = comma-on s (at - 1) scan_behind i (omega (arith, k.from)) some deep k.levelled e e depth k.high refl (omega arith)
          (omega (arith, k.counted)) q in
          record {
            on = w.on;
            within = w.within;
            levelled = k.levelled;
            counted = w.counted;
            tallied = omega (arith, beginnings-shuts (depth - d));
            high = k.high;
            same = stands ∙ ap (behind (shuts (depth - d))) w.same;
          }

      pub closed-other : (get_or s i 0 ≡ 44 → ⊥) → (get_or s i 0 ≡ 41 → ⊥) → Closed s depth e at (Err NotAList)
      closed-other p q =
          ap (λ (x : Prospect). x.answered) stands
          ∙ fault_told s at scan_behind i k.from some deep k.levelled (get_or s i 0) 15 refl (behind-element d (get_or s i 0) p q (class (get_or s i 0)))

      pub closed_again : get_or s i 0 ≡ 41 → Shutting s depth e at (d - 1) (i + 1)
      closed_again q =
          let next = prospect (closed_at (d - 1) (i + 1)) (drop (i + 1) s) in
          let more : depth - d + 1 ≡ depth - (d - 1) = omega (arith, k.high) in
          record {
            from = omega (arith, k.from);
            within = omega arith;
            levelled = omega (arith, k.levelled);
            high = omega (arith, k.high);
            counted = omega (arith, k.counted);
            same = stands ∙ ap (behind (shuts (depth - d))) (shut_same s at scan_behind i k.from some deep k.levelled refl q)
                ∙ behind-behind (shuts (depth - d)) (shut ∷ []) next
                ∙ ap (λ (ms : List Mark). behind ms next) (shuts-append (depth - d) 1 ∙ ap shuts more);
          }

  pub closed-over : 1 ≤ at → d ≡ 0 → Closed s depth e at (Ok (placed i 0 e false))
  closed-over low z =
      record {
        on = omega (arith, k.from);
        within = k.within;
        levelled = omega arith;
        counted = k.counted;
        tallied = omega (arith, beginnings-shuts (depth - 0));
        high = omega arith;
        same = k.same ∙ ap (λ (n : ℕ). behind (shuts (depth - n)) (prospect (closed_at n i) (drop i s))) z;
      }
