-- Engines that read, check or write text wrongly: each breaks the statement that its theorem names, on a table of one
-- cell.
use Rattle.std.specs.Prelude.{◌≡◌, refl, List, [], ◌∷◌, ◌++◌, ℕ, zero, suc, replicate}
use Rattle.std.proofs.Common.{ap, inl, inr, arith}
use Rattle.lists.specs.Lst.{nil, atom}
use Rattle.pool.specs.Tally.{same, tally, occ}
use Rattle.pool.specs.Laws.TallyLaws.{tally-append}
use Rattle.pool.specs.Pool.{ListAt}
use Rattle.calls.specs.Chars.{blanks}
use Rattle.promises.specs.TextGrounds.{along, Records, plain}
use Rattle.promises.specs.StoredGrounds.{filled}
use Rattle.promises.specs.Demand2.{ReadingGives, CheckingGives, CheckingTakes, WritingGives, ReadWritesBack}
use Rattle.promises.specs.Refuted.WrongTexts.{takes_all, counts_no_digits, run_uncounted, leads_with_zero, zeroed}
use Rattle.promises.specs.Refuted.Computed.{checked, storing}
use Rattle.promises.specs.Refuted.SmallTables.{held, word, zeros, one, one-null}
use Rattle.groups.specs.declared.Stored.TheVariants.{Text}
use Rattle.table.specs.declared.Form.TheVariants.{Four}

-- the null list in one record, and a blank record behind it
abbrev null_text : List ℕ
null_text = 40 ∷ 41 ∷ blanks 142

-- the list's record is full before the second
pub takes_all-reading : ReadingGives Four takes_all → ⊥
unfolding storing along
takes_all-reading d = ((d Text one (zeros 2) 0 null_text (λ i. nil) one-null refl).1.0.1 (40 ∷ 41 ∷ blanks 70) 32 (blanks 71) refl).1 (inr refl, refl, refl)

all-blank : (n : ℕ) → occ (blanks n) 32 ≡ n
unfolding tally same
all-blank zero = refl
all-blank (suc n) = omega (arith, all-blank n)

-- fewer than 72 blanks stand behind a list, where these are 142
pub takes_all_checking : CheckingGives takes_all → ⊥
unfolding checked tally same
takes_all_checking d =
    let (l, t, r, _) = d null_text refl in
    let e : 142 ≡ occ (t ++ blanks r.blanks) 32 = ap (λ (us : List ℕ). occ us 32) r.bytes in
    omega (arith, tally-append (λ c. same c 32) t (blanks r.blanks), all-blank r.blanks, r.few, r.solid)

-- twelve zeros are taken for an atom
pub counts_no_digits_lem : CheckingTakes counts_no_digits → ⊥
unfolding checked run_uncounted along
counts_no_digits_lem d =
    let us : List ℕ = 40 ∷ replicate 11 48 in
    let n = ((d (us ++ (48 ∷ 41 ∷ blanks 58)) refl).1 us 48 (41 ∷ blanks 58) refl).0 in
    n.1 ((omega arith, omega arith), inl (omega arith))

-- (7) is written as (07)
pub leads_with_zero_lem : WritingGives Four leads_with_zero → ⊥
unfolding storing zeroed ListAt
leads_with_zero_lem d =
    let e : ◌≡◌ {A = ℕ} 48 55 = word 1 (d Text (held 0 7) (zeros 2) 0 (zeros 72) (atom 7 nil) (omega arith, refl, refl, refl) refl).0 in
    omega arith

-- (07) is read, and written as it was
pub leads_with_zero_again : ReadWritesBack leads_with_zero → ⊥
unfolding storing zeroed
leads_with_zero_again d =
    let t : List ℕ = 40 ∷ 48 ∷ 55 ∷ 41 ∷ [] in
    let xs = t ++ blanks 68 in
    let r : Records xs 72 t = record { blanks = 68; bytes = refl; few = omega arith; whole = refl; within = omega arith; solid = refl } in
    let e : ◌≡◌ {A = ℕ} 48 55 = word 1 (d Text one (zeros 2) (zeros 2) (zeros 72) 0 xs (filled (plain t)) refl (t, r, refl) (omega arith) (omega arith)).1 in
    omega arith
