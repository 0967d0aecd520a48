-- Engines that are wrong about where a text ends: the rows fix the answer to each text, in the check and in reading,
-- and the further call goes by what stands behind the list.
use Rattle.std.specs.Prelude.{◌≡◌, refl, ◌≢◌, List, [], ◌∷◌, ◌++◌, ℕ}
use Rattle.std.proofs.Common.{arith}
use Rattle.calls.specs.Chars.{blanks}
use Rattle.calls.specs.Read.{read_in}
use Rattle.promises.specs.Engine.{Engine}
use Rattle.promises.specs.Demand1.{ReadRefusals, CheckRefusals}
use Rattle.promises.specs.Demand2.{RestGives}
use Rattle.promises.specs.Refuted.WrongEnds.{ending, blank_first, blank_record, blank_but_last, blank_any_size, asks_holder_first, hands_blanks, skips_blanks}
use Rattle.promises.specs.Refuted.ByRows.{checks_otherwise, reads_otherwise}
use Rattle.promises.specs.Refuted.Computed.{checked, storing}
use Rattle.promises.specs.Refuted.SmallTables.{zeros, one, null, full}
use Rattle.groups.specs.declared.Stored.TheVariants.{Text}
use Rattle.table.specs.declared.Form.TheVariants.{Four}

-- reading into one cell, which is free
reads : (E : Engine) (xs : List ℕ) → (E.read Text one (zeros 2) 0 xs).answer ≢ (read_in Text one (zeros 2) 0 xs).answer
    → ReadRefusals Four E → ⊥
reads E xs = reads_otherwise E Text one (zeros 2) 0 xs

-- no END is a list with a blank before it
pub blank-first : CheckRefusals (ending blank_first) → ⊥
unfolding checked
blank-first = checks_otherwise (ending blank_first) (32 ∷ 40 ∷ 41 ∷ blanks 69) (λ (e : ◌≡◌ {A = ℕ} 14 15). omega arith)

pub blank-first-read : ReadRefusals Four (ending blank_first) → ⊥
unfolding storing
blank-first-read = reads (ending blank_first) (32 ∷ 40 ∷ 41 ∷ blanks 69) (λ (e : ◌≡◌ {A = ℕ} 14 15). omega arith)

-- nor one with a blank record before its own
pub blank_record_lem : CheckRefusals (ending blank_record) → ⊥
unfolding checked
blank_record_lem = checks_otherwise (ending blank_record) (blanks 72 ++ null) (λ (e : ◌≡◌ {A = ℕ} 14 15). omega arith)

pub blank_record_read : ReadRefusals Four (ending blank_record) → ⊥
unfolding storing
blank_record_read = reads (ending blank_record) (blanks 72 ++ null) (λ (e : ◌≡◌ {A = ℕ} 14 15). omega arith)

-- nor blanks with a "1" behind them as the last byte
pub blank-but-last : CheckRefusals (ending blank_but_last) → ⊥
unfolding checked
blank-but-last = checks_otherwise (ending blank_but_last) (blanks 71 ++ (49 ∷ []))
    (λ (e : ◌≡◌ {A = ℕ} 14 15). omega arith)

pub blank-but-last-read : ReadRefusals Four (ending blank_but_last) → ⊥
unfolding storing
blank-but-last-read = reads (ending blank_but_last) (blanks 71 ++ (49 ∷ [])) (λ (e : ◌≡◌ {A = ℕ} 14 15). omega arith)

-- nor 73 blanks
pub blank_any_size_lem : CheckRefusals (ending blank_any_size) → ⊥
unfolding checked
blank_any_size_lem = checks_otherwise (ending blank_any_size) (blanks 73) (λ (e : ◌≡◌ {A = ℕ} 14 13). omega arith)

pub blank_any_size-read : ReadRefusals Four (ending blank_any_size) → ⊥
unfolding storing
blank_any_size-read = reads (ending blank_any_size) (blanks 73) (λ (e : ◌≡◌ {A = ℕ} 14 13). omega arith)

-- blanks are END for a holder that has a list, too
pub asks_holder-first : ReadRefusals Four asks_holder_first → ⊥
unfolding storing
asks_holder-first = reads_otherwise asks_holder_first Text (full asks_holder_first) (zeros 2) 0 (blanks 72)
    (λ (e : ◌≡◌ {A = ℕ} 10 14). omega arith)

-- behind the null list a blank record: the rest is empty
pub hands_blanks_lem : RestGives hands_blanks → ⊥
unfolding checked
hands_blanks_lem d = let e : ◌≡◌ {A = ℕ} 72 144 = (d (null ++ blanks 72)).1 refl refl in omega arith

-- and the null list behind that: the rest begins with the blanks
pub skips_blanks_lem : RestGives skips_blanks → ⊥
unfolding checked
skips_blanks_lem d = let e : ◌≡◌ {A = ℕ} 144 72 = (d (null ++ blanks 72 ++ null)).0 refl (λ z. omega arith) in omega arith
