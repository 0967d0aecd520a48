-- Engines that are wrong in one stored form and right in the other, whichever it is: the list read, the cells that it
-- is in, and the bytes written. Each breaks the statement that its theorem names.
use Rattle.std.specs.Prelude.{◌≡◌, refl, ◌≢◌, true, false, List, [], ◌∷◌, ℕ, ◌<◌, ◌^◌}
use Rattle.std.proofs.Common.{sym, ap, ◌∙◌, arith}
use Rattle.answers.specs.Answers.{DONE}
use Rattle.lists.specs.Lst.{Lst, nil, atom, list, order, reversed, onto}
use Rattle.pool.specs.Tally.{tally}
use Rattle.pool.specs.Laws.TallyLaws.{tally_ge}
use Rattle.pool.specs.Pool.{Cell, holder, ListAt, Chain}
use Rattle.pool.specs.Check.{check}
use Rattle.pool.specs.Laws.PoolLaws.{ListAt_unique}
use Rattle.calls.specs.Chars.{blanks}
use Rattle.calls.specs.SetUp.{set_up}
use Rattle.calls.specs.Entry.{bad_table, shown}
use Rattle.groups.specs.Stored.{verdict, list_in}
use Rattle.groups.specs.declared.Stored.{Stored}
use Rattle.groups.specs.declared.Stored.TheVariants.{Text, Groups}
use Rattle.table.specs.Limits.{cells_told}
use Rattle.promises.specs.Engine.{Engine}
use Rattle.promises.specs.StoredGrounds.{Has, Spells}
use Rattle.promises.specs.Cells.{Laid, ReadingUsesItsCells}
use Rattle.promises.specs.Machine.{assign}
use Rattle.promises.specs.Demand2.{Holds, Words, Ready, ReadingGives, FormsReadAlike, WrittenReadsBack}
use Rattle.promises.specs.Laws.TestsTell.{tells_table, tells_sound}
use Rattle.promises.specs.Laws.StoredRows.{spells_once, spells_ours}
use Rattle.promises.specs.Refuted.WrongStored.{reads_reversed, takes_late, writes_null_as_zero}
use Rattle.promises.specs.Refuted.ByRows.{no_fault}
use Rattle.promises.specs.Refuted.Computed.{storing}
use Rattle.promises.specs.Refuted.SmallTables.{held, zeros, word, one, two, two-null}
use Rattle.table.specs.declared.Form.TheVariants.{Four}

-- bytes spell one list: holder 0 has another after they were read
pub reads_another : (E : Engine) (k : Stored) (ts ws xs : List ℕ) (wrong : Lst) → Holds Four ts (λ i. nil)
    → let r = E.read k ts ws 0 xs in
    r.answer ≡ DONE → Has Four r.table 0 wrong → (verdict k xs).no ≡ DONE → list_in k xs ≢ wrong
    → ReadingGives Four E → ⊥
unfolding assign
reads_another E k ts ws xs wrong empty done has right differs d =
    let p = shown Four (E.read k ts ws 0 xs).table in
    let (l, s, h) = d k ts ws 0 xs (λ i. nil) empty done in
    let mine : l ≡ wrong = ListAt_unique p.cells (holder p 0) l wrong (h 0) has in
    differs (sym (spells_once k xs _ _ l (list_in k xs) s (spells_ours k xs right)).1 ∙ mine)

-- the atom that a list begins with
abbrev pub first : Lst → ℕ
first nil = 0
first (atom v l) = v
first (list e l) = 0

-- (1,2) is read as (2,1)
pub reads-reversed : (k : Stored) → ReadingGives Four (reads_reversed k) → ⊥
unfolding storing reversed onto ListAt
reads-reversed Text = reads_another (reads_reversed Text) Text two (zeros 4) (40 ∷ 49 ∷ 44 ∷ 50 ∷ 41 ∷ blanks 67)
    (atom 2 (atom 1 nil)) two-null refl (omega arith, refl, refl, (omega arith, refl, refl, refl)) refl
    (λ e. let z : ◌≡◌ {A = ℕ} 1 2 = ap first e in omega arith)
reads-reversed Groups = reads_another (reads_reversed Groups) Groups two (zeros 4) (5 ∷ 2 ∷ 4 ∷ [])
    (atom 2 (atom 1 nil)) two-null refl (omega arith, refl, refl, (omega arith, refl, refl, refl)) refl
    (λ e. let z : ◌≡◌ {A = ℕ} 1 2 = ap first e in omega arith)

-- ((1),2) in three cells
abbrev three : List ℕ
three = (set_up (zeros 78) 3).table

abbrev inner : Lst
inner = list (atom 1 nil) (atom 2 nil)

abbrev text : List ℕ
text = 40 ∷ 40 ∷ 49 ∷ 41 ∷ 44 ∷ 50 ∷ 41 ∷ blanks 65

abbrev groups : List ℕ
groups = 5 ∷ 3 ∷ 2 ∷ 4 ∷ []

in_order : Chain (shown Four three).cells 1 (1 ∷ 2 ∷ 3 ∷ [])
unfolding storing Chain
in_order = (refl, (λ z. omega arith), (refl, (λ z. omega arith), (refl, (λ z. omega arith), refl)))

-- the element of the first cell is the second, where the late reader has the third
pub takes_late_lem : (k : Stored) → ReadingUsesItsCells Four (takes_late k) → ⊥
unfolding storing Laid
takes_late_lem Text d =
    let r = d Text three (zeros 6) 0 text refl inner (1 ∷ 2 ∷ 3 ∷ []) (spells_ours Text text refl) in_order in
    let e : ◌≡◌ {A = ℕ} 3 2 = ap (λ (c : Cell). c.elem) r.laid.0 in
    omega arith
takes_late_lem Groups d =
    let r = d Groups three (zeros 6) 0 groups refl inner (1 ∷ 2 ∷ 3 ∷ []) (spells_ours Groups groups refl) in_order in
    let e : ◌≡◌ {A = ℕ} 3 2 = ap (λ (c : Cell). c.elem) r.laid.0 in
    omega arith

-- and the reader of the other form has the second
pub reads_apart : FormsReadAlike (takes_late Groups) → ⊥
unfolding storing
reads_apart d =
    let a : Spells Text text 72 inner = spells_ours Text text refl in
    let b : Spells Groups groups 4 inner = spells_ours Groups groups refl in
    let r = d Text Groups three (zeros 6) 0 text groups 72 4 inner a b (no_fault Text text refl)
    (no_fault Groups groups refl) in
    let e : ◌≡◌ {A = ℕ} 2 3 = word 67 r.1 in
    omega arith

ready : (ts : List ℕ) → bad_table Four ts ≡ false → check (shown Four ts) ≡ true → cells_told ts ≡ 1
    → Ready Four ts (zeros 2)
ready ts e s n = record {
  table = (tells_table Four ts).1 e;
  work = omega arith;
  sound = (tells_sound (shown Four ts)).0 s;
}

-- words that are small together are small
small : (ts : List ℕ) → tally (λ x. x) ts < 2 ^ 32 → Words ts
small ts h i = omega (arith, h, tally_ge (λ x. x) ts i 0 refl)

-- (()) is written as (0), and that is read
pub writes_null_as_zero_lem : (k : Stored) → WrittenReadsBack Four (writes_null_as_zero k) → ⊥
unfolding storing order ListAt
writes_null_as_zero_lem Text d =
    let t = held 1 0 in
    let r = d Text t (zeros 2) (zeros 72) one (zeros 2) 0 0 (list nil nil) (small t (omega arith))
    (ready t refl refl refl) (omega arith) (omega arith, refl, refl, refl) (omega arith) (λ z. omega arith) (ready one refl refl refl)
    (omega arith) refl (omega arith) in
    omega (arith, r.3.1)
writes_null_as_zero_lem Groups d =
    let t = held 1 0 in
    let r = d Groups t (zeros 2) (zeros 2) one (zeros 2) 0 0 (list nil nil) (small t (omega arith))
    (ready t refl refl refl) (omega arith) (omega arith, refl, refl, refl) (omega arith) (λ z. omega arith) (ready one refl refl refl)
    (omega arith) refl (omega arith) in
    omega (arith, r.3.1)
