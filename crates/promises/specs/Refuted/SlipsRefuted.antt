-- The slips that document 01 warns of: each breaks the statement that its theorem names.
use Rattle.std.specs.Prelude.{◌≡◌, refl, List, [], ◌∷◌, ◌++◌, ℕ, zero, suc, ◌<◌}
use Rattle.std.proofs.Common.{sym, ◌∙◌, inl, arith}
use Rattle.answers.specs.Answers.{DONE}
use Rattle.lists.specs.Lst.{nil, atom}
use Rattle.pool.specs.Tally.{occ, tally}
use Rattle.pool.specs.Laws.Fresh.{zero-at}
use Rattle.pool.specs.Pool.{Pool, ListAt, Walk, Chain, Sound}
use Rattle.pool.specs.Script.{DECAP, BORROW, INV, CONC, Operation}
use Rattle.calls.specs.Entry.{shown}
use Rattle.promises.specs.Engine.{Engine, Reached, made, ran_on}
use Rattle.promises.specs.Grounds.{run_rows, with_b}
use Rattle.promises.specs.Laws.Tells.{first-none, tells_among}
use Rattle.promises.specs.Machine.{Lists}
use Rattle.promises.specs.Demand1.{RunRefusals}
use Rattle.promises.specs.Demand2.{Holds, OthersStay}
use Rattle.promises.specs.Demand3.{Free, CountsAreArrows, EraseFrees, NoListContainsItself}
use Rattle.promises.specs.Refuted.WrongRules.{first_count_only, lowers_behind, decap_lowers, decap_raises, joins_itself, counts_only}
use Rattle.promises.specs.Refuted.Computed.{computed}
use Rattle.promises.specs.Refuted.SmallTables.{zeros, prefix, two}
use Rattle.pool.specs.Setters.{cell}
use Rattle.table.specs.View.{shape, words}
use Rattle.table.specs.declared.Form.TheVariants.{Four}

-- holder 0 has (5,7) and holder 1 its tail
abbrev tail_shared : List ℕ
tail_shared = (first_count_only.run two (zeros 4) (prefix 0 7 ++ (BORROW ∷ 0 ∷ 1 ∷ 0 ∷ prefix 0 5)) (zeros 6)).table

abbrev lists : Lists
lists zero = atom 5 (atom 7 nil)
lists (suc zero) = atom 7 nil
lists (suc (suc i)) = nil

have : Holds Four tail_shared lists
unfolding computed ListAt
have zero = (omega arith, refl, refl, (omega arith, refl, refl, refl))
have (suc zero) = (omega arith, refl, refl, refl)
have (suc (suc i)) = zero-at 62 i 0 refl

-- INV that looks at the first count only turns cells of another holder's list
pub first_count_only_lem : OthersStay Four first_count_only → ⊥
unfolding computed ListAt
first_count_only_lem d =
    let o : Operation = record { code = INV; a = 0; b = 1; v = 0 } in
    let w = d tail_shared (zeros 4) (zeros 2) o lists have refl 1 (λ z. omega arith) (λ u. absurd ((tells_among INV with_b).1 refl u)) in
    omega (arith, w.3)

-- nothing is free where the chain is empty
pub none_free : (p : Pool) → p.free ≡ 0 → (c : ℕ) → Free p c → ⊥
unfolding Chain tally
none_free p e c (fs, k, o) = go fs k o
  where
    go : (fs : List ℕ) → Chain p.cells p.free fs → 0 < occ fs c → ⊥
    go [] k o = omega arith
    go (f ∷ fs) k o = k.1 (sym k.0 ∙ e)

-- a table that the engine itself has made of two cells
abbrev after : Engine → List ℕ → List ℕ
after E ss = (E.run two (zeros 4) ss (zeros 6)).table

-- (5,7) in holder 0
abbrev pair : List ℕ
pair = prefix 0 7 ++ prefix 0 5

abbrev shared : List ℕ
shared = pair ++ (BORROW ∷ 0 ∷ 1 ∷ 0 ∷ [])

-- ERASE that goes on behind a shared cell frees one that another holder reaches
pub lowers_behind_lem : EraseFrees Four lowers_behind → ⊥
unfolding computed Walk Chain
lowers_behind_lem d =
    let t = after lowers_behind shared in
    let only = (d t (zeros 4) (zeros 2) 0 0 0 refl 1 (omega arith, omega arith)).0 (none_free (shown Four t) refl 1, (1 ∷ [], (refl, (λ z. omega arith), refl), omega arith)) in
    only.1 1 (λ z. omega arith) (1, (1, (omega arith, inl refl), refl))

-- after DECAP one arrow ends at the tail as before, the holder's for the cell's

abbrev decapped : List ℕ
decapped = pair ++ (DECAP ∷ 0 ∷ 1 ∷ 0 ∷ [])

pub decap_lowers_lem : CountsAreArrows Four decap_lowers → ⊥
unfolding computed
decap_lowers_lem d =
    let t = after decap_lowers decapped in
    let r : Reached decap_lowers t = ran_on (zeros 4) decapped (zeros 6) (made (zeros 74) 2 64 refl) in
    let e = d t r 1 (omega arith, omega arith) in
    omega (arith, e)

pub decap_raises_lem : CountsAreArrows Four decap_raises → ⊥
unfolding computed
decap_raises_lem d =
    let t = after decap_raises decapped in
    let r : Reached decap_raises t = ran_on (zeros 4) decapped (zeros 6) (made (zeros 74) 2 64 refl) in
    let e = d t r 1 (omega arith, omega arith) in
    omega (arith, e)

-- CONC with one holder named twice makes a ring
pub joins_itself_lem : NoListContainsItself Four joins_itself → ⊥
unfolding computed Walk
joins_itself_lem d =
    let ss = prefix 0 5 ++ (CONC ∷ 0 ∷ 0 ∷ 0 ∷ []) in
    let r : Reached joins_itself (after joins_itself ss) = ran_on (zeros 4) ss (zeros 6) (made (zeros 74) 2 64 refl) in
    d (after joins_itself ss) r 1 0 (1, (omega arith, inl refl), refl)

-- one cell that follows itself, counted once, and no holder reaches it
abbrev ring : List ℕ
ring = words (shape Four 64 1) (record { free = 0; holders = zeros 64; cells = cell 0 0 1 1 ∷ [] })

ring-unsound : Sound (shown Four ring) → ⊥
unfolding computed Walk
ring-unsound s = s.acyclic 1 0 (omega arith) (1, (omega arith, inl refl), refl)

-- counts alone do not see that ring
pub counts_only_lem : RunRefusals Four counts_only → ⊥
unfolding computed
counts_only_lem d = let (n, _) = first-none (run_rows Four ring (zeros 2) [] []) (λ n. Unit {0}) DONE ((λ z. omega arith), ((λ z. omega arith), ((λ z. omega arith), ((λ z. omega arith), ((λ z. omega arith), tt))))) (d ring (zeros 2) [] []) in
    n.1.1.1.1.0 ring-unsound
