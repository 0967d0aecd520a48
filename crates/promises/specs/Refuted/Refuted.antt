-- The engines that document 01 wants to see refused: each breaks the statement that its theorem names, on a table of
-- one or two cells.
use Rattle.std.specs.Prelude.{◌≡◌, refl, ◌≢◌, ◌⊎◌, List, ◌++◌, ℕ, zero, suc, ◌≤◌, ◌<◌, length}
use Rattle.std.proofs.Common.{sym, ◌∙◌, subst, inl, inr, arith}
use Rattle.std.proofs.lemmas.Bool.{false≢true}
use Rattle.answers.specs.Answers.{DONE, TABLE_SIZE}
use Rattle.lists.specs.Lst.{Lst, nil, atom}
use Rattle.pool.specs.Tally.{Number, start, hit, miss}
use Rattle.pool.specs.Pool.{Cell, Pool, count_of, holder, ListAt, Walk}
use Rattle.pool.specs.Script.{PFA, LENGTH, Operation}
use Rattle.calls.specs.Entry.{shown}
use Rattle.promises.specs.Engine.{Reached, made, ran_on}
use Rattle.promises.specs.Rows.{None}
use Rattle.promises.specs.Grounds.{BadSize, BadCode, BadHolder, Shared, before_room, with_b, taking_first, filling_b}
use Rattle.promises.specs.Machine.{says}
use Rattle.promises.specs.Demand1.{SetUpRefusals}
use Rattle.promises.specs.Demand2.{OperationsGive, ScriptsGive}
use Rattle.promises.specs.Demand3.{Used, erasing, EraseCounts, NoRoomToPerform}
use Rattle.promises.specs.Laws.Tells.{tells_among}
use Rattle.promises.specs.Refuted.WrongEngines.{always_refuses, does_nothing, first_only, invents_number, never_lends}
use Rattle.promises.specs.Refuted.WrongRules.{constant_answer}
use Rattle.promises.specs.Refuted.Computed.{computed}
use Rattle.promises.specs.Refuted.SmallTables.{all-null, full, one, one-null, prefix, prefixing, two, two-null, word, zeros}
use Rattle.table.specs.declared.Form.TheVariants.{Four}

-- refusing everything: a set-up of the right size is no row's
pub always_refuses_lem : SetUpRefusals Four always_refuses → ⊥
always_refuses_lem d = go (d (zeros 70) 1 64)
  where
    fits : BadSize Four 64 1 70 → ⊥
    fits (inl h) = omega arith
    fits (inr (inl h)) = omega arith
    fits (inr (inr (inl h))) = false≢true (sym h)
    fits (inr (inr (inr h))) = h refl

    go : (BadSize Four 64 1 70 × (TABLE_SIZE ≡ TABLE_SIZE)) ⊎ ((BadSize Four 64 1 70 → ⊥) × (TABLE_SIZE ≡ DONE)) → ⊥
    go (inl h) = fits h.0
    go (inr h) = omega (arith, h.1)

-- a null holder has no atom
pub no_atom : (cs : List Cell) (c v : ℕ) (l : Lst) → c ≡ 0 → ListAt cs c (atom v l) → ⊥
unfolding ListAt
no_atom cs c v l e w = let z = subst (λ (x : ℕ). ListAt cs x (atom v l)) e w in omega (arith, z.0)

-- one answer for all: LENGTH says a number
pub constant_answer_lem : OperationsGive Four constant_answer → ⊥
unfolding computed says
constant_answer_lem d =
    let o : Operation = record { code = LENGTH; a = 0; b = 0; v = 0 } in
    let (n, e) = (d one (zeros 2) (zeros 2) o (λ i. nil) one-null refl).1 in
    let k : ◌≡◌ {A = ℕ} 3 2 = word 0 e in
    omega arith

-- changing nothing: a PFA that is done gives its holder the atom
pub does-nothing : OperationsGive Four does_nothing → ⊥
unfolding computed
does-nothing d = no_atom (shown Four one).cells 0 5 nil refl ((d one (zeros 2) (zeros 2) (prefixing 0 5) (λ i. nil) one-null refl).0 0)

-- the first operation only: the second PFA gives its holder an atom too
pub first_only_lem : ScriptsGive Four first_only → ⊥
unfolding computed
first_only_lem d =
    let r = first_only.run two (zeros 4) (prefix 0 5 ++ prefix 1 7) (zeros 4) in
    no_atom (shown Four r.table).cells 0 7 nil refl ((d two (zeros 4) (prefix 0 5 ++ prefix 1 7) (zeros 4) (λ i. nil) two-null).0 1)

number_le : {P : ℕ → Type 0} {k n : ℕ} → Number P k n → n ≤ k
number_le start = omega arith
number_le (hit p r) = omega (arith, number_le r)
number_le (miss p r) = omega (arith, number_le r)

-- a made-up number: it counts cells, and there is one
pub invents_number_lem : EraseCounts Four invents_number → ⊥
unfolding computed
invents_number_lem d =
    let t = full invents_number in
    let n = (d t (zeros 2) (zeros 2) 0 0 0 refl).1 in
    omega (arith, number_le n)

-- PFA into a holder is refused for nothing but lack of room
pub pfa_passes : (p : Pool) (v : ℕ) → 0 < length p.holders → None (before_room p (prefixing 0 v))
pfa_passes p v some = (code, (held, ((λ s. (tells_among PFA with_b).1 refl s.0), ((λ s. (tells_among PFA taking_first).1 refl s.0), ((λ s. (tells_among PFA filling_b).1 refl s.0), (shared, tt))))))
  where
    code : BadCode (prefixing 0 v) → ⊥
    code (inl h) = omega arith
    code (inr h) = omega arith

    held : BadHolder p (prefixing 0 v) → ⊥
    held (inl h) = omega arith
    held (inr h) = (tells_among PFA with_b).1 refl h.0

    shared : Shared p (prefixing 0 v) → ⊥
    shared (inl h) = omega (arith, h.0)
    shared (inr (inl h)) = omega (arith, h.0)
    shared (inr (inr h)) = omega (arith, h.0)

-- nothing is reached from null
from_null : (cs : List Cell) (n b c : ℕ) → b ≡ 0 → c ≢ 0 → Walk cs n b c → ⊥
unfolding Walk
from_null cs zero b c e n w = n (sym w ∙ e)
from_null cs (suc k) b c e n w = let z = subst (λ (x : ℕ). 0 < count_of cs x) e w.1.0 in omega arith

pub none-used : (p : Pool) (m : ℕ) → p.holders ≡ zeros m → (c : ℕ) → c ≢ 0 → Used p c → ⊥
unfolding ListAt
none-used p m e c n (h, _, (k, w)) = from_null p.cells k (holder p h) c (all-null p m e h) n w

-- the one cell erased, and not free again
abbrev pub lost : List ℕ
lost = (never_lends.run (full never_lends) (zeros 2) (erasing 0 0 0) (zeros 2)).table

pub lost_reached : Reached never_lends lost
unfolding computed
lost_reached = ran_on (zeros 2) (erasing 0 0 0) (zeros 2) (ran_on (zeros 2) (prefix 0 5) (zeros 2) (made (zeros 70) 1 64 refl))

-- freed cells out of use: no holder reaches the one cell, and one is needed
pub never_lends_lem : NoRoomToPerform Four never_lends → ⊥
unfolding computed
never_lends_lem d =
    let k : Number (Used (shown Four lost)) 1 0 = miss (none-used (shown Four lost) 64 refl 1 (λ z. omega arith)) start in
    let n = (d lost (zeros 2) (zeros 2) (prefixing 0 5) 0 1 (inl lost_reached) (λ h. omega arith) (omega arith) (pfa_passes (shown Four lost) 5 (omega arith)) k (inl (inl refl, refl))).0 refl in
    omega (arith, n)
