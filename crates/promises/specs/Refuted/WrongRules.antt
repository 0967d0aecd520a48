-- Engines with another test for soundness or other rules for operations, each in one way: the slips that document 01
-- warns of, and some that free or copy where they should not.
use Rattle.std.specs.Prelude.{Bool, true, cond, not, ◌&&◌, ◌||◌, List, [], ◌∷◌, ℕ, zero, suc, ◌+◌, ◌-◌, eqb, ltb, length, set}
use Rattle.answers.specs.Answers.{DONE, UNSOUND, unless, SAME, SHARED}
use Rattle.pool.specs.Tally.{occ}
use Rattle.pool.specs.Pool.{Pool, count_of, next_of, set_count, set_next, holder, frees, into}
use Rattle.pool.specs.Erase.{Dropping, step, total}
use Rattle.pool.specs.Operations.{decap, inv, last_of}
use Rattle.pool.specs.Check.{check, chained}
use Rattle.pool.specs.Script.{DECAP, BORROW, ERASE, INV, CINV, CONC, Operation, Effect, Run, refusal, effect, tells_first, tells_number, tells_nothing, stops, goes_on, pool_after, performed}
use Rattle.calls.specs.Entry.{work_words, entry_fault, shown, used}
use Rattle.calls.specs.Run.{Ran, operations, script_fault, not_run, ran_to}
use Rattle.promises.specs.Engine.{Engine}
use Rattle.promises.specs.Refuted.WrongEngines.{running, leaving}
use Rattle.table.specs.declared.Form.TheVariants.{Four}

-- ours with another test for soundness and other rules for operations

unfoldable pub performed_by : (Pool → Operation → ℕ) → (Pool → Operation → Effect) → Pool → List Operation → Run
performed_by f g p [] = stops p DONE
performed_by f g p (o ∷ os) = let r = performed_by f g (g p o).pool os in cond (eqb (f p o) DONE) (goes_on (g p o) r) (stops p (f p o))

unfoldable pub ran_by : (Pool → Bool) → (Pool → List Operation → Run) → List ℕ → List ℕ → List ℕ → List ℕ → Ran
ran_by sound perform ts ws ss rs =
    unless (entry_fault work_words Four ts (length ws)) (λ n. not_run n ts ws rs)
    (unless (script_fault ss rs) (λ n. not_run n ts ws rs)
    (cond (not (sound (shown Four ts))) (not_run UNSOUND ts (used Four ts ws) rs)
    (ran_to Four (perform (shown Four ts) (operations ss)) ts ws rs)))

abbrev pub ruled : (Pool → Operation → ℕ) → (Pool → Operation → Effect) → Engine
ruled f g = running (ran_by check (performed_by f g))

-- passes over a refused operation: the answer and the number done are right, and the later ones are done too
abbrev pub goes_on_refused : Engine
goes_on_refused = leaving (λ ts ws ss rs. (ran_by check (performed_by (λ p o. DONE) (λ p o. tells_nothing (pool_after p o))) ts ws ss rs).table)

-- does its work, and has one answer for every operation: nothing to say
abbrev pub constant_answer : Engine
constant_answer = ruled refusal (λ p o. tells_nothing (effect p o).pool)

-- BORROW that copies where there is room, by CINV into b and INV of that
abbrev inverts : Operation → Operation
inverts o = record { code = CINV; a = o.a; b = o.b; v = 0 }

abbrev copies : Pool → Operation → Effect
copies p o = cond (eqb o.code BORROW && eqb (refusal p (inverts o)) DONE) (tells_nothing (inv (effect p (inverts o)).pool o.b)) (effect p o)

abbrev pub copying : Engine
copying = ruled refusal copies

-- allows what ours refuses
abbrev allowing : (Pool → Operation → Bool) → Engine
allowing f = ruled (λ p o. cond (f p o) DONE (refusal p o)) effect

-- DECAP that does not ask whether its cell is shared
abbrev pub decaps_shared : Engine
decaps_shared = allowing (λ p o. eqb o.code DECAP && eqb (refusal p o) SHARED)

-- INV tested by the first count only
abbrev pub first_count_only : Engine
first_count_only = allowing (λ p o. eqb o.code INV && (eqb (refusal p o) SHARED && eqb (count_of p.cells (holder p o.a)) 1))

-- ERASE by other steps
unfoldable pub stepping : (Dropping → Dropping) → ℕ → Dropping → Dropping
stepping f zero s = s
stepping f (suc k) s = stepping f k (f s)

abbrev erasing : (Dropping → Dropping) → Engine
erasing f = ruled refusal (λ p o. cond (eqb o.code ERASE) (erases p o.a) (effect p o))
  where
    erases : Pool → ℕ → Effect
    erases p a =
        let s = stepping f (total p.cells + total p.cells) (record { free = p.free; cells = p.cells; here = holder p a; waiting = 0; freed = 0 }) in
        tells_number s.freed (record { free = s.free; holders = set p.holders a 0; cells = s.cells })

abbrev stepped : Dropping → Dropping
stepped s = step s.free s.cells s.here s.waiting s.freed

-- it goes on behind a cell whose count is not yet 0
abbrev pub lowers_behind : Engine
lowers_behind = erasing (λ s.
    let x = s.here in
    let t = stepped s in
    cond (ltb 1 (count_of s.cells x)) (record { free = t.free; cells = t.cells; here = next_of s.cells x; waiting = t.waiting; freed = t.freed }) t)

-- it puts a cell that waits at the end of the waiting chain: first come, first freed
abbrev pub waits_in_line : Engine
waits_in_line = erasing (λ s.
    let b = s.waiting in
    let t = stepped s in
    let x = t.waiting in
    let z = last_of (length s.cells) s.cells b in
    cond (eqb b 0 || not (eqb x s.here)) t
    (record { free = t.free; cells = set_next (set_next t.cells x 0) z x; here = t.here; waiting = b; freed = t.freed }))

-- DECAP that gives the tail's count another value
abbrev recounts : (ℕ → ℕ) → Engine
recounts f = ruled refusal (λ p o. cond (eqb o.code DECAP) (tells_first p o.a (retold (decap p o.a o.b) (holder (decap p o.a o.b) o.a))) (effect p o))
  where
    retold : Pool → ℕ → Pool
    retold q x = record { free = q.free; holders = q.holders; cells = set_count q.cells x (f (count_of q.cells x)) }

abbrev pub decap_lowers : Engine
decap_lowers = recounts (λ n. n - 1)

abbrev pub decap_raises : Engine
decap_raises = recounts suc

-- CONC with one holder named twice
abbrev pub joins_itself : Engine
joins_itself = allowing (λ p o. eqb o.code CONC && eqb (refusal p o) SAME)

-- a count check: every count is the arrows, and the free chain is right, but nothing asks what a holder reaches
unfoldable pub counts_right : ℕ → Pool → Bool
counts_right zero p = true
counts_right (suc k) p = eqb (count_of p.cells (suc k)) (occ p.holders (suc k) + into p.cells (suc k)) && counts_right k p

abbrev pub counts_only : Engine
counts_only = running (ran_by (λ p. chained (frees p.cells) p.cells p.free && counts_right (length p.cells) p) performed)
