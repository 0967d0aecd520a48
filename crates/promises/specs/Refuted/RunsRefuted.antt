-- Script runs that do not stop as they should, or that lose cells or give back cells that are in use: each breaks the
-- statement that its theorem names.
use Rattle.std.specs.Prelude.{◌≡◌, refl, ◌≢◌, List, [], ◌∷◌, ◌++◌, ℕ}
use Rattle.std.proofs.Common.{sym, ap, ◌∙◌, subst, ⊎_elim, arith}
use Rattle.answers.specs.Answers.{DONE, NULL, NO_ROOM}
use Rattle.pool.specs.Pool.{Cell, next_of, holder, Walk, Chain}
use Rattle.pool.specs.Script.{DECAP, BORROW, Operation}
use Rattle.calls.specs.Entry.{shown}
use Rattle.calls.specs.Run.{operations, script_fault}
use Rattle.promises.specs.Engine.{Engine, made, ran_on}
use Rattle.promises.specs.Rows.{row, Answers}
use Rattle.promises.specs.Grounds.{NoRoom, before_room, operation_rows}
use Rattle.promises.specs.Laws.Tells.{passed_over}
use Rattle.promises.specs.Laws.RunLaws.{passed_none}
use Rattle.promises.specs.Demand1.{Stops, end, refused, done, ScriptsStop}
use Rattle.promises.specs.Demand3.{Free, FreeOrReached, NeverBoth}
use Rattle.promises.specs.Refuted.WrongRules.{goes_on_refused, decaps_shared}
use Rattle.promises.specs.Refuted.WrongEngines.{undoes_all, never_lends}
use Rattle.promises.specs.Refuted.Computed.{computed}
use Rattle.promises.specs.Refuted.SmallTables.{zeros, prefix, prefixing, one}
use Rattle.promises.specs.Refuted.Refuted.{pfa_passes, none-used, lost, lost_reached}
use Rattle.promises.specs.Refuted.SlipsRefuted.{none_free}
use Rattle.table.specs.declared.Form.TheVariants.{Four}

-- where no operation is done the table stays, and the first is refused by its own rows
module _ {E : Engine} {ws : List ℕ} where
  stays : {ts us qs : List ℕ} {os : List Operation} {n k : ℕ} → Stops Four E ws ts os n k us qs → k ≡ 0 → us ≡ ts
  stays end z = refl
  stays (refused a d) z = refl
  stays (done a s) z = absurd (omega arith)

  first-refused : {ts us : List ℕ} {o : Operation} {qs : List ℕ} {os : List Operation} {n k : ℕ} → Stops Four E ws ts (o ∷ os) n k us qs → k ≡ 0 → Answers (operation_rows (shown Four ts) o) n
  first-refused (refused a d) z = a
  first-refused (done a s) z = absurd (omega arith)

-- two operations on a table of one cell and no list
stopped : (E : Engine) → ScriptsStop Four E → (ss : List ℕ) → script_fault ss (zeros 4) ≡ DONE
    → let r = E.run one (zeros 2) ss (zeros 4) in (qs : List ℕ) × Stops Four E (zeros 2) one (operations ss) r.answer r.count r.table qs
unfolding computed
stopped E d ss h = let (qs, s, _) = d one (zeros 2) ss (zeros 4) (passed_none Four one (zeros 2) ss (zeros 4) (record { entry = refl; script = h; sound = refl })) in (qs, s)

abbrev decap : ℕ → ℕ → List ℕ
decap a b = DECAP ∷ a ∷ b ∷ 0 ∷ []

-- DECAP of a null list is refused, and PFA behind it is done all the same
pub goes_on-refused : ScriptsStop Four goes_on_refused → ⊥
unfolding computed
goes_on-refused d = let e : ◌≡◌ {A = ℕ} 1 0 = ap (λ (us : List ℕ). holder (shown Four us) 0) (stays (stopped goes_on_refused d (decap 0 1 ++ prefix 0 5) refl).1 refl) in omega arith

-- DECAP of a null list is refused, and PFA before it is not done: its own rows do not say NULL
pub undoes_all_lem : ScriptsStop Four undoes_all → ⊥
unfolding computed
undoes_all_lem d =
    let p = shown Four one in
    let rows = first-refused (stopped undoes_all d (prefix 0 5 ++ decap 1 2) refl).1 refl in
    ⊎_elim (λ h. omega (arith, h.1)) (λ h. omega (arith, h.1))
    (passed_over (before_room p (prefixing 0 5)) (row NO_ROOM (NoRoom p (prefixing 0 5)) ∷ []) (λ m. m ≡ DONE) NULL (pfa_passes p 5 (omega arith)) rows)

-- neither free nor in use: the one cell, erased
pub never_lends_loses : FreeOrReached Four never_lends → ⊥
unfolding computed
never_lends_loses d = ⊎_elim (none_free (shown Four lost) refl 1) (none-used (shown Four lost) 64 refl 1 (λ z. omega arith)) (d lost lost_reached 1 (omega arith, omega arith))

-- a table of one cell after (5) in holder 0, lent to holder 1 too, and the operations ss
abbrev lent : List ℕ → List ℕ
lent ss = prefix 0 5 ++ (BORROW ∷ 0 ∷ 1 ∷ 0 ∷ ss)

abbrev after : Engine → List ℕ → List ℕ
after E ss = (E.run one (zeros 2) (lent ss) (zeros 8)).table

-- DECAP of a shared cell gives it back while holder 1 has it
pub decaps_shared_lem : NeverBoth Four decaps_shared → ⊥
unfolding computed Chain Walk
decaps_shared_lem d =
    let t = after decaps_shared (decap 0 2) in
    let free : Free (shown Four t) 1 = (1 ∷ [], (refl, (λ z. omega arith), refl), omega arith) in
    d t (ran_on (zeros 2) (lent (decap 0 2)) (zeros 8) (made (zeros 70) 1 64 refl)) 1 (omega arith, omega arith) free (1, omega arith, (0, refl))

-- a cell that follows itself is on no chain
no_chain : (cs : List Cell) (c : ℕ) → c ≢ 0 → next_of cs c ≡ c → (fs : List ℕ) → Chain cs c fs → ⊥
unfolding Chain
no_chain cs c n e [] k = n k
no_chain cs c n e (f ∷ fs) (q, _, k) = no_chain cs c n e fs (subst (λ (x : ℕ). Chain cs x fs) (ap (next_of cs) (sym q) ∙ e) k)

-- DECAP of both holders frees the cell twice: it follows itself, and no chain ends
pub decaps_shared_twice : FreeOrReached Four decaps_shared → ⊥
unfolding computed
decaps_shared_twice d =
    let ss = decap 0 2 ++ decap 1 2 in
    let t = after decaps_shared ss in
    ⊎_elim (λ f. no_chain (shown Four t).cells 1 (λ z. omega arith) refl f.0 f.1) (none-used (shown Four t) 64 refl 1 (λ z. omega arith))
    (d t (ran_on (zeros 2) (lent ss) (zeros 8) (made (zeros 70) 1 64 refl)) 1 (omega arith, omega arith))
