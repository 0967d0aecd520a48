-- Every engine that keeps the promises stops a script where ours does, with the same table and results: the rows fix each answer, the cells
-- each table and the lists each result. By induction on the operations.
use Rattle.std.specs.Prelude.{◌≡◌, ◌≢◌, false, length, get_or}
use Rattle.std.proofs.Math.Path.{refl, sym, ap, subst}
use Rattle.std.proofs.Common.{◌∙◌, inl, inr, arith, eq-eqb, ne_eqb}
use mathlib.Core.List.{List, [], ◌∷◌, ◌++◌}
use Prim.Native.Nat.{ℕ, suc, ◌≤◌, ◌<◌}
use Rattle.std.proofs.Math.Decide.{ℕ_discrete, dec_lt}
use Rattle.answers.specs.Answers.{DONE}
use Rattle.pool.specs.Pool.{Pool}
use Rattle.pool.specs.Operations.{erase}
use Rattle.pool.specs.Laws.EraseLaws.{erases}
use Rattle.pool.specs.Laws.SoundLaws.{denoted}
use Rattle.pool.specs.Script.{PFA, ERASE, LENGTH, Operation, Effect, bad_code, refusal, effect, tells_number, performed}
use Rattle.pool.specs.Laws.ScriptLaws.{allowed}
use Rattle.pool.proofs.Whole.{effect_sound}
use Rattle.calls.specs.Entry.{work_words, entry_fault, shown, stored, over}
use Rattle.calls.specs.Laws.EntryLaws.{entry_alike}
use Rattle.calls.specs.Run.{operations, Ran, ran_in}
use Rattle.promises.specs.Engine.{Engine, ours}
use Rattle.promises.specs.Rows.{Answers}
use Rattle.promises.specs.Grounds.{operation_rows}
use Rattle.promises.specs.Machine.{Lists, says}
use Rattle.promises.specs.Demand1.{words_of, alone, Stops, end, refused, done}
use Rattle.promises.specs.Demand3.{OnlyBy, erasing}
use Rattle.promises.specs.Keeps.{Keeps, ours_keeps}
use Rattle.promises.specs.Laws.OperationRows.{operation_answers}
use Rattle.promises.specs.Laws.OperationLaws.{HoldsIn, operation-does}
use Rattle.promises.specs.Laws.Tables.{Good, stored_good, stored_same}
use Rattle.promises.specs.Laws.RunLaws.{passed_none, runs}
use Rattle.promises.specs.Laws.ScriptDoes.{one_answer as one-answered}
use Rattle.promises.specs.Laws.TestsTell.{tells_code}
use Rattle.promises.specs.Laws.OneOperation.{one-accepted, effect-stored}
use Rattle.promises.specs.Laws.FreeCells.{Number_unique}
use Rattle.promises.specs.Kept.Demand1Kept.{one_passes}
use Rattle.promises.specs.Kept.Demand3Kept.{effect-erase}
use Rattle.promises.specs.OneOutcome.{one_answer}
use Rattle.promises.specs.Same.OnePool.{does, one-pool, same_table}
use Rattle.table.specs.declared.Form.{Form}

abbrev zeros : List ℕ
zeros = 0 ∷ 0 ∷ []

abbrev told : Effect → List ℕ
told d = d.kind ∷ d.value ∷ []

-- only ERASE tells the number of cells freed
says_same : (m : Lists) (o : Operation) (n k : ℕ) → o.code ≢ ERASE → says m o n ≡ says m o k
unfolding says
says_same m o n k h = rw (ne_eqb o.code ERASE h)

says-erase : (m : Lists) (o : Operation) (n : ℕ) → o.code ≡ ERASE → says m o n ≡ 2 ∷ n ∷ []
unfolding says
says-erase m o n e = rw e

-- the pool's operation answers its rows
rows-refusal : (form : Form) → (ts : List ℕ) (o : Operation) (n : ℕ) → Good form ts → Answers (operation_rows (shown form ts) o) n
    → refusal (shown form ts) o ≡ n
rows-refusal form ts o n g a = one_answer (operation_rows (shown form ts) o) (refusal (shown form ts) o) n (operation_answers (shown form ts) o g.sound) a

-- and our run of it alone
done-alone : (form : Form) (ts ws : List ℕ) (o : Operation) → Good form ts → entry_fault work_words form ts (length ws) ≡ DONE → refusal (shown form ts) o ≡ DONE
    → (ran_in form ts ws (words_of o) zeros).answer ≡ DONE
unfolding operations
done-alone form ts ws o g w e = ap (λ (r : Ran). r.answer) (runs form ts ws (words_of o) zeros (one_passes form ts ws o g w))
    ∙ one-answered (shown form ts) o ∙ e

code_fits : (o : Operation) → bad_code o ≡ false → (1 ≤ o.code) × (o.code ≤ LENGTH)
code_fits o e = (go (dec_lt o.code PFA), up (dec_lt LENGTH o.code))
  where
    go : Dec (o.code < PFA) → 1 ≤ o.code
    go (yes l) = absurd ((tells_code o).1 e (inl l))
    go (no n) = omega arith

    up : Dec (LENGTH < o.code) → o.code ≤ LENGTH
    up (yes l) = absurd ((tells_code o).1 e (inr l))
    up (no n) = omega arith

module _ (form : Form) (E : Engine) (K : Keeps form E) (ws : List ℕ) where
  module _ (ts : List ℕ) (o : Operation) (g : Good form ts) (w : entry_fault work_words form ts (length ws) ≡ DONE) (a : Answers (operation_rows (shown form ts) o) DONE) where
    -- what its rows allow is done
    allows : (alone E ws ts o).answer ≡ DONE
    unfolding operations
    allows = let (qs, s, _) = K.first.scripts_stop ts ws (words_of o) zeros (passed_none form ts ws (words_of o) zeros (one_passes form ts ws o g w)) in only s
      where
        only : {n k : ℕ} {us qs : List ℕ} → Stops form E ws ts (o ∷ []) n k us qs → n ≡ DONE
        only {n} (refused b f) = sym (rows-refusal form ts o n g b) ∙ rows-refusal form ts o DONE g a
        only (done b end) = refl

    table_is : (alone E ws ts o).table ≡ stored form ts (effect (shown form ts) o).pool
    table_is =
        let p = shown form ts in
        let e = rows-refusal form ts o DONE g a in
        let d = done-alone form ts ws o g w e in
        let code = code_fits o (allowed p o e).opened.coded in
        let shows : shown form (alone E ws ts o).table ≡ shown form (ran_in form ts ws (words_of o) zeros).table
        = one-pool o p _ _ g.sound code.0 code.1 (does form E K.second ts ws zeros o allows)
        (does form (ours form) (ours_keeps form).second ts ws zeros o d) in
        same_table form (alone E ws ts o).table (stored form ts (effect p o).pool) (effect-stored form ts o g e).table
        (shows ∙ ap (shown form) (one-accepted form ts ws zeros o d).table)

    -- the number of ERASE is that of the cells that only a reaches
    erased_are : o.code ≡ ERASE → (n : ℕ) → (alone E ws ts o).results ≡ 2 ∷ n ∷ [] → 2 ∷ n ∷ [] ≡ told (effect (shown form ts) o)
    erased_are h n q =
        let code : words_of o ≡ erasing o.a o.b o.v = ap (λ (c : ℕ). c ∷ o.a ∷ o.b ∷ o.v ∷ []) h in
        let c = (K.third.erase_counts ts ws zeros o.a o.b o.v (subst (λ (ss : List ℕ). (E.run ts ws ss zeros).answer ≡ DONE) code allows)).1 in
        let r : n ≡ get_or (E.run ts ws (erasing o.a o.b o.v) zeros).results 1 0
        = sym (ap (λ (qs : List ℕ). get_or qs 1 0) q) ∙ ap (λ (ss : List ℕ). get_or (E.run ts ws ss zeros).results 1 0) code in
        let u : n ≡ (erase (shown form ts) o.a).1 = r ∙ Number_unique (OnlyBy (shown form ts) o.a) c (erases (shown form ts) o.a g.sound).number in
        let d : effect (shown form ts) o ≡ tells_number (erase (shown form ts) o.a).1 (erase (shown form ts) o.a).0
        = ap (λ (x : ℕ). effect (shown form ts) (record { code = x; a = o.a; b = o.b; v = o.v })) h ∙ effect-erase (shown form ts) o.a o.b o.v in
        ap (λ (x : ℕ). 2 ∷ x ∷ []) u ∙ sym (ap told d)

    results_are : (alone E ws ts o).results ≡ told (effect (shown form ts) o)
    results_are = go (ℕ_discrete o.code ERASE) (K.second.operations_give ts ws zeros o m have allows).1
      where
        m : Lists
        m i = (denoted (shown form ts) g.sound i).0

        have : HoldsIn (shown form ts) m
        have i = (denoted (shown form ts) g.sound i).1

        go : Dec (o.code ≡ ERASE) → (n : ℕ) × ((alone E ws ts o).results ≡ over (says m o n) zeros) → (alone E ws ts o).results ≡ told (effect (shown form ts) o)
        go (no h) (n, e) =
            let (k, f) = (operation-does (shown form ts) o g.sound (allowed (shown form ts) o (rows-refusal form ts o DONE g a))).words m have in
            e ∙ ap (λ (qs : List ℕ). over qs zeros) (says_same m o n k h ∙ sym f)
        go (yes h) (n, e) =
            let q : (alone E ws ts o).results ≡ 2 ∷ n ∷ [] = e ∙ ap (λ (qs : List ℕ). over qs zeros) (says-erase m o n h) in
            q ∙ erased_are h n q

  -- where the operations stop, and with what
  pub stops_as : (os : List Operation) {ts us qs : List ℕ} {n k : ℕ} → Good form ts → entry_fault work_words form ts (length ws) ≡ DONE → Stops form E ws ts os n k us qs
      → let r = performed (shown form ts) os in (n ≡ r.answer) × (k ≡ r.done) × (us ≡ stored form ts r.pool) × (qs ≡ r.results)
  unfolding performed
  stops_as [] {ts} g w end = (refl, refl, sym (stored_same form ts g.table), refl)
  stops_as (o ∷ os) {ts} {n = n} g w (refused a f) =
      let e = rows-refusal form ts o n g a in
      rw (ne_eqb (refusal (shown form ts) o) DONE (λ z. f (sym e ∙ z))) (sym e, refl, sym (stored_same form ts g.table), refl)
  stops_as (o ∷ os) {ts} {us} g w (done {qs = qs} {n = n} {k = k} a s) =
      let e = rows-refusal form ts o DONE g a in
      let q = (effect (shown form ts) o).pool in
      let st = effect-stored form ts o g e in
      let next = subst (λ (vs : List ℕ). Stops form E ws vs os n k us qs) (table_is ts o g w a) s in
      let (x, y, z, v) = stops_as os (stored_good form ts q st (effect_sound (shown form ts) o g.sound (allowed (shown form ts) o e))) (entry_alike work_words (length ws) form form (stored form ts q) ts st.cells ∙ w) next in
      rw (eq-eqb (refusal (shown form ts) o) DONE e) (
        x ∙ ap (λ (p : Pool). (performed p os).answer) st.shows,
        ap suc (y ∙ ap (λ (p : Pool). (performed p os).done) st.shows),
        z ∙ st.again _ ∙ ap (λ (p : Pool). stored form ts (performed p os).pool) st.shows,
        ap (λ (rs : List ℕ). rs ++ qs) (results_are ts o g w a)
            ∙ ap (λ (rs : List ℕ). told (effect (shown form ts) o) ++ rs) (v ∙ ap (λ (p : Pool). (performed p os).results) st.shows),
      )
