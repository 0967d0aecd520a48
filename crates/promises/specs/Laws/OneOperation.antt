-- A script of one operation that is done: the table afterwards is the operation's effect, and the results are what it says.
use Rattle.std.specs.Prelude.{◌≡◌, List, [], ◌∷◌, ℕ}
use Rattle.std.proofs.Common.{sym, ap, ◌∙◌}
use Rattle.answers.specs.Answers.{DONE}
use Rattle.pool.specs.Script.{Operation, Run, refusal, effect}
use Rattle.pool.proofs.Whole.{effect_alike, effect_sound}
use Rattle.calls.specs.Entry.{shown, stored, over}
use Rattle.calls.specs.Run.{Ran, operations, ran_in}
use Rattle.pool.specs.Laws.ScriptLaws.{allowed}
use Rattle.promises.specs.Demand1.{words_of}
use Rattle.promises.specs.Laws.Tables.{Good, Stored, stores}
use Rattle.promises.specs.Laws.RunLaws.{passed_good, run_ways}
use Rattle.promises.specs.Laws.ScriptDoes.{one-done, one_answer}
use Rattle.table.specs.declared.Form.{Form}

pub record Accepted (form : Form) (ts rs : List ℕ) (o : Operation) (r : Ran) : Type 0 where
  pub allows : refusal (shown form ts) o ≡ DONE
  pub good : Good form ts
  pub table : r.table ≡ stored form ts (effect (shown form ts) o).pool
  pub results : r.results ≡ over ((effect (shown form ts) o).kind ∷ (effect (shown form ts) o).value ∷ []) rs

pub one-accepted : (form : Form) → (ts ws rs : List ℕ) (o : Operation) → (ran_in form ts ws (words_of o) rs).answer ≡ DONE → Accepted form ts rs o (ran_in form ts ws (words_of o) rs)
unfolding operations
one-accepted form ts ws rs o = run_ways form ts ws (words_of o) rs (λ (r : Ran). r.answer ≡ DONE → Accepted form ts rs o r) (λ n us m e. absurd (m e))
    (λ h e.
    let a = sym (one_answer (shown form ts) o) ∙ e in
    let d = one-done (shown form ts) o a in
    record {
      allows = a;
      good = passed_good form h;
      table = ap (λ (r : Run). stored form ts r.pool) d;
      results = ap (λ (r : Run). over r.results rs) d;
    })

pub effect-stored : (form : Form) → (ts : List ℕ) (o : Operation) → Good form ts → refusal (shown form ts) o ≡ DONE → Stored form ts (effect (shown form ts) o).pool
effect-stored form ts o g a = stores form ts (effect (shown form ts) o).pool g.table (effect_alike (shown form ts) o) (effect_sound (shown form ts) o g.sound (allowed (shown form ts) o a))
