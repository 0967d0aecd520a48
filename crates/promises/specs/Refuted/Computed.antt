-- What the calls compute with, to unfold all of it at once: the text check with `checked`, set-up and script runs with
-- `computed`, moves with `moved`, and reading and writing with `storing`.
use Rattle.pool.specs.Tally.{same, tally}
use Rattle.pool.specs.Pool.{mark, frees, lives, if_live, gives, sends}
use Rattle.pool.specs.Check.{check, peeled?, turns, popped, pop, arrow, meet, lowered, named, chained}
use Rattle.pool.specs.Erase.{visit, step, dropping, total, dropped}
use Rattle.pool.specs.Operations.{laid, fresh, share, item_of, pfa, decap, borrow, erase, flip, inv, last_of, conc_at, conc, span, any_shared}
use Rattle.pool.specs.Script.{refusal, effect, pool_after, performed}
use Rattle.table.specs.Laws.Computes.{computes}
use Rattle.calls.specs.SetUp.{set_up_in}
use Rattle.calls.specs.Entry.{entry_fault}
use Rattle.calls.specs.Run.{operations, script_fault, ran_in}
use Rattle.text.specs.Text.{others, scanned, size_fault, verdict}
use Rattle.lists.specs.Lst.{len, extent}
use Rattle.pool.specs.Operations.{load, read, list_from}
use Rattle.text.specs.Marks.{list_in}
use Rattle.groups.specs.Groups as groups
use Rattle.groups.specs.Reading as reading
use Rattle.groups.specs.Writing as writing
use Rattle.calls.specs.Read.{reading_in}
use Rattle.calls.specs.Write.{writing_in}
use Rattle.calls.specs.Move.{moved_from}
use Rattle.promises.specs.Machine.{assign, turn, turn_all}
use Rattle.promises.specs.Refuted.WrongRules.{performed_by, ran_by, stepping, counts_right}
use Rattle.promises.specs.Refuted.WrongStored.{load_late, null_as_zero}
use Rattle.promises.specs.Refuted.GroupRules.{tokens_but, tokens_high, run_by, trace_by}
use Rattle.promises.specs.Refuted.WrongGroupWriters.{high_f, elements_by, judged_late}

unfoldable pub checked : Unit {0}
unfolding others size_fault verdict scanned
checked = tt

unfoldable pub computed : Unit {0}
unfolding same tally mark frees lives if_live gives sends check peeled? turns popped pop arrow meet lowered named chained visit step dropping total dropped laid fresh share item_of pfa decap borrow erase flip inv last_of conc_at conc span any_shared refusal effect pool_after performed computes set_up_in operations entry_fault script_fault ran_in checked turn assign turn_all performed_by ran_by stepping counts_right
computed = tt

unfoldable pub moved : Unit {0}
unfolding checked list_in len groups.groups_f groups.number groups.elements reading.tokens reading.scanned reading.size_fault reading.verdict reading.list_in writing.items_at writing.judged moved_from tokens_but tokens_high run_by trace_by high_f elements_by
moved = tt

unfoldable pub storing : Unit {0}
unfolding computed moved extent load read list_from reading_in writing_in load_late null_as_zero judged_late
storing = tt
