-- `writing::write_list` meets its contract in each form.
use Rattle.pool.specs.Operations.{list_at}
use Rattle.cells.specs.Views.{pool_of}
use Rattle.writing.specs.Laws.WroteLaws.{as_stored}
use Rattle.writing.proofs.write_list.Goals as goal

pub returns-in-Text : goal.returns-in-Text
returns-in-Text c =
    let a = c.args in
    λ ws. as_stored (list_at (pool_of a.t).cells a.x) ws a.out.now c.in-Text.is (c.write_text.ensures ws)

pub returns-in-Groups : goal.returns-in-Groups
returns-in-Groups c =
    let a = c.args in
    λ ws. as_stored (list_at (pool_of a.t).cells a.x) ws a.out.now c.in-Groups.is (c.write_list.ensures ws)
