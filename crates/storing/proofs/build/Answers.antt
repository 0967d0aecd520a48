-- `storing::build` meets its contract.
use Rattle.storing.specs.Laws.AheadLaws.{some_whole}
use Rattle.storing.specs.Laws.WholeLaws.{whole_due, whole-read}
use Rattle.storing.proofs.build.Goals as goal

pub number_there-n-requires : goal.number_there-n-requires
number_there-n-requires c = some_whole c.requires.by_index.1

pub list-requires : goal.list-requires
list-requires c =
    let a = c.args in
    let held = c.requires.by_index.1 in
    let due = whole_due held c.number_there-n.ensures a.s a.t.now a.h c.requires.sound c.requires.bytes_bound in
    record { table = c.requires.table; h_bound = c.requires.h_bound; due = due }

pub returns : goal.returns
returns c =
    let a = c.args in
    let held = c.requires.by_index.1 in
    whole-read held c.number_there-n.ensures a.s a.t.now a.h c.requires.sound c.requires.bytes_bound
    c.list.ensures
