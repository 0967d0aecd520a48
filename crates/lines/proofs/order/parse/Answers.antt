-- `lines::order::parse` meets its contract.
use Rattle.std.proofs.Common.{sym, ap}
use Rattle.lines.specs.Commands.{command, new_in, writing_in}
use Rattle.lines.specs.Laws.CommandLaws.{begins}
use Rattle.lines.proofs.order.parse.Goals as goal

pub returns-in_err-last_number : goal.returns-in_err-last_number
unfolding command
returns-in_err-last_number c =
    let k = c.in-Some.ensures.cases in
    rw (c.from_residual.ensures, begins "NEW " _ k.0, sym k.1) (ap new_in c.in_err-last_number.ensures)

pub returns-in-Some : goal.returns-in-Some
unfolding command
returns-in-Some c =
    let k = c.in-Some.ensures.cases in
    rw (begins "NEW " _ k.0, sym k.1) (ap new_in c.in_ok-last_number.ensures)

pub returns-in-Some-strip_prefix : goal.returns-in-Some-strip_prefix
unfolding command
returns-in-Some-strip_prefix c =
    let k = c.in-Some-strip_prefix.ensures.cases in
    rw (
      begins "NEW " _ c.in_default.ensures.cases,
      begins "READ " _ k.0,
      sym k.1,
    ) c.reading.ensures

pub returns-in_err-last_number-2 : goal.returns-in_err-last_number-2
unfolding command
returns-in_err-last_number-2 c =
    let k = c.in-Some-strip_prefix-2.ensures.cases in
    rw (
      c.from_residual-in_err-last_number-2.ensures,
      begins "NEW " _ c.in_default.ensures.cases,
      begins "READ " _ c.in_default-strip_prefix.ensures.cases,
      begins "WRITE " _ k.0,
      sym k.1,
    ) (ap writing_in c.in_err-last_number-2.ensures)

pub returns-in-Some-strip_prefix-2 : goal.returns-in-Some-strip_prefix-2
unfolding command
returns-in-Some-strip_prefix-2 c =
    let k = c.in-Some-strip_prefix-2.ensures.cases in
    rw (
      begins "NEW " _ c.in_default.ensures.cases,
      begins "READ " _ c.in_default-strip_prefix.ensures.cases,
      begins "WRITE " _ k.0,
      sym k.1,
    ) (ap writing_in c.in_ok-last_number-2.ensures)

pub returns-in-Some-name_of_two : goal.returns-in-Some-name_of_two
unfolding command
returns-in-Some-name_of_two c =
    rw (
      begins "NEW " _ c.in_default.ensures.cases,
      begins "READ " _ c.in_default-strip_prefix.ensures.cases,
      begins "WRITE " _ c.in_default-strip_prefix-2.ensures.cases,
      sym c.in-Some-name_of_two.ensures,
    ) c.two.ensures

pub returns-in_err-code : goal.returns-in_err-code
unfolding command
returns-in_err-code c =
    rw (
      c.from_residual-in_err-code.ensures,
      begins "NEW " _ c.in_default.ensures.cases,
      begins "READ " _ c.in_default-strip_prefix.ensures.cases,
      begins "WRITE " _ c.in_default-strip_prefix-2.ensures.cases,
      sym c.in_default-name_of_two.ensures,
      sym c.in_err-code.ensures,
    )

pub returns : goal.returns
unfolding command
returns c =
    rw (
      begins "NEW " _ c.in_default.ensures.cases,
      begins "READ " _ c.in_default-strip_prefix.ensures.cases,
      begins "WRITE " _ c.in_default-strip_prefix-2.ensures.cases,
      sym c.in_default-name_of_two.ensures,
      sym c.in_ok-code.ensures,
    ) c.one.ensures
