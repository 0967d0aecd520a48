-- `reading::read_open` meets its contract.
use Rattle.std.specs.Prelude.{◌<◌}
use Rattle.std.proofs.Common.{rules, ◌≡◌, refl, sym, Err, arith}
use Rattle.std.proofs.lemmas.Bool.{not-false}
use Rattle.answers.specs.Laws.Refusals.{refusal_some}
use Rattle.reading.specs.Laws.ReadLaws.{no_holder_lem, wrong_size, not_sound, all-passed}
use Rattle.reading.proofs.read_open.Goals.{Else-a-holders}
use Rattle.reading.proofs.read_open.Goals as goal

-- a holder of the table's
held : (c : Else-a-holders) →
    let a = c.args in
    a.h < a.s.holders
held c = omega (arith, c.if-a-holders.false, c.holders.ensures)

pub returns-then-a-holders : goal.returns-then-a-holders
returns-then-a-holders c =
    no_holder_lem _ _ _ _ c.requires (omega (arith, c.if-a-holders.true, c.holders.ensures)) refl

pub returns-in_err-size_fault : goal.returns-in_err-size_fault
returns-in_err-size_fault c =
    let f = c.in_err-size_fault.field-0.0 in
    let is : c.from_residual.result ≡ Err f = search rules in
    rw is (wrong_size _ _ _ _ c.requires (held (goal.at.returns-in_err-size_fault c).Else-a-holders) c.in_err-size_fault.ensures (refusal_some f) refl)

pub returns-then-not-found : goal.returns-then-not-found
returns-then-not-found c =
    not_sound _ _ _ _ c.requires (held (goal.at.returns-then-not-found c).Else-a-holders) (sym c.in_ok-size_fault.ensures)
    (rw (← c.new.ensures.shape, ← c.new.ensures.words) c.examine-found.ensures.decided) c.if-not-found.true refl

pub into-requires : goal.into-requires
into-requires c =
    let found = c.examine-found.ensures in
    record {
      table = c.requires.table;
      h_bound = held (goal.at.into-requires c).Else-a-holders;
      sound = rw (← c.new.ensures.shape, ← c.new.ensures.words) (found.decided.sound.0 (not-false _ c.if-not-found.false));
      free_value = rw (← c.new.ensures.shape, ← c.new.ensures.words) found.free;
      bytes_value = sym c.in_ok-size_fault.ensures;
    }

pub returns : goal.returns
returns c =
    all-passed _ _ _ _ c.requires (held (goal.at.returns c).Else-a-holders) (sym c.in_ok-size_fault.ensures)
    (rw (← c.new.ensures.shape, ← c.new.ensures.words) c.examine-found.ensures.decided) c.if-not-found.false (c.into.ensures _)
