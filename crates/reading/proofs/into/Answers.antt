-- `reading::into` meets its contract.
use Rattle.std.proofs.Common.{rules, ◌≡◌, refl, sym, ◌∙◌, Err, arith}
use Rattle.reading.specs.Laws.ReadLaws.{Scans, occupied, faulty, no_room, good, room, reads}
use Rattle.reading.proofs.into.Goals.{After-scan}
use Rattle.reading.proofs.into.Goals as goal

scans : (c : After-scan) → Scans c.args.b c.args.s c.args.t.now c.args.h c.args.bytes.now
scans c = record { table = c.requires.table; sized = c.requires.bytes_value; null = sym c.holder_of.ensures.0 ∙ c.if-holder_of-ne0.false }

pub returns-then-holder_of-ne0 : goal.returns-then-holder_of-ne0
returns-then-holder_of-ne0 c =
    λ ws. occupied c.args.b c.requires.table c.args.h c.args.bytes.now ws (λ q. c.if-holder_of-ne0.true (c.holder_of.ensures.0 ∙ q)) refl

pub scan-requires : goal.scan-requires
scan-requires c = c.requires.bytes_value

pub returns-in_err-found : goal.returns-in_err-found
returns-in_err-found c =
    let f = c.in_err-found.field-0.0 in
    let is : c.from_residual.result ≡ Err f = search rules in
    λ ws. rw is (faulty (scans (goal.at.returns-in_err-found c).After-scan) ws f c.in_err-found.ensures refl)

pub returns-then-found-free : goal.returns-then-found-free
returns-then-found-free c =
    let free = c.requires.free_value in
    λ ws. no_room (scans (goal.at.returns-then-found-free c).After-scan) c.in_ok-found.found c.in_ok-found.ensures ws (omega (arith, c.if-found-free.true, free)) refl

pub build-requires : goal.build-requires
build-requires c =
    let k = scans (goal.at.build-requires c).After-scan in
    record {
      table = c.requires.table;
      h_bound = c.requires.h_bound;
      sound = c.requires.sound;
      bytes_value = good k c.in_ok-found.found c.in_ok-found.ensures;
      bytes_bound = room k c.in_ok-found.found c.in_ok-found.ensures (omega (arith, c.if-found-free.false, c.requires.free_value));
    }

pub returns : goal.returns
returns c =
    let free = c.requires.free_value in
    λ ws. reads (scans (goal.at.returns c).After-scan) c.in_ok-found.found c.in_ok-found.ensures (omega (arith, c.if-found-free.false, free)) ws _ c.build.ensures refl
