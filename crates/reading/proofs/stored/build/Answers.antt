-- `reading::stored::build` meets its contract in each form: what the check took of text is a list that it takes, and
-- of groups the groups of one.
use mathlib.Core.Path.{◌≡◌, subst}
use Prim.Native.Nat.{◌≤◌}
use Rattle.answers.specs.Answers.{DONE}
use Rattle.groups.specs.Stored.{verdict, list_in}
use Rattle.groups.specs.Laws.Taking.{taken_holds}
use Rattle.groups.specs.declared.Stored.TheVariants.{Text, Groups}
use Rattle.lists.specs.Lst.{extent}
use Rattle.pool.specs.Pool.{frees}
use Rattle.table.specs.View.{view}
use Rattle.text.specs.Laws.Accepted.{taken-answer}
use Rattle.reading.specs.Laws.ReadLaws.{as_stored}
use Rattle.reading.proofs.stored.build.Goals as goal

pub build-requires : goal.build-requires
build-requires c =
    let s = c.args.bytes.now in
    let is = c.in-Text.is in
    let right = subst (λ x. (verdict x s).no ≡ DONE) is c.requires.bytes_value in
    let room = subst (λ x. extent (list_in x s) ≤ frees (view c.args.s c.args.t.now).cells) is c.requires.bytes_bound in
    record {
      table = c.requires.table;
      h_bound = c.requires.h_bound;
      sound = c.requires.sound;
      taken = record { bytes = _; is = taken-answer (verdict Text s) right };
      text_bound = room;
    }

pub build-requires-in-Groups : goal.build-requires-in-Groups
build-requires-in-Groups c =
    let s = c.args.bytes.now in
    let is = c.in-Groups.is in
    let right = subst (λ x. (verdict x s).no ≡ DONE) is c.requires.bytes_value in
    let room = subst (λ x. extent (list_in x s) ≤ frees (view c.args.s c.args.t.now).cells) is c.requires.bytes_bound in
    let held = taken_holds s (verdict Groups s).taken (taken-answer (verdict Groups s) right) in
    record {
      table = c.requires.table;
      h_bound = c.requires.h_bound;
      sound = c.requires.sound;
      by_index = (_, held);
      bytes_bound = room;
    }

pub returns-in-Text : goal.returns-in-Text
returns-in-Text c =
    let a = c.args in
    as_stored _ a.h a.bytes.now c.in-Text.is c.build.ensures

pub returns-in-Groups : goal.returns-in-Groups
returns-in-Groups c =
    let a = c.args in
    as_stored _ a.h a.bytes.now c.in-Groups.is c.build-in-Groups.ensures
