-- `answering::texts::write_text` meets its contract.
use Rattle.std.proofs.Common.{◌≡◌, ◌∙◌, ◌≤◌, ◌++◌, ℕ, List, [], sym, arith, length, take, drop, length-take-le}
use Rattle.answers.specs.Answers.{DONE}
use Rattle.lists.specs.Lst.{Lst}
use Rattle.pool.specs.Operations.{list_of}
use Rattle.text.specs.Limits.{text_most}
use Rattle.text.specs.ListText.{written}
use Rattle.table.specs.declared.Form.TheVariants.{Four}
use Rattle.calls.specs.Entry.{shown, over}
use Rattle.answering.specs.Trim.{trimmed}
use Rattle.answering.specs.Laws.TrimLaws.{trimmed_le}
use Rattle.answering.specs.Laws.WriteLaws.{Writes, writes, text-room, count_room, trims, line_place, texts_refused, texts_done}
use Rattle.answering.proofs.texts.write_text.Goals.{After-write-r}
use Rattle.answering.proofs.texts.write_text.Goals as goal

-- what lay in the room for the text, and the list that is to be written there
abbrev old : After-write-r → List ℕ
old c = take text_most c.args.room.now

old-long : (c : After-write-r) → length (old c) ≡ text_most
old-long c = length-take-le text_most c.args.room.now (omega (arith, c.requires))

abbrev list : After-write-r → Lst
list c = list_of (shown Four c.args.table.now) c.args.h

-- what the call of `write` gives
told : (c : After-write-r) → Writes c.args.table.now c.args.h c.write-r.result (old c) c.write-r.new.out
told c = writes _ _ c.write-r.new.work _ _ _ _ c.told-work (old-long c) c.write-r.ensures

new-long : (c : After-write-r) → length c.write-r.new.out ≡ text_most
new-long c = c.write-r.auto.out ∙ old-long c

-- where it is done: the text is there, and within its room
text : (c : After-write-r) → c.write-r.result.answer ≡ DONE →
    (c.write-r.result.count ≡ length (written (list c))) × (c.write-r.new.out ≡ over (written (list c)) (old c))
text c d = (told c).text d

room : (c : After-write-r) → c.write-r.result.answer ≡ DONE → c.write-r.result.count ≤ text_most
room c d =
    omega (arith, (text c d).0, text-room (list c) _ _ (drop text_most c.args.room.now) (text c d).1, new-long c)

-- the text without its fill leaves a place for the line feed
placed : (c : After-write-r) → c.write-r.result.answer ≡ DONE → (n : ℕ)
    → n ≡ trimmed (take c.write-r.result.count (c.write-r.new.out ++ drop text_most c.args.room.now)) → n ≤ text_most
placed c d n e =
    let t = text c d in
    omega (
      arith,
      e,
      trimmed_le (take c.write-r.result.count (c.write-r.new.out ++ drop text_most c.args.room.now)),
      room c d,
      length-take-le c.write-r.result.count _ (count_room (list c) (old c) _ (drop text_most c.args.room.now) t.1 _ t.0),
    )

pub slice_bounds-out-end-2 : goal.slice_bounds-out-end-2
slice_bounds-out-end-2 c = sym (length-take-le text_most c.args.room.now (omega (arith, c.requires)))

pub returns-then-r-ne-DONE : goal.returns-then-r-ne-DONE
returns-then-r-ne-DONE c = texts_refused _ _ _ _ _ (told (goal.at.returns-then-r-ne-DONE c).After-write-r) [] c.if-r-ne-DONE.true

pub slice_bounds-without_fill-end : goal.slice_bounds-without_fill-end
slice_bounds-without_fill-end c =
    let w = (goal.at.slice_bounds-without_fill-end c).After-write-r in
    let t = text w c.if-r-ne-DONE.false in
    count_room (list w) (old w) _ _ t.1 _ t.0

pub slice_bounds-without_fill-end-2 : goal.slice_bounds-without_fill-end-2
slice_bounds-without_fill-end-2 c =
    let w = (goal.at.slice_bounds-without_fill-end-2 c).After-write-r in
    let t = text w c.if-r-ne-DONE.false in
    sym (length-take-le _ _ (count_room (list w) (old w) _ _ t.1 _ t.0))

pub bounds-room-n : goal.bounds-room-n
bounds-room-n c =
    let w = (goal.at.bounds-room-n c).After-write-r in
    line_place c.args.room.now c.write-r.new.out _ c.requires (new-long w) (placed w c.if-r-ne-DONE.false _ c.without_fill-n.ensures.0)

pub overflow_add-result : goal.overflow_add-result
overflow_add-result c =
    let w = (goal.at.overflow_add-result c).After-write-r in
    omega (arith, placed w c.if-r-ne-DONE.false _ c.without_fill-n.ensures.0)

pub returns : goal.returns
returns c =
    let w = (goal.at.returns c).After-write-r in
    let d = c.if-r-ne-DONE.false in
    let t = text w d in
    texts_done c.args.table.now c.args.h c.write-r.result (old w) c.write-r.new.out (told w) (drop text_most c.args.room.now) c.without_fill-n.result d
    (c.without_fill-n.ensures.0 ∙ trims (list w) (old w) _ _ t.1 _ t.0)
    (line_place c.args.room.now c.write-r.new.out _ c.requires (new-long w) (placed w d _ c.without_fill-n.ensures.0))
