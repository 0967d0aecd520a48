-- `enter` goes by the tests of the definition, one after the other.
use Rattle.std.proofs.Common.{◌≡◌, ◌≢◌, sym, ap, ◌∙◌, ℕ, ◌*◌, arith}
use Rattle.table.specs.declared.Shape.{Shape}
use Rattle.table.specs.Sizes.{cells_of}
use Rattle.table.proofs.SizesLaws.{cells_table}
use Rattle.calls.specs.Laws.EntryLaws.{no_table, no_work, no_fault}
use Rattle.entry.specs.Laws.EntryLaws.{times_le}
use Rattle.entry.proofs.enter.Goals.{After-shape_of-s}
use Rattle.entry.proofs.enter.Goals as goal

-- the cells that the shape tells
cells : (c : After-shape_of-s) → c.shape_of-s.result.cells ≡ cells_of c.args.f c.args.table.now
cells c = ap (λ (s : Shape). s.cells) c.shape_of-s.ensures

some : (c : After-shape_of-s) → c.shape_of-s.result.cells ≢ 0 → cells_of c.args.f c.args.table.now ≢ 0
some c d z = d (cells c ∙ z)

-- the words for them
needed : (c : After-shape_of-s) → c.args.words * c.shape_of-s.result.cells ≡ c.args.words * cells_of c.args.f c.args.table.now
needed c = ap (λ (n : ℕ). c.args.words * n) (cells c)

pub returns-then-s-eq0-clause-refused : goal.returns-then-s-eq0-clause-refused
returns-then-s-eq0-clause-refused c = sym (no_table _ _ _ _ (sym (cells (goal.at.returns-then-s-eq0-clause-refused c).After-shape_of-s) ∙ c.if-s-eq0.true))

pub overflow_mul-words : goal.overflow_mul-words
overflow_mul-words c =
    let a = c.args in
    let told = (goal.at.overflow_mul-words c).After-shape_of-s in
    let few = (cells_table a.f a.table.now (some told c.if-s-eq0.false)).few in
    omega (arith, times_le a.words c.shape_of-s.result.cells 8000 (omega (arith, few, cells told)), c.requires)

pub returns-then-lent-words-clause-refused : goal.returns-then-lent-words-clause-refused
returns-then-lent-words-clause-refused c =
    let told = (goal.at.returns-then-lent-words-clause-refused c).After-shape_of-s in
    sym (no_work _ _ _ _ (some told c.if-s-eq0.false) (omega (arith, c.if-lent-words.true, needed told)))

pub returns-clause-refused : goal.returns-clause-refused
returns-clause-refused c =
    let told = (goal.at.returns-clause-refused c).After-shape_of-s in
    sym (no_fault _ _ _ _ (some told c.if-s-eq0.false) (omega (arith, c.if-lent-words.false, needed told)))
