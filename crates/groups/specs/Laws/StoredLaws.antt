-- Laws of the two stored forms together.
use Rattle.std.specs.Prelude.{ℕ, ◌≡◌, List}
use Rattle.answers.specs.Answers.{DONE}
use Rattle.text.specs.Laws.SizeLaws as texts
use Rattle.groups.specs.Laws.SizeLaws as groups
use Rattle.groups.specs.Stored.{size_fault, scanned, verdict}
use Rattle.groups.specs.declared.Stored.{Stored}
use Rattle.groups.specs.declared.Stored.TheVariants.{Text, Groups}

-- bytes of a right size are answered as they scan
pub right-size : (k : Stored) (s : List ℕ) → size_fault k s ≡ DONE → verdict k s ≡ scanned k s
right-size Text s e = texts.right-size s e
right-size Groups s e = groups.right-size s e
