-- What showing and storing compute with: to unfold `computes` is to unfold all of it, for tables given word by word.
use Rattle.table.specs.Tab.{tab}
use Rattle.table.specs.View.{cell_word, cell_of, view, spread, words}
use Rattle.table.specs.Sizes.{cells_of}

unfoldable pub computes : Unit {0}
unfolding tab cell_word cell_of view spread words cells_of
computes = tt
