-- The two stored forms side by side: how bytes are judged and what list they hold, and the bytes of a list.
use Rattle.std.specs.Prelude.{ℕ, List}
use Rattle.lists.specs.Lst.{Lst}
use Rattle.text.specs.Text as text
use Rattle.text.specs.Text.{Answer}
use Rattle.text.specs.Marks as marks
use Rattle.text.specs.ListText.{text_of, written}
use Rattle.text.specs.Writing as writing
use Rattle.groups.specs.Groups.{groups_of}
use Rattle.groups.specs.Reading as reading
use Rattle.groups.specs.Writing as grouping
use Rattle.groups.specs.declared.Stored.{Stored}
use Rattle.groups.specs.declared.Stored.TheVariants.{Text, Groups}

-- what is wrong before the bytes are read as a list
abbrev pub size_fault : Stored → List ℕ → ℕ
size_fault Text s = text.size_fault s
size_fault Groups s = reading.size_fault s

-- the answer of bytes whose size is right, and of any
abbrev pub scanned : Stored → List ℕ → Answer
scanned Text s = text.scanned s
scanned Groups s = reading.scanned s

abbrev pub verdict : Stored → List ℕ → Answer
verdict Text s = text.verdict s
verdict Groups s = reading.verdict s

-- the list that they hold
abbrev pub list_in : Stored → List ℕ → Lst
list_in Text s = marks.list_in s
list_in Groups s = reading.list_in s

-- the bytes of a list, those of text with its fill
abbrev pub bytes_of : Stored → Lst → List ℕ
bytes_of Text l = written l
bytes_of Groups l = groups_of l

-- the earliest of DEEP and OUTPUT where so much room is lent
abbrev pub judged : Stored → ℕ → Lst → ℕ
judged Text room l = writing.judged (writing.usable room) 0 (text_of l)
judged Groups room l = grouping.judged (grouping.usable room) (grouping.items l)

-- the other form
abbrev pub other : Stored → Stored
other Text = Groups
other Groups = Text
