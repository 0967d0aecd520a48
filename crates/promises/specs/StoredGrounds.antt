-- When each answer of reading, writing and moving is given, over both stored forms: the rows of each call, in the order
-- of their checks. What a form has of its own stands in TextGrounds and GroupGrounds.
use Rattle.std.specs.Prelude.{◌≡◌, ◌≢◌, List, [], ◌∷◌, ◌++◌, ℕ, ◌<◌, length, take}
use Rattle.answers.specs.Answers.{UNSOUND, HOLDER, OCCUPIED, NO_ROOM, DEEP, OUTPUT}
use Rattle.lists.specs.Lst.{Lst, extent}
use Rattle.pool.specs.Pool.{holder, ListAt, frees}
use Rattle.text.specs.ListText.{text_of, fill}
use Rattle.text.specs.Writing as writing
use Rattle.groups.specs.Groups.{groups_of}
use Rattle.groups.specs.Writing as grouping
use Rattle.groups.specs.Stored.{other}
use Rattle.groups.specs.declared.Stored.{Stored}
use Rattle.groups.specs.declared.Stored.TheVariants.{Text, Groups}
use Rattle.calls.specs.Entry.{work_words, shown}
use Rattle.promises.specs.Rows.{Row, row}
use Rattle.promises.specs.Grounds.{Unsound, NoHolder, entry_rows}
use Rattle.promises.specs.TextGrounds as text
use Rattle.promises.specs.TextGrounds.{plain, Records}
use Rattle.promises.specs.GroupGrounds as groups
use Rattle.table.specs.declared.Form.{Form}

-- what a form has of its own

abbrev pub size_rows : Stored → List ℕ → List Row
size_rows Text xs = text.size_rows xs
size_rows Groups xs = groups.size_rows xs

abbrev pub fault_rows : Stored → List ℕ → List Row
fault_rows Text xs = text.fault_rows xs
fault_rows Groups xs = groups.fault_rows xs

-- the list l is that of the first m bytes
abbrev pub Spells : Stored → List ℕ → ℕ → Lst → Type 0
Spells Text xs m l = text.Spells xs m l
Spells Groups xs m l = groups.Spells xs m l

-- the text of a list with its last record filled
abbrev pub filled : List ℕ → List ℕ
filled t = t ++ fill (length t)

-- the bytes of a list
abbrev pub spelling : Stored → Lst → List ℕ
spelling Text l = filled (text_of l)
spelling Groups l = groups_of l

-- the first m bytes written anew: a text without its leading zeros and filled again, groups as they are
abbrev pub Anew : Stored → List ℕ → ℕ → List ℕ → Type 0
Anew Text xs m bs = (t : List ℕ) × Records xs m t × (bs ≡ filled (plain t))
Anew Groups xs m bs = bs ≡ take m xs

-- in so much room a level too many is met, or the list is too long
abbrev pub TooDeep : Stored → ℕ → Lst → Type 0
TooDeep Text room l = text.TooDeep (writing.usable room) (text_of l)
TooDeep Groups room l = groups.TooDeep (grouping.usable room) l

abbrev pub TooLong : Stored → ℕ → Lst → Type 0
TooLong Text room l = writing.usable room < length (text_of l)
TooLong Groups room l = grouping.usable room < length (groups_of l)

-- bytes by themselves

abbrev pub byte_rows : Stored → List ℕ → List Row
byte_rows k xs = size_rows k xs ++ fault_rows k xs

-- reading

-- before the work space is used
abbrev pub at_reading : (form : Form) → Stored → List ℕ → List ℕ → ℕ → List ℕ → List Row
at_reading form k ts ws h xs = entry_rows work_words form ts ws ++ (row HOLDER (NoHolder (shown form ts) h) ∷ size_rows k xs)

-- from there on
abbrev pub room_rows : (form : Form) → Stored → List ℕ → List ℕ → List Row
room_rows form k ts xs =
    row NO_ROOM ((m : ℕ) × (l : Lst) × Spells k xs m l × (frees (shown form ts).cells < extent l)) ∷ []

abbrev pub into_rows : (form : Form) → Stored → List ℕ → ℕ → List ℕ → List Row
into_rows form k ts h xs =
    row UNSOUND (Unsound form ts)
    ∷ row OCCUPIED (holder (shown form ts) h ≢ 0)
    ∷ fault_rows k xs ++ room_rows form k ts xs

abbrev pub read_rows : (form : Form) → Stored → List ℕ → List ℕ → ℕ → List ℕ → List Row
read_rows form k ts ws h xs = at_reading form k ts ws h xs ++ into_rows form k ts h xs

-- writing

-- the list that holder h of a table has
abbrev pub Has : (form : Form) → List ℕ → ℕ → Lst → Type 0
Has form ts h l = ListAt (shown form ts).cells (holder (shown form ts) h) l

abbrev pub write_rows : (form : Form) → Stored → List ℕ → List ℕ → ℕ → List ℕ → List Row
write_rows form k ts ws h out =
    entry_rows work_words form ts ws
    ++ (row HOLDER (NoHolder (shown form ts) h)
    ∷ row UNSOUND (Unsound form ts)
    ∷ row DEEP ((l : Lst) × Has form ts h l × TooDeep k (length out) l)
    ∷ row OUTPUT ((l : Lst) × Has form ts h l × TooLong k (length out) l)
    ∷ [])

-- moving from the form k into the other

abbrev pub move_rows : Stored → List ℕ → List ℕ → List Row
move_rows k xs out =
    byte_rows k xs ++ (row OUTPUT ((m : ℕ) × (l : Lst) × Spells k xs m l × TooLong (other k) (length out) l) ∷ [])
