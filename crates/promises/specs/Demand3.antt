-- Demand 3: of all tables that an engine's own calls can make, counts and arrows, no rings, free cells and reached
-- ones; and of every sound table, what ERASE frees and says, and where there is no room.
use Rattle.std.specs.Prelude.{◌≡◌, ◌≢◌, ◌⊎◌, ◌↔◌, List, [], ◌∷◌, ℕ, suc, ◌+◌, ◌≤◌, ◌<◌, length, get_or}
use Rattle.answers.specs.Answers.{DONE, NO_ROOM}
use Rattle.answers.specs.Codes.{result_words, number_kind}
use Rattle.lists.specs.Lst.{Lst, extent}
use Rattle.pool.specs.Tally.{occ, Number}
use Rattle.pool.specs.Pool.{Pool, count_of, holder, InPool, Walk, Chain, Sound, into, Reaches}
use Rattle.pool.specs.Script.{ERASE, Operation}
use Rattle.calls.specs.Entry.{work_words, shown}
use Rattle.promises.specs.Engine.{Engine, Reached}
use Rattle.promises.specs.Rows.{None}
use Rattle.promises.specs.Grounds.{NoHolder, BadTable, BadWork, Needs, before_room}
use Rattle.promises.specs.StoredGrounds.{Has, Spells, size_rows, fault_rows}
use Rattle.groups.specs.declared.Stored.{Stored}
use Rattle.promises.specs.Demand1.{words_of}
use Rattle.table.specs.declared.Form.{Form}

-- the arrows that end at a cell: of holders, and of cells that are not free
abbrev pub arrows : Pool → ℕ → ℕ
arrows p c = occ p.holders c + into p.cells c

-- c is on the free chain
abbrev pub Free : Pool → ℕ → Type 0
Free p c = (fs : List ℕ) × Chain p.cells p.free fs × (0 < occ fs c)

-- some holder reaches c
abbrev pub Used : Pool → ℕ → Type 0
Used p c = (h : ℕ) × (h < length p.holders) × Reaches p h c

-- holder a reaches c and no other holder does
abbrev pub OnlyBy : Pool → ℕ → ℕ → Type 0
OnlyBy p a c = Reaches p a c × ((i : ℕ) → i ≢ a → Reaches p i c → ⊥)

-- ERASE of holder a; what else its four words hold is not looked at
abbrev pub erasing : ℕ → ℕ → ℕ → List ℕ
erasing a b v = ERASE ∷ a ∷ b ∷ v ∷ []

abbrev pub CountsAreArrows : (form : Form) → Engine → Type 0
CountsAreArrows form E = (ts : List ℕ) → Reached E ts → (c : ℕ) → InPool (shown form ts).cells c
    → count_of (shown form ts).cells c ≡ arrows (shown form ts) c

abbrev pub NoListContainsItself : (form : Form) → Engine → Type 0
NoListContainsItself form E = (ts : List ℕ) → Reached E ts → (c n : ℕ) → Walk (shown form ts).cells (suc n) c c → ⊥

-- so each holder has a list
abbrev pub HoldersHaveLists : (form : Form) → Engine → Type 0
HoldersHaveLists form E = (ts : List ℕ) → Reached E ts → (h : ℕ) → (l : Lst) × Has form ts h l

abbrev pub FreeOrReached : (form : Form) → Engine → Type 0
FreeOrReached form E = (ts : List ℕ) → Reached E ts → (c : ℕ) → InPool (shown form ts).cells c
    → Free (shown form ts) c ⊎ Used (shown form ts) c

abbrev pub NeverBoth : (form : Form) → Engine → Type 0
NeverBoth form E = (ts : List ℕ) → Reached E ts → (c : ℕ) → InPool (shown form ts).cells c
    → Free (shown form ts) c → Used (shown form ts) c → ⊥

-- what becomes free with an ERASE that is done: the cells that only this holder reached; and its number counts them
abbrev pub EraseFrees : (form : Form) → Engine → Type 0
EraseFrees form E =
    (ts ws rs : List ℕ) (a b v : ℕ) → let r = E.run ts ws (erasing a b v) rs in
    r.answer ≡ DONE → (c : ℕ) → InPool (shown form ts).cells c
    → ((Free (shown form ts) c → ⊥) × Free (shown form r.table) c) ↔ OnlyBy (shown form ts) a c

abbrev pub EraseCounts : (form : Form) → Engine → Type 0
EraseCounts form E =
    (ts ws rs : List ℕ) (a b v : ℕ) → let r = E.run ts ws (erasing a b v) rs in
    r.answer ≡ DONE → (get_or r.results 0 0 ≡ number_kind)
    × Number (OnlyBy (shown form ts) a) (length (shown form ts).cells) (get_or r.results 1 0)

-- a table that the engine's calls can make, or any sound one of a right size
abbrev pub Lent : (form : Form) → Engine → List ℕ → Type 0
Lent form E ts = Reached E ts ⊎ ((BadTable form ts → ⊥) × Sound (shown form ts))

-- where all rows before it are passed, NO ROOM tells that reached and needed cells are together more than there are;
-- the cells reached can be counted in any pool, so that is no promise of an engine (in a sound one `number-used` does)
abbrev pub NoRoomToPerform : (form : Form) → Engine → Type 0
NoRoomToPerform form E =
    (ts ws rs : List ℕ) (o : Operation) (k n : ℕ) → Lent form E ts → (BadWork work_words ts ws → ⊥)
    → result_words ≤ length rs → None (before_room (shown form ts) o)
    → Number (Used (shown form ts)) (length (shown form ts).cells) k → Needs (shown form ts) o n
    → ((E.run ts ws (words_of o) rs).answer ≡ NO_ROOM) ↔ (length (shown form ts).cells < k + n)

abbrev pub NoRoomToRead : (form : Form) → Engine → Type 0
NoRoomToRead form E =
    (s : Stored) (ts ws : List ℕ) (h : ℕ) (xs : List ℕ) (k m : ℕ) (l : Lst) → Lent form E ts
    → (BadWork work_words ts ws → ⊥) → (NoHolder (shown form ts) h → ⊥) → None (size_rows s xs)
    → holder (shown form ts) h ≡ 0 → None (fault_rows s xs)
    → Number (Used (shown form ts)) (length (shown form ts).cells) k → Spells s xs m l
    → ((E.read s ts ws h xs).answer ≡ NO_ROOM) ↔ (length (shown form ts).cells < k + extent l)

pub record Demand3 (form : Form) (E : Engine) : Type 0 where
  pub counts_are_arrows : CountsAreArrows form E
  pub no_list_contains_itself : NoListContainsItself form E
  pub holders_have_lists : HoldersHaveLists form E
  pub free_or_reached : FreeOrReached form E
  pub never_both : NeverBoth form E
  pub erase-frees : EraseFrees form E
  pub erase_counts : EraseCounts form E
  pub no_room_to_perform : NoRoomToPerform form E
  pub no_room_to_read : NoRoomToRead form E
