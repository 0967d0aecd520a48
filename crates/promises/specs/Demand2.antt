-- Demand 2: setting up leaves document 01's new pool; after whatever is done the holders have the lists of the report's
-- machine, however the cells are shared, in the cells that document 01 names; reading, writing and moving keep to the
-- stored forms, and each is undone.
use Rattle.std.specs.Prelude.{◌≡◌, ◌≢◌, List, ℕ, ◌+◌, ◌*◌, ◌≤◌, ◌<◌, ◌^◌, length, get_or, take, drop}
use Rattle.answers.specs.Answers.{DONE}
use Rattle.lists.specs.Lst.{Lst, order, extent}
use Rattle.pool.specs.Pool.{Pool, kind_of, elem_of, count_of, next_of, holder, frees, Sound}
use Rattle.pool.specs.Script.{Operation}
use Rattle.table.specs.Limits.{cells_told, holders_told}
use Rattle.text.specs.Limits.{levels}
use Rattle.text.specs.ListText.{text_of}
use Rattle.groups.specs.Stored.{other}
use Rattle.groups.specs.declared.Stored.{Stored}
use Rattle.calls.specs.Entry.{work_words, shown, over}
use Rattle.calls.specs.Run.{operations}
use Rattle.promises.specs.Engine.{Engine}
use Rattle.promises.specs.Grounds.{BadTable, UsesB}
use Rattle.promises.specs.Rows.{None}
use Rattle.promises.specs.TextGrounds.{AtEnd, TakesRecords, plain, Records}
use Rattle.promises.specs.StoredGrounds.{Has, Spells, spelling, Anew, TooLong, byte_rows}
use Rattle.promises.specs.Machine.{Lists, assign, turn, says, turn_all, Says}
use Rattle.promises.specs.Demand1.{words_of}
use Rattle.promises.specs.Cells.{SizesStay, HoldersStay, PrefixTakesHead, PrefixListTakesHead, DecapFreesToHead, AdvErases, BorrowShares, EraseErases, InvTurns, CinvCopies, ConcJoins, AskingLeaves, LiveCellsStay, ReadingUsesItsCells}
use Rattle.table.specs.declared.Form.{Form}

-- the holders of a table have these lists
abbrev pub Holds : (form : Form) → List ℕ → Lists → Type 0
Holds form ts m = (i : ℕ) → Has form ts i (m i)

-- words of 32 bits
abbrev pub Words : List ℕ → Type 0
Words ts = (i : ℕ) → get_or ts i 0 < 2 ^ 32

-- a sound table lent with work space enough
pub record Ready (form : Form) (ts ws : List ℕ) : Type 0 where
  pub table : BadTable form ts → ⊥
  pub work : work_words * cells_told ts ≤ length ws
  pub sound : Sound (shown form ts)

-- a new pool of n cells and h holders: the first free cell is 1, cell i is followed by i + 1 and the last by 0, and all
-- else is 0
pub record NewPool (n h : ℕ) (p : Pool) : Type 0 where
  pub cells : length p.cells ≡ n
  pub holders : length p.holders ≡ h
  pub free : p.free ≡ 1
  pub next : (i : ℕ) → 1 ≤ i → i < n → next_of p.cells i ≡ i + 1
  pub last : next_of p.cells n ≡ 0
  pub null : (k : ℕ) → k < h → holder p k ≡ 0
  pub empty : (i : ℕ) → 1 ≤ i → i ≤ n → (kind_of p.cells i ≡ 0) × (elem_of p.cells i ≡ 0)
      × (count_of p.cells i ≡ 0)

-- words that tell n cells and h holders, and show such a pool
pub record NewTable (form : Form) (n h : ℕ) (us : List ℕ) : Type 0 where
  pub cells : cells_told us ≡ n
  pub holders : holders_told form us ≡ h
  pub pool : NewPool n h (shown form us)

abbrev pub SetUpGives : (form : Form) → Engine → Type 0
SetUpGives form E =
    (ts : List ℕ) (n h : ℕ) → let g = E.set_up ts n h in
    g.answer ≡ DONE → (length g.table ≡ length ts) × NewTable form n h g.table

-- an operation that is done
abbrev pub OperationsGive : (form : Form) → Engine → Type 0
OperationsGive form E =
    (ts ws rs : List ℕ) (o : Operation) (m : Lists) → Holds form ts m → let r = E.run ts ws (words_of o) rs in
    r.answer ≡ DONE → Holds form r.table (turn m o) × ((n : ℕ) × (r.results ≡ over (says m o n) rs))

-- holders that it does not use
abbrev pub OthersStay : (form : Form) → Engine → Type 0
OthersStay form E =
    (ts ws rs : List ℕ) (o : Operation) (m : Lists) → Holds form ts m → let r = E.run ts ws (words_of o) rs in
    r.answer ≡ DONE → (i : ℕ) → i ≢ o.a → (UsesB o.code → i ≢ o.b) → Has form r.table i (m i)

-- a whole script, up to where it stops
abbrev pub ScriptsGive : (form : Form) → Engine → Type 0
ScriptsGive form E =
    (ts ws ss rs : List ℕ) (m : Lists) → Holds form ts m → let r = E.run ts ws ss rs in
    let os = take r.count (operations ss) in
    Holds form r.table (turn_all m os) × ((qs : List ℕ) × Says m os qs × (r.results ≡ over qs rs))

-- reading gives the list of the bytes taken, and of these no more than the first list's
abbrev pub ReadingGives : (form : Form) → Engine → Type 0
ReadingGives form E =
    (k : Stored) (ts ws : List ℕ) (h : ℕ) (xs : List ℕ) (m : Lists) → Holds form ts m → let r = E.read k ts ws h xs in
    r.answer ≡ DONE → (l : Lst) × Spells k xs r.count l × Holds form r.table (assign m h l)

-- one statement over both stored forms: bytes of one list, with no fault of their own, are answered the same whatever
-- their form, and leave the same table word for word, so the same cells in the same order
abbrev pub FormsReadAlike : Engine → Type 0
FormsReadAlike E =
    (k j : Stored) (ts ws : List ℕ) (h : ℕ) (xs ys : List ℕ) (m n : ℕ) (l : Lst) → Spells k xs m l → Spells j ys n l
    → None (byte_rows k xs) → None (byte_rows j ys)
    → let r = E.read k ts ws h xs in let q = E.read j ts ws h ys in
    (r.answer ≡ q.answer) × (r.table ≡ q.table) × (r.work ≡ q.work)

abbrev pub CheckingGives : Engine → Type 0
CheckingGives E = (xs : List ℕ) → let r = E.check xs in r.no ≡ DONE → (l : Lst) × (t : List ℕ)
    × Records xs r.taken t × (text_of l ≡ plain t)

-- the text check gives the list of the text and the bytes taken, which are the first list's records and no more
abbrev pub CheckingTakes : Engine → Type 0
CheckingTakes E = (xs : List ℕ) → let r = E.check xs in r.no ≡ DONE → TakesRecords xs r.taken

-- the further call hands back what stands behind the records that the check takes, or the empty part at the end: where
-- only blanks stand there, and where the check refuses
abbrev pub RestGives : Engine → Type 0
RestGives E =
    (xs : List ℕ) → let r = E.check xs in let left = drop r.taken xs in
    (r.no ≡ DONE → (AtEnd left → ⊥) → E.rest xs ≡ r.taken)
    × (r.no ≡ DONE → AtEnd left → E.rest xs ≡ length xs)
    × (r.no ≢ DONE → E.rest xs ≡ length xs)

-- writing gives the bytes of the list, and their number
abbrev pub WritingGives : (form : Form) → Engine → Type 0
WritingGives form E =
    (k : Stored) (ts ws : List ℕ) (h : ℕ) (out : List ℕ) (l : Lst) → Has form ts h l → let r = E.write k ts ws h out in
    r.answer ≡ DONE → (r.output ≡ over (spelling k l) out) × (r.count ≡ length (spelling k l))

-- a list that is written is read again as itself, if the output takes its bytes and the pool has its cells
abbrev pub WrittenReadsBack : (form : Form) → Engine → Type 0
WrittenReadsBack form E =
    (k : Stored) (ts ws out us vs : List ℕ) (h i : ℕ) (l : Lst) → Words ts → Ready form ts ws
    → h < length (shown form ts).holders → Has form ts h l
    → order l ≤ levels → (TooLong k (length out) l → ⊥)
    → Ready form us vs → i < length (shown form us).holders → holder (shown form us) i ≡ 0
    → extent l ≤ frees (shown form us).cells
    → let w = E.write k ts ws h out in
    let r = E.read k us vs i (take w.count w.output) in
    (w.answer ≡ DONE) × (r.answer ≡ DONE) × (r.count ≡ w.count) × Has form r.table i l

-- bytes that are read are written anew: a text without its leading zeros and filled again, groups byte for byte
abbrev pub ReadWritesBack : Engine → Type 0
ReadWritesBack E =
    (k : Stored) (ts ws vs out : List ℕ) (h : ℕ) (xs bs : List ℕ) → let r = E.read k ts ws h xs in
    r.answer ≡ DONE → Anew k xs r.count bs → work_words * cells_told ts ≤ length vs → r.count ≤ length out
    → let w = E.write k r.table vs h out in
    (w.answer ≡ DONE) × (w.output ≡ over bs out)

-- a move gives the list of the bytes taken in the other form
abbrev pub MovingGives : Engine → Type 0
MovingGives E =
    (k : Stored) (xs out : List ℕ) → let r = E.move k xs out in
    r.answer ≡ DONE → (l : Lst) × Spells k xs r.taken l
    × (r.output ≡ over (spelling (other k) l) out) × (r.written ≡ length (spelling (other k) l))

-- what is moved there and back comes home anew
abbrev pub MovesHome : Engine → Type 0
MovesHome E =
    (k : Stored) (xs out home bs : List ℕ) → let r = E.move k xs out in
    r.answer ≡ DONE → Anew k xs r.taken bs
    → let q = E.move (other k) (take r.written r.output) home in
    q.answer ≡ DONE → (q.taken ≡ r.written) × (q.written ≡ length bs) × (q.output ≡ over bs home)

-- and is what a reading into a table and a writing in the other form give, where all three are done
abbrev pub MovesAsTables : Engine → Type 0
MovesAsTables E =
    (k : Stored) (ts ws vs : List ℕ) (h : ℕ) (xs out : List ℕ) → let r = E.read k ts ws h xs in
    let w = E.write (other k) r.table vs h out in let q = E.move k xs out in
    r.answer ≡ DONE → w.answer ≡ DONE → q.answer ≡ DONE
    → (q.taken ≡ r.count) × (q.written ≡ w.count) × (q.output ≡ w.output)

pub record Demand2 (form : Form) (E : Engine) : Type 0 where
  pub set_up_gives : SetUpGives form E
  pub operations_give : OperationsGive form E
  pub sizes_stay : SizesStay form E
  pub holders_stay : HoldersStay form E
  pub prefix_takes_head : PrefixTakesHead form E
  pub prefix_list_takes_head : PrefixListTakesHead form E
  pub decap-frees_to_head : DecapFreesToHead form E
  pub adv_erases : AdvErases form E
  pub borrow_shares : BorrowShares form E
  pub erase_erases : EraseErases form E
  pub inv-turns : InvTurns form E
  pub cinv-copies : CinvCopies form E
  pub conc_joins : ConcJoins form E
  pub asking-leaves : AskingLeaves form E
  pub live_cells_stay : LiveCellsStay form E
  pub others_stay : OthersStay form E
  pub scripts_give : ScriptsGive form E
  pub reading-gives : ReadingGives form E
  pub reading_uses_its_cells : ReadingUsesItsCells form E
  pub forms_read_alike : FormsReadAlike E
  pub checking_gives : CheckingGives E
  pub checking_takes : CheckingTakes E
  pub rest_gives : RestGives E
  pub writing-gives : WritingGives form E
  pub written-reads_back : WrittenReadsBack form E
  pub read_writes_back : ReadWritesBack E
  pub moving_gives : MovingGives E
  pub moves_home : MovesHome E
  pub moves_as_tables : MovesAsTables E
