-- When each answer is given, in document 01's words: the rows of setting up, of a script run and of an operation, in
-- the order of their checks.
use Rattle.std.specs.Prelude.{◌≡◌, ◌≢◌, ◌⊎◌, false, List, [], ◌∷◌, ◌++◌, ℕ, zero, suc, ◌*◌, ◌/◌, ◌%◌, ◌≤◌, ◌<◌, length}
use Rattle.answers.specs.Answers.{TABLE_SIZE, WORK_SPACE, SCRIPT, RESULTS, UNSOUND, CODE, HOLDER, SAME, NULL, OCCUPIED, SHARED, NO_ROOM}
use Rattle.answers.specs.Codes.{operation_words, script_most, result_words}
use Rattle.lists.specs.Lst.{Lst, len}
use Rattle.pool.specs.Pool.{Cell, Pool, count_of, next_of, holder, ListAt, frees, Sound}
use Rattle.pool.specs.Script.{PFA, PFL, DECAP, ADV, BORROW, INV, CINV, CONC, FIRST, last_code, Operation}
use Rattle.table.specs.Limits.{cells_most, holders_fit, cells_told, holders_told, table_words}
use Rattle.calls.specs.Entry.{work_words, shown}
use Rattle.promises.specs.Rows.{Row, row, OneOf}
use Rattle.table.specs.declared.Form.{Form}

-- n cells and h holders in k words: no pool has n cells, or h holders, or one that has has not k words
abbrev pub BadSize : (form : Form) → ℕ → ℕ → ℕ → Type 0
BadSize form h n k = (n < 1) ⊎ (cells_most form < n) ⊎ (holders_fit form h ≡ false) ⊎ (k ≢ table_words form h n)

abbrev pub BadTable : (form : Form) → List ℕ → Type 0
BadTable form ts = BadSize form (holders_told form ts) (cells_told ts) (length ts)

-- fewer than k words for each cell
abbrev pub BadWork : ℕ → List ℕ → List ℕ → Type 0
BadWork k ts ws = length ws < k * cells_told ts

abbrev pub BadScript : List ℕ → Type 0
BadScript ss = (length ss % operation_words ≢ 0) ⊎ (script_most < length ss)

abbrev pub BadResults : List ℕ → List ℕ → Type 0
BadResults ss rs = length rs < result_words * (length ss / operation_words)

abbrev pub Unsound : (form : Form) → List ℕ → Type 0
Unsound form ts = Sound (shown form ts) → ⊥

abbrev pub NoHolder : Pool → ℕ → Type 0
NoHolder p h = length p.holders ≤ h

-- setting up

abbrev pub set_up_rows : (form : Form) → List ℕ → ℕ → ℕ → List Row
set_up_rows form ts n h = row TABLE_SIZE (BadSize form h n (length ts)) ∷ []

-- every call on a table, at its start

abbrev pub entry_rows : ℕ → (form : Form) → List ℕ → List ℕ → List Row
entry_rows k form ts ws = row TABLE_SIZE (BadTable form ts) ∷ row WORK_SPACE (BadWork k ts ws) ∷ []

-- a script run, before its operations

abbrev pub script_rows : List ℕ → List ℕ → List Row
script_rows ss rs = row SCRIPT (BadScript ss) ∷ row RESULTS (BadResults ss rs) ∷ []

abbrev pub run_rows : (form : Form) → List ℕ → List ℕ → List ℕ → List ℕ → List Row
run_rows form ts ws ss rs = entry_rows work_words form ts ws ++ (script_rows ss rs ++ (row UNSOUND (Unsound form ts) ∷ []))

-- an operation

-- every operation uses a; these use b too
abbrev pub with_b : List ℕ
with_b = PFL ∷ DECAP ∷ ADV ∷ BORROW ∷ CINV ∷ CONC ∷ []

-- these take the first element of a, these fill b, and these take one new cell
abbrev pub taking_first : List ℕ
taking_first = DECAP ∷ ADV ∷ FIRST ∷ []

abbrev pub filling_b : List ℕ
filling_b = DECAP ∷ ADV ∷ BORROW ∷ CINV ∷ []

abbrev pub taking_one : List ℕ
taking_one = PFA ∷ PFL ∷ []

abbrev pub UsesB : ℕ → Type 0
UsesB c = OneOf c with_b

-- the cell n steps on along S
unfoldable pub onward : List Cell → ℕ → ℕ → ℕ
onward cs zero x = x
onward cs (suc n) x = onward cs n (next_of cs x)

-- c is a cell of the main level of holder a's list
abbrev pub MainLevel : Pool → ℕ → ℕ → Type 0
MainLevel p a c = (c ≢ 0) × ((n : ℕ) × (onward p.cells n (holder p a) ≡ c))

-- some count of the main level is over 1
abbrev pub SomeShared : Pool → ℕ → Type 0
SomeShared p a = (c : ℕ) × MainLevel p a c × (1 < count_of p.cells c)

abbrev pub BadCode : Operation → Type 0
BadCode o = (o.code < PFA) ⊎ (last_code < o.code)

abbrev pub BadHolder : Pool → Operation → Type 0
BadHolder p o = NoHolder p o.a ⊎ (UsesB o.code × NoHolder p o.b)

abbrev pub Same : Operation → Type 0
Same o = UsesB o.code × (o.a ≡ o.b)

abbrev pub Null : Pool → Operation → Type 0
Null p o = OneOf o.code taking_first × (holder p o.a ≡ 0)

abbrev pub Occupied : Pool → Operation → Type 0
Occupied p o = OneOf o.code filling_b × (holder p o.b ≢ 0)

abbrev pub Shared : Pool → Operation → Type 0
Shared p o =
    ((o.code ≡ DECAP) × (1 < count_of p.cells (holder p o.a)))
    ⊎ ((o.code ≡ INV) × SomeShared p o.a)
    ⊎ ((o.code ≡ CONC) × (holder p o.b ≢ 0) × SomeShared p o.a)

-- the cells that an operation needs: one, or as many as a's list is long
abbrev pub Needs : Pool → Operation → ℕ → Type 0
Needs p o n =
    (OneOf o.code taking_one × (n ≡ 1))
    ⊎ ((o.code ≡ CINV) × ((l : Lst) × ListAt p.cells (holder p o.a) l × (n ≡ len l)))

abbrev pub NoRoom : Pool → Operation → Type 0
NoRoom p o = (n : ℕ) × Needs p o n × (frees p.cells < n)

abbrev pub before_room : Pool → Operation → List Row
before_room p o =
    row CODE (BadCode o)
    ∷ row HOLDER (BadHolder p o)
    ∷ row SAME (Same o)
    ∷ row NULL (Null p o)
    ∷ row OCCUPIED (Occupied p o)
    ∷ row SHARED (Shared p o)
    ∷ []

abbrev pub operation_rows : Pool → Operation → List Row
operation_rows p o = before_room p o ++ (row NO_ROOM (NoRoom p o) ∷ [])
