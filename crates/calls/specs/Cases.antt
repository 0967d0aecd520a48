-- The cases of document 01 that are marked P, and one more with two cells waiting: one table under one theorem about
-- the definitions. Each text is filled to a record and checked; if it is a list it is read into holder 0 of a new pool,
-- and operations are performed on that.
use Prim.Native.String.{String}
use Rattle.std.specs.Prelude.{◌≡◌, refl, cond, List, [], ◌∷◌, map, ℕ, zero, suc, eqb, length}
use Rattle.answers.specs.Answers.{DONE}
use Rattle.lists.specs.Lst.{Lst, len, order, extent, onto, reversed}
use Rattle.pool.specs.Erase.{dropping, visit, step, total, dropped}
use Rattle.pool.specs.Operations.{read, laid, fresh, pfl, erase, span, load, list_from, list_of}
use Rattle.pool.specs.Pool.{Cell, next_of, frees}
use Rattle.pool.specs.Script.{FIRST, refusal, PFL, ERASE, effect, Run, performed}
use Rattle.pool.specs.Tally.{same, tally}
use Rattle.table.specs.Limits.{holders_most}
use Rattle.text.specs.ListText.{text_of}
use Rattle.text.specs.Marks.{list_in}
use Rattle.text.specs.Text.{scanned, others, size_fault, verdict}
use Rattle.calls.specs.Run.{operations}
use Rattle.calls.specs.Chars.{chars, in_record}

pub record Case : Type 0 where
  pub text : String
  pub cells : ℕ
  pub script : List ℕ

-- the check's answer; the list's length, order, extent and number of characters; its text and that of the list
-- reversed; what the operations say, the text of what holder 0 then has, and the free chain
pub record Row : Type 0 where
  pub answer : ℕ
  pub figures : List ℕ
  pub text : List ℕ
  pub backwards : List ℕ
  pub results : List ℕ
  pub after : List ℕ
  pub free : List ℕ

abbrev refused_row : ℕ → Row
refused_row n = record { answer = n; figures = []; text = []; backwards = []; results = []; after = []; free = [] }

-- the chain from c, at most k cells
abbrev chain_from : ℕ → List Cell → ℕ → List ℕ
chain_from zero cs c = []
chain_from (suc k) cs zero = []
chain_from (suc k) cs (suc i) = suc i ∷ chain_from k cs (next_of cs (suc i))

abbrev list_row : Lst → Run → Row
list_row l r = record {
  answer = DONE;
  figures = len l ∷ order l ∷ extent l ∷ length (text_of l) ∷ [];
  text = text_of l;
  backwards = text_of (reversed l);
  results = r.results;
  after = text_of (list_of r.pool 0);
  free = chain_from (length r.pool.cells) r.pool.cells r.pool.free;
}

abbrev row : Case → Row
row c =
    let xs = in_record c.text in
    let l = list_in xs in
    cond (eqb (verdict xs).no DONE)
    (list_row l (performed (read (fresh c.cells holders_most) 0 l) (operations c.script)))
    (refused_row (verdict xs).no)

abbrev of_text : String → Case
of_text s = record { text = s; cells = 6; script = [] }

abbrev pub cases : List Case
cases =
    of_text "()" ∷
    of_text "(())" ∷
    of_text "((3),1,(1,2))" ∷
    record { text = "(012)"; cells = 6; script = FIRST ∷ 0 ∷ 0 ∷ 0 ∷ [] } ∷
    of_text "(37777777777)" ∷
    of_text "(40000000000)" ∷
    of_text "(000000000000)" ∷
    of_text "(1,)" ∷
    of_text "(,1)" ∷
    of_text "(1(2))" ∷
    of_text "(8)" ∷
    record { text = "((3),1)"; cells = 4; script = ERASE ∷ 0 ∷ 0 ∷ 0 ∷ [] } ∷
    record { text = "((1),(2))"; cells = 4; script = ERASE ∷ 0 ∷ 0 ∷ 0 ∷ [] } ∷
    record { text = "()"; cells = 1; script = PFL ∷ 0 ∷ 1 ∷ 0 ∷ [] } ∷
    []

-- a list's figures, its text and that of the list reversed, what is said, the text afterwards and the free chain
abbrev gives : List ℕ → String → String → List ℕ → String → List ℕ → Row
gives figures text backwards results after free = record {
  answer = DONE;
  figures = figures;
  text = chars text;
  backwards = chars backwards;
  results = results;
  after = chars after;
  free = free;
}

-- a list on which nothing is performed
abbrev stays : List ℕ → String → String → List ℕ → Row
stays figures text backwards free = gives figures text backwards [] text free

abbrev pub stated : List Row
stated =
    stays (0 ∷ 1 ∷ 0 ∷ 2 ∷ []) "()" "()" (1 ∷ 2 ∷ 3 ∷ 4 ∷ 5 ∷ 6 ∷ []) ∷
    stays (1 ∷ 2 ∷ 1 ∷ 4 ∷ []) "(())" "(())" (2 ∷ 3 ∷ 4 ∷ 5 ∷ 6 ∷ []) ∷
    stays (3 ∷ 2 ∷ 6 ∷ 13 ∷ []) "((3),1,(1,2))" "((1,2),1,(3))" [] ∷
    gives (1 ∷ 1 ∷ 1 ∷ 4 ∷ []) "(12)" "(12)" (0 ∷ 10 ∷ []) "(12)" (2 ∷ 3 ∷ 4 ∷ 5 ∷ 6 ∷ []) ∷
    stays (1 ∷ 1 ∷ 1 ∷ 13 ∷ []) "(37777777777)" "(37777777777)" (2 ∷ 3 ∷ 4 ∷ 5 ∷ 6 ∷ []) ∷
    refused_row 16 ∷
    refused_row 16 ∷
    refused_row 15 ∷
    refused_row 15 ∷
    refused_row 15 ∷
    refused_row 15 ∷
    gives (2 ∷ 2 ∷ 3 ∷ 7 ∷ []) "((3),1)" "(1,(3))" (2 ∷ 3 ∷ []) "()" (2 ∷ 1 ∷ 3 ∷ 4 ∷ []) ∷
    gives (2 ∷ 2 ∷ 4 ∷ 9 ∷ []) "((1),(2))" "((2),(1))" (2 ∷ 4 ∷ []) "()" (2 ∷ 1 ∷ 4 ∷ 3 ∷ []) ∷
    gives (0 ∷ 1 ∷ 0 ∷ 2 ∷ []) "()" "()" (3 ∷ 0 ∷ []) "(())" [] ∷
    []

pub edges : map row cases ≡ stated
unfolding others size_fault verdict scanned list_in len order extent reversed onto performed refusal effect read load fresh laid operations list_from erase dropped total dropping step visit tally frees same pfl span
edges = refl
