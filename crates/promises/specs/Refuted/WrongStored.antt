-- Engines that read or write one stored form wrongly, whichever it is, each in one way.
use Rattle.std.specs.Prelude.{cond, ◌&&◌, List, [], ◌∷◌, ℕ, eqb, length, set, take, replicate}
use Rattle.answers.specs.Answers.{DONE, OCCUPIED, NO_ROOM, OUTPUT, NOT_A_LIST, GROUPS}
use Rattle.lists.specs.Lst.{Lst, nil, atom, list, extent, reversed}
use Rattle.pool.specs.Pool.{Cell, Pool, put, next_of, frees}
use Rattle.pool.specs.Operations.{Made, read, list_of}
use Rattle.pool.specs.Script.{among}
use Rattle.calls.specs.Entry.{shown, stored, used, over}
use Rattle.calls.specs.Read.{Read, not_read, read_in}
use Rattle.calls.specs.Write.{Write, write_out}
use Rattle.groups.specs.Stored.{list_in}
use Rattle.groups.specs.declared.Stored.{Stored}
use Rattle.promises.specs.Engine.{Engine}
use Rattle.promises.specs.StoredGrounds.{spelling}
use Rattle.promises.specs.Refuted.OneChanged.{right, with_read, with_write, in_form}
use Rattle.table.specs.declared.Form.TheVariants.{Four}

-- ours with another reader of the form k
abbrev pub reading : Stored → (List ℕ → List ℕ → ℕ → List ℕ → Read) → Engine
reading k f = with_read (in_form k read_in f) right

-- takes cells while it reads, and keeps them where the bytes are no list
abbrev pub keeps_cells : Stored → Engine
keeps_cells k = reading k (λ ts ws h xs. let r = read_in k ts ws h xs in record {
  answer = r.answer;
  count = r.count;
  table = cond (among r.answer (NOT_A_LIST ∷ GROUPS ∷ [])) (set ts 1 0) r.table;
  work = r.work;
})

-- ours with the list of the bytes put into its holder in another way
abbrev placing : Stored → (Pool → ℕ → Lst → Pool) → Engine
placing k f = reading k (λ ts ws h xs. let r = read_in k ts ws h xs in record {
  answer = r.answer;
  count = r.count;
  table = cond (eqb r.answer DONE) (stored Four ts (f (shown Four ts) h (list_in k xs))) r.table;
  work = r.work;
})

-- prefixes the elements as they come, and does not turn the list at the end
abbrev pub reads_reversed : Stored → Engine
reads_reversed k = placing k (λ p h l. read p h (reversed l))

-- list by list: the cells of an element taken after the later cells of its list, so that right lists are in other cells
unfoldable pub load_late : Lst → ℕ → List Cell → Made
load_late nil f cs = record { free = f; cells = cs; head = 0 }
load_late (atom v l) f cs =
    let z = load_late l (next_of cs f) cs in
    record {
      free = z.free;
      cells = put z.cells f (record { kind = 0; elem = v; count = 1; next = z.head });
      head = f;
    }
load_late (list e l) f cs =
    let z = load_late l (next_of cs f) cs in
    let u = load_late e z.free z.cells in
    record {
      free = u.free;
      cells = put u.cells f (record { kind = 1; elem = u.head; count = 1; next = z.head });
      head = f;
    }

abbrev pub takes_late : Stored → Engine
takes_late k = placing k (λ p h l. let z = load_late l p.free p.cells in record {
  free = z.free;
  holders = set p.holders h z.head;
  cells = z.cells;
})

-- reads into a holder that has a list
abbrev pub reads_over : Stored → Engine
reads_over k = reading k (λ ts ws h xs. let r = read_in k ts ws h xs in record {
  answer = cond (eqb r.answer OCCUPIED) DONE r.answer;
  count = r.count;
  table = r.table;
  work = r.work;
})

-- keeps one cell back: a list that would take all that are free has no room
abbrev pub keeps_one_back : Stored → Engine
keeps_one_back k = reading k (λ ts ws h xs.
    let r = read_in k ts ws h xs in
    cond (eqb r.answer DONE && eqb (frees (shown Four ts).cells) (extent (list_in k xs)))
    (not_read NO_ROOM ts r.work) r)

-- clears the work space before it looks at the size of what it reads
abbrev pub clears_early : Stored → Engine
clears_early k = reading k (λ ts ws h xs. let r = read_in k ts ws h xs in record {
  answer = r.answer;
  count = r.count;
  table = r.table;
  work = used Four ts ws;
})

-- uses the work space for its open lists, and leaves it as it is then
abbrev pub leaves_reading : Stored → Engine
leaves_reading k = reading k (λ ts ws h xs. let r = read_in k ts ws h xs in record {
  answer = r.answer;
  count = r.count;
  table = r.table;
  work = replicate (length ws) 9;
})

-- writing

abbrev pub writing_by : Stored → (List ℕ → List ℕ → ℕ → List ℕ → Write) → Engine
writing_by k f = with_write (in_form k write_out f) right

abbrev pub leaves_writing : Stored → Engine
leaves_writing k = writing_by k (λ ts ws h out. let r = write_out k ts ws h out in record {
  answer = r.answer;
  count = r.count;
  work = replicate (length ws) 9;
  output = r.output;
})

-- writes what the output takes, and answers that all is done
abbrev pub writes_what_fits : Stored → Engine
writes_what_fits k = writing_by k (λ ts ws h out. let r = write_out k ts ws h out in record {
  answer = cond (eqb r.answer OUTPUT) DONE r.answer;
  count = r.count;
  work = r.work;
  output = r.output;
})

-- writes as it goes, and leaves in the output what it has written where that ends too soon
abbrev pub writes_as_it_goes : Stored → Engine
writes_as_it_goes k = writing_by k (λ ts ws h out. let r = write_out k ts ws h out in record {
  answer = r.answer;
  count = r.count;
  work = r.work;
  output = cond (eqb r.answer OUTPUT) (take (length out) (spelling k (list_of (shown Four ts) h))) r.output;
})

-- ours with other bytes of a list
abbrev pub writing : Stored → (Lst → List ℕ) → Engine
writing k f = writing_by k (λ ts ws h out.
    let r = write_out k ts ws h out in
    let t = f (list_of (shown Four ts) h) in
    cond (eqb r.answer DONE) (record { answer = DONE; count = length t; work = r.work; output = over t out }) r)

-- an element that is null taken for the atom 0, as a writer does that asks for E before T
unfoldable pub null_as_zero : Lst → Lst
null_as_zero nil = nil
null_as_zero (atom v l) = atom v (null_as_zero l)
null_as_zero (list nil l) = atom 0 (null_as_zero l)
null_as_zero (list (atom v e) l) = list (atom v (null_as_zero e)) (null_as_zero l)
null_as_zero (list (list d e) l) = list (null_as_zero (list d e)) (null_as_zero l)

abbrev pub writes_null_as_zero : Stored → Engine
writes_null_as_zero k = writing k (λ l. spelling k (null_as_zero l))
