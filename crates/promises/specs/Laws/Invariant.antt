-- Every table that our calls can make is a table of its shape, and sound. By induction on the calls.
use Rattle.std.specs.Prelude.{◌≡◌, refl, ◌≢◌, List, ℕ, length}
use Rattle.std.proofs.Common.{sym, ◌∙◌, subst, arith, length-set}
use Rattle.answers.specs.Answers.{DONE}
use Rattle.lists.specs.Lst.{Lst, nil, atom, list}
use Rattle.pool.specs.Pool.{Cell, Pool, next_of, holder, ListAt}
use Rattle.pool.specs.Laws.Edit.{put-length}
use Rattle.pool.specs.Operations.{load, read}
use Rattle.pool.specs.Script.{performed}
use Rattle.pool.specs.Laws.Lengths.{Alike}
use Rattle.pool.proofs.Whole.{performed_sound, performed_alike}
use Rattle.table.specs.View.{shape}
use Rattle.groups.specs.Stored.{list_in}
use Rattle.groups.specs.declared.Stored.{Stored as Kind}
use Rattle.calls.specs.SetUp.{Given, set_up_in}
use Rattle.setup.specs.Laws.SetUpLaws.{accepted, set_up_ways, set_up_new}
use Rattle.calls.specs.Entry.{shown}
use Rattle.calls.specs.Run.{Ran, operations, ran_in}
use Rattle.calls.specs.Read.{Read as Reading, reading_in}
use Rattle.promises.specs.Engine.{ours, Reached, made, set_again, ran_on, read_into}
use Rattle.promises.specs.Laws.Tables.{Good, shape_good, Stored, stores, stored_good}
use Rattle.promises.specs.Laws.RunLaws.{Passed, passed_good, run_ways}
use Rattle.promises.specs.Laws.ReadLaws.{Taken, filled_in, reading_good, read_ways, read-pool}
use Rattle.promises.specs.StoredGrounds.{Has}
use Rattle.table.specs.declared.Form.{Form}

-- reading changes no length
load-length : (l : Lst) (f : ℕ) (cs : List Cell) → length (load l f cs).cells ≡ length cs
unfolding load
load-length nil f cs = refl
load-length (atom v l) f cs =
    let z = load l (next_of cs f) cs in
    put-length z.cells f (record { kind = 0; elem = v; count = 1; next = z.head }) ∙ load-length l (next_of cs f) cs
load-length (list e l) f cs =
    let u = load e (next_of cs f) cs in
    let z = load l u.free u.cells in
    put-length z.cells f (record { kind = 1; elem = u.head; count = 1; next = z.head }) ∙ load-length l u.free u.cells ∙ load-length e (next_of cs f) cs

pub read_alike : (p : Pool) (h : ℕ) (l : Lst) → Alike p (read p h l)
unfolding read
read_alike p h l = record { holders = length-set p.holders h (load l p.free p.cells).head; cells = load-length l p.free p.cells }

-- setting up

set_up_good : (form : Form) → (ts : List ℕ) (n h : ℕ) → ((set_up_in form ts n h).answer ≢ DONE → Good form ts) → Good form (set_up_in form ts n h).table
set_up_good form ts n h = set_up_ways form ts n h (λ (g : Given). (g.answer ≢ DONE → Good form ts) → Good form g.table)
    (λ e _. let w = set_up_new form ts n h e in subst (λ (g : Given). Good form g.table) (accepted form ts n h e) (shape_good form (shape form h n) _ refl w.table w.sound))
    (λ e g. g (λ z. omega arith))

-- what was stored after a script, and after a reading

pub ran-stored : (form : Form) → {ts ws ss rs : List ℕ} → Passed form ts ws ss rs → Stored form ts (performed (shown form ts) (operations ss)).pool
ran-stored form {ts} {ws} {ss} p = stores form ts (performed (shown form ts) (operations ss)).pool (passed_good form p).table (performed_alike (operations ss) (shown form ts)) (performed_sound (operations ss) (shown form ts) (passed_good form p).sound)

pub read-stored : (form : Form) → {k : Kind} {ts ws xs : List ℕ} {h : ℕ} → Taken form k ts ws h xs → Stored form ts (read (shown form ts) h (list_in k xs))
read-stored form {k} {ts} {ws} {xs} {h} t = stores form ts (read (shown form ts) h (list_in k xs)) (reading_good form k ts ws h xs t.entered).table (read_alike (shown form ts) h (list_in k xs)) (read-pool form k ts ws h xs t).sound

-- the holder has the list of the bytes then
pub read_has : (form : Form) → {k : Kind} {ts ws xs : List ℕ} {h : ℕ} → Taken form k ts ws h xs → Has form (filled_in form k ts ws h xs).table h (list_in k xs)
read_has form {k} {ts} {ws} {xs} {h} t = subst (λ (q : Pool). ListAt q.cells (holder q h) (list_in k xs)) (sym (read-stored form t).shows) (read-pool form k ts ws h xs t).gets

pub ran_good : (form : Form) → (ts ws ss rs : List ℕ) → Good form ts → Good form (ran_in form ts ws ss rs).table
ran_good form ts ws ss rs g = run_ways form ts ws ss rs (λ (r : Ran). Good form r.table) (λ n us m. g)
    (λ p. stored_good form ts (performed (shown form ts) (operations ss)).pool (ran-stored form p) (performed_sound (operations ss) (shown form ts) g.sound))

pub read_good : (form : Form) (k : Kind) (ts ws : List ℕ) (h : ℕ) (xs : List ℕ) → Good form ts → Good form (reading_in form k ts ws h xs).table
read_good form k ts ws h xs g = read_ways form k ts ws h xs (λ (r : Reading). Good form r.table) (λ n us m. g)
    (λ t. stored_good form ts (read (shown form ts) h (list_in k xs)) (read-stored form t) (read-pool form k ts ws h xs t).sound)

pub reached_good : (form : Form) → {ts : List ℕ} → Reached (ours form) ts → Good form ts
reached_good form (made ts n h e) = set_up_good form ts n h (λ m. absurd (m e))
reached_good form (set_again {ts = ts} n h r) = set_up_good form ts n h (λ m. reached_good form r)
reached_good form (ran_on {ts = ts} ws ss rs r) = ran_good form ts ws ss rs (reached_good form r)
reached_good form (read_into {ts = ts} k ws h xs r) = read_good form k ts ws h xs (reached_good form r)
