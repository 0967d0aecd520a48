use Rattle.std.specs.Prelude.{◌≡◌, ℕ, List, length, set}
use Rattle.std.proofs.Common.{refl, ◌∙◌, subst, arith, length-set}
use Rattle.groups.specs.Reading.{list_in}
use Rattle.writing.specs.Laws.PutLaws.{put_until}
use Rattle.totext.specs.declared.put.Walk.{Walk}
use Rattle.totext.specs.Putting.{Putting, Ran}
use Rattle.totext.specs.Laws.PuttingLaws.{some_text, first_some, first_below, put-begins, put_on, put-from, put-after, put_shut, put_fills}
use Rattle.totext.specs.Laws.TurnLaws.{shut_turned, shallow}
use Rattle.totext.proofs.put.put.Goals as goal

-- the room is that of the text, and stays so
room : {s t : List ℕ} (xs : List ℕ) {mid out kept kept_2 : List ℕ} {n : ℕ} {w r : Walk} → length xs ≡ length t → Putting s t (set xs 0 40) n mid kept w
    → Putting s t mid n out kept_2 r → length out ≡ length t
room xs e g h = h.room ∙ g.room ∙ length-set xs 0 40 ∙ e

ran_until : {s t kept xs ys : List ℕ} {n m : ℕ} {w r : Walk} → n ≡ m → Ran s t n kept xs ys w r → Ran s t m kept xs ys w r
ran_until {s} {t} {kept} {xs} {ys} {w = w} {r} e g = subst (λ (k : ℕ). Ran s t k kept xs ys w r) e g

pub bounds-out-0 : goal.bounds-out-0
bounds-out-0 c = omega (arith, some_text (list_in c.args.groups.now), c.requires.out_len)

pub number_there-n-requires : goal.number_there-n-requires
number_there-n-requires c = first_some c.requires.held

pub overflow_cast-w : goal.overflow_cast-w
overflow_cast-w c = omega (arith, first_below c.requires.held c.number_there-n.ensures)

pub loop-w-init : goal.loop-w-init
loop-w-init c =
    put-begins c.requires.held c.number_there-n.ensures _ c.args.out.now refl (omega (arith, c.requires.out_len))

pub loop-w-2-init : goal.loop-w-2-init
loop-w-2-init c = (put-from c.loop-w.invariant, omega arith, omega arith)

pub put_digits-ran-requires : goal.put_digits-ran-requires
put_digits-ran-requires c =
    let g = c.loop-w-2.invariant in
    record { standing = g.0.stands; le_depth = g.1; out_len = room _ c.requires.out_len c.loop-w.invariant g.0 }

pub put_element-w-requires : goal.put_element-w-requires
put_element-w-requires c =
    let run = c.put_digits-ran.ensures in
    let g = c.loop-w-2.invariant in record {
      standing = run.stands;
      le_depth = (omega (arith, run.level, g.1), λ z. omega (arith, run.last (omega (arith, c.loop-w-2-test.true))));
      out_len = run.room ∙ room _ c.requires.out_len c.loop-w.invariant g.0;
    }

pub loop-w-2-smaller : goal.loop-w-2-smaller
loop-w-2-smaller c =
    let d = c.put_element-w.ensures.put_turn.1 in
    omega (arith, c.put_digits-ran.ensures.on, d.size, d.more, d.stands.within)

pub loop-w-2-preserved : goal.loop-w-2-preserved
loop-w-2-preserved c =
    let g = c.loop-w-2.invariant in
    let e = room _ c.requires.out_len c.loop-w.invariant g.0 in
    let run = ran_until e c.put_digits-ran.ensures in
    let turn = c.put_element-w.ensures.put_turn in
    (put_on (run.puts _ g.0) turn.1 (put_until (run.room ∙ e) turn.2), c.put_element-w.ensures.le_depth_2, omega (arith, g.2, run.on, turn.1.size))

pub put_shut-w-requires : goal.put_shut-w-requires
put_shut-w-requires c =
    let g = c.loop-w-2.invariant in
    let d = shut_turned g.0.stands g.1 (omega (arith, c.loop-w-2-test.false)) in
    record { le_depth = (g.1, shallow g.0.stands); w_bound = omega (arith, d.stands.within, room _ c.requires.out_len c.loop-w.invariant g.0) }

pub loop-w-smaller : goal.loop-w-smaller
loop-w-smaller c =
    let g = c.loop-w-2.invariant in
    let p = c.put_shut-w.ensures in
    let q = put_shut g.0 g.1 (omega (arith, c.loop-w-2-test.false)) (p.0, put_until (room _ c.requires.out_len c.loop-w.invariant g.0) p.1) in
    omega (arith, q.1, q.2, g.2)

pub loop-w-preserved : goal.loop-w-preserved
loop-w-preserved c =
    let g = c.loop-w-2.invariant in
    let p = c.put_shut-w.ensures in
    put-after c.loop-w.invariant (put_shut g.0 g.1 (omega (arith, c.loop-w-2-test.false)) (p.0, put_until (room _ c.requires.out_len c.loop-w.invariant g.0) p.1)).0

pub shape_of-out : goal.shape_of-out
shape_of-out c =
    c.loop-w.invariant.room ∙ length-set c.args.out.now 0 40

pub returns : goal.returns
returns c =
    put_fills _ (list_in c.args.groups.now) c.args.out.now _ _ _ c.loop-w.invariant c.requires.out_len (omega arith)
