-- A loop that ends stays one that ends, with a turn less, and ends where it would have: proved once, for every loop of the code.
use Prim.Native.Nat.{ℕ, zero, suc, ◌≤◌, ◌<◌}
use Rattle.std.specs.Prelude.{◌≡◌, Bool, true, false}
use Rattle.std.proofs.Math.Path.{refl}
use Rattle.std.proofs.Common.{ap, sym, ◌∙◌, true≢false, arith}
use Rattle.loops.specs.Loop.{run, steps, Runs, stop, more, Ends, Going}

module _ {S : Type 0} (halt : S → Bool) (next : S → S) where
  pub run_halt : (f : ℕ) (st : S) → halt st ≡ true → run halt next f st ≡ st
  unfolding run
  run_halt zero st h = refl
  run_halt (suc f) st h = rw h

  pub run_go : (f : ℕ) (st : S) → halt st ≡ false → run halt next (suc f) st ≡ run halt next f (next st)
  unfolding run
  run_go f st h = rw h

  steps_go : (f : ℕ) (st : S) → halt st ≡ false → steps halt next (suc f) st ≡ suc (steps halt next f (next st))
  unfolding steps
  steps_go f st h = rw h

  steps_halt : (f : ℕ) (st : S) → halt st ≡ true → steps halt next f st ≡ 0
  unfolding steps
  steps_halt zero st h = refl
  steps_halt (suc f) st h = rw h

  module _ {Ok : S → Type 0} where
    run_more : {n : ℕ} {st : S} (f : ℕ) → Runs halt next Ok n st → n ≤ f → run halt next f st ≡ run halt next n st
    run_more {st = st} f (stop h) l = run_halt f st h ∙ sym (run_halt zero st h)
    run_more zero (more h o r) l = absurd (omega arith)
    run_more {st = st} (suc f) (more {n = n} h o r) l = run_go f st h ∙ run_more f r (omega arith) ∙ sym (run_go n st h)

    steps_exact : {n : ℕ} {st : S} (f : ℕ) → Runs halt next Ok n st → n ≤ f → steps halt next f st ≡ n
    steps_exact {st = st} f (stop h) l = steps_halt f st h
    steps_exact zero (more h o r) l = absurd (omega arith)
    steps_exact {st = st} (suc f) (more h o r) l = steps_go f st h ∙ ap suc (steps_exact f r (omega arith))

  -- what a turn of the code's loop knows
  pub record Turn (Ok : S → Type 0) (f : ℕ) (st : S) : Type 0 where
    pub ok : Ok st
    pub rest : Ends halt next Ok f (next st)
    pub ran : run halt next f (next st) ≡ run halt next f st
    pub fewer : steps halt next f st ≡ suc (steps halt next f (next st))

  pub turn : {Ok : S → Type 0} (f : ℕ) {st : S} → Ends halt next Ok f st → halt st ≡ false → Turn Ok f st
  turn {Ok} f {st} e g = go e.runs e.short
    where
      go : {n : ℕ} → Runs halt next Ok n st → n ≤ f → Turn Ok f st
      go (stop h) l = absurd (true≢false (sym h ∙ g))
      go (more {n = n} h o r) l = record {
        ok = o;
        rest = record { turns = n; runs = r; short = omega arith };
        ran = run_more f r (omega arith) ∙ sym (run_go n st h) ∙ sym (run_more f (more h o r) l);
        fewer = steps_exact f (more h o r) l ∙ ap suc (sym (steps_exact f r (omega arith)));
      }

  pub begin : {Ok : S → Type 0} {f : ℕ} {st : S} → Ends halt next Ok f st → Going halt next Ok f st st
  begin e = record { ends = e; same = refl }

  module _ {Ok : S → Type 0} (f : ℕ) {st₀ st : S} (g : Going halt next Ok f st₀ st) where
    pub before : halt st ≡ false → Ok st
    before h = (turn f g.ends h).ok

    -- after a turn that the code has made
    pub again : {st' : S} → halt st ≡ false → st' ≡ next st → Going halt next Ok f st₀ st'
    again h e = record { ends = rw e (turn f g.ends h).rest; same = rw e ((turn f g.ends h).ran ∙ g.same) }

    pub less : {st' : S} → halt st ≡ false → st' ≡ next st → steps halt next f st' < steps halt next f st
    less h e = rw e (omega (arith, (turn f g.ends h).fewer))

    -- after the loop
    pub finish : halt st ≡ true → st ≡ run halt next f st₀
    finish h = sym (run_halt f st h) ∙ g.same
