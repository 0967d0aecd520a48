-- A script gives the machine's lists and says what the machine says, up to the operation where it stops. By induction on its operations.
use Rattle.std.specs.Prelude.{◌≡◌, refl, ◌≢◌, Bool, true, false, cond, List, [], ◌∷◌, ◌++◌, ℕ, eqb, take}
use Rattle.std.proofs.Common.{sym, ap, ◌∙◌, subst, eqb-true, eq-eqb}
use Rattle.answers.specs.Answers.{DONE}
use Rattle.lists.specs.Lst.{Lst}
use Rattle.pool.specs.Pool.{Pool, Sound}
use Rattle.pool.specs.Script.{Operation, Run, refusal, effect, goes_on, stops, performed, among, PFA, PFL, DECAP, ADV, BORROW, ERASE, INV, CINV, CONC}
use Rattle.pool.specs.Laws.ByCode.{either_way}
use Rattle.pool.specs.Laws.ScriptLaws.{allowed}
use Rattle.pool.proofs.Whole.{effect_sound}
use Rattle.promises.specs.Grounds.{with_b, UsesB}
use Rattle.promises.specs.Laws.Tells.{tells_among}
use Rattle.promises.specs.Machine.{Lists, assign, turn, turn_all, Says}
use Rattle.promises.specs.Laws.OperationLaws.{HoldsIn, operation-does, assign_other}

pub record ScriptDoes (p : Pool) (os : List Operation) (m : Lists) (r : Run) : Type 0 where
  pub lists : HoldsIn r.pool (turn_all m (take r.done os))
  pub words : Says m (take r.done os) r.results

pub script_does : (os : List Operation) (p : Pool) (m : Lists) → Sound p → HoldsIn p m → ScriptDoes p os m (performed p os)
unfolding performed turn_all Says
script_does [] p m s k = record { lists = k; words = refl }
script_does (o ∷ os) p m s k = either_way (ScriptDoes p (o ∷ os) m) (eqb (refusal p o) DONE) (goes_on (effect p o) (performed (effect p o).pool os)) (stops p (refusal p o))
    (λ e. on (eqb-true (refusal p o) DONE e) (script_does os (effect p o).pool (turn m o)))
    (λ e. record { lists = k; words = refl })
  where
    on : refusal p o ≡ DONE → (Sound (effect p o).pool → HoldsIn (effect p o).pool (turn m o) → ScriptDoes (effect p o).pool os (turn m o) (performed (effect p o).pool os))
        → ScriptDoes p (o ∷ os) m (goes_on (effect p o) (performed (effect p o).pool os))
    on e ih =
        let a = allowed p o e in
        let d = operation-does p o s a in
        let r = performed (effect p o).pool os in
        let i = ih (effect_sound p o s a) (d.lists m k) in
        let (n, w) = d.words m k in
        record { lists = i.lists; words = (n, r.results, ap (λ (q : List ℕ). q ++ r.results) w, i.words) }

-- a script of one operation
pub one-done : (p : Pool) (o : Operation) → refusal p o ≡ DONE → performed p (o ∷ []) ≡ goes_on (effect p o) (stops (effect p o).pool DONE)
unfolding performed
one-done p o e = rw (eq-eqb (refusal p o) DONE e)

pub one_answer : (p : Pool) (o : Operation) → (performed p (o ∷ [])).answer ≡ refusal p o
unfolding performed
one_answer p o = go (eqb (refusal p o) DONE) refl
  where
    go : (b : Bool) → eqb (refusal p o) DONE ≡ b → (cond b (goes_on (effect p o) (stops (effect p o).pool DONE)) (stops p (refusal p o))).answer ≡ refusal p o
    go true e = sym (eqb-true (refusal p o) DONE e)
    go false e = refl

-- an operation changes only the lists of the holders that it uses
pub turn-other : (m : Lists) (o : Operation) (i : ℕ) → i ≢ o.a → (UsesB o.code → i ≢ o.b) → turn m o i ≡ m i
unfolding turn
turn-other m o i na nb =
    by PFA _ _ (λ e. one_a _) (by PFL _ _ (two PFL refl _ _) (by DECAP _ _ (two DECAP refl _ _) (by ADV _ _ (two ADV refl _ _) (by BORROW _ _ (one_b BORROW refl m _)
    (by ERASE _ _ (λ e. one_a _) (by INV _ _ (λ e. one_a _) (by CINV _ _ (one_b CINV refl m _) (by CONC _ _ (two CONC refl _ _) refl))))))))
  where
    by : (k : ℕ) (f g : Lists) → (eqb o.code k ≡ true → f i ≡ m i) → g i ≡ m i → cond (eqb o.code k) f g i ≡ m i
    by k f g x y = either_way (λ (h : Lists). h i ≡ m i) (eqb o.code k) f g x (λ e. y)

    one_a : (l : Lst) → assign m o.a l i ≡ m i
    one_a l = assign_other m o.a l i na

    one_b : (k : ℕ) → among k with_b ≡ true → (f : Lists) (l : Lst) → eqb o.code k ≡ true → assign f o.b l i ≡ f i
    one_b k u f l e = assign_other f o.b l i (nb (subst UsesB (sym (eqb-true o.code k e)) ((tells_among k with_b).0 u)))

    two : (k : ℕ) → among k with_b ≡ true → (l n : Lst) → eqb o.code k ≡ true → assign (assign m o.a l) o.b n i ≡ m i
    two k u l n e = one_b k u (assign m o.a l) n e ∙ one_a l
