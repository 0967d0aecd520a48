-- A script from its start, over one operation, to its end. The words of an operation come off the script one by one.
use Rattle.std.specs.Prelude.{◌≡◌, refl, ◌≢◌, false, List, [], ◌∷◌, ◌++◌, ℕ, suc, ◌+◌, ◌*◌, ◌≤◌, ◌<◌, eqb, Ok, Err}
use Rattle.std.specs.Prelude.{length, get_or, set, take, drop}
use Rattle.std.proofs.Common.{sym, ap, ◌∙◌, subst, arith, ne_eqb, append_assoc, append-nil, length-set, add-one}
use Rattle.std.proofs.Common.{take-append-drop, drop_of_length-le, drop-cons, take-suc-set, drop-set-lt, length-take-le, drop-drop}
use Rattle.answers.specs.Answers.{DONE, outcome}
use Rattle.answers.specs.Codes.{operation_words, result_words}
use Rattle.answers.specs.Laws.Refusals.{refusal_some}
use Rattle.answers.specs.Operations.{kind_told, value_told}
use Rattle.answers.specs.Refusals.{refusal_no}
use Rattle.answers.specs.declared.refusal.Refusal.{Refusal}
use Rattle.answers.specs.declared.told.Told.{Told}
use Rattle.calls.specs.Entry.{over}
use Rattle.calls.specs.Run.{operations}
use Rattle.ops.specs.Replies.{Gives}
use Rattle.ops.specs.Laws.ReplyLaws.{Did, did, stopped}
use Rattle.pool.specs.Pool.{Pool, Sound}
use Rattle.pool.specs.Script.{Operation, Effect, Run, refusal, effect, pool_after, stops, goes_on, performed}
use Rattle.pool.proofs.Whole.{after_sound}
use Rattle.scripts.specs.Midway.{operation_at, written, left, resumed, Midway}
use Rattle.scripts.specs.Performs.{PerformsIn}
use Rattle.cells.specs.Lent.{Lent, on}

-- the script from operation i on
words-off : (ss : List ℕ) (k : ℕ) → k + 4 ≤ length ss → drop k ss ≡ get_or ss k 0 ∷ get_or ss (k + 1) 0 ∷ get_or ss (k + 2) 0 ∷ get_or ss (k + 3) 0 ∷ drop (k + 4) ss
words-off ss k l =
    let one : (j : ℕ) → j < length ss → drop j ss ≡ get_or ss j 0 ∷ drop (j + 1) ss = λ j h. drop-cons ss j 0 h ∙ ap (λ (n : ℕ). get_or ss j 0 ∷ drop n ss) (sym (add-one j)) in
    let more : (j n : ℕ) → j + 1 ≡ n → j < length ss → drop j ss ≡ get_or ss j 0 ∷ drop n ss = λ j n e h. one j h ∙ ap (λ (m : ℕ). get_or ss j 0 ∷ drop m ss) e in
    more k (k + 1) refl (omega arith)
    ∙ ap (λ (us : List ℕ). get_or ss k 0 ∷ us) (more (k + 1) (k + 2) (omega arith) (omega arith)
    ∙ ap (λ (us : List ℕ). get_or ss (k + 1) 0 ∷ us) (more (k + 2) (k + 3) (omega arith) (omega arith)
    ∙ ap (λ (us : List ℕ). get_or ss (k + 2) 0 ∷ us) (more (k + 3) (k + 4) (omega arith) (omega arith))))

operation-off : (ss : List ℕ) (i : ℕ) → operation_words * i + operation_words ≤ length ss → operations (drop (operation_words * i) ss) ≡ operation_at ss i ∷ operations (drop (operation_words * (i + 1)) ss)
unfolding operations
operation-off ss i l =
    let e : operation_words * i + operation_words ≡ operation_words * (i + 1) = omega arith in
    ap operations (words-off ss (operation_words * i) l) ∙ ap (λ (n : ℕ). operation_at ss i ∷ operations (drop n ss)) e

module _ (ss : List ℕ) (i : ℕ) (p : Pool) where
  left-none : length ss ≤ operation_words * i → left ss i p ≡ stops p DONE
  unfolding left performed operations
  left-none l = ap (λ (us : List ℕ). performed p (operations us)) (drop_of_length-le ss l)

  left-done : operation_words * i + operation_words ≤ length ss → refusal p (operation_at ss i) ≡ DONE → left ss i p ≡ goes_on (effect p (operation_at ss i)) (left ss (i + 1) (effect p (operation_at ss i)).pool)
  unfolding left performed
  left-done l e = ap (performed p) (operation-off ss i l) ∙ rw e refl

  left-refused : (k : ℕ) → operation_words * i + operation_words ≤ length ss → refusal p (operation_at ss i) ≡ k → k ≢ DONE → left ss i p ≡ stops p k
  unfolding left performed
  left-refused k l e n =
      let m : eqb k DONE ≡ false = ne_eqb k DONE n in
      ap (performed p) (operation-off ss i l) ∙ rw (e, m) refl

-- the result words of operation i
module _ (rs : List ℕ) (i k w : ℕ) (l : result_words * i + result_words ≤ length rs) where
  written-take : take (result_words * (i + 1)) (written rs i k w) ≡ take (result_words * i) rs ++ k ∷ w ∷ []
  written-take =
      let n = result_words * i in
      let e : result_words * (i + 1) ≡ suc (n + 1) = omega arith in
      let f : n + 1 ≡ suc n = omega arith in
      ap (λ (m : ℕ). take m (written rs i k w)) e
      ∙ take-suc-set (set rs n k) (n + 1) w (omega (arith, length-set rs n k))
      ∙ ap (λ (us : List ℕ). us ++ (w ∷ [])) (ap (λ (m : ℕ). take m (set rs n k)) f ∙ take-suc-set rs n k (omega arith))
      ∙ append_assoc (take n rs) (k ∷ []) (w ∷ [])

  written-drop : drop (result_words * (i + 1)) (written rs i k w) ≡ drop (result_words * (i + 1)) rs
  written-drop = drop-set-lt (result_words * (i + 1)) (set rs (result_words * i) k) (result_words * i + 1) w (omega arith) ∙ drop-set-lt (result_words * (i + 1)) rs (result_words * i) k (omega arith)

-- what is the same from the results of operation i on is the same from those of the next
same_rest : (rs us : List ℕ) (i : ℕ) → drop (result_words * i) rs ≡ drop (result_words * i) us → drop (result_words * (i + 1)) rs ≡ drop (result_words * (i + 1)) us
same_rest rs us i e =
    let q : result_words * (i + 1) ≡ result_words * i + result_words = omega arith in
    rw q (sym (drop-drop result_words (result_words * i) rs) ∙ ap (drop result_words) e ∙ drop-drop result_words (result_words * i) us)

run-path : {p p' : Pool} {a a' n n' : ℕ} {r r' : List ℕ} → p ≡ p' → a ≡ a' → n ≡ n' → r ≡ r' → ◌≡◌ {A = Run} (record { pool = p; answer = a; done = n; results = r }) (record { pool = p'; answer = a'; done = n'; results = r' })
run-path pp pa pn pr = λ i. record { pool = pp i; answer = pa i; done = pn i; results = pr i }

one_more : (i : ℕ) (us vs : List ℕ) (d : Effect) (k w : ℕ) (r : Run) → k ≡ d.kind → w ≡ d.value → vs ≡ us ++ k ∷ w ∷ [] → resumed i us (goes_on d r) ≡ resumed (i + 1) vs r
one_more i us vs d k w r ek ew e = run-path refl refl (omega arith) (rw (e, ek, ew) (sym (append_assoc us (d.kind ∷ d.value ∷ []) r.results)))

pub begun : (v : Lent) (ss rs : List ℕ) → Sound v.pool → Midway v ss rs (performed v.pool (operations ss)) v rs 0
unfolding left
begun v ss rs o = record { kept = refl; sound = o; whole = run-path refl refl (omega arith) refl; size = refl; rest = refl }

module _ {v₀ v : Lent} {ss rs₀ : List ℕ} {q : Run} {rs : List ℕ} {i : ℕ} (m : Midway v₀ ss rs₀ q v rs i) where
  pub onward : {u : Lent} {x : Told} → operation_words * i + operation_words ≤ length ss → result_words * i + result_words ≤ length rs → Gives v u (Ok x) (operation_at ss i)
      → Midway v₀ ss rs₀ q u (written rs i (kind_told x) (value_told x)) (i + 1)
  unfolding pool_after
  onward {u} {x} ls lr g =
      let p = v.pool in
      let o : Operation = operation_at ss i in
      let k = kind_told x in
      let w = value_told x in
      let d : Did p o x = did p o x g.told in
      let is : u.pool ≡ pool_after p o = ap (λ (w : Lent). w.pool) g.is in
      let made : pool_after p o ≡ (effect p o).pool = rw d.done refl in
      record {
        kept = rw g.is (ap (on (λ (p : Pool). pool_after p o)) m.kept);
        sound = subst Sound (sym is) (after_sound p o m.sound);
        whole = m.whole ∙ ap (resumed i (take (result_words * i) rs)) (left-done ss i p ls d.done ∙ ap (λ (z : Pool). goes_on (effect p o) (left ss (i + 1) z)) (sym (is ∙ made)))
            ∙ one_more i (take (result_words * i) rs) (take (result_words * (i + 1)) (written rs i k w)) (effect p o) k w (left ss (i + 1) u.pool) d.kind d.value (written-take rs i k w lr);
        size = length-set (set rs (result_words * i) k) (result_words * i + 1) w ∙ length-set rs (result_words * i) k ∙ m.size;
        rest = written-drop rs i k w lr ∙ same_rest rs rs₀ i m.rest;
      }

  pub ended : (k : ℕ) → left ss i v.pool ≡ stops v.pool k → result_words * i ≤ length rs → PerformsIn v₀ rs₀ (outcome k i) v rs q
  ended k e l =
      let z : q ≡ resumed i (take (result_words * i) rs) (stops v.pool k) = m.whole ∙ ap (resumed i (take (result_words * i) rs)) e in
      let w : q.results ≡ take (result_words * i) rs = ap (λ (r : Run). r.results) z ∙ append-nil (take (result_words * i) rs) in
      record {
        pool = m.kept ∙ ap (λ (p : Pool). on (λ _. p) v₀) (sym (ap (λ (r : Run). r.pool) z));
        outcome = sym (ap (λ (r : Run). outcome r.answer r.done) z ∙ ap (outcome k) (omega arith));
        results = sym (ap (λ (us : List ℕ). over us rs₀) w ∙ rw (length-take-le (result_words * i) rs l, ← m.rest) (take-append-drop (result_words * i) rs));
      }

  -- operation i is refused: nothing has changed
  pub refused-at : {u : Lent} {r : Refusal} → operation_words * i + operation_words ≤ length ss → result_words * i ≤ length rs → Gives v u (Err r) (operation_at ss i)
      → PerformsIn v₀ rs₀ (outcome (refusal_no r) i) u rs q
  unfolding pool_after
  refused-at {u} {r} ls lr g =
      let p = v.pool in
      let o : Operation = operation_at ss i in
      let k = refusal_no r in
      let (e, _) = stopped p o r g.told in
      let f : eqb k DONE ≡ false = ne_eqb k DONE (refusal_some r) in
      let is : pool_after p o ≡ p = rw (e, f) refl in
      let h = ended k (left-refused ss i p k ls e (refusal_some r)) lr in
      record { pool = g.is ∙ ap (λ (z : Pool). on (λ _. z) v) is ∙ h.pool; outcome = h.outcome; results = h.results }

  pub all_done : length ss ≤ operation_words * i → result_words * i ≤ length rs → PerformsIn v₀ rs₀ (outcome DONE i) v rs q
  all_done ls lr = ended DONE (left-none ss i v.pool ls) lr
