-- What the engine's calls and the reply leave, joined to what a line does.
use Rattle.std.specs.Prelude.{◌≡◌, refl, Bool, true, false, cond, List, [], ◌∷◌, ◌++◌, ℕ, ◌+◌, ◌≤◌, eqb, length, get_or, take, drop, replicate}
use Rattle.std.proofs.Common.{sym, ap, ◌∙◌, arith, length-append, take_at}
use Rattle.std.proofs.lemmas.List.{length-replicate}
use Rattle.std.proofs.lemmas.List.Edits.{sets-eq}
use Rattle.std.proofs.Math.Seq.{length-sets}
use Rattle.answers.specs.Answers.{DONE, TABLE_SIZE, UNSOUND}
use Rattle.pool.specs.Script.{performed}
use Rattle.table.specs.Sizes.{sizes_fit}
use Rattle.table.specs.View.{four, word_count}
use Rattle.setup.specs.Laws.SetUpLaws.{accepted, refused}
use Rattle.calls.specs.SetUp.{Given, set_up}
use Rattle.calls.specs.Promised.{SetsUp}
use Rattle.calls.specs.Entry.{work_words, entry_fault, shown, unsound, used as clearedWork}
use Rattle.calls.specs.Run.{Ran, ran, ran_in, ran_to, not_run, script_fault, operations}
use Rattle.lines.specs.Commands.{Command, malformed, command}
use Rattle.lines.specs.Meaning.{Puts}
use Rattle.lines.specs.Numbers.{blank}
use Rattle.lines.specs.Printed.{reply, column, question, line_feed}
use Rattle.lines.specs.Laws.PrintedLaws.{column_short}
use Rattle.answering.specs.declared.engine.Said.{Said}
use Rattle.answering.specs.Session.{Told, nothing_kind, free_cells, opened, opening, new_words, work_most, performing, operated, replied, does}
use Rattle.answering.specs.Kept.{reply_most, plain, Prints, Says, Speaks}
use Rattle.table.specs.declared.Form.TheVariants.{Four}

-- bytes that were stored from the start on are printed
pub printed : (bs : List ℕ) {end : ℕ} {old out : List ℕ} → Puts bs 0 old end out → length bs ≤ length old → Prints bs end out
printed bs {end} {old} {out} p l =
    let n : end ≡ length bs = omega (arith, p.place) in
    record {
      bytes = ap (λ (k : ℕ). take k out) n ∙ ap (take (length bs)) (p.bytes ∙ sets-eq bs old 0 (omega arith)) ∙ take_at bs (drop (0 + length bs) old) (length bs) refl;
      fits = omega (arith, ap length p.bytes, length-sets old 0 bs);
    }

pub reply_short : (a k v f : ℕ) → length (reply a k v f) ≤ reply_most
reply_short a k v f =
    omega (
      arith,
      column_short a blank,
      column_short k blank,
      column_short v blank,
      column_short f line_feed,
      length-append (column a blank) (column k blank ++ (column v blank ++ column f line_feed)),
      length-append (column k blank) (column v blank ++ column f line_feed),
      length-append (column v blank) (column f line_feed),
    )

-- words of the right length are set up whatever they hold
lent : (n : ℕ) → length {A = ℕ} (replicate (word_count (four n)) 0) ≡ word_count (four n)
lent n = length-replicate (word_count (four n)) 0

-- NEW sets up the front of the words that the engine keeps, which is then in use
pub opens : (old ts front rest : List ℕ) (n w : ℕ) {r : ℕ} → w ≡ word_count (four n) → sizes_fit (four n) w ≡ true → length ts ≡ w → length front ≡ w
    → SetsUp r front (set_up ts n)
    → Says (opening old (opened n)) (plain r) (take w (front ++ rest))
opens old ts front rest n w z e l m s =
    let p = accepted Four ts n _ (ap (sizes_fit (four n)) l ∙ e) in
    let q = accepted Four (replicate (word_count (four n)) 0) n _ (ap (sizes_fit (four n)) (lent n ∙ sym z) ∙ e) in
    record {
      words = take_at front rest w m ∙ s.table ∙ ap (λ (g : Given). g.table) p ∙ sym (ap (new_words old) q);
      answer = s.answer ∙ ap (λ (g : Given). g.answer) (p ∙ sym q);
      kind = refl;
      value = refl;
    }

-- or keeps the old ones
pub keeps_old : (us : List ℕ) (n w : ℕ) → w ≡ word_count (four n) → sizes_fit (four n) w ≡ false → Says (opening us (opened n)) (plain TABLE_SIZE) us
keeps_old us n w z e =
    let q = refused Four (replicate (word_count (four n)) 0) n _ (ap (sizes_fit (four n)) (lent n ∙ sym z) ∙ e) in
    record { words = sym (ap (new_words us) q); answer = sym (ap (λ (g : Given). g.answer) q); kind = refl; value = refl }

-- the work space's words do not matter to what a run gives
pub record Alike (g h : Ran) : Type 0 where
  pub answer : g.answer ≡ h.answer
  pub table : g.table ≡ h.table
  pub results : g.results ≡ h.results

pub any_work : (ts ws us ss rs : List ℕ) → length ws ≡ length us → Alike (ran ts ws ss rs) (ran ts us ss rs)
unfolding ran_in
any_work ts ws us ss rs l = rw l (go (eqb (entry_fault work_words Four ts (length us)) DONE) (eqb (script_fault ss rs) DONE) (unsound Four ts))
  where
    n : ℕ
    n = entry_fault work_words Four ts (length us)

    k : ℕ
    k = script_fault ss rs

    -- the tests in their order, by their outcomes
    tried : Bool → Bool → Bool → List ℕ → Ran
    tried a b c vs =
        cond a
        (cond b (cond c (not_run UNSOUND ts (clearedWork Four ts vs) rs) (ran_to Four (performed (shown Four ts) (operations ss)) ts vs rs)) (not_run k ts vs rs))
        (not_run n ts vs rs)

    go : (a b c : Bool) → Alike (tried a b c ws) (tried a b c us)
    go true true true = record { answer = refl; table = refl; results = refl }
    go true true false = record { answer = refl; table = refl; results = refl }
    go true false c = record { answer = refl; table = refl; results = refl }
    go false b c = record { answer = refl; table = refl; results = refl }

-- an operation on words
pub operates : (us ws front rs : List ℕ) (c a b v answer : ℕ) → length ws ≡ work_most
    → Alike (record { answer = answer; count = 0; table = front; work = ws; results = rs }) (ran us ws (c ∷ a ∷ b ∷ v ∷ []) (nothing_kind ∷ 0 ∷ []))
    → Says (operated (performing us c a b v)) (record { answer = answer; kind = get_or rs 0 0; value = get_or rs 1 0 }) front
operates us ws front rs c a b v answer m g =
    let n : length ws ≡ length {A = ℕ} (replicate work_most 0) = m ∙ sym (length-replicate {A = ℕ} work_most 0) in
    let w = any_work us ws (replicate work_most 0) (c ∷ a ∷ b ∷ v ∷ []) (nothing_kind ∷ 0 ∷ []) n in
    record {
      words = g.table ∙ w.table;
      answer = g.answer ∙ w.answer;
      kind = ap (λ (x : List ℕ). get_or x 0 0) (g.results ∙ w.results);
      value = ap (λ (x : List ℕ). get_or x 1 0) (g.results ∙ w.results);
    }

-- a call on the words in use, which are the front of the engine's
pub in_use : (t : Told) (r : Said) (front rest : List ℕ) (k : ℕ) → Says t r front → length front ≡ k → Says t r (take k (front ++ rest))
in_use t r front rest k s l = rw (take_at front rest k l) s

-- what a call said, with the free cells told
pub tells : (us out : List ℕ) (count : ℕ) (r : Said) → Prints (reply r.answer r.kind r.value (free_cells us)) count out
    → (t : Told) → Says t r us → Speaks (replied t) us count out
tells us out count r p t s = record {
  words = s.words;
  printed = record {
    bytes = p.bytes
        ∙ ap (λ (a : ℕ). reply a r.kind r.value (free_cells us)) s.answer
        ∙ ap (λ (x : ℕ). reply t.answer x r.value (free_cells us)) s.kind
        ∙ ap (λ (x : ℕ). reply t.answer t.kind x (free_cells us)) s.value
        ∙ ap (λ (w : List ℕ). reply t.answer t.kind t.value (free_cells w)) s.words;
    fits = p.fits;
  };
}

-- a line by what it asks for
pub speaks_order : (us new s out : List ℕ) (n : ℕ) (r : Said) (o : Command) (t : Told) → o ≡ command s → does us o ≡ replied t → Says t r new
    → Prints (reply r.answer r.kind r.value (free_cells new)) n out → Speaks (does us (command s)) new n out
speaks_order us new s out n r o t e q k p = rw (sym e, q) (tells new out n r p t k)

pub speaks_asked : (us s old out : List ℕ) (n : ℕ) → malformed ≡ command s → Puts question 0 old n out → 2 ≤ length old → Speaks (does us (command s)) us n out
unfolding does
speaks_asked us s old out n e p l = rw (sym e) record { words = refl; printed = printed question p l }
