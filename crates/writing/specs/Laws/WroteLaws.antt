-- What a call that writes gives at each return, against the definition of writing.
use Rattle.std.specs.Prelude.{ℕ, ◌+◌, ◌-◌, ◌%◌, ◌≤◌, ◌<◌, ◌≡◌, refl, Bool, true, false, not, List, ◌++◌, length, take, drop, replicate, Ok}
use Rattle.std.proofs.Common.{sym, ap, subst, ◌∙◌, arith, length-append, take_all, drop-drop, le-leb}
use Rattle.std.proofs.Math.Bool.{cond}
use Rattle.std.proofs.lemmas.List.{length-replicate}
use Rattle.std.proofs.Math.Seq.{paste, take-append_seam, drop-append-add}
use Rattle.std.proofs.lemmas.Bool.{lt-leb}
use Rattle.answers.specs.Answers.{HOLDER, UNSOUND, refused, done}
use Rattle.answers.specs.Laws.Unless.{goes_on_lem, refuses}
use Rattle.answers.specs.declared.Outcome.{Outcome}
use Rattle.calls.specs.Entry.{work_words, entry_fault, Provided, no_holder, shown, unsound, used, over}
use Rattle.calls.specs.Write.{Write, write_list, writing_in, not_written}
use Rattle.calls.specs.Promised.{Writes}
use Rattle.calls.specs.Laws.EntryLaws.{passed}
use Rattle.calls.specs.Laws.WriteLaws.{nothing, list_done}
use Rattle.entry.specs.Laws.EntryLaws.{TurnedAway, judged}
use Rattle.lists.specs.Lst.{Lst}
use Rattle.pool.specs.Pool.{Cell, Pool, ListAt, holder, Sound}
use Rattle.pool.specs.Laws.Reach.{path_le, list_from_is}
use Rattle.pool.specs.Laws.SoundLaws.{denoted, sound_held}
use Rattle.groups.specs.declared.Stored.{Stored}
use Rattle.groups.specs.declared.Stored.TheVariants.{Text}
use Rattle.table.specs.declared.Form.{Form}
use Rattle.table.specs.declared.Shape.{Shape}
use Rattle.sound.specs.Decided.{Decided}
use Rattle.table.specs.Sizes.{shape_of}
use Rattle.table.specs.Laws.SizesLaws.{table_shape}
use Rattle.table.specs.View.{holder_count, view}
use Rattle.text.specs.Limits.{record_bytes, text_most}
use Rattle.text.specs.ListText.{text_of, fill, written}
use Rattle.text.specs.Writing.{usable, judged as judgement}
use Rattle.text.specs.Laws.WritingLaws.{writable, writes}
use Rattle.pool.specs.Operations.{list_at, Stands, list_of}
use Rattle.writing.specs.Measures.{Measures, Fitting}
use Rattle.writing.specs.RecordEnd.{record_end}

-- a holder of a sound pool
pub stands : (p : Pool) (h x : ℕ) → Sound p → x ≡ holder p h → Stands p.cells x
stands p h x s e =
    let cs = p.cells in
    let (l, there) = denoted p s h in
    let q = list_from_is l (length cs) cs (holder p h) (path_le _ cs _ _ (sound_held p s) l (holder p h) there) there in
    subst (Stands cs) (sym e) (subst (ListAt cs (holder p h)) (sym q) there)

-- what was measured can be put, and filled
pub fitting : (cs : List Cell) (x u room n : ℕ) → Measures cs x u (Ok n) → u ≡ usable room → Fitting cs x n × (record_end n ≤ room) × (record_end n ≤ text_most)
fitting cs x u room n g e =
    let l : Lst = list_at cs x in
    let w = writable u l (sym g.answer) in
    let k : n ≡ length (text_of l) = g.size in
    (record { size = k; fits = writes n l w.0 (omega arith); short = omega (arith, w.1) }, omega (arith, w.1), omega (arith, w.1))

-- a text that fills a part of its length stands before the rest
pub before_rest : (t xs ys : List ℕ) (n : ℕ) → n ≡ length t → ys ≡ t → ys ++ drop n xs ≡ over t xs
before_rest t xs ys n e f = ap (λ (b : List ℕ). b ++ drop n xs) f ∙ ap (λ (k : ℕ). t ++ drop k xs) e

-- blanks behind a text
filled : (t xs bs : List ℕ) (k : ℕ) → length bs ≡ k → paste (over t xs) (length t) bs k ≡ over (t ++ bs) xs
filled t xs bs k e =
    let n : length (t ++ bs) ≡ length t + k = length-append t bs ∙ ap (λ (j : ℕ). length t + j) e in
    let rest = drop (length t) xs in
    ap (λ (a : List ℕ). (a ++ take k bs) ++ drop (length t + k) (t ++ rest)) (take-append_seam t rest)
    ∙ ap (λ (a : List ℕ). (t ++ a) ++ drop (length t + k) (t ++ rest)) (take_all k bs (omega arith))
    ∙ ap (λ (a : List ℕ). (t ++ bs) ++ a) (drop-append-add t rest k ∙ drop-drop k (length t) xs ∙ ap (λ (j : ℕ). drop j xs) (sym n))

-- the text of a list, with blanks up to the end of its record
pub filled-whole : (l : Lst) (xs out zs : List ℕ) (n e : ℕ) → n ≡ length (text_of l) → e ≡ record_end n → out ≡ over (text_of l) xs
    → zs ≡ paste out n (replicate (e - n) 32) (e - n) → (e ≡ length (written l)) × (zs ≡ over (written l) xs)
filled-whole l xs out zs n e m c o f =
    let t = text_of l in
    let blanks : List ℕ = replicate (e - n) 32 in
    let size : length blanks ≡ e - n = length-replicate {A = ℕ} (e - n) 32 in
    let k : e - n ≡ (record_bytes - length t % record_bytes) % record_bytes = omega arith in
    let is : blanks ≡ fill (length t) = ap (λ (i : ℕ). replicate i 32) k in
    let count : e ≡ length (t ++ blanks) = omega (arith, length-append t blanks) in
    let output : zs ≡ over (t ++ blanks) xs
    = f ∙ ap (λ (a : List ℕ). paste a n blanks (e - n)) o ∙ ap (λ (i : ℕ). paste (over t xs) i blanks (e - n)) m ∙ filled t xs blanks (e - n) size in
    (count ∙ ap (λ (b : List ℕ). length (t ++ b)) is, output ∙ ap (λ (b : List ℕ). over (t ++ b) xs) is)

-- what is written is in the form that was named
pub as_stored : {r : Outcome} {zs : List ℕ} (l : Lst) (ws xs : List ℕ) {b k : Stored} → b ≡ k → Writes r ws zs (write_list k l ws xs) → Writes r ws zs (write_list b l ws xs)
as_stored {r} {zs} l ws xs e w = subst (λ (x : Stored). Writes r ws zs (write_list x l ws xs)) (sym e) w

-- the text of the list l, filled
pub text-done : (l : Lst) (ws xs out zs : List ℕ) (n e : ℕ) → judgement (usable (length xs)) 0 (text_of l) ≡ 0 → n ≡ length (text_of l) → e ≡ record_end n → out ≡ over (text_of l) xs
    → zs ≡ paste out n (replicate (e - n) 32) (e - n) → Writes (done e) ws zs (write_list Text l ws xs)
text-done l ws xs out zs n e j m c o f =
    let w = filled-whole l xs out zs n e m c o f in
    list_done Text l ws xs zs e j w.0 w.1 refl

pub entry-refused : (f : Form) (b : Stored) (ts ws : List ℕ) (h : ℕ) (xs : List ℕ) {n : ℕ} → TurnedAway work_words f ts (length ws) n → Writes (refused n) ws xs (writing_in f b ts ws h xs)
unfolding writing_in
entry-refused f b ts ws h xs k =
    nothing (entry_fault work_words f ts (length ws)) (refuses (entry_fault work_words f ts (length ws)) (λ (n : ℕ). not_written n ws xs) _ k.some) (ap refused k.is)

-- the form of the shape is the form that was named
pub of_form : {f g : Form} (b : Stored) (ts ws : List ℕ) (h : ℕ) (xs : List ℕ) {r : Outcome} {us zs : List ℕ} → g ≡ f → Writes r us zs (writing_in g b ts ws h xs) → Writes r us zs (writing_in f b ts ws h xs)
of_form b ts ws h xs {r} {us} {zs} e k = subst (λ (f : Form). Writes r us zs (writing_in f b ts ws h xs)) e k

module _ (b : Stored) {s : Shape} {ts : List ℕ} (ws : List ℕ) (h : ℕ) (xs : List ℕ) (o : Provided work_words s ts (length ws)) where
  held_by : holder_count (shape_of s.form ts) ≡ s.holders
  held_by = ap (λ (z : Shape). z.holders) (table_shape s ts o.table)

  -- past the entry
  abbrev onward : Write
  onward = cond (unsound s.form ts) (not_written UNSOUND (used s.form ts ws) xs) (write_list b (list_of (shown s.form ts) h) (used s.form ts ws) xs)

  enters : {c : Bool} → no_holder s.form ts h ≡ c → writing_in s.form b ts ws h xs ≡ cond c (not_written HOLDER ws xs) onward
  unfolding writing_in
  enters e =
      goes_on_lem (entry_fault work_words s.form ts (length ws)) (λ (n : ℕ). not_written n ws xs) _ (passed o.table work_words (length ws) o.long)
      ∙ (λ i. cond (e i) (not_written HOLDER ws xs) onward)

  pub no_holder_lem : s.holders ≤ h → Writes (refused HOLDER) ws xs (writing_in s.form b ts ws h xs)
  no_holder_lem l = nothing HOLDER (enters (le-leb (holder_count (shape_of s.form ts)) h (omega (arith, held_by)))) refl

  module _ (l : h < s.holders) {us : List ℕ} {c : Bool} (d : Decided s ts ws us c) where
    goes : {a : Bool} → not c ≡ a → writing_in s.form b ts ws h xs ≡ cond a (not_written UNSOUND us xs) (write_list b (list_of (view s ts) h) us xs)
    goes e =
        let j = judged o.table d in
        enters (lt-leb (holder_count (shape_of s.form ts)) h (omega (arith, held_by)))
        ∙ (λ i. cond ((j.0 ∙ e) i) (not_written UNSOUND (sym j.1 i) xs) (write_list b (list_of (view (table_shape s ts o.table i) ts) h) (sym j.1 i) xs))

    pub not_sound : not c ≡ true → Writes (refused UNSOUND) us xs (writing_in s.form b ts ws h xs)
    not_sound e = nothing UNSOUND (goes e) refl

    -- the list at x, which the holder names
    pub accepted : not c ≡ false → {x : ℕ} {r : Outcome} {zs : List ℕ} → x ≡ holder (view s ts) h → Writes r us zs (write_list b (list_at (view s ts).cells x) us xs)
        → Writes r us zs (writing_in s.form b ts ws h xs)
    accepted e {x} {r} {zs} q k = subst (Writes r us zs) (sym (goes e)) (subst (λ (y : ℕ). Writes r us zs (write_list b (list_at (view s ts).cells y) us xs)) q k)
