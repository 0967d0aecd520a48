-- What WRITE leaves in the lent bytes: the text, which is printed without its fill and with a line feed.
use Rattle.std.specs.Prelude.{◌≡◌, refl, ◌≢◌, Bool, true, false, cond, ℕ, ◌+◌, ◌≤◌, ◌<◌, eqb, set, take, drop, replicate, Ok, Err}
use Rattle.std.proofs.Math.Path.{sym, ap, ap₂}
use Rattle.std.proofs.Common.{◌∙◌, arith, add-one, ne_eqb, length-drop, length-set, take_at, take-suc-set}
use mathlib.Core.List.{List, [], ◌∷◌, ◌++◌, append_assoc, append-nil}
use Rattle.std.proofs.lemmas.Bool.{eqb-false}
use Rattle.std.proofs.Math.ListN.{length, length-append}
use Rattle.std.proofs.lemmas.List.{length-replicate, take-append-le}
use Rattle.std.proofs.Math.Seq.{length-take-le, take-append-add}
use Rattle.answers.specs.Answers.{DONE, UNSOUND, HOLDER}
use Rattle.lists.specs.Lst.{Lst}
use Rattle.pool.specs.Operations.{list_of}
use Rattle.text.specs.Limits.{text_most}
use Rattle.text.specs.ListText.{text_of, written, fill}
use Rattle.text.specs.Writing.{usable, judged}
use Rattle.calls.specs.Entry.{work_words, entry_fault, no_holder, shown, unsound, used, over}
use Rattle.groups.specs.declared.Stored.TheVariants.{Text}
use Rattle.calls.specs.Write.{Write, not_written, write_out, writing_in}
use Rattle.answers.specs.declared.Outcome.{Outcome}
use Rattle.calls.specs.Promised.{Writes as Written}
use Rattle.lines.specs.Commands.{writing}
use Rattle.lines.specs.Printed.{line_feed, reply}
use Rattle.answering.specs.Session.{nothing_kind, free_cells, work_most, writing_of, text_line, does}
use Rattle.answering.specs.Kept.{reply_most, line_room, Prints, Texts, Speaks}
use Rattle.answering.specs.Trim.{trimmed}
use Rattle.answering.specs.Laws.SessionLaws.{reply_short}
use Rattle.answering.specs.Laws.TrimLaws.{trim_written}
use Rattle.table.specs.declared.Form.TheVariants.{Four}

-- a list that is judged n
abbrev judged_as : ℕ → Lst → List ℕ → List ℕ → Write
judged_as n l ws out = cond (eqb n DONE) (record { answer = DONE; count = length (written l); work = ws; output = over (written l) out }) (not_written n ws out)

abbrev tried : Bool → Bool → Bool → ℕ → ℕ → Lst → List ℕ → List ℕ → List ℕ → Write
tried a b c k n l ws us out =
    cond a
    (cond b (not_written HOLDER ws out)
    (cond c (not_written UNSOUND us out) (judged_as n l us out)))
    (not_written k ws out)

-- neither the work space's words nor the bytes lent matter to the answer
pub any_lent : (ts ws us out texts : List ℕ) (h : ℕ) → length ws ≡ length us → length out ≡ length texts → (write_out Text ts ws h out).answer ≡ (write_out Text ts us h texts).answer
unfolding writing_in
any_lent ts ws us out texts h e q =
    rw (e, q) (go (eqb (entry_fault work_words Four ts (length us)) DONE) (no_holder Four ts h) (unsound Four ts)
    (judged (usable (length texts)) 0 (text_of (list_of (shown Four ts) h))))
  where
    l : Lst
    l = list_of (shown Four ts) h

    last : (b : Bool) (n : ℕ) (vs xs : List ℕ)
        → (cond b (record { answer = DONE; count = length (written l); work = used Four ts ws; output = over (written l) out }) (not_written n (used Four ts ws) out)).answer
        ≡ (cond b (record { answer = DONE; count = length (written l); work = used Four ts us; output = over (written l) texts }) (not_written n (used Four ts us) texts)).answer
    last true n vs xs = refl
    last false n vs xs = refl

    k : ℕ
    k = entry_fault work_words Four ts (length us)

    go : (a b c : Bool) (n : ℕ) → (tried a b c k n l ws (used Four ts ws) out).answer ≡ (tried a b c k n l us (used Four ts us) texts).answer
    go false b c n = refl
    go true true c n = refl
    go true false true n = refl
    go true false false n = last (eqb n DONE) n ws us

pub record Wrote (l : Lst) (out : List ℕ) (w : Write) : Type 0 where
  pub count : w.count ≡ length (written l)
  pub output : w.output ≡ over (written l) out

pub written-whole : (ts ws out : List ℕ) (h : ℕ) → (write_out Text ts ws h out).answer ≡ DONE → Wrote (list_of (shown Four ts) h) out (write_out Text ts ws h out)
unfolding writing_in
written-whole ts ws out h =
    go (eqb (entry_fault work_words Four ts (length ws)) DONE) refl (no_holder Four ts h) (unsound Four ts)
    (judged (usable (length out)) 0 (text_of (list_of (shown Four ts) h)))
  where
    l : Lst
    l = list_of (shown Four ts) h

    last : (n : ℕ) (b : Bool) → eqb n DONE ≡ b
        → (cond b (record { answer = DONE; count = length (written l); work = used Four ts ws; output = over (written l) out }) (not_written n (used Four ts ws) out)).answer ≡ DONE
        → Wrote l out (cond b (record { answer = DONE; count = length (written l); work = used Four ts ws; output = over (written l) out }) (not_written n (used Four ts ws) out))
    last n true e q = record { count = refl; output = refl }
    last n false e q = absurd (eqb-false n DONE e q)

    k : ℕ
    k = entry_fault work_words Four ts (length ws)

    go : (a : Bool) → eqb k DONE ≡ a → (b c : Bool) (n : ℕ) → (tried a b c k n l ws (used Four ts ws) out).answer ≡ DONE
        → Wrote l out (tried a b c k n l ws (used Four ts ws) out)
    go false e b c n q = absurd (eqb-false k DONE e q)
    go true e true c n q = absurd (omega (arith, q))
    go true e false true n q = absurd (omega (arith, q))
    go true e false false n q = last n (eqb n DONE) refl q

-- what the call answers and leaves, in lent bytes that held `old`
pub record Writes (ts : List ℕ) (h : ℕ) (o : Outcome) (old new : List ℕ) : Type 0 where
  pub answer : o.answer ≡ (writing_of ts h).answer
  pub text : o.answer ≡ DONE → (o.count ≡ length (written (list_of (shown Four ts) h))) × (new ≡ over (written (list_of (shown Four ts) h)) old)

pub writes : (ts ws vs old new : List ℕ) (h : ℕ) (o : Outcome) → length ws ≡ work_most → length old ≡ text_most
    → Written o vs new (write_out Text ts ws h old) → Writes ts h o old new
writes ts ws vs old new h o e q p =
    let us : List ℕ = replicate work_most 0 in
    let texts : List ℕ = replicate text_most 0 in
    record {
      answer = ap (λ (x : Outcome). x.answer) p.outcome
          ∙ any_lent ts ws us old texts h (e ∙ sym (length-replicate {A = ℕ} work_most 0)) (q ∙ sym (length-replicate {A = ℕ} text_most 0));
      text = λ d.
          let t = written-whole ts ws old h (sym (ap (λ (x : Outcome). x.answer) p.outcome) ∙ d) in
          (ap (λ (x : Outcome). x.count) p.outcome ∙ t.count, p.output ∙ t.output);
    }

-- the text at the start of the lent bytes, and what is behind it
module _ (l : Lst) (old new rest : List ℕ) (is : new ≡ over (written l) old) where
  starts : new ++ rest ≡ written l ++ (drop (length (written l)) old ++ rest)
  starts = ap (λ (u : List ℕ). u ++ rest) is ∙ append_assoc (written l) (drop (length (written l)) old) rest

  pub text-room : length (written l) ≤ length new
  text-room = omega (arith, ap length is, length-append (written l) (drop (length (written l)) old))

  pub count_room : (c : ℕ) → c ≡ length (written l) → c ≤ length (new ++ rest)
  count_room c e = omega (arith, text-room, length-append new rest)

  pub trims : (c : ℕ) → c ≡ length (written l) → trimmed (take c (new ++ rest)) ≡ length (text_of l)
  trims c e = ap trimmed (ap (take c) starts ∙ take_at (written l) (drop (length (written l)) old ++ rest) c (sym e)) ∙ trim_written l

  pub text_line_lem : (n : ℕ) → n ≡ length (text_of l) → n < length (new ++ rest) → take (n + 1) (set (new ++ rest) n line_feed) ≡ text_of l ++ (line_feed ∷ [])
  text_line_lem n e h =
      ap (λ (k : ℕ). take k (set (new ++ rest) n line_feed)) (add-one n)
      ∙ take-suc-set (new ++ rest) n line_feed h
      ∙ ap (λ (u : List ℕ). u ++ (line_feed ∷ []))
      (ap (take n) (starts ∙ append_assoc (text_of l) (fill (length (text_of l))) (drop (length (written l)) old ++ rest))
      ∙ take_at (text_of l) (fill (length (text_of l)) ++ (drop (length (written l)) old ++ rest)) n (sym e))

-- the line feed has a place behind the longest text
pub line_place : (room new : List ℕ) (n : ℕ) → length room ≡ line_room → length new ≡ text_most → n ≤ text_most → n < length (new ++ drop text_most room)
line_place room new n e f l = omega (arith, length-append new (drop text_most room), length-drop text_most room)

module _ (ts : List ℕ) (h : ℕ) (o : Outcome) (old new : List ℕ) (w : Writes ts h o old new) where
  pub texts_refused : (room : List ℕ) → o.answer ≢ DONE → Texts ts h (Err o.answer) room
  texts_refused room n = (w.answer, n)

  pub texts_done : (rest : List ℕ) (n : ℕ) (d : o.answer ≡ DONE) → n ≡ length (text_of (list_of (shown Four ts) h)) → n < length (new ++ rest)
      → Texts ts h (Ok (n + 1)) (set (new ++ rest) n line_feed)
  texts_done rest n d m l = (
    sym w.answer ∙ d,
    record {
      bytes = text_line_lem (list_of (shown Four ts) h) old new rest (w.text d).1 n m l;
      fits = omega (arith, length-set (new ++ rest) n line_feed);
    },
  )

-- a reply at the start of the output leaves room for a text
pub reply-room : (a k v f n : ℕ) (out : List ℕ) → Prints (reply a k v f) n out → n ≤ reply_most
reply-room a k v f n out p = omega (arith, reply_short a k v f, ap length p.bytes, length-take-le n out p.fits)

-- WRITE from its reply and its text
module _ (us : List ℕ) (h count : ℕ) where
  pub speaks_refused : (a : ℕ) (out : List ℕ) → (a ≡ (writing_of us h).answer) × (a ≢ DONE) → Prints (reply a nothing_kind 0 (free_cells us)) count out
      → Speaks (does us (writing h)) us count out
  unfolding does
  speaks_refused a out x p = record {
    words = refl;
    printed = record {
      bytes = p.bytes ∙ sym (rw (sym x.0) (rw (ne_eqb a DONE x.1) (append-nil (reply a nothing_kind 0 (free_cells us)))));
      fits = p.fits;
    };
  }

  pub speaks_text : (n : ℕ) (out room rest : List ℕ) → ((writing_of us h).answer ≡ DONE) × Prints (text_line DONE (list_of (shown Four us) h)) n room
      → Prints (reply DONE nothing_kind 0 (free_cells us)) count out
      → Speaks (does us (writing h)) us (count + n) (take count out ++ (room ++ rest))
  unfolding does
  speaks_text n out room rest x p = record {
    words = refl;
    printed = record {
      bytes = both ∙ ap₂ ◌++◌ p.bytes x.1.bytes ∙ sym (rw x.0 refl);
      fits = omega (arith, l, x.1.fits, length-append (take count out) (room ++ rest), length-append room rest);
    };
  }
    where
      l : length (take count out) ≡ count
      l = length-take-le count out p.fits

      both : take (count + n) (take count out ++ (room ++ rest)) ≡ take count out ++ take n room
      both =
          ap (λ (i : ℕ). take (i + n) (take count out ++ (room ++ rest))) (sym l)
          ∙ take-append-add (take count out) (room ++ rest) n
          ∙ ap (λ (u : List ℕ). take count out ++ u) (take-append-le n room rest x.1.fits)
