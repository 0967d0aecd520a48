-- A line's start compared with a name, by the tests that the code makes.
use Rattle.std.specs.Prelude.{◌≡◌, refl, Bool, true, false, cond, ◌&&◌, List, [], ◌∷◌, ℕ, ◌≤◌, eqb, length, take, drop, Option, Some, None, MatchOption}
use Prim.Native.String.{String}
use Rattle.std.specs.Cmp.Lexicographic.{pointwise}
use Rattle.std.specs.Borrow.{Bor}
use Rattle.std.proofs.Common.{sym, ap, ◌∙◌, arith, length-drop, eq-eqb, ne_eqb, eqb-true}
use Rattle.std.proofs.lemmas.Bool.{eqb-false}
use Rattle.calls.specs.Chars.{chars}
use Rattle.answers.specs.declared.code.Code.{Code}
use Rattle.pool.specs.Script.{PFA}
use Rattle.lines.specs.Commands.{Command, malformed, new, operation, reading, writing, Name, starts_with, name_or, name_of_two, name_of_one, with_second, with_two, with_one, operation_in, new_in, reading_in, writing_in, command}
use Rattle.lines.specs.Numbers.{Start, number, none, blank, digits, past, value, allowed, number_in, after_blank, parted, ended}
use Rattle.lines.specs.Meaning.{named}

eqb-sym : (a b : ℕ) → eqb a b ≡ eqb b a
eqb-sym a b = go (eqb a b) refl
  where
    go : (x : Bool) → eqb a b ≡ x → eqb a b ≡ eqb b a
    go true e = e ∙ sym (eq-eqb b a (sym (eqb-true a b e)))
    go false e = e ∙ sym (ne_eqb b a (λ q. eqb-false a b e (sym q)))

-- the library compares as many bytes as the name has
pub starts-pointwise : (n s : List ℕ) → pointwise eqb (take (length n) s) n ≡ starts_with n s
unfolding starts_with
starts-pointwise [] s = refl
starts-pointwise (c ∷ n) [] = refl
starts-pointwise (c ∷ n) (x ∷ s) = rw (eqb-sym x c) (ap (λ (b : Bool). eqb c x && b) (starts-pointwise n s))

-- so whether a line starts with a name is what the library told
pub begins : (n : String) (s : List ℕ) {b : Bool} → pointwise eqb (take (length (chars n)) s) (chars n) ≡ b → starts_with (chars n) s ≡ b
begins n s e = sym (starts-pointwise (chars n) s) ∙ e

-- a name behind others
pub or_name : (n : List ℕ) (c : ℕ) (s : List ℕ) (q r : Option (Code × Bor (List ℕ))) {t : Option Name} → MatchOption q (named r ≡ name_or n c s None) (λ x. r ≡ Some x)
    → named q ≡ t → named r ≡ name_or n c s t
unfolding name_or
or_name n c s None r h e = h ∙ ap (name_or n c s) e
or_name n c s (Some x) r h e = ap named h ∙ ap (name_or n c s) e

-- READ's text is a part of its line
text_size : Command → ℕ
text_size (reading h xs) = length xs
text_size malformed = 0
text_size (new n) = 0
text_size (operation c a b v) = 0
text_size (writing h) = 0

reading_size : (s : List ℕ) → text_size (reading_in (parted (number_in s))) ≤ length s
unfolding text_size number_in
reading_size s = go (allowed (length (digits s)) (value 0 (digits s))) (past s) (omega (arith, length-drop (length (digits s)) s))
  where
    texts : (b : Bool) (v : ℕ) (r : List ℕ) → length r ≤ length s → text_size (reading_in (cond b (number v r) none)) ≤ length s
    texts true v [] l = omega arith
    texts true v (c ∷ r) l = omega arith
    texts false v r l = omega arith

    blanks : (v : ℕ) (t : List ℕ) → length t ≤ length s → text_size (reading_in (after_blank v t)) ≤ length s
    blanks v [] l = omega arith
    blanks v (c ∷ r) l = texts (eqb c blank) v r (omega arith)

    go : (b : Bool) (t : List ℕ) → length t ≤ length s → text_size (reading_in (parted (cond b (number (value 0 (digits s)) t) none))) ≤ length s
    go true t l = blanks (value 0 (digits s)) t l
    go false t l = omega arith

others_size : (a b : Option Name) (n : ℕ) → text_size (operation_in a b) ≤ n
unfolding text_size
others_size (Some m) b n = two (parted (number_in m.rest))
  where
    last : (c v : ℕ) (e : Start) → text_size (with_second c v e) ≤ n
    last c v none = omega arith
    last c v (number x r) = by (eqb c PFA)
      where
        by : (p : Bool) → text_size (cond p (operation c v 0 x) (operation c v x 0)) ≤ n
        by true = omega arith
        by false = omega arith

    two : (s : Start) → text_size (with_two m.code s) ≤ n
    two none = omega arith
    two (number v r) = last m.code v (ended (number_in r))
others_size None (Some m) n = one (ended (number_in m.rest))
  where
    one : (s : Start) → text_size (with_one m.code s) ≤ n
    one none = omega arith
    one (number v r) = omega arith
others_size None None n = omega arith

command_size : (s : List ℕ) → text_size (command s) ≤ length s
unfolding command text_size
command_size s = go (starts_with (chars "NEW ") s) (starts_with (chars "READ ") s) (starts_with (chars "WRITE ") s)
  where
    news : (x : Start) → text_size (new_in x) ≤ length s
    news none = omega arith
    news (number n r) = omega arith

    writes : (x : Start) → text_size (writing_in x) ≤ length s
    writes none = omega arith
    writes (number n r) = omega arith

    go : (a b c : Bool) → text_size (cond a (new_in (ended (number_in (drop 4 s)))) (cond b (reading_in (parted (number_in (drop 5 s))))
        (cond c (writing_in (ended (number_in (drop 6 s)))) (operation_in (name_of_two s) (name_of_one s))))) ≤ length s
    go true b c = news (ended (number_in (drop 4 s)))
    go false true c = omega (arith, reading_size (drop 5 s), length-drop 5 s)
    go false false true = writes (ended (number_in (drop 6 s)))
    go false false false = others_size (name_of_two s) (name_of_one s) (length s)

pub text_short : (s xs : List ℕ) (h : ℕ) → reading h xs ≡ command s → length xs ≤ length s
unfolding text_size
text_short s xs h e = let k : length xs ≡ text_size (command s) = ap text_size e in omega (arith, k, command_size s)
