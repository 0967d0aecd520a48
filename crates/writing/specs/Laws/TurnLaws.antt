-- What a turn does to the text that is to come: it takes its characters off the front, and they are judged by their
-- number.
use Rattle.std.specs.Prelude.{ℕ, zero, suc, ◌+◌, ◌-◌, ◌<◌, ◌≡◌, refl, true, false, List, [], ◌∷◌, ◌++◌, length}
use Rattle.std.proofs.Common.{sym, ap, ◌∙◌, append_assoc, arith, ne_eqb, le-leb}
use Rattle.std.proofs.Math.Dec.{leb-suc-suc}
use Rattle.std.proofs.lemmas.Bool.{lt-leb}
use Rattle.lists.specs.Lst.{Lst, nil, atom, list}
use Rattle.pool.specs.Laws.Edit.{live_cell}
use Rattle.pool.specs.Pool.{Cell, ListAt}
use Rattle.text.specs.Limits.{levels}
use Rattle.text.specs.ListText.{items}
use Rattle.text.specs.Laws.OpenLists.{body, opens_body}
use Rattle.text.specs.Laws.WritingLaws.{Plain, plain-append, plain-octal, judged-plain}
use Rattle.walks.specs.Levels.{Levels}
use Rattle.octal.specs.Numeral.{numeral}
use Rattle.writing.specs.Steps.{comma}
use Rattle.writing.specs.Walking.{above, rest, Judges}

-- the elements that follow another
follows : (cs : List Cell) (x : ℕ) (l : Lst) → ListAt cs x l → items false l ≡ comma x ++ body l
unfolding ListAt
follows cs x nil h = rw h
follows cs zero (atom v l) h = absurd (omega (arith, live_cell cs 0 h.0))
follows cs zero (list m l) h = absurd (omega (arith, live_cell cs 0 h.0))
follows cs (suc i) (atom v l) h = refl
follows cs (suc i) (list m l) h = refl

going : (cs : List Cell) (x : ℕ) (l : Lst) (ls : List Lst) → ListAt cs x l → items false l ++ above ls ≡ comma x ++ rest (l ∷ ls)
going cs x l ls h = ap (λ (t : List ℕ). t ++ above ls) (follows cs x l h) ∙ append_assoc (comma x) (body l) (above ls)

-- the text of the levels before a turn: its characters, and the text of those after it
pub shut_text : (cs : List Cell) (after : List ℕ) (x d : ℕ) (ls : List Lst) → Levels cs after x d ls → (d ≡ 0 → x ≡ 0) → rest (nil ∷ ls) ≡ 41 ∷ comma x ++ rest ls
shut_text cs after x d [] g z = rw (z (sym g.deep))
shut_text cs after x d (a ∷ ls) g z = ap (λ (t : List ℕ). 41 ∷ t) (going cs x a ls g.here.0.0)

pub pass_text : (cs : List Cell) (x v : ℕ) (k : Lst) (ls : List Lst) → ListAt cs x k → rest (atom v k ∷ ls) ≡ (numeral v ++ comma x) ++ rest (k ∷ ls)
unfolding numeral
pass_text cs x v k ls h =
    append_assoc (numeral v) (items false k) (above ls) ∙ ap (λ (u : List ℕ). numeral v ++ u) (going cs x k ls h)
    ∙ sym (append_assoc (numeral v) (comma x) (rest (k ∷ ls)))

pub open_text : (m k : Lst) (ls : List Lst) → rest (list m k ∷ ls) ≡ 40 ∷ rest (m ∷ (k ∷ ls))
open_text m k ls = append_assoc (items true m) (items false k) (above ls) ∙ ap (λ (u : List ℕ). u ++ (items false k ++ above ls)) (opens_body m)

plain-comma : (x : ℕ) → Plain (comma x)
plain-comma zero = tt
plain-comma (suc i) = ((λ e. omega arith), (λ e. omega arith), tt)

pub judges_shut : (d x : ℕ) (t : List ℕ) → Judges d (d - 1) (41 ∷ comma x) t
judges_shut d x t zero = rw (lt-leb (suc (length (comma x))) 0 (omega arith))
judges_shut d x t (suc n) =
    let e : suc n - suc (length (comma x)) ≡ n - length (comma x) = omega arith in
    let z : suc n - 1 ≡ n = omega arith in
    simp (ne_eqb (suc n) 0 (λ q. omega arith), leb-suc-suc, e, z) (judged-plain (comma x) t n (d - 1) (plain-comma x))

pub judges_pass : (d v x : ℕ) (t : List ℕ) → Judges d d (numeral v ++ comma x) t
unfolding numeral
judges_pass d v x t left = judged-plain (numeral v ++ comma x) t left d (plain-append (numeral v) (comma x) (plain-octal 10 v) (plain-comma x))

pub judges_open : (d : ℕ) (t : List ℕ) → d < levels → Judges d (d + 1) (40 ∷ []) t
judges_open d t l zero = rw (lt-leb levels d l)
judges_open d t l (suc n) = rw (lt-leb levels d l, ne_eqb (suc n) 0 (λ q. omega arith), le-leb 1 (suc n) (omega arith))
