-- The outlook of a scan goes on character by character.
use Prim.Native.Nat.{ℕ, ◌+◌, ◌-◌, ◌<◌}
use mathlib.Core.Path.{◌≡◌, sym, ap, ◌∙◌}
use mathlib.Core.List.{List, ◌∷◌, [], ◌++◌, append_assoc}
use mathlib.Core.Bool.{true}
use native.Mathlib.Omega.{arith}
use lib.ListN.{length, drop, get_or}
use Rattle.text.specs.Text.{Scan, Step, fault, State, at, refused, step_of, settle, run, answer, refusal, digit_at}
use Rattle.text.specs.Marks.{Mark, met, trace, beginnings}
use Rattle.text.specs.ListText.{is_digit_byte}
use Rattle.text.specs.Laws.TextLaws.{rests_refused, digit-step}
use Rattle.text.specs.Laws.MarkLaws.{beginnings-append, digit-met}
use Rattle.scan.specs.Places.{outlook, Prospect, prospect, behind}
use Rattle.scan.proofs.RunLaws.{next, digit_bounds}

pub goes : (k : ℕ) (s : Scan) (i b : ℕ) (l : List ℕ)
    → outlook k (at s i) (b ∷ l) ≡ outlook (k + beginnings (met (at s i) b)) (settle (i + 1) (step_of s b)) l
goes k s i b l =
    let st = settle (i + 1) (step_of s b) in
    let e : k + beginnings (trace (at s i) (b ∷ l)) ≡ k + beginnings (met (at s i) b) + beginnings (trace st l)
    = omega (arith, beginnings-append (met (at s i) b) (trace st l)) in
    ap (λ (n : ℕ). record { answered = answer (run st l); begins = n }) e

-- at a place of a text
pub turn : (text : List ℕ) (k : ℕ) (s : Scan) (i : ℕ) → i < length text
    → outlook k (at s i) (drop i text)
    ≡ outlook (k + beginnings (met (at s i) (get_or text i 0))) (settle (i + 1) (step_of s (get_or text i 0))) (drop (i + 1) text)
turn text k s i h = ap (outlook k (at s i)) (next text i h) ∙ goes k s i (get_or text i 0) (drop (i + 1) text)

-- the marks themselves
pub turned : (text : List ℕ) (s : Scan) (i : ℕ) → i < length text
    → prospect (at s i) (drop i text) ≡ behind (met (at s i) (get_or text i 0)) (prospect (settle (i + 1) (step_of s (get_or text i 0))) (drop (i + 1) text))
turned text s i h = ap (prospect (at s i)) (next text i h)

pub behind-behind : (a b : List Mark) (o : Prospect) → behind a (behind b o) ≡ behind (a ++ b) o
behind-behind a b o = ap (λ (ms : List Mark). record { answered = o.answered; marks = ms }) (sym (append_assoc a b o.marks))

-- a fault is the answer
pub faulted : (n : ℕ) (l : List ℕ) → (prospect (refused n) l).answered ≡ refusal n
faulted n l = ap answer (rests_refused n l)

pub stops : (text : List ℕ) (s : Scan) (i n : ℕ) → i < length text → step_of s (get_or text i 0) ≡ fault n
    → (prospect (at s i) (drop i text)).answered ≡ refusal n
stops text s i n h e =
    ap (λ (o : Prospect). o.answered) (turned text s i h)
    ∙ ap (λ (u : Step). answer (run (settle (i + 1) u) (drop (i + 1) text))) e
    ∙ faulted n (drop (i + 1) text)

-- a digit
pub digit_goes : (s : Scan) (b : ℕ) → is_digit_byte b ≡ true → step_of s b ≡ digit_at s (b - 48)
digit_goes s b d =
    let q = digit_bounds b d in
    let e : 48 + (b - 48) ≡ b = omega arith in
    ap (step_of s) (sym e) ∙ digit-step s (b - 48) (omega arith)

pub digit-marks : (st : State) (b : ℕ) → is_digit_byte b ≡ true → met st b ≡ []
digit-marks st b d =
    let q = digit_bounds b d in
    let e : 48 + (b - 48) ≡ b = omega arith in
    ap (met st) (sym e) ∙ digit-met st (b - 48) (omega arith)
