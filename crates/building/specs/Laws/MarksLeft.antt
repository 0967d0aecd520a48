-- What the next of the marks that are still to come says of the rest of the open lists.
use Rattle.std.proofs.Common.{append_assoc, append-nil, ap, ◌∙◌, arith}
use Rattle.std.specs.Prelude.{List, [], ◌∷◌, ◌++◌, ◌≡◌, refl, true, false, ℕ}
use Rattle.lists.specs.Lst.{Lst, nil, atom, list}
use Rattle.text.specs.Laws.MarkLaws.{with_open}
use Rattle.text.specs.Marks.{Mark, opened, shut, value, marks_of}
use Rattle.building.specs.Build.{Open}
use Rattle.building.specs.Underway.{marks_after, marks_left}

-- a list with its first element open
opens : (e l : Lst) (os : List Open) (c : ℕ) → marks_left (list e l) os ≡ opened ∷ marks_left e (record { cell = c; rest = l } ∷ os)
unfolding marks_after
opens e l os c =
    append_assoc (marks_of true e) (marks_of false l) (marks_after os) ∙ ap (λ (ms : List Mark). ms ++ (marks_of false l ++ marks_after os)) (with_open e)

-- what the first of the marks left says
pub record OpenedFirst (l : Lst) (os : List Open) (ms : List Mark) : Type 0 where
  pub elem : Lst
  pub rest : Lst
  pub is : l ≡ list elem rest
  pub left : (c : ℕ) → ms ≡ marks_left elem (record { cell = c; rest = rest } ∷ os)

pub record ValueFirst (v : ℕ) (l : Lst) (os : List Open) (ms : List Mark) : Type 0 where
  pub rest : Lst
  pub is : l ≡ atom v rest
  pub left : ms ≡ marks_left rest os

pub record ShutFirst (l : Lst) (os : List Open) (ms : List Mark) : Type 0 where
  pub is : l ≡ nil
  pub left : ms ≡ marks_after os

pub opened-first : (l : Lst) (os : List Open) (ms : List Mark) → marks_left l os ≡ opened ∷ ms → OpenedFirst l os ms
opened-first nil os ms e = let z : ◌≡◌ {A = ℕ} 0 1 = cc in absurd (omega arith)
opened-first (atom v l) os ms e = let z : ◌≡◌ {A = ℕ} 0 1 = cc in absurd (omega arith)
opened-first (list m l) os ms e = record { elem = m; rest = l; is = refl; left = λ c. go c (opens m l os c) }
  where
    go : (c : ℕ) → marks_left (list m l) os ≡ opened ∷ marks_left m (record { cell = c; rest = l } ∷ os) → ms ≡ marks_left m (record { cell = c; rest = l } ∷ os)
    go c q = cc

pub value-first : (v : ℕ) (l : Lst) (os : List Open) (ms : List Mark) → marks_left l os ≡ value v ∷ ms → ValueFirst v l os ms
value-first v nil os ms e = let z : ◌≡◌ {A = ℕ} 0 1 = cc in absurd (omega arith)
value-first v (atom w l) os ms e =
    let q : w ≡ v = cc in
    record { rest = l; is = ap (λ (u : ℕ). atom u l) q; left = cc }
value-first v (list m l) os ms e =
    let q = opens m l os 0 in
    let z : ◌≡◌ {A = ℕ} 0 1 = cc in absurd (omega arith)

pub shut_first : (l : Lst) (os : List Open) (ms : List Mark) → marks_left l os ≡ shut ∷ ms → ShutFirst l os ms
shut_first nil os ms e = record { is = refl; left = cc }
shut_first (atom v l) os ms e = let z : ◌≡◌ {A = ℕ} 0 1 = cc in absurd (omega arith)
shut_first (list m l) os ms e =
    let q = opens m l os 0 in
    let z : ◌≡◌ {A = ℕ} 0 1 = cc in absurd (omega arith)

-- a whole list is open behind its "("
pub all_left : (l : Lst) (ms : List Mark) → marks_of true l ≡ opened ∷ ms → ms ≡ marks_left l []
unfolding marks_after
all_left l ms e =
    let q = with_open l in
    let n = append-nil (marks_of false l) in cc
