-- What moving a stored list into the other form gives, for all bytes: no table and no work space is lent, and OUTPUT
-- comes after every fault of the bytes.
use Rattle.std.specs.Prelude.{List, ℕ, length}
use Rattle.answers.specs.Answers.{DONE, unless}
use Rattle.lists.specs.Lst.{Lst}
use Rattle.groups.specs.Stored.{verdict, list_in, bytes_of, judged, other}
use Rattle.groups.specs.declared.Stored.{Stored}
use Rattle.calls.specs.Entry.{over}

-- the answer, the bytes taken and the bytes written, and the output afterwards
pub record Move : Type 0 where
  pub answer : ℕ
  pub taken : ℕ
  pub written : ℕ
  pub output : List ℕ

abbrev pub left_alone : ℕ → List ℕ → Move
left_alone n out = record { answer = n; taken = 0; written = 0; output = out }

-- the list l, of so many bytes in the one form, put out in the form k
abbrev pub put_out : Stored → ℕ → Lst → List ℕ → Move
put_out k m l out =
    unless (judged k (length out) l) (λ n. left_alone n out)
    (record { answer = DONE; taken = m; written = length (bytes_of k l); output = over (bytes_of k l) out })

-- from the form k into the other
unfoldable pub moved_from : Stored → List ℕ → List ℕ → Move
moved_from k xs out =
    let v = verdict k xs in
    unless v.no (λ n. left_alone n out) (put_out (other k) v.taken (list_in k xs) out)
