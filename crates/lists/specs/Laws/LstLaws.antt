-- Laws of lists, by induction on the first list: the length against the longest way, and joining the null list.
use Rattle.std.specs.Prelude.{◌≡◌, refl, ◌≤◌}
use Rattle.std.proofs.Common.{ap, arith}
use Rattle.lists.specs.Lst.{Lst, len, path, nil, atom, list, joined}

pub len-path : (l : Lst) → len l ≤ path l
unfolding len path
len-path nil = omega arith
len-path (atom v l) = omega (arith, len-path l)
len-path (list e l) = omega (arith, len-path l)

pub joined-nil : (l : Lst) → joined l nil ≡ l
unfolding joined
joined-nil nil = refl
joined-nil (atom v l) = ap (atom v) (joined-nil l)
joined-nil (list e l) = ap (list e) (joined-nil l)
