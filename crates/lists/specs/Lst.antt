-- Lists as document 01 means them: the null list, or a first element and the rest, with one constructor for each kind
-- of element.
use Rattle.std.specs.Prelude.{ℕ, suc, ◌+◌, ◌<◌, ◌^◌, max}

pub data Lst : Type 0 where
  nil : Lst
  atom : ℕ → Lst → Lst
  list : Lst → Lst → Lst

-- the number of elements
unfoldable pub len : Lst → ℕ
len nil = 0
len (atom v l) = suc (len l)
len (list e l) = suc (len l)

-- the levels of lists on the deepest way down: 1 where no list is inside
unfoldable pub order : Lst → ℕ
order nil = 1
order (atom v l) = order l
order (list e l) = max (suc (order e)) (order l)

-- how many elements there are on all levels together
unfoldable pub extent : Lst → ℕ
extent nil = 0
extent (atom v l) = suc (extent l)
extent (list e l) = suc (extent e + extent l)

-- the longest way through a list, by its elements and their elements
unfoldable pub path : Lst → ℕ
path nil = 0
path (atom v l) = suc (path l)
path (list e l) = suc (max (path e) (path l))

-- l reversed before r
unfoldable pub onto : Lst → Lst → Lst
onto nil r = r
onto (atom v l) r = onto l (atom v r)
onto (list e l) r = onto l (list e r)

unfoldable pub reversed : Lst → Lst
reversed l = onto l nil

-- r after l
unfoldable pub joined : Lst → Lst → Lst
joined nil r = r
joined (atom v l) r = atom v (joined l r)
joined (list e l) r = list e (joined l r)

-- every atom fits into 32 bits
unfoldable pub Atoms : Lst → Type 0
Atoms nil = Unit {0}
Atoms (atom v l) = (v < 2 ^ 32) × Atoms l
Atoms (list e l) = Atoms e × Atoms l
