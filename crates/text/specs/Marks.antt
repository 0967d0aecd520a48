-- The marks between text and lists: a list has its marks in order, a scan of characters meets marks, and a run of marks
-- builds a list.
use Rattle.std.specs.Prelude.{ℕ, ◌+◌, List, [], ◌∷◌, ◌++◌, Bool, true, false, cond, eqb}
use Rattle.lists.specs.Lst.{Lst, nil, atom, list}
use Rattle.text.specs.Text.{Scan, State, at, refused, taken, next, begin, is_atom}

-- "(", ")" and an atom
pub data Mark : Type 0 where
  opened : Mark
  shut : Mark
  value : ℕ → Mark

abbrev pub lead_mark : Bool → List Mark
lead_mark true = opened ∷ []
lead_mark false = []

-- the marks of a list from its "(" on, or of its elements that follow another
abbrev pub marks_of : Bool → Lst → List Mark
marks_of f nil = lead_mark f ++ (shut ∷ [])
marks_of f (atom v l) = lead_mark f ++ (value v ∷ marks_of false l)
marks_of f (list m l) = lead_mark f ++ (marks_of true m ++ marks_of false l)

-- an atom has its mark where it ends
abbrev pub pending : Scan → List Mark
pending s = cond (is_atom s.phase) (value s.value ∷ []) []

-- the marks met at one character, and along a text
abbrev pub met : State → ℕ → List Mark
met (at s n) b =
    cond (eqb b 40) (opened ∷ [])
    (cond (eqb b 41) (pending s ++ (shut ∷ []))
    (cond (eqb b 44) (pending s) []))
met (refused k) b = []
met (taken n) b = []

abbrev pub trace : State → List ℕ → List Mark
trace st [] = []
trace st (b ∷ bs) = met st b ++ trace (next st b) bs

-- the lists that end a run of marks, innermost first
abbrev pub push : Mark → List Lst → List Lst
push shut st = nil ∷ st
push (value v) [] = []
push (value v) (l ∷ st) = atom v l ∷ st
push opened [] = []
push opened (m ∷ []) = m ∷ []
push opened (m ∷ l ∷ st) = list m l ∷ st

abbrev pub pushes : List Mark → List Lst → List Lst
pushes [] st = st
pushes (e ∷ es) st = push e (pushes es st)

abbrev pub top_of : List Lst → Lst
top_of [] = nil
top_of (l ∷ st) = l

-- the list that a text holds
unfoldable pub list_in : List ℕ → Lst
list_in s = top_of (pushes (trace (at begin 0) s) [])

-- the marks that begin an element or the list itself
abbrev pub beginnings : List Mark → ℕ
beginnings [] = 0
beginnings (opened ∷ es) = beginnings es + 1
beginnings (shut ∷ es) = beginnings es
beginnings (value v ∷ es) = beginnings es + 1
