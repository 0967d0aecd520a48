-- The cases of document 02's second request, each kind as one table under one theorem: bytes, what the check of groups
-- answers and takes, and the groups of the list that it finds; and the edges of each number of groups.
use Rattle.std.specs.Prelude.{ℕ, ◌+◌, ◌*◌, ◌≡◌, refl, List, [], ◌∷◌, ◌++◌, map, cond, eqb, replicate}
use Rattle.lists.specs.Lst.{nil, atom, len}
use Rattle.groups.specs.Groups.{groups_f, number, elements, groups_of}
use Rattle.groups.specs.Reading.{tokens, scanned, size_fault, verdict, list_in}

-- ---- bytes in

pub record Case : Type 0 where
  pub bytes : List ℕ
  pub answer : ℕ
  pub taken : ℕ
  pub back : List ℕ

abbrev stated : List ℕ → ℕ → ℕ → List ℕ → Case
stated s a n t = record { bytes = s; answer = a; taken = n; back = t }

-- taken whole, and written back
abbrev whole : List ℕ → ℕ → Case
whole s n = stated s 0 n s

abbrev refused : List ℕ → ℕ → Case
refused s a = stated s a 0 []

abbrev given : Case → Case
given c =
    let s = c.bytes in
    stated s (verdict s).no (verdict s).taken (cond (eqb (verdict s).no 0) (groups_of (list_in s)) [])

-- a list number for 2^32 - 1 elements
abbrev greatest : List ℕ
greatest = 255 ∷ 255 ∷ 255 ∷ 255 ∷ 31 ∷ []

abbrev pub cases : List Case
cases =
    -- ((3),1,(1,2)), and bytes behind it
    whole (7 ∷ 3 ∷ 6 ∷ 2 ∷ 5 ∷ 2 ∷ 4 ∷ []) 7 ∷
    stated (7 ∷ 3 ∷ 6 ∷ 2 ∷ 5 ∷ 2 ∷ 4 ∷ 128 ∷ 0 ∷ []) 0 7 (7 ∷ 3 ∷ 6 ∷ 2 ∷ 5 ∷ 2 ∷ 4 ∷ []) ∷
    -- the null list, a list with it, and the greatest atom
    whole (1 ∷ []) 1 ∷
    whole (3 ∷ 1 ∷ []) 2 ∷
    whole (3 ∷ 254 ∷ 255 ∷ 255 ∷ 255 ∷ 31 ∷ []) 6 ∷
    -- the input runs out: before an element, inside a number, inside the first number
    refused (3 ∷ []) 19 ∷
    refused (3 ∷ 130 ∷ []) 19 ∷
    refused (129 ∷ []) 19 ∷
    -- an atom at the top, more groups than needed, 2^33, a sixth group
    refused (2 ∷ []) 19 ∷
    refused (129 ∷ 0 ∷ []) 19 ∷
    refused (3 ∷ 254 ∷ 128 ∷ 0 ∷ []) 19 ∷
    refused (3 ∷ 128 ∷ 128 ∷ 128 ∷ 128 ∷ 32 ∷ []) 19 ∷
    refused (3 ∷ 128 ∷ 128 ∷ 128 ∷ 128 ∷ 128 ∷ 1 ∷ []) 19 ∷
    refused [] 14 ∷
    -- 200 levels, a list that opens level 201, a null list there, an atom there, and a number there that is none
    whole (replicate 199 3 ++ (1 ∷ [])) 200 ∷
    whole (replicate 200 3 ++ (8 ∷ [])) 201 ∷
    refused (replicate 201 3) 17 ∷
    refused (replicate 200 3 ++ (1 ∷ [])) 17 ∷
    refused (replicate 200 3 ++ (129 ∷ 0 ∷ [])) 19 ∷
    refused (replicate 200 3) 19 ∷
    -- 2^32 - 1 elements claimed: what comes first along the bytes
    refused greatest 19 ∷
    refused (greatest ++ replicate 200 3) 17 ∷
    refused (greatest ++ replicate 199 3) 19 ∷
    []

pub edges : map given cases ≡ cases
unfolding tokens scanned size_fault verdict list_in len groups_f number elements
edges = refl

-- ---- numbers out

-- where a number of groups ends: the atoms 63 and 64, 8,191 and 8,192, and so on, and the greatest
abbrev pub atoms : List ℕ
atoms = 0 ∷ 63 ∷ 64 ∷ 8191 ∷ 8192 ∷ 1048575 ∷ 1048576 ∷ 134217727 ∷ 134217728 ∷ 4294967295 ∷ []

pub atom_edges : map (λ (v : ℕ). groups_of (atom v nil)) atoms ≡
    (3 ∷ 0 ∷ []) ∷
    (3 ∷ 126 ∷ []) ∷
    (3 ∷ 128 ∷ 1 ∷ []) ∷
    (3 ∷ 254 ∷ 127 ∷ []) ∷
    (3 ∷ 128 ∷ 128 ∷ 1 ∷ []) ∷
    (3 ∷ 254 ∷ 255 ∷ 127 ∷ []) ∷
    (3 ∷ 128 ∷ 128 ∷ 128 ∷ 1 ∷ []) ∷
    (3 ∷ 254 ∷ 255 ∷ 255 ∷ 127 ∷ []) ∷
    (3 ∷ 128 ∷ 128 ∷ 128 ∷ 128 ∷ 1 ∷ []) ∷
    (3 ∷ 254 ∷ 255 ∷ 255 ∷ 255 ∷ 31 ∷ []) ∷
    []
unfolding len groups_f number elements
atom_edges = refl

-- the same of lists: the numbers of lists of 63 and 64 elements, 8,191 and 8,192, and so on, and the greatest
abbrev pub lengths : List ℕ
lengths = 63 ∷ 64 ∷ 8191 ∷ 8192 ∷ 1048575 ∷ 1048576 ∷ 134217727 ∷ 134217728 ∷ 4294967295 ∷ []

pub list_edges : map (λ (n : ℕ). number (2 * n + 1)) lengths ≡
    (127 ∷ []) ∷
    (129 ∷ 1 ∷ []) ∷
    (255 ∷ 127 ∷ []) ∷
    (129 ∷ 128 ∷ 1 ∷ []) ∷
    (255 ∷ 255 ∷ 127 ∷ []) ∷
    (129 ∷ 128 ∷ 128 ∷ 1 ∷ []) ∷
    (255 ∷ 255 ∷ 255 ∷ 127 ∷ []) ∷
    (129 ∷ 128 ∷ 128 ∷ 128 ∷ 1 ∷ []) ∷
    (255 ∷ 255 ∷ 255 ∷ 255 ∷ 31 ∷ []) ∷
    []
unfolding groups_f number
list_edges = refl
