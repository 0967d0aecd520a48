-- The state after some bytes does not depend on how they were cut into chunks, and at the end of input it has the lines of the input.
-- The proof goes along the bytes, with the whole row so far in place of its first 200 bytes.
use Rattle.std.specs.Prelude.{◌≡◌, refl, Bool, true, false, cond, List, [], ◌∷◌, ◌++◌, map, ℕ, suc, ◌+◌, ◌-◌, ◌≤◌, ◌<◌, eqb, ltb, length, get_or, take, drop}
use Rattle.std.proofs.Common.{sym, ap, ◌∙◌, append_assoc, append-nil, arith, lt-ltb, le-ltb, le-leb, length-append, length-take, length-drop, take_all, take-suc, get_or-drop, add-one}
use Rattle.std.proofs.Math.Decide.{dec_lt, dec_le}
use Rattle.std.proofs.lemmas.Bool.{lt-leb}
use Rattle.std.proofs.lemmas.List.{take-append-le}
use Rattle.lines.specs.Printed.{line_feed}
use Rattle.lines.specs.Splitting.{line_most, before, rows, Line, line, line_of, lines_of, Gathering, nothing, ready, eat, eaten, closed}

pub eaten-append : (a b : List ℕ) (g : Gathering) → eaten g (a ++ b) ≡ eaten (eaten g a) b
unfolding eaten
eaten-append [] b g = refl
eaten-append (c ∷ a) b g = eaten-append a b (eat g c)

-- lines that are whole do not change how later bytes are split
abbrev pub behind : List Line → Gathering → Gathering
behind ls g = record { lines = ls ++ g.lines; kept = g.kept; over = g.over }

eat-behind : (ls : List Line) (g : Gathering) (c : ℕ) → eat (behind ls g) c ≡ behind ls (eat g c)
eat-behind ls g c = go (eqb c line_feed) (ltb (length g.kept) line_most)
  where
    go : (a b : Bool) →
        cond a (record { lines = (ls ++ g.lines) ++ (ready g.kept g.over ∷ []); kept = []; over = false })
        (cond b (record { lines = ls ++ g.lines; kept = g.kept ++ (c ∷ []); over = g.over })
        (record { lines = ls ++ g.lines; kept = g.kept; over = true }))
        ≡ behind ls
        (cond a (record { lines = g.lines ++ (ready g.kept g.over ∷ []); kept = []; over = false })
        (cond b (record { lines = g.lines; kept = g.kept ++ (c ∷ []); over = g.over }) (record { lines = g.lines; kept = g.kept; over = true })))
    go true b = ap (λ (x : List Line). record { lines = x; kept = []; over = false }) (append_assoc ls g.lines (ready g.kept g.over ∷ []))
    go false true = refl
    go false false = refl

pub eaten-behind : (s : List ℕ) (ls : List Line) (g : Gathering) → eaten (behind ls g) s ≡ behind ls (eaten g s)
unfolding eaten
eaten-behind [] ls g = refl
eaten-behind (c ∷ s) ls g = ap (λ (x : Gathering). eaten x s) (eat-behind ls g c) ∙ eaten-behind s ls (eat g c)

-- one byte more of a chunk, taken in from its place f on
pub eaten-more : (s : List ℕ) (f t : ℕ) (g : Gathering) → f ≤ t → t < length s → eaten g (take (t + 1 - f) (drop f s)) ≡ eat (eaten g (take (t - f) (drop f s))) (get_or s t 0)
unfolding eaten
eaten-more s f t g l h =
    let n : t + 1 - f ≡ suc (t - f) = omega arith in
    let q : f + (t - f) ≡ t = omega arith in
    ap (λ (k : ℕ). eaten g (take k (drop f s))) n
    ∙ ap (eaten g) (take-suc (drop f s) (t - f) 0 (simp length-drop (omega arith)))
    ∙ eaten-append (take (t - f) (drop f s)) (get_or (drop f s) (t - f) 0 ∷ []) g
    ∙ ap (eat (eaten g (take (t - f) (drop f s)))) (get_or-drop f s (t - f) 0 ∙ ap (λ (k : ℕ). get_or s k 0) q)

-- from its start on
pub eaten-next : (s : List ℕ) (i : ℕ) (g : Gathering) → i < length s → eaten g (take (i + 1) s) ≡ eat (eaten g (take i s)) (get_or s i 0)
unfolding eaten
eaten-next s i g l = ap (λ (k : ℕ). eaten g (take k s)) (add-one i) ∙ ap (eaten g) (take-suc s i 0 l) ∙ eaten-append (take i s) (get_or s i 0 ∷ []) g

-- the row r is not whole yet: its first bytes are kept
abbrev partly : List Line → List ℕ → Gathering
partly ls r = record { lines = ls; kept = take line_most r; over = ltb line_most (length r) }

whole : (r : List ℕ) → ready (take line_most r) (ltb line_most (length r)) ≡ line_of r
whole r = go (dec_le (length r) line_most)
  where
    go : Dec (length r ≤ line_most) → ready (take line_most r) (ltb line_most (length r)) ≡ line_of r
    go (yes h) = rw (le-ltb line_most (length r) h, le-leb (length r) line_most h) (ap line (take_all line_most r h))
    go (no h) = rw (lt-ltb line_most (length r) (omega arith), lt-leb (length r) line_most (omega arith)) refl

-- r before the first row
glue : List ℕ → List (List ℕ) → List (List ℕ)
glue [] rs = rs
glue (c ∷ r) rs = before c (glue r rs)

glue_row : (r x : List ℕ) (rs : List (List ℕ)) → glue r (x ∷ rs) ≡ (r ++ x) ∷ rs
unfolding glue
glue_row [] x rs = refl
glue_row (c ∷ r) x rs = ap (before c) (glue_row r x rs)

glue_end : (c : ℕ) (r : List ℕ) → glue (c ∷ r) [] ≡ (c ∷ r) ∷ []
unfolding glue
glue_end c [] = refl
glue_end c (d ∷ r) = ap (before c) (glue_end d r)

glue_more : (r : List ℕ) (c : ℕ) (rs : List (List ℕ)) → glue (r ++ (c ∷ [])) rs ≡ glue r (before c rs)
unfolding glue
glue_more [] c rs = refl
glue_more (d ∷ r) c rs = ap (before d) (glue_more r c rs)

-- a byte that is no line feed
grown : (ls : List Line) (r : List ℕ) (c : ℕ) → eqb c line_feed ≡ false → eat (partly ls r) c ≡ partly ls (r ++ (c ∷ []))
grown ls r c e = rw e (go (dec_lt (length r) line_most))
  where
    n : length (r ++ (c ∷ [])) ≡ length r + 1
    n = length-append r (c ∷ [])

    go : Dec (length r < line_most) →
        cond (ltb (length (take line_most r)) line_most)
        (record { lines = ls; kept = take line_most r ++ (c ∷ []); over = ltb line_most (length r) })
        (record { lines = ls; kept = take line_most r; over = true })
        ≡ partly ls (r ++ (c ∷ []))
    go (yes h) =
        rw (take_all line_most r (omega arith), take_all line_most (r ++ (c ∷ [])) (omega (arith, n)), lt-ltb (length r) line_most h, le-ltb line_most (length r) (omega arith), le-ltb line_most (length (r ++ (c ∷ []))) (omega (arith, n)))
        refl
    go (no h) =
        rw (le-ltb (length (take line_most r)) line_most (simp length-take (omega arith)), take-append-le line_most r (c ∷ []) (omega arith), lt-ltb line_most (length (r ++ (c ∷ []))) (omega (arith, n)))
        refl

split : (s r : List ℕ) (ls : List Line) → closed (eaten (partly ls r) s) ≡ ls ++ map line_of (glue r (rows s))
unfolding eaten rows glue
split [] [] ls = refl
split [] (c ∷ r) ls = ap (λ (x : List Line). ls ++ x) (ap (λ (x : Line). x ∷ []) (whole (c ∷ r)) ∙ sym (ap (map line_of) (glue_end c r)))
split (c ∷ s) r ls = go (eqb c line_feed) refl (split s [] (ls ++ (line_of r ∷ []))) (split s (r ++ (c ∷ [])) ls)
  where
    go : (b : Bool) → eqb c line_feed ≡ b
        → closed (eaten (partly (ls ++ (line_of r ∷ [])) []) s) ≡ (ls ++ (line_of r ∷ [])) ++ map line_of (rows s)
        → closed (eaten (partly ls (r ++ (c ∷ []))) s) ≡ ls ++ map line_of (glue (r ++ (c ∷ [])) (rows s))
        → closed (eaten (eat (partly ls r) c) s) ≡ ls ++ map line_of (glue r (cond b ([] ∷ rows s) (before c (rows s))))
    go true e p q = rw e (
        ap (λ (x : Line). closed (eaten (record { lines = ls ++ (x ∷ []); kept = []; over = false }) s)) (whole r)
        ∙ p ∙ append_assoc ls (line_of r ∷ []) (map line_of (rows s))
        ∙ ap (λ (x : List ℕ). ls ++ (line_of x ∷ map line_of (rows s))) (sym (append-nil r))
        ∙ ap (λ (x : List (List ℕ)). ls ++ map line_of x) (sym (glue_row r [] (rows s)))
        )
    go false e p q =
        ap (λ (x : Gathering). closed (eaten x s)) (grown ls r c e)
        ∙ q ∙ ap (λ (x : List (List ℕ)). ls ++ map line_of x) (glue_more r c (rows s))

pub split_lines : (s : List ℕ) → closed (eaten nothing s) ≡ lines_of s
unfolding glue
split_lines s = split s [] []
