-- The text check answers the earliest fault of the text form, or takes the records of one list. By induction on the characters.
use Rattle.std.specs.Prelude.{◌≡◌, refl, ◌≢◌, ◌⊎◌, Bool, true, false, List, [], ◌∷◌, ◌++◌, ℕ, ◌+◌, ◌%◌, eqb, length, get_or, take, drop}
use Rattle.std.proofs.Common.{sym, ap, ◌∙◌, subst, inl, inr, append_assoc, append-nil, arith, length-append, eqb-true}
use Rattle.std.proofs.Math.Seq.{take-append_seam}
use Rattle.std.proofs.lemmas.Bool.{eqb-false}
use Rattle.answers.specs.Answers.{DONE, NOT_A_LIST, ATOM, DEEP}
use Rattle.answers.specs.Laws.Unless.{both_ways}
use Rattle.text.specs.Limits.{record_bytes}
use Rattle.text.specs.Text.{Scan, Step, mark, fault, State, at, refused, taken, Answer, refusal, answer, begin, step_of, settle, run, scanned, size_fault, verdict, is_over}
use Rattle.text.specs.Laws.TextLaws.{rests_refused, rests_taken}
use Rattle.promises.specs.Rows.{Answers}
use Rattle.promises.specs.TextGrounds.{along, last_in, FaultAt, NoFault, Complete, Fine, Faulted, RunsOut, TakesRecords, size_rows, fault_rows, check_rows}
use Rattle.promises.specs.Laws.Tells.{unless-first}
use Rattle.promises.specs.Laws.TestsTell.{size_answers, size_each}
use Rattle.promises.specs.Laws.TextPlaces.{Placed, StepAt, step-at, over-ended, ended-over, placed_first}

-- two places in one text: the same, or one before the other
data Places (us vs : List ℕ) (b c : ℕ) : Type 0 where
  same : us ≡ vs → b ≡ c → Places us vs b c
  before : (ws : List ℕ) → vs ≡ us ++ (b ∷ ws) → Places us vs b c
  behind : (ws : List ℕ) → us ≡ vs ++ (c ∷ ws) → Places us vs b c

head_of : {b c : ℕ} {xs ys : List ℕ} → b ∷ xs ≡ c ∷ ys → b ≡ c
head_of e = ap (λ (l : List ℕ). get_or l 0 0) e

tail_of : {b c : ℕ} {xs ys : List ℕ} → b ∷ xs ≡ c ∷ ys → xs ≡ ys
tail_of e = ap (drop 1) e

pub both : {b c : ℕ} {xs ys : List ℕ} → b ≡ c → xs ≡ ys → b ∷ xs ≡ c ∷ ys
both e p = λ i. e i ∷ p i

places : (us vs : List ℕ) (b c : ℕ) (xs ys : List ℕ) → us ++ (b ∷ xs) ≡ vs ++ (c ∷ ys) → Places us vs b c
places [] [] b c xs ys e = same refl (head_of e)
places [] (v ∷ vs) b c xs ys e = before vs (both (sym (head_of e)) refl)
places (u ∷ us) [] b c xs ys e = behind us (both (head_of e) refl)
places (u ∷ us) (v ∷ vs) b c xs ys e = go (places us vs b c xs ys (tail_of e))
  where
    go : Places us vs b c → Places (u ∷ us) (v ∷ vs) b c
    go (same p q) = same (both (head_of e) p) q
    go (before ws p) = before ws (both (sym (head_of e)) p)
    go (behind ws p) = behind ws (both (head_of e) p)

no_part : (vs : List ℕ) (c : ℕ) (ws : List ℕ) → [] ≡ vs ++ (c ∷ ws) → ⊥
no_part vs c ws e = omega (arith, ap length e, length-append vs (c ∷ ws))

fine_none : Fine []
fine_none vs c ws e = absurd (no_part vs c ws e)

-- nothing stands behind the last of characters
fine_next : (us : List ℕ) (b : ℕ) → Fine us → (Complete us → ⊥) → NoFault us b → Fine (us ++ (b ∷ []))
fine_next us b f n k vs c ws e = go (places us vs b c [] ws e)
  where
    go : Places us vs b c → NoFault vs c × (Complete vs → ⊥)
    go (same p q) = (subst (λ (w : List ℕ). NoFault w c) p (subst (NoFault us) q k), λ h. n (subst Complete (sym p) h))
    go (before xs p) = absurd (omega (arith, ap length e, ap length p, length-append us (b ∷ []), length-append vs (c ∷ ws), length-append us (b ∷ xs)))
    go (behind xs p) = f vs c xs p

-- where a scan ends: it stands, has met its first fault, or has taken its records
data Walked (us xs : List ℕ) (st : State) : Type 0 where
  stands : (t : Scan) (k : ℕ) → st ≡ at t k → Fine (us ++ xs) → (Complete (us ++ xs) → ⊥) → Walked us xs st
  faulted : (k : ℕ) (vs : List ℕ) (b : ℕ) (later : List ℕ) → st ≡ refused k → xs ≡ vs ++ (b ∷ later) → Fine (us ++ vs) → (Complete (us ++ vs) → ⊥) → FaultAt (us ++ vs) b k → Walked us xs st
  took : (m : ℕ) (vs later : List ℕ) → st ≡ taken m → m ≡ length (us ++ vs) → xs ≡ vs ++ later → Fine (us ++ vs) → Complete (us ++ vs) → Walked us xs st

walked : (xs us : List ℕ) (s : Scan) (n : ℕ) → Placed us s → n ≡ length us → Fine us → (Complete us → ⊥) → Walked us xs (run (at s n) xs)
walked [] us s n p e f c = stands s n refl (subst Fine (sym (append-nil us)) f) (λ h. c (subst Complete (append-nil us) h))
walked (b ∷ xs) us s n p e f c = go (step_of s b) refl (step-at us s p b) (walked xs (us ++ (b ∷ [])))
  where
    more : (vs : List ℕ) → (us ++ (b ∷ [])) ++ vs ≡ us ++ (b ∷ vs)
    more vs = append_assoc us (b ∷ []) vs

    long : n + 1 ≡ length (us ++ (b ∷ []))
    long = omega (arith, length-append us (b ∷ []))

    on : {st su : State} → su ≡ st → Walked (us ++ (b ∷ [])) xs st → Walked us (b ∷ xs) su
    on q (stands t k r g h) = stands t k (q ∙ r) (subst Fine (more xs) g) (λ w. h (subst Complete (sym (more xs)) w))
    on q (faulted k vs d later r t g h i) = faulted k (b ∷ vs) d later (q ∙ r) (both refl t) (subst Fine (more vs) g) (λ w. h (subst Complete (sym (more vs)) w)) (subst (λ (w : List ℕ). FaultAt w d k) (more vs) i)
    on q (took m vs later r d t g h) = took m (b ∷ vs) later (q ∙ r) (d ∙ ap length (more vs)) (both refl t) (subst Fine (more vs) g) (subst Complete (more vs) h)

    go : (u : Step) → step_of s b ≡ u → StepAt us b u
        → ((t : Scan) (k : ℕ) → Placed (us ++ (b ∷ [])) t → k ≡ length (us ++ (b ∷ [])) → Fine (us ++ (b ∷ [])) → (Complete (us ++ (b ∷ [])) → ⊥) → Walked (us ++ (b ∷ [])) xs (run (at t k) xs))
        → Walked us (b ∷ xs) (run (settle (n + 1) (step_of s b)) xs)
    go (fault k) u i ih = faulted k [] b xs (ap (λ (v : Step). run (settle (n + 1) v) xs) u ∙ rests_refused k xs) refl (subst Fine (sym (append-nil us)) f) (λ h. c (subst Complete (append-nil us) h)) (subst (λ (w : List ℕ). FaultAt w b k) (sym (append-nil us)) i)
    go (mark t) u (i, q) ih = rest (is_over t.phase) refl (eqb ((n + 1) % record_bytes) 0) refl
      where
        here : {st : State} → settle (n + 1) (mark t) ≡ st → run (settle (n + 1) (step_of s b)) xs ≡ run st xs
        here w = ap (λ (v : Step). run (settle (n + 1) v) xs) u ∙ ap (λ (st : State). run st xs) w

        next : Fine (us ++ (b ∷ []))
        next = fine_next us b f c i

        rest : (x : Bool) → is_over t.phase ≡ x → (y : Bool) → eqb ((n + 1) % record_bytes) 0 ≡ y → Walked us (b ∷ xs) (run (settle (n + 1) (step_of s b)) xs)
        rest true x true y =
            let (l, z) = over-ended (us ++ (b ∷ [])) t q x in
            took (n + 1) (b ∷ []) xs (here (rw (x, y)) ∙ rests_taken (n + 1) xs) long refl next (l, z, ap (λ (k : ℕ). k % record_bytes) (sym long) ∙ eqb-true ((n + 1) % record_bytes) 0 y)
        rest true x false y = on (here (rw (x, y))) (ih t (n + 1) q long next (λ h. eqb-false ((n + 1) % record_bytes) 0 y (ap (λ (k : ℕ). k % record_bytes) long ∙ h.2)))
        rest false x w y = on (here (rw x)) (ih t (n + 1) q long next (λ h. ended-over (us ++ (b ∷ [])) t q x h.0 h.1))

-- one outcome only

no_fault : (us : List ℕ) (b n : ℕ) → NoFault us b → FaultAt us b n → ⊥
no_fault us b n k (inl h) = h.1 k.0
no_fault us b n k (inr (inl h)) = k.1 h.2
no_fault us b n k (inr (inr h)) = k.2 h.2

one_fault : (us : List ℕ) (b n m : ℕ) → FaultAt us b n → FaultAt us b m → n ≡ m
one_fault us b n m (inl h) (inl k) = h.0 ∙ sym k.0
one_fault us b n m (inl h) (inr (inl k)) = absurd (h.1 k.1)
one_fault us b n m (inl h) (inr (inr k)) = absurd (h.1 k.1)
one_fault us b n m (inr (inl h)) (inl k) = absurd (k.1 h.1)
one_fault us b n m (inr (inl h)) (inr (inl k)) = h.0 ∙ sym k.0
one_fault us b n m (inr (inl h)) (inr (inr k)) = absurd (omega (arith, h.2.0.0, k.2.0))
one_fault us b n m (inr (inr h)) (inl k) = absurd (k.1 h.1)
one_fault us b n m (inr (inr h)) (inr (inl k)) = absurd (omega (arith, k.2.0.0, h.2.0))
one_fault us b n m (inr (inr h)) (inr (inr k)) = h.0 ∙ sym k.0

faulted_once : (xs : List ℕ) (n m : ℕ) → Faulted xs n → Faulted xs m → n ≡ m
faulted_once xs n m (us, b, ls, p, f, c, h) (vs, d, ks, q, g, e, k) = go (places us vs b d ls ks (sym p ∙ q))
  where
    go : Places us vs b d → n ≡ m
    go (same r s) = one_fault vs d n m (subst (λ (w : List ℕ). FaultAt w d n) r (subst (λ (a : ℕ). FaultAt us a n) s h)) k
    go (before ws r) = absurd (no_fault us b n (g us b ws r).0 h)
    go (behind ws r) = absurd (no_fault vs d m (f vs d ws r).0 k)

faulted_out : (xs : List ℕ) (n : ℕ) → Faulted xs n → RunsOut xs → ⊥
faulted_out xs n (us, b, ls, p, f, c, h) (g, e) = no_fault us b n (g us b ls p).0 h

-- the records of a list at the start of a text
abbrev Whole : List ℕ → Type 0
Whole xs = (us : List ℕ) × (later : List ℕ) × (xs ≡ us ++ later) × Fine us × Complete us

whole_out : (xs : List ℕ) → Whole xs → RunsOut xs → ⊥
whole_out xs (us, [], p, f, c) (g, e) = e (subst Complete (sym (p ∙ append-nil us)) c)
whole_out xs (us, b ∷ ls, p, f, c) (g, e) = (g us b ls p).1 c

whole_faulted : (xs : List ℕ) (n : ℕ) → Whole xs → Faulted xs n → ⊥
whole_faulted xs n (vs, [], q, g, e) (us, b, ls, p, f, c, h) = no_fault us b n (g us b ls (sym (q ∙ append-nil vs) ∙ p)).0 h
whole_faulted xs n (vs, d ∷ ks, q, g, e) (us, b, ls, p, f, c, h) = go (places us vs b d ls ks (sym p ∙ q))
  where
    go : Places us vs b d → ⊥
    go (same r s) = c (subst Complete (sym r) e)
    go (before ws r) = no_fault us b n (g us b ws r).0 h
    go (behind ws r) = (f vs d ws r).1 e

walked_from : (xs : List ℕ) → Walked [] xs (run (at begin 0) xs)
unfolding along
walked_from xs = walked xs [] begin 0 placed_first refl fine_none (λ h. none h.0)
  where
    none : (last_in [] ≡ 41) ⊎ (last_in [] ≡ 32) → ⊥
    none (inl e) = omega (arith, e)
    none (inr e) = omega (arith, e)

pub scan_answers : (xs : List ℕ) → Answers (fault_rows xs) (scanned xs).no
unfolding scanned
scan_answers xs = go (walked_from xs)
  where
    number : {st : State} → run (at begin 0) xs ≡ st → (answer (run (at begin 0) xs)).no ≡ (answer st).no
    number e = ap (λ (u : State). (answer u).no) e

    first_no : (n : ℕ) → (n ≡ NOT_A_LIST → ⊥) → Faulted xs n → Faulted xs NOT_A_LIST ⊎ RunsOut xs → ⊥
    first_no n m f (inl g) = m (faulted_once xs n NOT_A_LIST f g)
    first_no n m f (inr g) = faulted_out xs n f g

    by_number : (k : ℕ) → (answer (run (at begin 0) xs)).no ≡ k → Faulted xs k → (k ≡ NOT_A_LIST) ⊎ (k ≡ ATOM) ⊎ (k ≡ DEEP) → Answers (fault_rows xs) (answer (run (at begin 0) xs)).no
    by_number k r f (inl e) = inl (inl (subst (Faulted xs) e f), r ∙ e)
    by_number k r f (inr (inl e)) = inr (first_no k (λ z. omega arith) f, inl (subst (Faulted xs) e f, r ∙ e))
    by_number k r f (inr (inr e)) = inr (first_no k (λ z. omega arith) f, inr ((λ g. absurd (other (faulted_once xs k ATOM f g))), inl (subst (Faulted xs) e f, r ∙ e)))
      where
        other : k ≡ ATOM → ⊥
        other z = omega arith

    which : (us : List ℕ) (b k : ℕ) → FaultAt us b k → (k ≡ NOT_A_LIST) ⊎ (k ≡ ATOM) ⊎ (k ≡ DEEP)
    which us b k (inl h) = inl h.0
    which us b k (inr (inl h)) = inr (inl h.0)
    which us b k (inr (inr h)) = inr (inr h.0)

    no_row : Whole xs → Faulted xs NOT_A_LIST ⊎ RunsOut xs → ⊥
    no_row w (inl g) = whole_faulted xs NOT_A_LIST w g
    no_row w (inr g) = whole_out xs w g

    go : Walked [] xs (run (at begin 0) xs) → Answers (fault_rows xs) (answer (run (at begin 0) xs)).no
    go (stands t k r f c) = inl (inr (f, c), number r)
    go (faulted k vs b later r p f c h) = by_number k (number r) (vs, b, later, p, f, c, h) (which vs b k h)
    go (took m vs later r d p f c) =
        let w : Whole xs = (vs, later, p, f, c) in
        inr (no_row w, inr ((λ g. whole_faulted xs ATOM w g), inr ((λ g. whole_faulted xs DEEP w g), number r)))

pub check_answers : (xs : List ℕ) → Answers (check_rows xs) (verdict xs).no
unfolding verdict
check_answers xs = unless-first (size_rows xs) (fault_rows xs) (size_fault xs) (size_each xs) (size_answers xs) (λ (r : Answer). r.no) (λ m. m ≡ DONE) refusal (scanned xs) (λ m. refl) (λ _. scan_answers xs)

-- a refused text has no bytes taken
pub check-refused : (xs : List ℕ) → (verdict xs).no ≢ DONE → (verdict xs).taken ≡ 0
unfolding verdict scanned
check-refused xs = both_ways (size_fault xs) refusal (scanned xs) (λ (r : Answer). r.no ≢ DONE → r.taken ≡ 0) (λ n d. refl) (λ z. ends (run (at begin 0) xs))
  where
    ends : (st : State) → (answer st).no ≢ DONE → (answer st).taken ≡ 0
    ends (at s n) d = refl
    ends (refused k) d = refl
    ends (taken n) d = absurd (d refl)

-- an accepted text is taken up to the end of its list's last record
pub check_takes : (xs : List ℕ) → (verdict xs).no ≡ DONE → TakesRecords xs (verdict xs).taken
unfolding verdict scanned
check_takes xs = both_ways (size_fault xs) refusal (scanned xs) (λ (r : Answer). r.no ≡ DONE → TakesRecords xs r.taken) (λ n z. absurd (n z)) (λ z. ends (walked_from xs))
  where
    number : {k : ℕ} {st : State} → run (at begin 0) xs ≡ st → (answer st).no ≡ k → (answer (run (at begin 0) xs)).no ≡ DONE → k ≡ DONE
    number e q z = sym q ∙ sym (ap (λ (u : State). (answer u).no) e) ∙ z

    never : (us : List ℕ) (b k : ℕ) → FaultAt us b k → k ≡ DONE → ⊥
    never us b k (inl h) z = omega (arith, h.0)
    never us b k (inr (inl h)) z = omega (arith, h.0)
    never us b k (inr (inr h)) z = omega (arith, h.0)

    ends : Walked [] xs (run (at begin 0) xs) → (answer (run (at begin 0) xs)).no ≡ DONE → TakesRecords xs (answer (run (at begin 0) xs)).taken
    ends (stands t k r f c) z = absurd (omega (arith, number r refl z))
    ends (faulted k vs b later r p f c h) z = absurd (never vs b k h (number r refl z))
    ends (took m vs later r d p f c) z =
        let e : (answer (run (at begin 0) xs)).taken ≡ length vs = ap (λ (u : State). (answer u).taken) r ∙ d in
        let cut : take (answer (run (at begin 0) xs)).taken xs ≡ vs = ap (λ (n : ℕ). take n xs) e ∙ ap (take (length vs)) p ∙ take-append_seam vs later in
        (omega (arith, e, ap length p, length-append vs later), subst Fine (sym cut) f, subst Complete (sym cut) c)
