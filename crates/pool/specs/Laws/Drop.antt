-- The four cases of a step of erasing keep its invariant: the roots that stay, x, and what waits are all the roots there are.
use Rattle.std.specs.Prelude.{◌≡◌, ◌≢◌, length}
use Rattle.std.proofs.Math.Path.{refl, ap, subst}
use Rattle.std.proofs.Common.{sym, ◌∙◌}
use mathlib.Core.List.{List, [], ◌∷◌}
use Prim.Native.Nat.{ℕ, suc, ◌+◌, ◌<◌}
use Rattle.std.proofs.Math.Decide.{ℕ_discrete}
use native.Mathlib.Omega.{arith}
use Rattle.pool.specs.Tally.{same, tally}
use Rattle.pool.specs.Laws.TallyLaws.{same_eq, same_ne, same_of, same_le}
use Rattle.pool.specs.Pool.{Cell, at, put, kind_of, elem_of, count_of, next_of, counted, followed, set_count, set_next, Live, InPool, lives}
use Rattle.pool.specs.Erase.{total}
use Rattle.pool.specs.Laws.Edit.{put-length, put_same, put_other, put-tally, live_cell, mark-cell}
use Rattle.pool.specs.Laws.Held.{Held, reroot}
use Rattle.pool.specs.Laws.Arrows.{if_live_pos, if_live-zero, gives-atom, gives_list}
use Rattle.pool.specs.Laws.HeldSteps.{lower, unlock, aside_cell, refit, shelve}
use Rattle.pool.specs.Laws.Frame.{Kept, Kept_trans, put-cases, kept_count, kept_free, put-lives}

-- a waiting cell, and the element that is still to be erased
pub record Wait : Type 0 where
  pub cell : ℕ
  pub item : ℕ

-- the chain from b by S is that of the waiting cells
unfoldable pub Waits : List Cell → ℕ → List Wait → Type 0
Waits cs b [] = b ≡ 0
Waits cs b (w ∷ ws) = (b ≡ w.cell) × (w.cell ≢ 0) × (elem_of cs w.cell ≡ w.item) × Waits cs (next_of cs w.cell) ws

-- how often a cell waits, and how often a waiting element names a cell
abbrev pub waits : List Wait → ℕ → ℕ
waits ws c = tally (λ w. same w.cell c) ws

abbrev pub items : List Wait → ℕ → ℕ
items ws c = tally (λ w. same w.item c) ws

-- r are the roots that stay; bs the cells at the start; the rest is the state
pub record DropInv (r : ℕ → ℕ) (bs : List Cell) (f : ℕ) (cs : List Cell) (x b n : ℕ) (ws : List Wait) : Type 0 where
  pub chained : Waits cs b ws
  pub held : Held f cs (λ c. same x c + items ws c + r c) (waits ws)
  pub kept : Kept bs cs
  pub number : n + length ws + lives cs ≡ lives bs
  pub size : length cs ≡ length bs

pub Waits_frame : (cs ds : List Cell) (b : ℕ) (ws : List Wait)
    → ((w : ℕ) → 0 < waits ws w → (next_of ds w ≡ next_of cs w) × (elem_of ds w ≡ elem_of cs w)) → Waits cs b ws → Waits ds b ws
unfolding Waits tally
Waits_frame cs ds b [] s h = h
Waits_frame cs ds b (w ∷ ws) s h =
    let e = s w.cell (omega (arith, same_eq w.cell)) in
    (h.0, h.1, e.1 ∙ h.2, rw e.0 (Waits_frame cs ds (next_of cs w.cell) ws (λ v k. s v (omega arith)) h.3))

pub put-total : (cs : List Cell) (c : ℕ) (y : Cell) → InPool cs c → total (put cs c y) + count_of cs c ≡ total cs + y.count
unfolding total
put-total cs c y inside = put-tally (λ x. x.count) cs c y inside.0 inside.1

-- a live cell does not wait
pub live_waits : (f : ℕ) (cs : List Cell) (r a : ℕ → ℕ) (c : ℕ) → Held f cs r a → Live cs c → a c ≡ 0
live_waits f cs r a c h l = go (ℕ_discrete (a c) 0)
  where
    go : Dec (a c ≡ 0) → a c ≡ 0
    go (yes e) = e
    go (no n) = absurd (omega (arith, (aside_cell f cs r a c h (omega arith)).1))

-- edits of cell x leave the fields of the others
fields : (cs ds : List Cell) (w : ℕ) → at ds w ≡ at cs w → (next_of ds w ≡ next_of cs w) × (elem_of ds w ≡ elem_of cs w)
fields cs ds w e = (ap (λ c. c.next) e, ap (λ c. c.elem) e)

elsewhere : (cs : List Cell) (x w : ℕ) (y z : Cell) → w ≢ x → (next_of (put (put cs x y) x z) w ≡ next_of cs w) × (elem_of (put (put cs x y) x z) w ≡ elem_of cs w)
elsewhere cs x w y z n = fields cs (put (put cs x y) x z) w (put_other (put cs x y) x w z n ∙ put_other cs x w y n)

-- the four cases of a step

module _ (r : ℕ → ℕ) (bs : List Cell) where
  -- x is shared: one off its count
  pub case_shared : (f : ℕ) (cs : List Cell) (x b n k : ℕ) (ws : List Wait) → DropInv r bs f cs x b n ws → count_of cs x ≡ suc (suc k)
      → DropInv r bs f (set_count cs x (suc k)) 0 b n ws × (total (set_count cs x (suc k)) < total cs)
  case_shared f cs x b n k ws v e =
      let inside = live_cell cs x (omega arith) in
      let y : Cell = counted (at cs x) (suc k) in (
        record {
          chained = Waits_frame cs (put cs x y) b ws
              (λ w _. put-cases cs x y inside (λ d c. (c.next ≡ next_of cs d) × (c.elem ≡ elem_of cs d)) (refl, refl) (λ d. (refl, refl)) w) v.chained;
          held = lower f cs (λ c. same x c + items ws c + r c) (waits ws) (λ c. same 0 c + items ws c + r c) x k v.held e
              (λ d m. omega (arith, same_ne 0 d (λ q. m (sym q))));
          kept = Kept_trans bs cs (put cs x y) v.kept (kept_count cs x y inside refl (λ _. omega arith));
          number = omega (arith, v.number, put-lives cs x y inside, if_live_pos (count_of cs x) 1 (omega arith), if_live_pos (suc k) 1 (omega arith));
          size = put-length cs x y ∙ v.size;
        },
        omega (arith, put-total cs x y inside),
      )

  -- a waiting cell is not x
  busy : (f : ℕ) (cs : List Cell) (x b n : ℕ) (ws : List Wait) → DropInv r bs f cs x b n ws → Live cs x → (w : ℕ) → 0 < waits ws w → w ≢ x
  busy f cs x b n ws v m w l q =
      let l' : 0 < waits ws x = rw q at l in
      omega (arith, live_waits f cs (λ c. same x c + items ws c + r c) (waits ws) x v.held m)

  -- x is an atom's cell with no other arrow: freed
  pub case_atom : (f : ℕ) (cs : List Cell) (x b n : ℕ) (ws : List Wait) → DropInv r bs f cs x b n ws → count_of cs x ≡ 1 → kind_of cs x ≡ 0
      → DropInv r bs x (set_next (set_count cs x 0) x f) (next_of cs x) b (suc n) ws × (total (set_next (set_count cs x 0) x f) < total cs)
  case_atom f cs x b n ws v e t =
      let inside = live_cell cs x (omega arith) in
      let y : Cell = counted (at cs x) 0 in
      let cs₁ : List Cell = put cs x y in
      let r₀ : ℕ → ℕ = λ c. same x c + items ws c + r c in
      let r' : ℕ → ℕ = λ c. same (next_of cs x) c + items ws c + r c in
      let a' : ℕ → ℕ = λ c. waits ws c + same x c in
      let h₁ : Held f cs₁ r' a' = unlock f cs r₀ (waits ws) r' a' x v.held e (λ d m. omega (arith, gives-atom d (at cs x) t)) (λ d. refl) in
      let (inside₁, z₁) = aside_cell f cs₁ r' a' x h₁ (omega (arith, same_eq x)) in
      let y₁ : Cell = followed (at cs₁ x) f in
      let cs₂ : List Cell = put cs₁ x y₁ in (
        record {
          chained = Waits_frame cs cs₂ b ws (λ w l. elsewhere cs x w y y₁ (busy f cs x b n ws v (omega arith) w l)) v.chained;
          held = shelve f cs₁ r' a' (waits ws) x h₁ (λ d. refl);
          kept = Kept_trans bs cs cs₂ v.kept (Kept_trans cs cs₁ cs₂ (kept_free cs x y inside refl) (kept_free cs₁ x y₁ inside₁ z₁));
          number = omega (arith, v.number, put-lives cs x y inside, put-lives cs₁ x y₁ inside₁, if_live_pos (count_of cs x) 1 (omega arith), if_live-zero 0 1 refl);
          size = put-length cs₁ x y₁ ∙ put-length cs x y ∙ v.size;
        },
        omega (arith, put-total cs x y inside, put-total cs₁ x y₁ inside₁),
      )

  -- x is a list's cell with no other arrow: it waits
  pub case_list : (f : ℕ) (cs : List Cell) (x b n : ℕ) (ws : List Wait) → DropInv r bs f cs x b n ws → count_of cs x ≡ 1 → kind_of cs x ≡ 1
      → DropInv r bs f (set_next (set_count cs x 0) x b) (next_of cs x) x n (record { cell = x; item = elem_of cs x } ∷ ws) × (total (set_next (set_count cs x 0) x b) < total cs)
  unfolding Waits tally
  case_list f cs x b n ws v e t =
      let inside = live_cell cs x (omega arith) in
      let y : Cell = counted (at cs x) 0 in
      let cs₁ : List Cell = put cs x y in
      let r₀ : ℕ → ℕ = λ c. same x c + items ws c + r c in
      let r' : ℕ → ℕ = λ c. same (next_of cs x) c + (same (elem_of cs x) c + items ws c) + r c in
      let a' : ℕ → ℕ = λ c. same x c + waits ws c in
      let h₁ : Held f cs₁ r' a' = unlock f cs r₀ (waits ws) r' a' x v.held e (λ d m. omega (arith, gives_list d (at cs x) t)) (λ d. omega arith) in
      let (inside₁, z₁) = aside_cell f cs₁ r' a' x h₁ (omega (arith, same_eq x)) in
      let y₁ : Cell = followed (at cs₁ x) b in
      let cs₂ : List Cell = put cs₁ x y₁ in
      let here = put_same cs₁ x y₁ inside₁.0 inside₁.1 in
      let was = put_same cs x y inside.0 inside.1 in (
        record {
          chained = (
            refl,
            omega arith,
            ap (λ c. c.elem) here ∙ ap (λ c. c.elem) was,
            subst (λ d. Waits cs₂ d ws) (sym (ap (λ c. c.next) here))
                (Waits_frame cs cs₂ b ws (λ w l. elsewhere cs x w y y₁ (busy f cs x b n ws v (omega arith) w l)) v.chained),
          );
          held = refit f cs₁ r' a' x y₁ h₁ (omega (arith, same_eq x)) z₁;
          kept = Kept_trans bs cs cs₂ v.kept (Kept_trans cs cs₁ cs₂ (kept_free cs x y inside refl) (kept_free cs₁ x y₁ inside₁ z₁));
          number = omega (arith, v.number, put-lives cs x y inside, put-lives cs₁ x y₁ inside₁, if_live_pos (count_of cs x) 1 (omega arith), if_live-zero 0 1 refl);
          size = put-length cs₁ x y₁ ∙ put-length cs x y ∙ v.size;
        },
        omega (arith, put-total cs x y inside, put-total cs₁ x y₁ inside₁),
      )

  -- an end: the head of the waiting chain is freed, and its element is next
  pub case_pop : (f : ℕ) (cs : List Cell) (b n : ℕ) (w : Wait) (ws : List Wait) → DropInv r bs f cs 0 b n (w ∷ ws)
      → DropInv r bs b (set_next cs b f) (elem_of cs b) (next_of cs b) (suc n) ws × (total (set_next cs b f) ≡ total cs)
  unfolding Waits tally
  case_pop f cs b n w ws v =
      let (at_b, pos, item, rest) = v.chained in
      let r₀ : ℕ → ℕ = λ c. same 0 c + (same w.item c + items ws c) + r c in
      let a : ℕ → ℕ = λ c. same w.cell c + waits ws c in
      let r' : ℕ → ℕ = λ c. same (elem_of cs b) c + items ws c + r c in
      let item' : elem_of cs b ≡ w.item = rw at_b item in
      let h₁ : Held f cs r' a = reroot f cs r₀ a r' a v.held (λ d m. omega (arith, same_ne 0 d (λ q. m (sym q)), ap (λ k. same k d) item')) (λ d. refl) in
      let one : (d : ℕ) → same b d ≡ same w.cell d = λ d. ap (λ k. same k d) at_b in
      let (inside, z) = aside_cell f cs r' a b h₁ (omega (arith, same_eq b, one b)) in
      let y : Cell = followed (at cs b) f in (
        record {
          chained = Waits_frame cs (put cs b y) (next_of cs b) ws (λ u l. fields cs (put cs b y) u (put_other cs b u y (other inside u l))) (rw at_b rest);
          held = shelve f cs r' a (waits ws) b h₁ (λ d. omega (arith, one d));
          kept = Kept_trans bs cs (put cs b y) v.kept (kept_free cs b y inside z);
          number = omega (arith, v.number, put-lives cs b y inside);
          size = put-length cs b y ∙ v.size;
        },
        omega (arith, put-total cs b y inside),
      )
    where
      other : InPool cs b → (u : ℕ) → 0 < waits ws u → u ≢ b
      other inside u l q =
          let l' : 0 < waits ws b = rw q at l in
          omega (arith, v.held.chain.2 b, mark-cell cs b inside.0 inside.1, same_le (count_of cs b) 0, same_of w.cell b (sym v.chained.0))
