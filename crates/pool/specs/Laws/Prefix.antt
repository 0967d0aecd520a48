-- What PFA and PFL do to a sound pool.
use Rattle.std.specs.Prelude.{◌≡◌, refl, ◌≢◌, ℕ, ◌<◌, length, get_or, set}
use Rattle.std.proofs.Common.{sym, subst, arith, get_or-set_same, get_or-set_other}
use Rattle.lists.specs.Lst.{Lst, atom, list}
use Rattle.pool.specs.Tally.{occ}
use Rattle.pool.specs.Laws.PoolLaws.{heads_atom, heads_list}
use Rattle.pool.specs.Laws.TallyLaws.{same_ne}
use Rattle.pool.specs.Pool.{Cell, Pool, put, holder, ListAt, Sound}
use Rattle.pool.specs.Operations.{pfa, pfl}
use Rattle.pool.specs.Laws.Arrows.{gives-atom, gives_list}
use Rattle.pool.specs.Laws.Frame.{ListAt_grown}
use Rattle.pool.specs.Laws.SoundLaws.{sound_held, held_sound}
use Rattle.pool.specs.Laws.Holders.{but, occ-take, occ_give, both, occ-both, both_a, both-b, both-other}
use Rattle.pool.specs.Laws.Steps.{New, new}
use Rattle.pool.specs.Laws.Room.{room}

-- the lists of the holders that P picks stay
abbrev pub Stay : Pool → Pool → (ℕ → Type 0) → Type 0
Stay p q P = (i : ℕ) (l : Lst) → P i → ListAt p.cells (holder p i) l → ListAt q.cells (holder q i) l

pub record Pfa (p : Pool) (a v : ℕ) (q : Pool) : Type 0 where
  pub sound : Sound q
  pub gets : (l : Lst) → ListAt p.cells (holder p a) l → ListAt q.cells (holder q a) (atom v l)
  pub others : Stay p q (λ i. i ≢ a)

pub pfa-does : (p : Pool) (a v : ℕ) → Sound p → a < length p.holders → p.free ≢ 0 → Pfa p a v (pfa p a v)
unfolding pfa
pfa-does p a v s la room =
    let f = p.free in
    let cs = p.cells in
    let hs = p.holders in
    let y : Cell = record { kind = 0; elem = v; count = 1; next = holder p a } in
    let w : New f cs y (occ (set hs a f)) = new f cs (occ hs) (occ (set hs a f)) (but hs a) y (sound_held p s) room refl (omega arith)
    (λ d n. omega (arith, occ-take hs a d la n, gives-atom d y refl)) (λ d n. occ_give hs a f d la n) in
    let own : get_or (set hs a f) a 0 ≡ f = get_or-set_same hs a f 0 la in
    record {
      sound = held_sound (pfa p a v) w.held;
      gets = λ l h. subst (λ u. ListAt (put cs f y) u (atom v l)) (sym own)
          (heads_atom (put cs f y) f y v l w.here (omega arith) refl refl (ListAt_grown cs (put cs f y) w.grown l (holder p a) h));
      others = λ i l n h. subst (λ u. ListAt (put cs f y) u l) (sym (get_or-set_other hs a i f 0 n)) (ListAt_grown cs (put cs f y) w.grown l (holder p i) h);
    }

pub record Pfl (p : Pool) (a b : ℕ) (q : Pool) : Type 0 where
  pub sound : Sound q
  pub gets : (l e : Lst) → ListAt p.cells (holder p a) l → ListAt p.cells (holder p b) e → ListAt q.cells (holder q a) (list e l)
  pub null : holder q b ≡ 0
  pub others : Stay p q (λ i. (i ≢ a) × (i ≢ b))

pub pfl-does : (p : Pool) (a b : ℕ) → Sound p → a < length p.holders → b < length p.holders → a ≢ b → p.free ≢ 0 → Pfl p a b (pfl p a b)
unfolding pfl
pfl-does p a b s la lb ab room =
    let f = p.free in
    let cs = p.cells in
    let hs = p.holders in
    let y : Cell = record { kind = 1; elem = holder p b; count = 1; next = holder p a } in
    let w : New f cs y (occ (both hs a b f 0 la lb ab)) = new f cs (occ hs) (occ (both hs a b f 0 la lb ab)) (occ (both hs a b 0 0 la lb ab)) y
    (sound_held p s) room refl (omega arith)
    (λ d n. omega (arith, occ-both hs a b 0 0 la lb ab d, gives_list d y refl, same_ne 0 d (λ q. n (sym q))))
    (λ d n. omega (arith, occ-both hs a b 0 0 la lb ab d, occ-both hs a b f 0 la lb ab d, same_ne 0 d (λ q. n (sym q)))) in
    let stay : (l : Lst) (c : ℕ) → ListAt cs c l → ListAt (put cs f y) c l = ListAt_grown cs (put cs f y) w.grown in
    record {
      sound = held_sound (pfl p a b) w.held;
      gets = λ l e h k. subst (λ u. ListAt (put cs f y) u (list e l)) (sym (both_a hs a b f 0 la lb ab))
          (heads_list (put cs f y) f y e l w.here (omega arith) refl (stay e (holder p b) k) (stay l (holder p a) h));
      null = both-b hs a b f 0 la lb ab;
      others = λ i l n h. subst (λ u. ListAt (put cs f y) u l) (sym (both-other hs a b f 0 la lb ab i n.0 n.1)) (stay l (holder p i) h);
    }
