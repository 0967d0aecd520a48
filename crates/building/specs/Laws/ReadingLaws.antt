-- Each mark keeps the aim of a pool that is being read into; at the end it is reached.
use Rattle.std.specs.Prelude.{◌≡◌, refl, List, [], ◌∷◌, ℕ, suc, ◌≤◌, ◌<◌, length, set}
use Rattle.std.proofs.Common.{sym, ap, ◌∙◌, arith}
use Rattle.lists.specs.Lst.{Lst, nil, atom, list, extent}
use Rattle.pool.specs.Laws.Chains.{Chain_once, sound_chain_length}
use Rattle.pool.specs.Laws.Edit.{put-length, mark-past}
use Rattle.pool.specs.Operations.{load, read}
use Rattle.pool.specs.Pool.{at, Cell, Pool, put, kind_of, count_of, next_of, followed, Chain, frees, Sound}
use Rattle.pool.specs.Setters.{cell}
use Rattle.pool.specs.Laws.Room.{frees-lives}
use Rattle.pool.specs.Tally.{tally, occ}
use Rattle.pool.specs.Laws.TallyLaws.{same_eq, same_of}
use Rattle.building.specs.Build.{Open, Built, finished, wanted, Link, in_holder, in_next, in_elem, hung, held_by}
use Rattle.building.specs.Laws.BuildLaws.{head_of, fewer, off-put, head-link, atom-hung, open_hung, shut_hung, shut_last}
use Rattle.building.specs.Reading.{hang, hang_new, Supply, Off, LinkOff, OpenOff, Reading}

hung-length : (k : Link) (c : ℕ) (cs : List Cell) → length (hung k c cs) ≡ length cs
hung-length in_holder c cs = refl
hung-length (in_next x) c cs = put-length cs x (followed (at cs x) c)
hung-length (in_elem x) c cs = put-length cs x (cell (kind_of cs x) c (count_of cs x) (next_of cs x))

hung_supply : (k : Link) (c : ℕ) {cs : List Cell} {f : ℕ} {fs : List ℕ} {n : ℕ} → LinkOff cs fs k → Supply cs f fs n → Supply (hung k c cs) f fs n
hung_supply in_holder c o s = s
hung_supply (in_next x) c {cs} o s = off-put x (followed (at cs x) c) s o.apart
hung_supply (in_elem x) c {cs} o s = off-put x (cell (kind_of cs x) c (count_of cs x) (next_of cs x)) s o.apart

-- off a chain is off a part of it, whatever the cells
off_less : {cs ds : List Cell} {fs gs : List ℕ} {c : ℕ} → length cs ≡ length ds → ((v : ℕ) → occ gs v ≤ occ fs v) → Off cs fs c → Off ds gs c
off_less {cs} {ds} {fs} {gs} {c} e m o = record { low = o.low; high = omega (arith, o.high); apart = omega (arith, m c, o.apart) }

opens_less : (os : List Open) (cs ds : List Cell) (fs gs : List ℕ) → length cs ≡ length ds → ((v : ℕ) → occ gs v ≤ occ fs v) → OpenOff cs fs os
    → OpenOff ds gs os
unfolding OpenOff
opens_less [] cs ds fs gs e m o = tt
opens_less (x ∷ os) cs ds fs gs e m o = (off_less e m o.0, opens_less os cs ds fs gs e m o.1)

wanted-extent : (l : Lst) (os : List Open) → extent l ≤ wanted l os
unfolding wanted
wanted-extent l [] = omega arith
wanted-extent l (o ∷ os) = omega arith

wanted-atom : (v : ℕ) (l : Lst) (os : List Open) → wanted (atom v l) os ≡ suc (wanted l os)
unfolding wanted extent
wanted-atom v l [] = refl
wanted-atom v l (o ∷ os) = omega arith

wanted_list : (e l : Lst) (c : ℕ) (os : List Open) → wanted (list e l) os ≡ suc (wanted e (record { cell = c; rest = l } ∷ os))
unfolding wanted extent
wanted_list e l c [] = omega arith
wanted_list e l c (o ∷ os) = omega arith

wanted-nil : (o : Open) (os : List Open) → wanted nil (o ∷ os) ≡ wanted o.rest os
unfolding wanted extent
wanted-nil o os = omega arith

-- what is known where an element begins, n cells being wanted behind it
record Begins (p : Pool) (k : Link) (n : ℕ) (os : List Open) (chain : List ℕ) (x : Cell) : Type 0 where
  rest : List ℕ
  supply : Supply (put (hung k p.free p.cells) p.free x) (next_of (hung k p.free p.cells) p.free) rest n
  range : (v : ℕ) → 0 < occ rest v → v ≤ length (put (hung k p.free p.cells) p.free x)
  own : Off (put (hung k p.free p.cells) p.free x) rest p.free
  opens : OpenOff (put (hung k p.free p.cells) p.free x) rest os

begins : (p : Pool) (k : Link) (n : ℕ) (os : List Open) (chain : List ℕ) (x : Cell)
    → Supply p.cells p.free chain (suc n) → ((v : ℕ) → 0 < occ chain v → v ≤ length p.cells) → LinkOff p.cells chain k → OpenOff p.cells chain os
    → Begins p k n os chain x
begins p k n os chain x s r hook opens =
    let cs = hung k p.free p.cells in
    let h = head_of cs p.free chain n (hung_supply k p.free hook s) in
    let long : length p.cells ≡ length (put cs p.free x) = sym (put-length cs p.free x ∙ hung-length k p.free p.cells) in
    let less : (v : ℕ) → occ h.rest v ≤ occ chain v = λ v. omega (arith, h.parts v) in
    record {
      rest = h.rest;
      supply = off-put p.free x h.supply h.off;
      range = λ v o. omega (arith, r v (omega (arith, less v)));
      own = record { low = omega (arith, h.live); high = omega (arith, r p.free (omega (arith, h.parts p.free, same_eq p.free))); apart = h.off };
      opens = opens_less os p.cells (put cs p.free x) chain h.rest long less opens;
    }

-- the first cell of a chain that is not empty is in the pool
free_in : (p : Pool) (k : Link) (n : ℕ) (chain : List ℕ) → Supply p.cells p.free chain (suc n) → ((v : ℕ) → 0 < occ chain v → v ≤ length p.cells)
    → p.free ≤ length (hung k p.free p.cells)
free_in p k n chain s r =
    let h = head_of p.cells p.free chain n s in
    omega (arith, r p.free (omega (arith, h.parts p.free, same_eq p.free)), hung-length k p.free p.cells)

-- the cell that a next element gets, and the one after it
pub record Fresh (p : Pool) (k : Link) : Type 0 where
  pub low : 0 < p.free
  pub high : p.free ≤ length p.cells
  pub next : next_of (hung k p.free p.cells) p.free ≤ length p.cells

fresh : (p : Pool) (k : Link) (n : ℕ) (chain : List ℕ) → Supply p.cells p.free chain (suc n) → ((v : ℕ) → 0 < occ chain v → v ≤ length p.cells)
    → LinkOff p.cells chain k → Fresh p k
unfolding Chain tally
fresh p k n chain s r o =
    let cs = hung k p.free p.cells in
    let h = head_of cs p.free chain n (hung_supply k p.free o s) in
    record {
      low = omega (arith, h.live);
      high = r p.free (omega (arith, h.parts p.free, same_eq p.free));
      next = go h.rest h.supply.chain (λ v m. r v (omega (arith, h.parts v)));
    }
  where
    go : (fs : List ℕ) → Chain (hung k p.free p.cells) (next_of (hung k p.free p.cells) p.free) fs
        → ((v : ℕ) → 0 < occ fs v → v ≤ length p.cells) → next_of (hung k p.free p.cells) p.free ≤ length p.cells
    go [] c m = omega (arith, c)
    go (g ∷ gs) c m =
        m (next_of (hung k p.free p.cells) p.free) (omega (arith, same_of g (next_of (hung k p.free p.cells) p.free) (sym c.0)))

pub fresh-atom : (p : Pool) (h : ℕ) (k : Link) (v : ℕ) (l : Lst) (os : List Open) (q : Pool) → Reading p h k (atom v l) os q → Fresh p k
fresh-atom p h k v l os q r =
    fresh p k (wanted l os) r.chain (fewer (suc (wanted l os)) r.supply (omega (arith, wanted-atom v l os))) r.range r.hook

pub fresh_list : (p : Pool) (h : ℕ) (k : Link) (e l : Lst) (os : List Open) (q : Pool) → Reading p h k (list e l) os q → Fresh p k
fresh_list p h k e l os q r =
    let n = wanted e (record { cell = p.free; rest = l } ∷ os) in
    fresh p k n r.chain (fewer (suc n) r.supply (omega (arith, wanted_list e l p.free os))) r.range r.hook

pub step-atom : (p : Pool) (h : ℕ) (k : Link) (v : ℕ) (l : Lst) (os : List Open) (q : Pool) → Reading p h k (atom v l) os q
    → Reading (hang_new 0 v k h p) h (in_next p.free) l os q
step-atom p h k v l os q r =
    let s : Supply p.cells p.free r.chain (suc (wanted l os)) = fewer (suc (wanted l os)) r.supply (omega (arith, wanted-atom v l os)) in
    let b = begins p k (wanted l os) os r.chain (cell 0 v 1 0) s r.range r.hook r.opens in
    let e = atom-hung v l os p.free (hung k p.free p.cells) r.chain
    (hung_supply k p.free r.hook (fewer (extent (atom v l)) r.supply (wanted-extent (atom v l) os)))
    (free_in p k (wanted l os) r.chain s r.range) in
    record {
      chain = b.rest;
      supply = b.supply;
      range = b.range;
      hook = b.own;
      opens = b.opens;
      aim = ap (λ (z : Built). record { free = z.free; holders = held_by k h p.free p.holders; cells = z.cells }) (sym e) ∙ r.aim;
    }

pub step_open : (p : Pool) (h : ℕ) (k : Link) (e l : Lst) (os : List Open) (q : Pool) → Reading p h k (list e l) os q
    → Reading (hang_new 1 0 k h p) h (in_elem p.free) e (record { cell = p.free; rest = l } ∷ os) q
unfolding OpenOff
step_open p h k e l os q r =
    let o : Open = record { cell = p.free; rest = l } in
    let n = wanted e (o ∷ os) in
    let s : Supply p.cells p.free r.chain (suc n) = fewer (suc n) r.supply (omega (arith, wanted_list e l p.free os)) in
    let b = begins p k n os r.chain (cell 1 0 1 0) s r.range r.hook r.opens in
    let q = open_hung e l os p.free (hung k p.free p.cells) r.chain
    (hung_supply k p.free r.hook (fewer (extent (list e l)) r.supply (wanted-extent (list e l) os))) (free_in p k n r.chain s r.range) in
    record {
      chain = b.rest;
      supply = b.supply;
      range = b.range;
      hook = b.own;
      opens = (b.own, b.opens);
      aim = ap (λ (z : Built). record { free = z.free; holders = held_by k h p.free p.holders; cells = z.cells }) (sym q) ∙ r.aim;
    }

pub step_shut : (p : Pool) (h : ℕ) (k : Link) (o : Open) (os : List Open) (q : Pool) → Reading p h k nil (o ∷ os) q
    → Reading (hang k h 0 p) h (in_next o.cell) o.rest os q
unfolding OpenOff
step_shut p h k o os q r =
    let long : length p.cells ≡ length (hung k 0 p.cells) = sym (hung-length k 0 p.cells) in
    record {
      chain = r.chain;
      supply = hung_supply k 0 r.hook (fewer (wanted o.rest os) r.supply (omega (arith, wanted-nil o os)));
      range = λ v m. omega (arith, r.range v m);
      hook = off_less long (λ v. omega arith) r.opens.0;
      opens = opens_less os p.cells (hung k 0 p.cells) r.chain r.chain long (λ v. omega arith) r.opens.1;
      aim = ap (λ (z : Built). record { free = z.free; holders = held_by k h 0 p.holders; cells = z.cells })
          (sym (shut_hung p.free (hung k 0 p.cells) o os)) ∙ r.aim;
    }

pub step_end : (p : Pool) (h : ℕ) (k : Link) (q : Pool) → Reading p h k nil [] q → hang k h 0 p ≡ q
step_end p h k q r =
    ap (λ (z : Built). record { free = z.free; holders = held_by k h 0 p.holders; cells = z.cells }) (sym (shut_last p.free (hung k 0 p.cells)))
    ∙ r.aim

-- at the start: a sound pool with room
pub start : (p : Pool) (h : ℕ) (l : Lst) → Sound p → extent l ≤ frees p.cells → Reading p h in_holder l [] (read p h l)
unfolding wanted read finished OpenOff
start p h l s room = record {
  chain = s.chain.0;
  supply = record {
    chain = s.chain.1;
    once = λ v. Chain_once p.cells p.free s.chain.0 s.chain.1 v;
    enough = omega (arith, sound_chain_length p s, frees-lives p.cells);
  };
  range = λ v o. (mark-past p.cells v (omega (arith, s.chain.2 v))).1;
  hook = tt;
  opens = tt;
  aim =
      let z = load l p.free p.cells in
      ap (λ (c : ℕ). record { free = z.free; holders = set p.holders h c; cells = z.cells }) (sym (head-link l p.free p.cells));
}
