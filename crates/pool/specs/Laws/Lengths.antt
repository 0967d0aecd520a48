-- No operation changes how many holders and cells a pool has: every store keeps the length of its list.
use Rattle.std.specs.Prelude.{◌≡◌, List, length, set}
use Rattle.std.proofs.Math.Path.{refl}
use Rattle.std.proofs.Common.{◌∙◌}
use Prim.Native.Nat.{ℕ, zero, suc, ◌+◌, ◌-◌}
use Rattle.std.proofs.Math.ListN.{length-set}
use Rattle.pool.specs.Pool.{Cell, Pool, at, kind_of, count_of, next_of, counted, followed, set_count, set_next, holder}
use Rattle.pool.specs.Erase.{Dropping, visit, step, dropping, total, dropped, stepped}
use Rattle.pool.specs.Operations.{share, item, pfa, pfl, decap, adv, borrow, erase, flip, inv, twin, with_twin, copy, cinv, last_of, conc_at}
use Rattle.pool.specs.Laws.Edit.{put-length}
use Rattle.pool.specs.Laws.ShareLaws.{share-length}

pub record Alike (p q : Pool) : Type 0 where
  pub holders : length q.holders ≡ length p.holders
  pub cells : length q.cells ≡ length p.cells

pub alike_refl : (p : Pool) → Alike p p
alike_refl p = record { holders = refl; cells = refl }

pub alike_trans : {p q r : Pool} → Alike p q → Alike q r → Alike p r
alike_trans a b = record { holders = b.holders ∙ a.holders; cells = b.cells ∙ a.cells }

twice : (hs : List ℕ) (a b x y : ℕ) → length (set (set hs a x) b y) ≡ length hs
twice hs a b x y = length-set (set hs a x) b y ∙ length-set hs a x

free-length : (cs : List Cell) (x y : ℕ) → length (set_next (set_count cs x 0) x y) ≡ length cs
free-length cs x y = put-length (set_count cs x 0) x (followed (at (set_count cs x 0) x) y) ∙ put-length cs x (counted (at cs x) 0)

visit-length : (f : ℕ) (cs : List Cell) (x b n k t : ℕ) → length (visit f cs x b n k t).cells ≡ length cs
unfolding visit
visit-length f cs x b n (suc k) t = put-length cs x (counted (at cs x) (suc k))
visit-length f cs x b n zero zero = free-length cs x f
visit-length f cs x b n zero (suc t) = free-length cs x b

step-length : (f : ℕ) (cs : List Cell) (x b n : ℕ) → length (step f cs x b n).cells ≡ length cs
unfolding step
step-length f cs zero zero n = refl
step-length f cs zero (suc j) n = put-length cs (suc j) (followed (at cs (suc j)) f)
step-length f cs (suc i) b n = visit-length f cs (suc i) b n (count_of cs (suc i) - 1) (kind_of cs (suc i))

dropping-length : (k : ℕ) (w : Dropping) → length (dropping k w).cells ≡ length w.cells
unfolding dropping
dropping-length zero w = refl
dropping-length (suc k) w = dropping-length k (stepped w) ∙ step-length w.free w.cells w.here w.waiting w.freed

dropped-length : (f : ℕ) (cs : List Cell) (x : ℕ) → length (dropped f cs x).cells ≡ length cs
unfolding dropped
dropped-length f cs x = dropping-length (total cs + total cs) (record { free = f; cells = cs; here = x; waiting = 0; freed = 0 })

flip-length : (k : ℕ) (cs : List Cell) (x y : ℕ) → length (flip k cs x y).0 ≡ length cs
unfolding flip
flip-length zero cs x y = refl
flip-length (suc k) cs zero y = refl
flip-length (suc k) cs (suc i) y = flip-length k (set_next cs (suc i) y) (next_of cs (suc i)) (suc i) ∙ put-length cs (suc i) (followed (at cs (suc i)) y)

copy-length : (k f : ℕ) (cs : List Cell) (x y : ℕ) → length (copy k f cs x y).cells ≡ length cs
unfolding copy
copy-length zero f cs x y = refl
copy-length (suc k) f cs zero y = refl
copy-length (suc k) f cs (suc i) y =
    let e = item cs (suc i) in
    copy-length k (next_of (share cs e) f) (with_twin f cs (suc i) y) (next_of cs (suc i)) f ∙ put-length (share cs e) f (twin cs (suc i) y) ∙ share-length cs e

module _ (p : Pool) (a b : ℕ) where
  pub pfa_alike : (v : ℕ) → Alike p (pfa p a v)
  unfolding pfa
  pfa_alike v = record {
    holders = length-set p.holders a p.free;
    cells = put-length p.cells p.free (record { kind = 0; elem = v; count = 1; next = holder p a });
  }

  pub pfl_alike : Alike p (pfl p a b)
  unfolding pfl
  pfl_alike = record {
    holders = twice p.holders a b p.free 0;
    cells = put-length p.cells p.free (record { kind = 1; elem = holder p b; count = 1; next = holder p a });
  }

  pub decap_alike : Alike p (decap p a b)
  unfolding decap
  decap_alike = record {
    holders = twice p.holders a b (next_of p.cells (holder p a)) (item p.cells (holder p a));
    cells = free-length p.cells (holder p a) p.free;
  }

  pub adv_alike : Alike p (adv p a b)
  unfolding adv
  adv_alike =
      let x = holder p a in
      let s = next_of p.cells x in
      let e = item p.cells x in
      record {
        holders = twice p.holders a b s e;
        cells = dropped-length p.free (share (share p.cells e) s) x ∙ share-length (share p.cells e) s ∙ share-length p.cells e;
      }

  pub borrow_alike : Alike p (borrow p a b)
  unfolding borrow
  borrow_alike = record { holders = length-set p.holders b (holder p a); cells = share-length p.cells (holder p a) }

  pub erase_alike : Alike p (erase p a).0
  unfolding erase
  erase_alike = record { holders = length-set p.holders a 0; cells = dropped-length p.free p.cells (holder p a) }

  pub inv_alike : Alike p (inv p a)
  unfolding inv
  inv_alike = record {
    holders = length-set p.holders a (flip (length p.cells) p.cells (holder p a) 0).1;
    cells = flip-length (length p.cells) p.cells (holder p a) 0;
  }

  pub cinv_alike : Alike p (cinv p a b)
  unfolding cinv
  cinv_alike =
      let z = copy (length p.cells) p.free p.cells (holder p a) 0 in
      record { holders = length-set p.holders b z.head; cells = copy-length (length p.cells) p.free p.cells (holder p a) 0 }

  pub conc_alike : (x y : ℕ) → Alike p (conc_at p a b x y)
  unfolding conc_at
  conc_alike x zero = alike_refl p
  conc_alike zero (suc j) = record { holders = twice p.holders a b (suc j) 0; cells = refl }
  conc_alike (suc i) (suc j) =
      let z = last_of (length p.cells) p.cells (suc i) in
      record { holders = twice p.holders a b (suc i) 0; cells = put-length p.cells z (followed (at p.cells z) (suc j)) }
