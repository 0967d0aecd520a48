-- What is stored in one field of a packed cell leaves the others, and a cell that fits is its fields. All by arithmetic with / and %.
use Rattle.std.specs.Prelude.{ℕ, zero, suc, ◌+◌, ◌*◌, ◌/◌, ◌%◌, ◌<◌, ◌≡◌, refl, eqb}
use Rattle.std.proofs.Common.{arith}
use Rattle.pool.specs.Pool.{Cell}
use Rattle.table.specs.Fields.{pick, field}
use Rattle.table.specs.Pack.{part, room, with_part, packed}

-- what is stored in one part leaves the others
pub part_with : (j k v w e : ℕ) → j < 4 → k < 4 → (k ≡ 1 → ⊥) → v < room k → part j (with_part k v w) e ≡ pick (eqb k j) v (part j w e)
unfolding part with_part
part_with zero zero v w e lj lk n lv = omega arith
part_with zero (suc zero) v w e lj lk n lv = absurd (n refl)
part_with zero (suc (suc zero)) v w e lj lk n lv = omega arith
part_with zero (suc (suc (suc zero))) v w e lj lk n lv = omega arith
part_with (suc zero) zero v w e lj lk n lv = refl
part_with (suc zero) (suc zero) v w e lj lk n lv = absurd (n refl)
part_with (suc zero) (suc (suc zero)) v w e lj lk n lv = refl
part_with (suc zero) (suc (suc (suc zero))) v w e lj lk n lv = refl
part_with (suc (suc zero)) zero v w e lj lk n lv = omega arith
part_with (suc (suc zero)) (suc zero) v w e lj lk n lv = absurd (n refl)
part_with (suc (suc zero)) (suc (suc zero)) v w e lj lk n lv = omega arith
part_with (suc (suc zero)) (suc (suc (suc zero))) v w e lj lk n lv = omega arith
part_with (suc (suc (suc zero))) zero v w e lj lk n lv = omega arith
part_with (suc (suc (suc zero))) (suc zero) v w e lj lk n lv = absurd (n refl)
part_with (suc (suc (suc zero))) (suc (suc zero)) v w e lj lk n lv = omega arith
part_with (suc (suc (suc zero))) (suc (suc (suc zero))) v w e lj lk n lv = omega arith
part_with (suc (suc (suc (suc j)))) k v w e lj lk n lv = absurd (omega arith)
part_with zero (suc (suc (suc (suc k)))) v w e lj lk n lv = absurd (omega arith)
part_with (suc zero) (suc (suc (suc (suc k)))) v w e lj lk n lv = absurd (omega arith)
part_with (suc (suc zero)) (suc (suc (suc (suc k)))) v w e lj lk n lv = absurd (omega arith)
part_with (suc (suc (suc zero))) (suc (suc (suc (suc k)))) v w e lj lk n lv = absurd (omega arith)

-- and so does the element
pub part_elem : (j v w e : ℕ) → j < 4 → part j w v ≡ pick (eqb 1 j) v (part j w e)
unfolding part
part_elem zero v w e lj = refl
part_elem (suc zero) v w e lj = refl
part_elem (suc (suc zero)) v w e lj = refl
part_elem (suc (suc (suc zero))) v w e lj = refl
part_elem (suc (suc (suc (suc j)))) v w e lj = absurd (omega arith)

-- the first word is its three parts
pub whole : (w : ℕ) → w ≡ w / 2147483648 * 2147483648 + w / 65536 % 32768 * 65536 + w % 65536
whole w = omega arith

-- the parts of a cell that fits
pub part-packed : (x : Cell) (k : ℕ) → k < 4 → x.count < 32768 → x.next < 65536 → part k (packed x) x.elem ≡ field k x
unfolding part
part-packed x zero l a b = omega arith
part-packed x (suc zero) l a b = refl
part-packed x (suc (suc zero)) l a b = omega arith
part-packed x (suc (suc (suc zero))) l a b = omega arith
part-packed x (suc (suc (suc (suc k)))) l a b = absurd (omega arith)

-- what a word has in its parts
pub count_below : (w e : ℕ) → part 2 w e < 32768
unfolding part
count_below w e = omega arith

pub next-below : (w e : ℕ) → part 3 w e < 65536
unfolding part
next-below w e = omega arith
