-- The numbers of the fields.
use Rattle.std.specs.Prelude.{refl, ◌≢◌, ◌<◌}
use Rattle.std.proofs.Common.{arith}
use Rattle.table.specs.declared.Field.{Field}
use Rattle.table.specs.declared.Field.TheVariants.{Kind, Elem, Count, Next}
use Rattle.table.specs.Fields.{field_no}

pub below_four : (f : Field) → field_no f < 4
below_four Kind = omega arith
below_four Elem = omega arith
below_four Count = omega arith
below_four Next = omega arith

pub not_elem : (f : Field) → f ≢ Elem → field_no f ≢ 1
not_elem Kind n = omega arith
not_elem Elem n = absurd (n refl)
not_elem Count n = omega arith
not_elem Next n = omega arith
