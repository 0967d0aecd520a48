-- `writing::atoms::put_atom` meets its contract.
use Rattle.std.proofs.Common.{◌+◌, ◌∙◌, ap, arith, length, length-take-le, take-take}
use Rattle.std.proofs.lemmas.Slice.{put_mid-paste}
use Rattle.text.specs.Limits.{digits_most}
use Rattle.octal.specs.Numeral.{numeral}
use Rattle.octal.specs.Laws.NumeralLaws.{one-digit}
use Rattle.writing.specs.Laws.PutLaws.{put_one, put_store}
use Rattle.writing.proofs.atoms.put_atom.Goals as goal

pub bounds-out-at : goal.bounds-out-at
bounds-out-at c = omega (arith, ap length (one-digit _ c.if-v-lt8.true))

pub returns-then-v-lt8 : goal.returns-then-v-lt8
returns-then-v-lt8 c =
    rw (one-digit _ c.if-v-lt8.true) (put_one _ _ _ (48 + c.args.v) (omega (arith, ap length (one-digit _ c.if-v-lt8.true))) (omega arith))

pub returns-then-out-at-lt-MOST : goal.returns-then-out-at-lt-MOST
returns-then-out-at-lt-MOST c =
    let w = c.work_out-store in
    let k = c.count-n in
    let few = length-take-le k.result w.result (omega arith) in
    put_store _ _ _ (numeral _) _ (length c.args.out.now) k.result _ (put_mid-paste _ _ _ _ _ k.result c.copy_from_slice.ensures.after (omega arith) (omega (arith, few)))
    (omega arith) (omega arith) (omega (arith, few)) k.ensures.0 (take-take k.result k.result w.result (omega arith) ∙ w.ensures.1) (omega arith)

pub returns-else-out-at-lt-MOST : goal.returns-else-out-at-lt-MOST
returns-else-out-at-lt-MOST c =
    let w = c.work_out-store in
    let k = c.count-n in
    let copied = c.copy_from_slice-else-out-at-lt-MOST.ensures.after in
    put_store _ _ w.result (numeral _) _ _ _ digits_most (put_mid-paste _ _ _ _ _ digits_most copied (omega arith) (omega arith))
    (omega arith) (omega arith) (omega arith) k.ensures.0 w.ensures.1 (omega arith)
