-- `totext::put::put_shut` meets its contract.
use Rattle.std.specs.Prelude.{[], ◌∷◌, length}
use Rattle.std.proofs.Common.{refl, ◌∙◌, arith, length-set}
use Rattle.writing.specs.Laws.PutLaws.{put_one, put_then, put_until}
use Rattle.totext.proofs.put.put_shut.Goals as goal

pub shape_of-out : goal.shape_of-out
shape_of-out c =
    let a = c.args in
    c.part.ensures.put.room ∙ length-set a.out.now a.w.to 41

pub returns : goal.returns
returns c =
    let a = c.args in
    let one = put_one a.out.now a.w.to (length a.out.now) 41 (omega (arith, c.requires.w_bound)) (omega arith) in
    let put = put_until (length-set a.out.now a.w.to 41) (rw c.shut.ensures at c.part.ensures.put) in
    let is = rw c.shut.ensures at c.part.ensures.is in
    (is, put_then a.out.now _ _ (41 ∷ []) _ a.w.to _ _ one refl put)
