-- Every engine that keeps the promises sets up as ours does: there is one new pool, and it fixes all words of a table.
use Rattle.std.specs.Prelude.{◌≡◌, refl, not, List, ℕ, suc, ◌<◌, length, get_or}
use Rattle.std.proofs.Common.{sym, ◌∙◌, subst, arith, ext_get_or}
use Rattle.std.proofs.Math.Decide.{ℕ_discrete, dec_lt}
use Rattle.std.proofs.lemmas.Bool.{not-false}
use Rattle.answers.specs.Answers.{DONE}
use Rattle.pool.specs.Pool.{blank, Pool, next_of}
use Rattle.table.specs.View.{shape}
use Rattle.table.specs.Laws.ViewLaws.{pool-path, cell-path}
use Rattle.table.specs.Laws.FixedLaws.{view_fixes}
use Rattle.table.specs.declared.Shape.{Shape}
use Rattle.table.specs.Sizes.{sizes_fit}
use Rattle.table.specs.Laws.SizesLaws.{Fits, fits_told}
use Rattle.table.proofs.SizesLaws.{fits_table}
use Rattle.calls.specs.SetUp.{set_up_in}
use Rattle.promises.specs.Engine.{Engine}
use Rattle.promises.specs.Rows.{First}
use Rattle.promises.specs.Grounds.{set_up_rows}
use Rattle.promises.specs.Demand2.{NewPool, NewTable}
use Rattle.promises.specs.Keeps.{Keeps, ours_keeps}
use Rattle.promises.specs.Laws.Tells.{first-none}
use Rattle.promises.specs.Laws.TestsTell.{tells_size}
use Rattle.promises.specs.Laws.Tables.{fails, shape-shown}
use Rattle.promises.specs.OneOutcome.{one_answer}
use Rattle.table.specs.declared.Form.{Form}

-- there is one new pool
module _ (n h : ℕ) (p q : Pool) (a : NewPool n h p) (b : NewPool n h q) where
  next-same : (i : ℕ) → i < n → Dec (suc i < n) → next_of p.cells (suc i) ≡ next_of q.cells (suc i)
  next-same i l (yes m) = a.next (suc i) (omega arith) m ∙ sym (b.next (suc i) (omega arith) m)
  next-same i l (no m) =
      let e : n ≡ suc i = omega arith in
      subst (λ (k : ℕ). next_of p.cells k ≡ next_of q.cells k) e (a.last ∙ sym b.last)

  cell_same : (i : ℕ) → i < n → get_or p.cells i blank ≡ get_or q.cells i blank
  cell_same i l =
      let (k, e, c) = a.empty (suc i) (omega arith) l in
      let (k', e', c') = b.empty (suc i) (omega arith) l in
      cell-path (k ∙ sym k') (e ∙ sym e') (c ∙ sym c') (next-same i l (dec_lt (suc i) n))

  one_new_pool : p ≡ q
  one_new_pool =
      pool-path (a.free ∙ sym b.free)
      (ext_get_or 0 p.holders q.holders (a.holders ∙ sym b.holders) (λ k l. let m : k < h = omega (arith, a.holders) in a.null k m ∙ sym (b.null k m)))
      (ext_get_or blank p.cells q.cells (a.cells ∙ sym b.cells) (λ i l. cell_same i (omega (arith, a.cells))))

new_same : (form : Form) (n h : ℕ) (us vs : List ℕ) → NewTable form n h us → NewTable form n h vs → Fits (shape form h n) (length us) → length vs ≡ length us → us ≡ vs
new_same form n h us vs a b f l =
    let s : Shape = shape form h n in
    let t = fits_table s us f a.cells a.holders in
    let u = fits_table s vs (subst (Fits s) (sym l) f) b.cells b.holders in
    view_fixes s us vs t u (sym (shape-shown form s us refl t).1 ∙ one_new_pool n h _ _ a.pool b.pool ∙ (shape-shown form s vs refl u).1)

module _ (form : Form) (E : Engine) (K : Keeps form E) (ts : List ℕ) (n h : ℕ) where
  pub same-set_up_answer : (E.set_up ts n h).answer ≡ (set_up_in form ts n h).answer
  same-set_up_answer = one_answer (set_up_rows form ts n h) _ _ (K.first.set_up_refusals ts n h) ((ours_keeps form).first.set_up_refusals ts n h)

  pub same-set_up_table : (E.set_up ts n h).table ≡ (set_up_in form ts n h).table
  same-set_up_table = go (ℕ_discrete (set_up_in form ts n h).answer DONE)
    where
      go : Dec ((set_up_in form ts n h).answer ≡ DONE) → (E.set_up ts n h).table ≡ (set_up_in form ts n h).table
      go (yes e) =
          let (m, _) = first-none (set_up_rows form ts n h) (λ k. k ≡ DONE) DONE ((λ z. omega arith), tt) (subst (First (set_up_rows form ts n h) (λ k. k ≡ DONE)) e ((ours_keeps form).first.set_up_refusals ts n h)) in
          let fit = fits_told (shape form h n) (length ts) (not-false _ (fails (not (sizes_fit (shape form h n) (length ts))) (tells_size form h n (length ts)) m.0)) in
          let (l, a) = K.second.set_up_gives ts n h (same-set_up_answer ∙ e) in
          let (l', b) = (ours_keeps form).second.set_up_gives ts n h e in
          new_same form n h _ _ a b (subst (Fits (shape form h n)) (sym l) fit) (l' ∙ sym l)
      go (no d) = K.first.refused-set_up ts n h (λ z. d (sym same-set_up_answer ∙ z)) ∙ sym ((ours_keeps form).first.refused-set_up ts n h d)
