-- Writing begins with "(", goes on with the characters of a turn, for which there is room, and ends with the text before the old bytes.
use Rattle.std.specs.Prelude.{ℕ, ◌+◌, ◌≤◌, ◌<◌, ◌≡◌, refl, ◌≢◌, List, ◌++◌, leb, length, take, drop, set, replicate}
use Rattle.std.proofs.Common.{sym, ap, subst, ◌∙◌, arith, take-append-drop, length-set, take-add, drop-set-lt, leb-true, leb-false}
use Rattle.std.proofs.Math.Seq.{take-length, take-append_seam}
use Rattle.answers.specs.Answers.{DONE}
use Rattle.calls.specs.Entry.{over}
use Rattle.pool.specs.Pool.{Cell, kind_of}
use Rattle.text.specs.Limits.{levels}
use Rattle.text.specs.Laws.OpenLists.{opens_body}
use Rattle.text.specs.Laws.TextLaws.{decide}
use Rattle.text.specs.Writing.{judged}
use Rattle.walks.specs.declared.walk.Walk.{Walk}
use Rattle.pool.specs.Operations.{list_at, Stands}
use Rattle.writing.specs.Measures.{text_at, Fitting}
use Rattle.writing.specs.Put.{Put, Roomy}
use Rattle.writing.specs.Laws.PutLaws.{put_one}
use Rattle.writing.specs.Putting.{Putting}
use Rattle.writing.specs.Steps.{started, Turn, shuts, passes, opens}
use Rattle.writing.specs.Walking.{rest}
use Rattle.writing.specs.Laws.WalkingLaws.{begins, turned, inside, goes_on_lem, too_deep_lem, ended}

-- a text has a first character
pub some_text : (cs : List Cell) (x end : ℕ) → Fitting cs x end → 1 ≤ end
some_text cs x end f = omega (arith, f.size, ap length (opens_body (list_at cs x)))

pub put-begins : (cs : List Cell) (x end : ℕ) (xs : List ℕ) (w : Walk) → Stands cs x → Fitting cs x end → end ≤ length xs → w ≡ started x
    → Putting cs (text_at cs x) (set xs 0 40) end (set xs 0 40) (replicate levels 0) w
put-begins cs x end xs w h f l e =
    let one : 1 ≤ end = some_text cs x end f in
    let first : take 1 (set xs 0 40) ≡ take 1 (text_at cs x) = (put_one xs 0 end 40 one l).text ∙ sym (ap (take 1) (opens_body (list_at cs x))) in
    record {
      walks = begins cs x end w h one e;
      front = subst (λ (v : Walk). take v.size (set xs 0 40) ≡ take v.size (text_at cs x)) (sym e) first;
      behind = refl;
      room = refl;
    }

module _ (cs : List Cell) (t old : List ℕ) (end : ℕ) (out after : List ℕ) (w : Walk) (g : Putting cs t old end out after w) (some : 1 ≤ w.depth) where
  -- the level of "(" is allowed, as the text is judged whole
  pub shallow : judged end 0 t ≡ DONE → w.at ≢ 0 → kind_of cs w.at ≢ 0 → w.depth < levels
  shallow f n k =
      decide (leb levels w.depth) (w.depth < levels)
      (λ q. absurd (omega (arith, f, too_deep_lem cs t end after w g.walks some n k (leb-true levels w.depth q))))
      (λ q. leb-false levels w.depth q)

  pub roomy : judged end 0 t ≡ DONE → end ≡ length t → Roomy cs after w end
  roomy f e = record {
    shuts = λ z. omega (arith, ends after _ _ (shuts z refl refl));
    passes = λ n k. omega (arith, ends after _ _ (passes n k refl refl));
    opens = λ n k. omega (arith, ends _ _ _ (opens n k refl refl));
  }
    where
      ends : (next : List ℕ) (r : Walk) (bs : List ℕ) → Turn cs after w next r bs → r.size ≤ length t
      ends next r bs u = inside cs t end after w g.walks some next r bs (turned cs t end after w g.walks some next r bs (shallow f) u)

  pub put_on : judged end 0 t ≡ DONE → end ≡ length t → (next : List ℕ) (r : Walk) (bs new : List ℕ) → Turn cs after w next r bs → Put out new w.size end bs
      → Putting cs t old end new next r × (r.size ≤ end) × (w.size < r.size)
  put_on f e next r bs new u p =
      let d = turned cs t end after w g.walks some next r bs (shallow f) u in
      let fits : r.size ≤ end = omega (arith, inside cs t end after w g.walks some next r bs d) in
      let taken : take (w.size + length bs) t ≡ take w.size t ++ bs
      = take-add w.size (length bs) t
      ∙ ap (λ (b : List ℕ). take w.size t ++ b) (ap (take (length bs)) d.text ∙ take-append_seam bs (rest d.opened)) in (
        record {
          walks = goes_on_lem cs t end after w g.walks some next r bs d fits;
          front = ap (λ (k : ℕ). take k new) d.size ∙ p.text ∙ ap (λ (b : List ℕ). b ++ bs) g.front ∙ sym taken
              ∙ ap (λ (k : ℕ). take k t) (sym d.size);
          behind = p.behind ∙ g.behind;
          room = p.room ∙ g.room;
        },
        fits,
        omega (arith, d.size, d.more),
      )

pub put_ends : (cs : List Cell) (x end : ℕ) (xs out after : List ℕ) (w : Walk) → Putting cs (text_at cs x) (set xs 0 40) end out after w → Fitting cs x end
    → w.depth ≡ 0 → out ≡ over (text_at cs x) xs
put_ends cs x end xs out after w g f z =
    let t = text_at cs x in
    let q : w.size ≡ length t = (ended cs t end after w g.walks z).0 in
    sym (take-append-drop end out) ∙ ap (λ (b : List ℕ). take end out ++ b) (g.behind ∙ drop-set-lt end xs 0 40 (some_text cs x end f))
    ∙ ap (λ (k : ℕ). take k out ++ drop end xs) (f.size ∙ sym q) ∙ ap (λ (b : List ℕ). b ++ drop end xs)
    (g.front ∙ ap (λ (k : ℕ). take k t) q ∙ take-length t)
    ∙ ap (λ (k : ℕ). t ++ drop k xs) f.size

-- and fills bytes that are no more than it
pub put_fills : (cs : List Cell) (x : ℕ) (xs out after : List ℕ) (w : Walk) → Putting cs (text_at cs x) (set xs 0 40) (length (text_at cs x)) out after w
    → length xs ≡ length (text_at cs x) → w.depth ≡ 0 → out ≡ text_at cs x
put_fills cs x xs out after w g f z =
    let t = text_at cs x in
    let q : w.size ≡ length t = (ended cs t (length t) after w g.walks z).0 in
    let e : w.size ≡ length out = q ∙ sym f ∙ sym (length-set xs 0 40) ∙ sym g.room in
    sym (ap (λ (k : ℕ). take k out) e ∙ take-length out) ∙ g.front ∙ ap (λ (k : ℕ). take k t) q ∙ take-length t
