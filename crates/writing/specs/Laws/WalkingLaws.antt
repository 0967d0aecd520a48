-- The walk begins behind the outermost "(", goes on by a turn as long as its characters fit, and ends with the text.
use Rattle.std.specs.Prelude.{ℕ, ◌-◌, ◌≤◌, ◌<◌, ◌≡◌, refl, ◌≢◌, List, [], ◌∷◌, ◌++◌, length, get_or, drop, replicate}
use Rattle.std.proofs.Common.{sym, ap, subst, ◌∙◌, append-nil, arith, length-append, length-drop, drop-drop, ne_eqb, le-leb}
use Rattle.std.proofs.Math.Seq.{drop-append_seam}
use Rattle.std.proofs.lemmas.Bool.{lt-leb}
use Rattle.answers.specs.Answers.{DONE, DEEP, OUTPUT}
use Rattle.lists.specs.Lst.{Lst}
use Rattle.pool.specs.Pool.{Cell, kind_of, elem_of, next_of}
use Rattle.table.specs.declared.Shape.{Shape}
use Rattle.table.specs.View.{IsCell}
use Rattle.text.specs.Limits.{levels, text_most}
use Rattle.text.specs.ListText.{text_of}
use Rattle.text.specs.Laws.OpenLists.{body, opens_body}
use Rattle.text.specs.Writing.{judged}
use Rattle.walks.specs.Laws.LevelLaws.{begin-levels, in_pool, shut_level, pass_level, open_level}
use Rattle.walks.specs.declared.walk.Walk.{Walk}
use Rattle.octal.specs.Numeral.{numeral}
use Rattle.octal.specs.Laws.NumeralLaws.{some_digits}
use Rattle.writing.specs.Steps.{comma, started, shut_at, pass_at, open_at, Turn, shuts, passes, opens, MayTurn}
use Rattle.walks.specs.Steps.{kept_at}
use Rattle.pool.specs.Operations.{list_at, Stands}
use Rattle.writing.specs.Measures.{text_at}
use Rattle.writing.specs.Walking.{rest, Walking, Turned}
use Rattle.writing.specs.Laws.TurnLaws.{shut_text, pass_text, open_text, judges_shut, judges_pass, judges_open}

pub begins : (cs : List Cell) (x u : ℕ) (w : Walk) → Stands cs x → 1 ≤ u → w ≡ started x → Walking cs (text_at cs x) u (replicate levels 0) w
begins cs x u w h l q =
    let k : Lst = list_at cs x in
    let e : text_of k ≡ 40 ∷ (body k ++ []) = opens_body k ∙ ap (λ (b : List ℕ). 40 ∷ b) (sym (append-nil (body k))) in
    subst (Walking cs (text_at cs x) u (replicate levels 0)) (sym q) (record {
      opened = k ∷ [];
      stands = begin-levels cs x h;
      is = ap (drop 1) e;
      within = omega (arith, ap length e);
      short = l;
      judges = ap (judged u 0) e ∙ rw (ne_eqb u 0 (λ z. omega arith));
    })

module _ (cs : List Cell) (t : List ℕ) (u : ℕ) (after : List ℕ) (w : Walk) (g : Walking cs t u after w) (some : 1 ≤ w.depth) where
  shut_turned : w.at ≡ 0 → Turned cs t after w (shut_at after w) (41 ∷ comma (shut_at after w).at)
  shut_turned z =
      let s = shut_level cs after w.at w.depth g.opened g.stands some z in
      let x : ℕ = (shut_at after w).at in
      record {
        opened = s.outer;
        stands = s.now;
        more = omega arith;
        size = omega arith;
        text = g.is ∙ ap rest s.was ∙ shut_text cs after x (w.depth - 1) s.outer s.now (λ e. ap (λ (k : ℕ). get_or after k 0) e ∙ g.stands.floor);
        judges = judges_shut w.depth x (rest s.outer);
      }

  pass_turned : w.at ≢ 0 → kind_of cs w.at ≡ 0 → Turned cs t after w (pass_at cs w) (numeral (elem_of cs w.at) ++ comma (pass_at cs w).at)
  pass_turned n k =
      let s = pass_level cs after w.at w.depth g.opened g.stands some n k in
      let x : ℕ = next_of cs w.at in
      let v : ℕ = elem_of cs w.at in
      record {
        opened = s.more ∷ s.outer;
        stands = s.now;
        more = omega (arith, length-append (numeral v) (comma x), some_digits v);
        size = omega (arith, length-append (numeral v) (comma x));
        text = g.is ∙ ap rest s.was ∙ pass_text cs x v s.more s.outer s.now.here.0.0;
        judges = judges_pass w.depth v x (rest (s.more ∷ s.outer));
      }

  open_turned : w.at ≢ 0 → kind_of cs w.at ≢ 0 → w.depth < levels → Turned cs t (kept_at cs after w) w (open_at cs w) (40 ∷ [])
  open_turned n k r =
      let s = open_level cs after w.at w.depth g.opened g.stands some n k in
      record {
        opened = s.inner ∷ (s.more ∷ s.outer);
        stands = s.now r;
        more = omega arith;
        size = refl;
        text = g.is ∙ ap rest s.was ∙ open_text s.inner s.more s.outer;
        judges = judges_open w.depth (rest (s.inner ∷ (s.more ∷ s.outer))) r;
      }

  pub turned : (next : List ℕ) (r : Walk) (bs : List ℕ) → (w.at ≢ 0 → kind_of cs w.at ≢ 0 → w.depth < levels) → Turn cs after w next r bs
      → Turned cs t next w r bs
  turned next r bs room (shuts z e n) =
      subst (λ (a : List ℕ). Turned cs t a w r (41 ∷ comma r.at)) (sym n)
      (subst (λ (q : Walk). Turned cs t after w q (41 ∷ comma q.at)) (sym e) (shut_turned z))
  turned next r bs room (passes z k e n) =
      subst (λ (a : List ℕ). Turned cs t a w r (numeral (elem_of cs w.at) ++ comma r.at)) (sym n)
      (subst (λ (q : Walk). Turned cs t after w q (numeral (elem_of cs w.at) ++ comma q.at)) (sym e) (pass_turned z k))
  turned next r bs room (opens z k e n) =
      subst (λ (a : List ℕ). Turned cs t a w r (40 ∷ [])) (sym n)
      (subst (λ (q : Walk). Turned cs t (kept_at cs after w) w q (40 ∷ [])) (sym e) (open_turned z k (room z k)))

  module _ (next : List ℕ) (r : Walk) (bs : List ℕ) (d : Turned cs t next w r bs) where
    came : judged u 0 t ≡ judged (u - w.size) w.depth (bs ++ rest d.opened)
    came = g.judges ∙ ap (judged (u - w.size) w.depth) (sym g.is ∙ d.text)

    pub inside : r.size ≤ length t
    inside = omega (arith, d.size, d.more, ap length d.text, length-drop w.size t, length-append bs (rest d.opened))

    pub goes_on_lem : r.size ≤ u → Walking cs t u next r
    goes_on_lem fits =
        let n : ℕ = length bs in
        let behind : drop r.size t ≡ rest d.opened
        = ap (λ (k : ℕ). drop k t) d.size ∙ sym (drop-drop n w.size t) ∙ ap (drop n) d.text ∙ drop-append_seam bs (rest d.opened) in
        let k : u - w.size - n ≡ u - r.size = omega (arith, d.size) in
        record {
          opened = d.opened;
          stands = d.stands;
          is = behind;
          within = inside;
          short = fits;
          judges = came ∙ d.judges (u - w.size)
              ∙ rw (le-leb n (u - w.size) (omega (arith, d.size))) (ap (λ (j : ℕ). judged j r.depth (rest d.opened)) k);
        }

    pub overflows : u < r.size → judged u 0 t ≡ OUTPUT
    overflows l = came ∙ d.judges (u - w.size) ∙ rw (lt-leb (length bs) (u - w.size) (omega (arith, d.size, g.short)))

  pub too_deep_lem : w.at ≢ 0 → kind_of cs w.at ≢ 0 → levels ≤ w.depth → judged u 0 t ≡ DEEP
  too_deep_lem n k h =
      let s = open_level cs after w.at w.depth g.opened g.stands some n k in
      g.judges ∙ ap (judged (u - w.size) w.depth) (ap rest s.was ∙ open_text s.inner s.more s.outer) ∙ rw (le-leb levels w.depth h)

  pub at-cell : (s : Shape) → length cs ≡ s.cells → w.at ≢ 0 → IsCell s w.at
  at-cell s m n =
      let q = in_pool cs after w.at w.depth g.opened g.stands some n in
      record { low = q.0; high = omega (arith, q.1, m) }

  pub may_turn : (s : Shape) → length cs ≡ s.cells → u ≤ text_most → (w.at ≢ 0 → kind_of cs w.at ≢ 0 → w.depth < levels) → MayTurn s cs w
  may_turn s m h room = record { some = some; low = g.stands.low; short = omega (arith, g.short); cell = at-cell s m; room = room }

-- no level is open any more
pub ended : (cs : List Cell) (t : List ℕ) (u : ℕ) (after : List ℕ) (w : Walk) → Walking cs t u after w → w.depth ≡ 0
    → (w.size ≡ length t) × (judged u 0 t ≡ DONE)
ended cs t u after w g e = none g.opened g.stands.deep g.is g.judges
  where
    none : (opened : List Lst) → length opened ≡ w.depth → drop w.size t ≡ rest opened → judged u 0 t ≡ judged (u - w.size) w.depth (rest opened)
        → (w.size ≡ length t) × (judged u 0 t ≡ DONE)
    none [] d i j = (omega (arith, ap length i, length-drop w.size t, g.within), j)
    none (l ∷ ls) d i j = absurd (omega arith)
