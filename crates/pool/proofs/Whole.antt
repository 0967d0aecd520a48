-- A sound pool stays sound, and as large as it is, through an operation and through a script, whatever they are. Here, and
-- not in specs/, because a must-fail edit changes DECAP's definition: what rests on the law that it breaks stands behind it.
use Rattle.std.specs.Prelude.{◌≡◌, false, not, ◌&&◌, List, [], ◌∷◌, eqb, ltb}
use Rattle.std.proofs.Common.{ap, arith}
use package.borrow.Author.Tests.{not-false, ne_eqb, ltb-false, eqb-true, eqb-false}
use Rattle.answers.specs.Answers.{DONE}
use Rattle.pool.specs.Pool.{Pool, count_of, holder, frees, Sound}
use Rattle.pool.specs.Operations.{pfa, pfl, decap, adv, borrow, inv, cinv, conc, length_of, shared_at}
use Rattle.pool.specs.Script.{PFA, PFL, DECAP, ADV, BORROW, INV, CINV, CONC, Operation, uses_b, refusal, effect, pool_after, Run, performed}
use Rattle.pool.specs.Laws.SoundLaws.{denoted}
use Rattle.pool.specs.Laws.EraseLaws.{erases}
use Rattle.pool.specs.Laws.Prefix.{pfa-does, pfl-does}
use Rattle.pool.specs.Laws.Borrow.{borrow-does}
use Rattle.pool.specs.Laws.Decap.{decap-does}
use Rattle.pool.specs.Laws.Advance.{adv-does}
use Rattle.pool.specs.Laws.Inverse.{inv-does}
use Rattle.pool.specs.Laws.Room.{frees-lives}
use Rattle.pool.specs.Laws.Copy.{cinv-does}
use Rattle.pool.specs.Laws.Conc.{conc-does}
use Rattle.pool.specs.Laws.Level.{length_is, both_false, alone}
use Rattle.pool.specs.Laws.ByCode.{either_way, by_code}
use Rattle.pool.specs.Laws.Lengths.{Alike, alike_refl, alike_trans, pfa_alike, pfl_alike, decap_alike, adv_alike, borrow_alike, erase_alike, inv_alike, cinv_alike, conc_alike}
use Rattle.pool.specs.Laws.ScriptLaws.{Allowed, allowed, a_holder, b-holder, with_code, own_head, some_free}

pub effect_alike : (p : Pool) (o : Operation) → Alike p (effect p o).pool
unfolding conc
effect_alike p o =
    let a = o.a in
    let b = o.b in
    by_code (Alike p) p o (λ e. pfa_alike p a b o.v) (λ e. pfl_alike p a b) (λ e. decap_alike p a b) (λ e. adv_alike p a b) (λ e. borrow_alike p a b)
    (λ e. erase_alike p a b) (λ e. inv_alike p a b)
    (λ e. cinv_alike p a b) (λ e. conc_alike p a b (holder p a) (holder p b)) (alike_refl p)

module _ (p : Pool) (o : Operation) (s : Sound p) (h : Allowed p o) where
  sound_pfa : o.code ≡ PFA → Sound (pfa p o.a o.v)
  sound_pfa e = (pfa-does p o.a o.v s (a_holder p o h.opened) (some_free p s (ltb-false (frees p.cells) 1 (with_code p o PFA e h).room))).sound

  sound_pfl : o.code ≡ PFL → Sound (pfl p o.a o.b)
  sound_pfl e =
      let (lb, ab) = b-holder p o h.opened (ap uses_b e) in
      (pfl-does p o.a o.b s (a_holder p o h.opened) lb ab (some_free p s (ltb-false (frees p.cells) 1 (with_code p o PFL e h).room))).sound

  sound_decap : o.code ≡ DECAP → Sound (decap p o.a o.b)
  sound_decap e =
      let (lb, ab) = b-holder p o h.opened (ap uses_b e) in
      let w = with_code p o DECAP e h in
      let x = holder p o.a in
      let one = own_head p o.a s (eqb-false x 0 w.filled)
      (ltb-false 1 (count_of p.cells x) (both_false (ltb 1 (count_of p.cells x)) false w.own).0) in
      (decap-does p o.a o.b s (a_holder p o h.opened) lb ab (eqb-true (holder p o.b) 0 (not-false _ w.vacant)) one).sound

  sound_adv : o.code ≡ ADV → Sound (adv p o.a o.b)
  sound_adv e =
      let (lb, ab) = b-holder p o h.opened (ap uses_b e) in
      let w = with_code p o ADV e h in
      (adv-does p o.a o.b s (a_holder p o h.opened) lb ab (eqb-true (holder p o.b) 0 (not-false _ w.vacant))
      (eqb-false (holder p o.a) 0 w.filled)).sound

  sound_borrow : o.code ≡ BORROW → Sound (borrow p o.a o.b)
  sound_borrow e =
      (borrow-does p o.a o.b s (b-holder p o h.opened (ap uses_b e)).0
      (eqb-true (holder p o.b) 0 (not-false _ (with_code p o BORROW e h).vacant))).sound

  sound_inv : o.code ≡ INV → Sound (inv p o.a)
  sound_inv e =
      let (l, w) = denoted p s o.a in
      (inv-does p o.a l s (a_holder p o h.opened) w (alone p o.a l s w (with_code p o INV e h).own)).sound

  sound_cinv : o.code ≡ CINV → Sound (cinv p o.a o.b)
  sound_cinv e =
      let (l, w) = denoted p s o.a in
      let k = with_code p o CINV e h in
      (cinv-does p o.a o.b l s (b-holder p o h.opened (ap uses_b e)).0 (eqb-true (holder p o.b) 0 (not-false _ k.vacant)) w
      (omega (arith, length_is p o.a l s w, frees-lives p.cells, ltb-false (frees p.cells) (length_of p o.a) k.room))).sound

  sound_conc : o.code ≡ CONC → Sound (conc p o.a o.b)
  sound_conc e =
      let (lb, ab) = b-holder p o h.opened (ap uses_b e) in
      let (l, w) = denoted p s o.a in
      let (m, u) = denoted p s o.b in
      let k : (not (eqb (holder p o.b) 0) && shared_at p o.a) ≡ false = (with_code p o CONC e h).own in
      (conc-does p o.a o.b l m s (a_holder p o h.opened) lb ab w u (λ n. alone p o.a l s w (rw (ne_eqb (holder p o.b) 0 n) at k))).sound

  pub effect_sound : Sound (effect p o).pool
  effect_sound = by_code Sound p o sound_pfa sound_pfl sound_decap sound_adv sound_borrow (λ e. (erases p o.a s).sound) sound_inv sound_cinv sound_conc s

pub after_sound : (p : Pool) (o : Operation) → Sound p → Sound (pool_after p o)
unfolding pool_after
after_sound p o s =
    either_way Sound (eqb (refusal p o) DONE) (effect p o).pool p (λ e. effect_sound p o s (allowed p o (eqb-true (refusal p o) DONE e))) (λ e. s)

-- a whole script

pub performed_sound : (os : List Operation) (p : Pool) → Sound p → Sound (performed p os).pool
unfolding performed
performed_sound [] p s = s
performed_sound (o ∷ os) p s =
    either_way (λ (r : Run). Sound r.pool) (eqb (refusal p o) DONE) _ _
    (λ e. performed_sound os (effect p o).pool (effect_sound p o s (allowed p o (eqb-true (refusal p o) DONE e)))) (λ e. s)

pub performed_alike : (os : List Operation) (p : Pool) → Alike p (performed p os).pool
unfolding performed
performed_alike [] p = alike_refl p
performed_alike (o ∷ os) p =
    either_way (λ (r : Run). Alike p r.pool) (eqb (refusal p o) DONE) _ _ (λ e. alike_trans (effect_alike p o) (performed_alike os (effect p o).pool))
    (λ e. alike_refl p)
