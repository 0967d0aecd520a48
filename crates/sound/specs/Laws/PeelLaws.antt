-- The loop that meets the arrows of every cell that has run out: its start, each turn, and its end.
use Rattle.std.specs.Prelude.{◌≡◌, refl, ◌≢◌, List, ℕ, zero, suc, ◌+◌, ◌≤◌, ◌<◌, length, get_or}
use Rattle.std.proofs.Common.{sym, ◌∙◌, arith}
use Rattle.std.proofs.Math.Path.{subst}
use Rattle.pool.specs.Tally.{occ}
use Rattle.pool.specs.Pool.{Pool}
use Rattle.pool.specs.Check.{Peeling, turns, named, unmet, after_holders}
use Rattle.pool.specs.Laws.CheckInv.{holders_inv}
use Rattle.pool.specs.Laws.CheckLaws.{meet_gone, stack_fits}
use Rattle.sound.specs.declared.Peel.{Peel}
use Rattle.sound.specs.Mirror.{Within, Shown, Refilled, Reached, Room, Refills, state_at, Taking, Peeled}
use Rattle.sound.specs.Laws.MirrorLaws.{within_self, within_then}
use Rattle.sound.specs.Laws.RoomLaws.{room, none-null, state-inv}
use Rattle.sound.specs.Laws.TakeLaws.{hand_few, one_more}

named_gone : (k : ℕ) (hs : List ℕ) (s : Peeling) → (named k hs s).gone ≡ s.gone
unfolding named
named_gone zero hs s = refl
named_gone (suc k) hs s = meet_gone (get_or hs k 0) (named k hs s) ∙ named_gone k hs s

module _ (p : Pool) (n : ℕ) (ws us : List ℕ) (e : Peel) (len : length p.cells ≡ n) (few : n < 65536) (long : n + n ≤ length ws)
    (s : Shown n ws us e (after_holders p)) where
  pub start-room : Room n us e
  start-room = room p.cells (occ p.holders) (λ d. 0) (after_holders p) n us e (holders_inv p) s.shows len few (omega (arith, s.within.size))

  pub peel_start : (f : Peel) → Refills n us e f → Reached n us us f (state_at p f.gone)
  unfolding turns
  peel_start f q =
      let none = none-null p.cells (occ p.holders) (λ d. 0) (after_holders p) (holders_inv p) in
      let r : Refilled n us f (after_holders p) = q (after_holders p) s.shows none in
      let z : f.gone ≡ 0 = r.shows.gone ∙ named_gone (length p.holders) p.holders (unmet p.cells) in
      record { within = within_self n us; refilled = subst (λ k. Refilled n us f (state_at p k)) (sym z) r }

module _ (p : Pool) (n : ℕ) (ws us : List ℕ) (e : Peel) (len : length p.cells ≡ n) (few : n < 65536) (long : n + n ≤ length ws)
    (r : Reached n ws us e (state_at p e.gone)) where
  pub taking : e.at ≢ 0 → Taking p n us e
  taking s = record { sized = len; few = few; long = omega (arith, r.within.size); shows = r.refilled.shows; some = s }

  pub less-left : (vs : List ℕ) (f : Peel) → e.at ≢ 0 → Reached n us vs f (state_at p (suc e.gone)) → (e.gone < n) × (f.gone ≡ suc e.gone)
  less-left vs f s b = (omega (arith, hand_few p n us e (taking s)), one_more p n us e (taking s) vs f b)

  pub peel_step : (vs : List ℕ) (f : Peel) → e.at ≢ 0 → Reached n us vs f (state_at p (suc e.gone)) → Reached n ws vs f (state_at p f.gone)
  peel_step vs f s b =
      subst (λ k. Reached n ws vs f (state_at p k)) (sym (one_more p n us e (taking s) vs f b))
      (record { within = within_then r.within b.within; refilled = b.refilled })

  pub peel_end : (vs : List ℕ) → Within n vs ws → e.at ≡ 0 → Peeled n p vs us e
  peel_end vs v z = record { shown = record { within = within_then v r.within; shows = r.refilled.shows }; ended = r.refilled.rests z }

-- the sum in the last test
pub gone_fits : (p : Pool) (n : ℕ) (ws us : List ℕ) (e : Peel) → length p.cells ≡ n → Peeled n p ws us e → e.gone ≤ n
gone_fits p n ws us e len k =
    omega (arith, k.shown.shows.gone, stack_fits p.cells (occ p.holders) (λ d. 0) (state_at p e.gone) (state-inv p e.gone))
