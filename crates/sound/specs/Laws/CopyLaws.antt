-- The pass that copies the counts and counts the free cells: its loop's invariant, and each turn.
use Rattle.std.specs.Prelude.{◌≡◌, List, ℕ, suc, ◌+◌, ◌≤◌, ◌<◌, length, get_or, set}
use Rattle.std.proofs.Common.{◌∙◌, add-one, arith, get_or-set_same, get_or-set_other}
use Rattle.std.proofs.Math.Decide.{ℕ_discrete}
use Rattle.pool.specs.Tally.{same}
use Rattle.pool.specs.Pool.{Cell, count_of}
use Rattle.sound.specs.Mirror.{Within, Counted, Copied}
use Rattle.sound.specs.Laws.CountLaws.{Counts, counts_none, counts_one, counts_all}
use Rattle.sound.specs.Laws.MirrorLaws.{within-set, within_self, within_then}

pub record Copying (n : ℕ) (cs : List Cell) (ws us : List ℕ) (i free : ℕ) : Type 0 where
  pub within : Within n ws us
  pub counts : Counted i us cs
  pub number : Counts cs i free
  pub low : i ≤ n

pub copy_start : (n : ℕ) (cs : List Cell) (ws : List ℕ) → Copying n cs ws ws 0 0
copy_start n cs ws = record { within = within_self n ws; counts = λ j l. absurd (omega arith); number = counts_none cs; low = omega arith }

pub copy_step : (n : ℕ) (cs : List Cell) (ws us : List ℕ) (i free r k : ℕ) → n + n ≤ length ws → i < n → Copying n cs ws us i free → r ≡ count_of cs (i + 1)
    → k ≡ same r 0 → Copying n cs ws (set us i r) (i + 1) (free + k)
copy_step n cs ws us i free r k long l g e q =
    let e' : r ≡ count_of cs (suc i) = rw add-one at e in
    record {
      within = within_then g.within (within-set n us i r (omega arith));
      counts = λ j m. go e' j (omega arith) (ℕ_discrete j i);
      number = counts_one cs i free r k g.number e q;
      low = omega arith;
    }
  where
    go : r ≡ count_of cs (suc i) → (j : ℕ) → j < suc i → Dec (j ≡ i) → get_or (set us i r) j 0 ≡ count_of cs (suc j)
    go e' j m (yes z) = rw z (get_or-set_same us i r 0 (omega (arith, g.within.size)) ∙ e')
    go e' j m (no z) = get_or-set_other us i j r 0 z ∙ g.counts j (omega arith)

pub copy_end : (n : ℕ) (cs : List Cell) (ws us : List ℕ) (i free : ℕ) → length cs ≡ n → n ≤ i → Copying n cs ws us i free → Copied n cs ws us free
copy_end n cs ws us i free len h g =
    record { within = g.within; counts = λ j l. g.counts j (omega arith); number = counts_all cs i free (omega (arith, g.low)) g.number }
