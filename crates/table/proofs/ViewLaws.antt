-- Words that tell a shape are a table of it, and a store leaves one that shows a setter of the pool.
use Rattle.std.specs.Prelude.{◌≡◌, refl, ◌≢◌, Bool, true, false, List, ℕ, zero, suc, ◌+◌, ◌*◌, ◌-◌, ◌≤◌, ◌<◌, length, get_or, set}
use Rattle.std.proofs.Common.{sym, ◌∙◌, arith, length-set}
use Rattle.std.proofs.Math.Decide.{ℕ_discrete}
use Rattle.std.proofs.Math.Seq.{get_or-set_other}
use Rattle.table.specs.declared.Form.{Form}
use Rattle.table.specs.declared.Form.TheVariants.{Four, Packed, Wide}
use Rattle.table.specs.declared.Shape.{Shape}
use Rattle.pool.specs.Setters.{put_free, put_holder}
use Rattle.table.specs.Limits.{packs, head, cells_told, holders_told, holders_many, cells_most}
use Rattle.table.specs.Fields.{put_field}
use Rattle.table.specs.Pack.{room}
use Rattle.table.specs.View.{word_count, holder_count, start, stored_two, view, Table, IsCell, Shows}
use Rattle.table.specs.Laws.PutLaws.{Put, put_four, put_two}
use Rattle.table.specs.Laws.ViewLaws.{Numbers, view_cells, view_holders, told_same, in_two, at-four, in_four, view-put, store_free, store_holder}

pub numbers : (f : Form) (n : ℕ) → n ≤ cells_most f → Numbers f n
numbers Four n a = record { few = omega arith; low = omega arith }
numbers Packed n a = record { few = omega arith; low = omega arith }
numbers Wide n a = record { few = omega arith; low = omega arith }

-- a table is told by its words
pub is_table : (s : Shape) (ws : List ℕ) → 1 ≤ s.cells → s.cells ≤ cells_most s.form → 1 ≤ s.holders → s.holders ≤ holders_many
    → length ws ≡ word_count s → cells_told ws ≡ s.cells → holders_told s.form ws ≡ s.holders → Table s ws
is_table s ws a b x y c d e =
    let m = numbers s.form s.cells b in
    record {
      some = a;
      within = b;
      sized = c;
      told = d;
      heads = e;
      few = m.few;
      holds = x;
      wide = y;
      low = m.low;
      measured = view_cells s ws;
      held = view_holders s ws;
    }

-- words that tell the same
pub like : (s : Shape) (ws us : List ℕ) → Table s ws → length us ≡ length ws → ((w : ℕ) → w ≢ 1 → w < head s.form → get_or us w 0 ≡ get_or ws w 0) → Table s us
like s ws us t l h =
    is_table s us t.some t.within t.holds t.wide (l ∙ t.sized) (h 0 (omega arith) (omega (arith, t.low)) ∙ t.told) (told_same s.form ws us h ∙ t.heads)

module _ (s : Shape) (ws : List ℕ) (t : Table s ws) where
  pub shown : (us : List ℕ) (k c v : ℕ) → IsCell s c → (b : Bool) → packs s.form ≡ b → (a : ℕ) → start s ≡ a → Put b a ws us k (c - 1) v → Shows s us (put_field k c v (view s ws))
  shown us k zero v hc b e a q u = absurd (omega (arith, hc.low))
  shown us k (suc i) v hc b e a q u =
      let z : suc i - 1 ≡ i = omega arith in
      let w : Put (packs s.form) (start s) ws us k i v = rw (e, q, ← z) u in
      record { table = like s ws us t w.long (λ x n l. w.heads x (omega arith)); is = view-put s ws t us k i v w hc.high }

  pub store_two : (us : List ℕ) (c k v a : ℕ) → IsCell s c → k < 4 → v < room k → packs s.form ≡ true → a ≡ start s → us ≡ stored_two a (c - 1) k v ws → Shows s us (put_field k c v (view s ws))
  store_two us c k v a hc hk hv e q z =
      rw z (shown (stored_two a (c - 1) k v ws) k c v hc true e a (sym q) (put_two a ws k (c - 1) v hk hv (omega (arith, in_two s ws t c hc e))))

  pub store_four : (us : List ℕ) (c k v : ℕ) → IsCell s c → k < 4 → packs s.form ≡ false → us ≡ set ws (66 + 4 * (c - 1) + k) v → Shows s us (put_field k c v (view s ws))
  store_four us c k v hc hk e z =
      rw z (shown (set ws (66 + 4 * (c - 1) + k) v) k c v hc false e 66 (at-four s ws t e) (put_four 66 ws k (c - 1) v hk (in_four s ws t c hc e)))

  -- a store before the cells that keeps what they and the holders are told by
  pub keeps : (w v : ℕ) → 1 ≤ w → (w ≢ 1 → head s.form ≤ w) → Table s (set ws w v)
  keeps w v l h = like s ws (set ws w v) t (length-set ws w v) (λ x n m. get_or-set_other ws w x v 0 (apart x n m (ℕ_discrete w 1)))
    where
      apart : (x : ℕ) → x ≢ 1 → x < head s.form → Dec (w ≡ 1) → x ≢ w
      apart x n m (yes e) = λ q. n (q ∙ e)
      apart x n m (no k) = let y = h k in omega arith

  pub stored-free : (v : ℕ) → Shows s (set ws 1 v) (put_free v (view s ws))
  stored-free v = record { table = keeps 1 v (omega arith) (λ n. absurd (n refl)); is = store_free s ws t v }

  pub stored-holder : (a h v : ℕ) → a ≡ head s.form → h < holder_count s → Shows s (set ws (a + h) v) (put_holder h v (view s ws))
  stored-holder a h v e l = rw e (record { table = keeps (head s.form + h) v (omega (arith, t.low)) (λ n. omega arith); is = store_holder s ws t h v l })
