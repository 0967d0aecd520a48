-- The pool that a table shows fixes every word of it: each word is one of the head, a holder, or belongs to the fields of a cell.
use Rattle.std.specs.Prelude.{ℕ, zero, suc, ◌+◌, ◌*◌, ◌-◌, ◌/◌, ◌%◌, ◌≤◌, ◌<◌, ◌≡◌, Bool, true, false, List, length, get_or}
use Rattle.std.proofs.Common.{ap, sym, ◌∙◌, arith, ext_get_or}
use Rattle.std.proofs.Math.Decide.{dec_lt}
use Rattle.table.specs.declared.Form.{Form}
use Rattle.table.specs.declared.Form.TheVariants.{Four, Packed, Wide}
use Rattle.table.specs.declared.Shape.{Shape}
use Rattle.pool.specs.Pool.{Pool, at, holder}
use Rattle.table.specs.Limits.{packs, head, holders_told, cells_in}
use Rattle.table.specs.Fields.{field}
use Rattle.table.specs.Pack.{part}
use Rattle.table.specs.Laws.PackLaws.{whole}
use Rattle.table.specs.View.{holder_count, start, cell_word, view, Table}
use Rattle.table.specs.Laws.ViewLaws.{read_at, read-free, read-holder}

-- equal fields, equal words
word-four : (a : ℕ) (ws us : List ℕ) (i : ℕ) → ((k : ℕ) → k < 4 → cell_word false a k ws i ≡ cell_word false a k us i) → (k : ℕ) → k < 4 → get_or ws (a + 4 * i + k) 0 ≡ get_or us (a + 4 * i + k) 0
unfolding cell_word
word-four a ws us i h k l = h k l

word_two : (a : ℕ) (ws us : List ℕ) (i : ℕ) → ((k : ℕ) → k < 4 → cell_word true a k ws i ≡ cell_word true a k us i) → (k : ℕ) → k < 2 → get_or ws (a + 2 * i + k) 0 ≡ get_or us (a + 2 * i + k) 0
unfolding cell_word part
word_two a ws us i h zero l =
    let q : a + 2 * i + 0 ≡ a + 2 * i = omega arith in
    let x = h 0 (omega arith) in
    let y = h 2 (omega arith) in
    let z = h 3 (omega arith) in
    rw q (whole (get_or ws (a + 2 * i) 0) ∙ (λ j. x j * 2147483648 + y j * 65536 + z j) ∙ sym (whole (get_or us (a + 2 * i) 0)))
word_two a ws us i h (suc zero) l = h 1 (omega arith)
word_two a ws us i h (suc (suc k)) l = absurd (omega arith)

cells_fix : (b : Bool) (a n : ℕ) (ws us : List ℕ) → length ws ≡ a + cells_in b n → ((i k : ℕ) → i < n → k < 4 → cell_word b a k ws i ≡ cell_word b a k us i) → (w : ℕ) → a ≤ w → w < length ws → get_or ws w 0 ≡ get_or us w 0
cells_fix false a n ws us e h w l m =
    let q : w ≡ a + 4 * ((w - a) / 4) + (w - a) % 4 = omega arith in
    rw q (word-four a ws us ((w - a) / 4) (λ k lk. h ((w - a) / 4) k (omega arith) lk) ((w - a) % 4) (omega arith))
cells_fix true a n ws us e h w l m =
    let q : w ≡ a + 2 * ((w - a) / 2) + (w - a) % 2 = omega arith in
    rw q (word_two a ws us ((w - a) / 2) (λ k lk. h ((w - a) / 2) k (omega arith) lk) ((w - a) % 2) (omega arith))

-- what stands before the holders
front_fixes : (f : Form) (ws us : List ℕ) → get_or ws 0 0 ≡ get_or us 0 0 → get_or ws 1 0 ≡ get_or us 1 0 → holders_told f ws ≡ holders_told f us → (w : ℕ) → w < head f → get_or ws w 0 ≡ get_or us w 0
front_fixes f ws us a b e zero l = a
front_fixes f ws us a b e (suc zero) l = b
front_fixes Four ws us a b e (suc (suc w)) l = absurd (omega arith)
front_fixes Packed ws us a b e (suc (suc w)) l = absurd (omega arith)
front_fixes Wide ws us a b e (suc (suc zero)) l = e
front_fixes Wide ws us a b e (suc (suc (suc w))) l = absurd (omega arith)

-- equal pools, equal words
pub view_fixes : (s : Shape) (ws us : List ℕ) → Table s ws → Table s us → view s ws ≡ view s us → ws ≡ us
view_fixes s ws us t u e = ext_get_or 0 ws us (t.sized ∙ sym u.sized) (λ w l. at-word w l (dec_lt w (head s.form)) (dec_lt w (start s)))
  where
    at-cell : (i k : ℕ) → i < s.cells → k < 4 → cell_word (packs s.form) (start s) k ws i ≡ cell_word (packs s.form) (start s) k us i
    at-cell i k l hk =
        read_at s ws t i k l hk ∙ ap (λ (p : Pool). field k (at p.cells (suc i))) e ∙ sym (read_at s us u i k l hk)

    at-holder : (h : ℕ) → h < holder_count s → get_or ws (head s.form + h) 0 ≡ get_or us (head s.form + h) 0
    at-holder h l = read-holder s ws t h l ∙ ap (λ (p : Pool). holder p h) e ∙ sym (read-holder s us u h l)

    at-word : (w : ℕ) → w < length ws → Dec (w < head s.form) → Dec (w < start s) → get_or ws w 0 ≡ get_or us w 0
    at-word w l (yes h) z = front_fixes s.form ws us (t.told ∙ sym u.told) (read-free s ws t ∙ ap (λ (p : Pool). p.free) e ∙ sym (read-free s us u)) (t.heads ∙ sym u.heads) w h
    at-word w l (no h) (yes z) =
        let q : w ≡ head s.form + (w - head s.form) = omega arith in
        rw q (at-holder (w - head s.form) (omega arith))
    at-word w l (no h) (no z) = cells_fix (packs s.form) (start s) s.cells ws us t.sized at-cell w (omega arith) l
