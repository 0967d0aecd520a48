-- A text filled to a full record: its length, and its bytes where they were stored.
use Rattle.std.specs.Prelude.{◌≡◌, List, ◌++◌, ℕ, ◌+◌, ◌*◌, ◌-◌, ◌%◌, ◌≤◌, length, take, drop, replicate}
use Rattle.std.specs.Int.{next_multiple_of}
use Rattle.std.proofs.Common.{sym, ap, ap₂, ◌∙◌, arith, append_assoc, length-append, length-drop, length-take-le, drop-drop, take_at}
use Rattle.std.proofs.lemmas.List.{length-replicate, drop_at}
use Rattle.std.proofs.lemmas.List.Edits.{sets-eq}
use borrow.Rule.Slice.PartMut.{put_mid}
use Rattle.text.specs.Limits.{record_bytes}
use Rattle.text.specs.ListText.{fill}
use Rattle.lines.specs.Numbers.{blank}
use Rattle.lines.specs.Printed.{filled}
use Rattle.lines.specs.Splitting.{line_most}
use Rattle.lines.specs.Meaning.{Puts}

pub filled-most : (n : ℕ) → n ≤ line_most → next_multiple_of n record_bytes ≤ 3 * record_bytes
filled-most n l = omega arith

pub filled-length : (s : List ℕ) → length (filled s) ≡ next_multiple_of (length s) record_bytes
filled-length s = length-append s (fill (length s)) ∙ ap (λ (k : ℕ). length s + k) (length-replicate ((record_bytes - length s % record_bytes) % record_bytes) blank)

-- the text, and behind it blanks up to the end of its last record
module _ (s old a b : List ℕ) (end : ℕ) (e : end ≡ next_multiple_of (length s) record_bytes) (l : end ≤ length old) (f : a ≡ s)
    (g : b ≡ replicate (length (take (end - length s) (drop (length s) (a ++ drop (length s) old)))) blank) where
  behind : drop (length s) (a ++ drop (length s) old) ≡ drop (length s) old
  behind = drop_at a (drop (length s) old) (length s) (ap length f)

  blanks : b ≡ fill (length s)
  blanks =
      let k : length (take (end - length s) (drop (length s) old)) ≡ (record_bytes - length s % record_bytes) % record_bytes =
      length-take-le (end - length s) (drop (length s) old) (omega (arith, e, length-drop (length s) old)) ∙ omega (arith, e) in
      g ∙ ap (λ (u : List ℕ). replicate (length (take (end - length s) u)) blank) behind ∙ ap (λ (j : ℕ). replicate j blank) k

  rest : drop (end - length s) (drop (length s) (a ++ drop (length s) old)) ≡ drop (0 + length (filled s)) old
  rest =
      let k : length s + (end - length s) ≡ 0 + length (filled s) = omega (arith, e, filled-length s) in
      ap (drop (end - length s)) behind ∙ drop-drop (end - length s) (length s) old ∙ ap (λ (j : ℕ). drop j old) k

  pub fills_lem : Puts (filled s) 0 old end (put_mid (length s) (end - length s) (a ++ drop (length s) old) b)
  fills_lem = record {
    place = omega (arith, e, filled-length s);
    bytes =
        ap₂ (λ (u v : List ℕ). u ++ (b ++ v)) (take_at a (drop (length s) old) (length s) (ap length f) ∙ f) rest
        ∙ sym (append_assoc s b (drop (0 + length (filled s)) old))
        ∙ ap (λ (u : List ℕ). s ++ u ++ drop (0 + length (filled s)) old) blanks
        ∙ sym (sets-eq (filled s) old 0 (omega (arith, e, filled-length s)));
  }
