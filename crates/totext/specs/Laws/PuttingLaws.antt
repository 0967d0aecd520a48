-- Writing begins with "(", goes on with the characters of a turn, and ends with the text before the old bytes.
use Rattle.std.specs.Prelude.{ℕ, ◌+◌, ◌-◌, ◌/◌, ◌≤◌, ◌<◌, ◌≡◌, refl, Some, IsSome, List, [], ◌∷◌, ◌++◌, length, take, drop, set, get_or, replicate}
use Rattle.std.proofs.Common.{sym, ap, subst, ◌∙◌, append_assoc, append-nil, arith, take-append-drop, length-drop, take-add, drop-set-lt}
use Rattle.std.proofs.Math.Seq.{take-length}
use Rattle.std.proofs.lemmas.List.{drop_all}
use Rattle.calls.specs.Entry.{over}
use Rattle.groups.specs.Groups.{numbers_end, number, elements, list_number}
use Rattle.lists.specs.Lst.{Lst, len}
use Rattle.numbers.specs.declared.Number.{Number}
use Rattle.numbers.specs.Numbers.{number_in}
use Rattle.text.specs.Limits.{levels}
use Rattle.text.specs.ListText.{text_of}
use Rattle.text.specs.Laws.OpenLists.{body, opens_body}
use Rattle.writing.specs.Put.{Put}
use Rattle.writing.specs.Steps.{comma}
use Rattle.writing.specs.Walking.{rest}
use Rattle.writing.specs.Laws.PutLaws.{put_one}
use Rattle.totext.specs.declared.put.Walk.{Walk}
use Rattle.totext.specs.Putting.{Putting}
use Rattle.totext.specs.Standing.{Standing, Held}
use Rattle.totext.specs.Turns.{walk, Turned, PutShut}
use Rattle.numbers.specs.Laws.GroupLaws.{read_there, some_there, behind-number}
use Rattle.totext.specs.Laws.TurnLaws.{shut_turned}

-- a text has a first character
pub some_text : (l : Lst) → 1 ≤ length (text_of l)
some_text l = omega (arith, ap length (opens_body l))

module _ {s : List ℕ} {l : Lst} (h : Held s l) where
  -- the first number, and the elements behind it
  first : s ≡ number (list_number l) ++ (elements l ++ drop h.0 s)
  first =
      sym (take-append-drop h.0 s) ∙ ap (λ (t : List ℕ). t ++ drop h.0 s) h.1.bytes
      ∙ append_assoc (number (list_number l)) (elements l) (drop h.0 s)

  pub first_some : IsSome (number_in s 0)
  first_some = some_there s _ 0 (list_number l) first h.1.fits.0

  module _ {n : Number} (q : Some n ≡ number_in s 0) where
    told : n ≡ record { value = list_number l; end = 0 + length (number (list_number l)) }
    told = read_there s _ 0 (list_number l) first q h.1.fits.0

    pub first_below : n.value < numbers_end
    first_below = omega (arith, h.1.fits.0, ap (λ (x : Number). x.value) told)

    starts : Standing s (text_of l) (replicate levels 0) (walk n.end 1 1 (n.value / 2))
    starts =
        let half : n.value / 2 ≡ len l = omega (arith, ap (λ (x : Number). x.value) told) in
        let e : text_of l ≡ 40 ∷ (body l ++ []) = opens_body l ∙ ap (λ (b : List ℕ). 40 ∷ b) (sym (append-nil (body l))) in
        record {
          opened = l ∷ [];
          stands = record {
            deep = refl;
            counted = (half, tt);
            sound = (h.1.fits.1, omega (arith, h.1.shallow), tt);
            floor = refl;
            wide = refl;
          };
          later = drop h.0 s;
          groups = ap (λ (x : Number). drop x.end s) told ∙ behind-number s _ 0 (list_number l) first
              ∙ ap (λ (b : List ℕ). b ++ drop h.0 s) (sym (append-nil (elements l)));
          text = ap (drop 1) e;
          within = some_text l;
        }

    pub put-begins : (end : ℕ) (xs : List ℕ) → end ≡ length (text_of l) → end ≤ length xs
        → Putting s (text_of l) (set xs 0 40) end (set xs 0 40) (replicate levels 0) (walk n.end 1 1 (n.value / 2))
    put-begins end xs e k = record {
      stands = starts;
      front = (put_one xs 0 end 40 (omega (arith, some_text l)) k).text ∙ sym (ap (take 1) (opens_body l));
      behind = refl;
      room = refl;
    }

module _ {s t old : List ℕ} {end : ℕ} {out kept : List ℕ} {w : Walk} (g : Putting s t old end out kept w) where
  pub put_on : {next : List ℕ} {r : Walk} {bs new : List ℕ} → Turned s t next w r bs → Put out new w.to end bs → Putting s t old end new next r
  put_on {next} {r} {bs} {new} d p =
      let taken : take (w.to + length bs) t ≡ take w.to t ++ bs
      = take-add w.to (length bs) t ∙ ap (λ (b : List ℕ). take w.to t ++ b) d.text in
      record {
        stands = d.stands;
        front = ap (λ (k : ℕ). take k new) d.size ∙ p.text ∙ ap (λ (b : List ℕ). b ++ bs) g.front ∙ sym taken
            ∙ ap (λ (k : ℕ). take k t) (sym d.size);
        behind = p.behind ∙ g.behind;
        room = p.room ∙ g.room;
      }

-- from where it stands, and on from there
pub put-from : {s t old : List ℕ} {end : ℕ} {out kept : List ℕ} {w : Walk} → Putting s t old end out kept w → Putting s t out end out kept w
put-from g = record { stands = g.stands; front = g.front; behind = refl; room = refl }

pub put-after : {s t old : List ℕ} {end : ℕ} {out kept : List ℕ} {w : Walk} {new next : List ℕ} {r : Walk} → Putting s t old end out kept w
    → Putting s t out end new next r → Putting s t old end new next r
put-after g h = record { stands = h.stands; front = h.front; behind = h.behind ∙ g.behind; room = h.room ∙ g.room }

-- ")"
pub put_shut : {s t old : List ℕ} {end : ℕ} {out kept : List ℕ} {w : Walk} → Putting s t old end out kept w → 1 ≤ w.depth → w.left ≡ 0
    → {r : Walk} {new : List ℕ} → PutShut kept w r out new end → Putting s t old end new kept r × (w.to < r.to) × (r.to ≤ length t)
put_shut {s} {t} {old} {end} {out} {kept} {w} g some z {r} p =
    let d = shut_turned g.stands some z in
    let turned : Turned s t kept w r (41 ∷ comma (get_or kept (w.depth - 1) 0)) =
    subst (λ (x : Walk). Turned s t kept w x (41 ∷ comma (get_or kept (w.depth - 1) 0))) (sym p.0) d in
    (put_on g turned p.1, omega (arith, turned.size), turned.stands.within)

-- no level is open any more
ended : (s t kept : List ℕ) (w : Walk) → Standing s t kept w → w.depth ≡ 0 → w.to ≡ length t
ended s t kept w g z = none g.opened g.stands.deep g.text
  where
    none : (opened : List Lst) → length opened ≡ w.depth → drop w.to t ≡ rest opened → w.to ≡ length t
    none [] d e = omega (arith, ap length e, length-drop w.to t, g.within)
    none (l ∷ ls) d e = absurd (omega arith)

pub put_ends : (s : List ℕ) (l : Lst) (end : ℕ) (xs out kept : List ℕ) (w : Walk) → Putting s (text_of l) (set xs 0 40) end out kept w
    → end ≡ length (text_of l) → w.depth ≡ 0 → out ≡ over (text_of l) xs
put_ends s l end xs out kept w g e z =
    let t = text_of l in
    let q : w.to ≡ length t = ended s t kept w g.stands z in
    sym (take-append-drop end out) ∙ ap (λ (b : List ℕ). take end out ++ b) (g.behind ∙ drop-set-lt end xs 0 40 (omega (arith, some_text l)))
    ∙ ap (λ (k : ℕ). take k out ++ drop end xs) (e ∙ sym q) ∙ ap (λ (b : List ℕ). b ++ drop end xs)
    (g.front ∙ ap (λ (k : ℕ). take k t) q ∙ take-length t)
    ∙ ap (λ (k : ℕ). t ++ drop k xs) e

-- and fills bytes that are no more than it
pub put_fills : (s : List ℕ) (l : Lst) (xs out kept : List ℕ) (w : Walk) → Putting s (text_of l) (set xs 0 40) (length (text_of l)) out kept w
    → length xs ≡ length (text_of l) → w.depth ≡ 0 → out ≡ text_of l
put_fills s l xs out kept w g f z =
    let t = text_of l in
    put_ends s l (length t) xs out kept w g refl z ∙ ap (λ (b : List ℕ). t ++ b) (drop_all (length t) xs (omega (arith, f))) ∙ append-nil t
