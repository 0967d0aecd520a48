-- What the code's functions leave of the engine and in the lent bytes.
use Rattle.std.specs.Prelude.{◌≡◌, ◌≢◌, List, ℕ, ◌+◌, ◌*◌, ◌≤◌, length, take, Result, MatchResult}
use Rattle.answering.specs.declared.engine.Said.{Said}
use Rattle.answers.specs.Answers.{DONE}
use Rattle.pool.specs.Operations.{list_of}
use Rattle.calls.specs.Entry.{shown}
use Rattle.lines.specs.Numbers.{digits_most}
use Rattle.text.specs.Limits.{text_most}
use Rattle.answering.specs.Session.{Turn, Told, nothing_kind, writing_of, text_line}
use Rattle.table.specs.declared.Form.TheVariants.{Four}

-- the longest reply, and the longest text with its line feed
abbrev pub reply_most : ℕ
reply_most = 4 * (digits_most + 1)

abbrev pub line_room : ℕ
line_room = text_most + 1

-- the first `count` bytes of the output
pub record Prints (bs : List ℕ) (count : ℕ) (out : List ℕ) : Type 0 where
  pub bytes : take count out ≡ bs
  pub fits : count ≤ length out

-- an answer with nothing more to say
abbrev pub plain : ℕ → Said
plain n = record { answer = n; kind = nothing_kind; value = 0 }

-- what a call of the engine leaves in use, and what is to be told
pub record Says (t : Told) (r : Said) (us : List ℕ) : Type 0 where
  pub words : us ≡ t.words
  pub answer : r.answer ≡ t.answer
  pub kind : r.kind ≡ t.kind
  pub value : r.value ≡ t.value

-- what WRITE of a holder answers: the text's line at the start of its room, or why there is none
abbrev pub Texts : List ℕ → ℕ → Result ℕ ℕ → List ℕ → Type 0
Texts ts h r room =
    MatchResult r
    (λ n. ((writing_of ts h).answer ≡ DONE) × Prints (text_line DONE (list_of (shown Four ts) h)) n room)
    (λ a. (a ≡ (writing_of ts h).answer) × (a ≢ DONE))

-- the words in use and the bytes printed
pub record Speaks (t : Turn) (us : List ℕ) (count : ℕ) (out : List ℕ) : Type 0 where
  pub words : us ≡ t.words
  pub printed : Prints t.printed count out
