-- A script after its first operations: what is written, and what is left, make up the whole run.
use Rattle.std.specs.Prelude.{◌≡◌, List, ◌++◌, ℕ, ◌+◌, ◌*◌, length, get_or, set, take, drop}
use Rattle.answers.specs.Codes.{operation_words, result_words}
use Rattle.calls.specs.Run.{operations}
use Rattle.ops.specs.Replies.{operation}
use Rattle.pool.specs.Pool.{Pool, Sound}
use Rattle.pool.specs.Script.{Operation, Run, performed}
use Rattle.cells.specs.Lent.{Lent, on}

-- operation i of a script
abbrev pub operation_at : List ℕ → ℕ → Operation
operation_at ss i =
    operation (get_or ss (operation_words * i) 0) (get_or ss (operation_words * i + 1) 0) (get_or ss (operation_words * i + 2) 0)
    (get_or ss (operation_words * i + 3) 0)

-- the result words of operation i
abbrev pub written : List ℕ → ℕ → ℕ → ℕ → List ℕ
written rs i k w = set (set rs (result_words * i) k) (result_words * i + 1) w

-- the run of what is left of a script after i operations
unfoldable pub left : List ℕ → ℕ → Pool → Run
left ss i p = performed p (operations (drop (operation_words * i) ss))

-- the whole of a run of which i operations are done and their results written
abbrev pub resumed : ℕ → List ℕ → Run → Run
resumed i us r = record { pool = r.pool; answer = r.answer; done = i + r.done; results = us ++ r.results }

-- i operations of the script ss are done: from v₀ the pool has come to v, and their results stand before the others
pub record Midway (v₀ : Lent) (ss rs₀ : List ℕ) (q : Run) (v : Lent) (rs : List ℕ) (i : ℕ) : Type 0 where
  pub kept : v ≡ on (λ _. v.pool) v₀
  pub sound : Sound v.pool
  pub whole : q ≡ resumed i (take (result_words * i) rs) (left ss i v.pool)
  pub size : length rs ≡ length rs₀
  pub rest : drop (result_words * i) rs ≡ drop (result_words * i) rs₀
