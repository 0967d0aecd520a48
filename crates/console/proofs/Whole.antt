-- However the input is cut into chunks, and these into steps, the bytes printed are those of `session` for the whole.
use Rattle.std.specs.Prelude.{◌≡◌, List, [], ◌++◌, ℕ}
use Rattle.std.proofs.Common.{sym, ap, ap₂, ◌∙◌}
use Rattle.lines.specs.Splitting.{Gathering, last, closed}
use Rattle.lines.specs.Laws.SplittingLaws.{split_lines}
use Rattle.answering.specs.Session.{prints, session}
use Rattle.console.specs.Serving.{Mid, fresh, Takes, closing, Step, Steps, input, output, stop}
use Rattle.console.specs.Whole.{joined}
use Rattle.console.specs.Laws.ServingLaws.{prints-append, steps-take}

closes : (s o : List ℕ) (n : Mid) → Takes fresh s o n → o ++ closing n ≡ session s
closes s o n t =
    ap₂ ◌++◌ t.printed (ap (λ (w : List ℕ). prints w (last n.kept n.over)) t.words)
    ∙ sym (prints-append t.lines (last n.kept n.over) [])
    ∙ ap (λ (g : Gathering). prints [] (closed g)) (sym t.split)
    ∙ ap (prints []) (split_lines s)

pub steps_close : (ss : List Step) → Steps fresh ss → output ss ++ closing (stop fresh ss) ≡ session (input ss)
steps_close ss h = closes (input ss) (output ss) (stop fresh ss) (steps-take ss fresh h)

-- the chunks cs, taken in by the steps ss, and the end of input
pub whole-session : (cs : List (List ℕ)) (ss : List Step) → Steps fresh ss → input ss ≡ joined cs
    → output ss ++ closing (stop fresh ss) ≡ session (joined cs)
whole-session cs ss h e = steps_close ss h ∙ ap session e
