use Rattle.std.proofs.Common.{◌≡◌, ℕ, ◌+◌, ◌-◌, ◌<◌, ◌≤◌, false, length, subst, arith}
use Rattle.scan.specs.Places.{placed}
use Rattle.scan.proofs.Shutting.{Shutting, shut_once, closed-comma, closed_again, closed-over}
use Rattle.reading.specs.Accepting.{Closes}
use Rattle.reading.proofs.Nexts.{goes_on_lem, shuts-there}
use Rattle.reading.proofs.next.closed.Goals.{In-loop-shut}
use Rattle.reading.proofs.next.closed.Goals as goal

-- a list is open
deep : (c : In-loop-shut) → 1 ≤ c.args.depth - c.loop-shut.shut
deep c = omega (arith, c.loop-shut-test.true)

-- so that a character is there to look at
more : (c : In-loop-shut) → c.args.at + c.loop-shut.shut < length c.args.text.now
more c = goes_on_lem c.requires.taken c.requires.said c.loop-shut.invariant (deep c)

pub loop-shut-init : goal.loop-shut-init
loop-shut-init c =
    let a = c.args in
    let place : a.at ≡ a.at + 0 = omega arith in
    let left : a.depth ≡ a.depth - 0 = omega arith in
    subst (λ (d : ℕ). Shutting a.text.now a.depth a.elements a.at d (a.at + 0)) left
    (subst (λ (i : ℕ). Shutting a.text.now a.depth a.elements a.at a.depth i) place (shut_once c.requires.closing))

pub bounds-text-i : goal.bounds-text-i
bounds-text-i c = more (goal.at.bounds-text-i c).In-loop-shut

pub returns-then-text-i-eq44 : goal.returns-then-text-i-eq44
returns-then-text-i-eq44 c =
    let inside = (goal.at.returns-then-text-i-eq44 c).In-loop-shut in
    closed-comma c.loop-shut.invariant (deep inside) (more inside) c.requires.closing.some c.if-text-i-eq44.true

pub loop-shut-preserved : goal.loop-shut-preserved
loop-shut-preserved c =
    let a = c.args in
    let shut = c.loop-shut.shut in
    let inv = c.loop-shut.invariant in
    let inside = (goal.at.loop-shut-preserved c).In-loop-shut in
    let left : a.depth - shut - 1 ≡ a.depth - (shut + 1) = omega arith in
    let place : a.at + shut + 1 ≡ a.at + (shut + 1) = omega arith in
    let there = shuts-there c.requires.taken c.requires.said inv (deep inside) c.if-text-i-eq44.false in
    subst (λ (d : ℕ). Shutting a.text.now a.depth a.elements a.at d (a.at + (shut + 1))) left
    (subst (λ (i : ℕ). Shutting a.text.now a.depth a.elements a.at (a.depth - shut - 1) i) place (closed_again inv (deep inside) (more inside) there))

pub returns : goal.returns
returns c =
    let a = c.args in
    let all : a.at + c.loop-shut.shut ≡ a.at + a.depth = omega (arith, c.loop-shut.auto, c.loop-shut-test.false) in
    subst (λ (i : ℕ). Closes a.text.now a.depth a.elements a.at (placed i 0 a.elements false)) all
    (closed-over c.loop-shut.invariant c.requires.closing.some (omega (arith, c.loop-shut.auto, c.loop-shut-test.false)))
