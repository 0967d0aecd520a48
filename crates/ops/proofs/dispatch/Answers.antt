-- `ops::dispatch` meets its contract: what the code names computes once the code is said.
use Rattle.ops.proofs.dispatch.Goals as goal

pub returns-in-Pfa : goal.returns-in-Pfa
returns-in-Pfa c = rw c.in-Pfa.is (c.pfa.ensures _)

pub returns-in-Pfl : goal.returns-in-Pfl
returns-in-Pfl c = rw c.in-Pfl.is (c.pfl.ensures _)

pub returns-in-Decap : goal.returns-in-Decap
returns-in-Decap c = rw c.in-Decap.is (c.decap.ensures _)

pub returns-in-Adv : goal.returns-in-Adv
returns-in-Adv c = rw c.in-Adv.is (c.adv.ensures _)

pub returns-in-Borrow : goal.returns-in-Borrow
returns-in-Borrow c = rw c.in-Borrow.is (c.borrow.ensures _)

pub returns-in-Erase : goal.returns-in-Erase
returns-in-Erase c = rw c.in-Erase.is (c.erase.ensures _ _)

pub returns-in-Inv : goal.returns-in-Inv
returns-in-Inv c = rw c.in-Inv.is (c.inv.ensures _ _)

pub returns-in-Cinv : goal.returns-in-Cinv
returns-in-Cinv c = rw c.in-Cinv.is (c.cinv.ensures _)

pub returns-in-Conc : goal.returns-in-Conc
returns-in-Conc c = rw c.in-Conc.is (c.conc.ensures _)

pub returns-in-First : goal.returns-in-First
returns-in-First c = rw c.in-First.is (c.first.ensures _ _)

pub returns-in-Length : goal.returns-in-Length
returns-in-Length c = rw c.in-Length.is (c.length.ensures _ _)
