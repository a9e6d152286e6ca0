-- `veil_contact::card_tail` meets its contract.
use native.Mathlib.Omega.{arith}
use borrow.Author.Tests.{eq-eqb, ne_eqb}
use Rattle.veil_contact.proofs.card_tail.Goals as goal

pub returns-then-card-eq1 : goal.returns-then-card-eq1
returns-then-card-eq1 c = rw (eq-eqb _ _ c.if-card-eq1.true) (omega arith)

pub returns : goal.returns
returns c = rw (ne_eqb _ _ c.if-card-eq1.false) (omega arith)
