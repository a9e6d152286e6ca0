-- `card::length_of` meets its contract: the name, and behind it the key where KCI is set.
use native.Mathlib.Nat.{add-zero}
use borrow.Author.Tests.{eq-eqb, ne_eqb}
use Rattle.card.proofs.length_of.Goals as goal

pub returns-then-caps-eq1 : goal.returns-then-caps-eq1
returns-then-caps-eq1 c = rw (eq-eqb _ _ c.if-caps-eq1.true, c.from-name_end.ensures)

pub returns : goal.returns
returns c = rw (ne_eqb _ _ c.if-caps-eq1.false, add-zero, c.from-name_end.ensures)
