-- `contact_lent::chain_len` meets its contract: the flag tells.
use native.Mathlib.Omega.{arith}
use lib.Seq.{get_or-drop}
use borrow.Author.Tests.{ne_eqb}
use Rattle.contact_lent.proofs.chain_len.Goals as goal

pub returns-then-bytes-at-eq1 : goal.returns-then-bytes-at-eq1
returns-then-bytes-at-eq1 c = (rw (get_or-drop, c.if-bytes-at-eq1.true), omega arith)

pub returns-else-bytes-at-eq1 : goal.returns-else-bytes-at-eq1
returns-else-bytes-at-eq1 c = (rw (get_or-drop, ne_eqb _ _ c.if-bytes-at-eq1.false), omega arith)
