-- `contact_checks::current_at` meets its contract.
use native.Mathlib.Omega.{arith}
use Rattle.contact_checks.proofs.Chains.{superseded-at, current-at}
use Rattle.contact_checks.proofs.current_at.Goals as goal

pub returns-then-bytes-at-eq1 : goal.returns-then-bytes-at-eq1
returns-then-bytes-at-eq1 c = let a = c.args in (rw (superseded-at a.bytes.now a.at c.if-bytes-at-eq1.true), omega arith)

pub returns-else-bytes-at-eq1 : goal.returns-else-bytes-at-eq1
returns-else-bytes-at-eq1 c = let a = c.args in (rw (current-at a.bytes.now a.at c.if-bytes-at-eq1.false), omega arith)
