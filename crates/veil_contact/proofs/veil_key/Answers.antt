-- `veil_contact::veil_key` meets its contract: one writer behind another.
use native.Mathlib.Omega.{arith}
use Rattle.put.proofs.Put.{◌then◌}
use Rattle.veil_contact.proofs.veil_key.Goals as goal

pub returns : goal.returns
returns c =
    (omega arith, c.put_run-key_at.ensures.1 then (c.put_zeros-tail_at.ensures.1 then c.put_run.ensures.1))
