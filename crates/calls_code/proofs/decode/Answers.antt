-- `calls_code::decode` meets its contract: of a code that is none of them, there is no call.
-- Assumes nothing.
use native.Mathlib.Omega.{arith}
use Rattle.calls_code.proofs.Codes.{by-no-code}
use Rattle.calls_code.proofs.decode.Goals as goal

pub returns-in_default : goal.returns-in_default
returns-in_default c =
    λ run records.
    by-no-code run records c.args.six.now c.number_at-code.ensures (λ e. omega (arith, e)) (λ e. omega (arith, e)) (λ e. omega (arith, e)) (λ e. omega (arith, e)) (λ e. omega (arith, e))
    (λ e. omega (arith, e)) (λ e. omega (arith, e)) (λ e. omega (arith, e))
