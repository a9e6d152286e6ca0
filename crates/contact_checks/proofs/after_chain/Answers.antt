-- `contact_checks::after_chain` meets its contract.
use Prim.Native.Nat.{ℕ, ◌+◌}
use mathlib.Core.Path.{sym, ap}
use native.Mathlib.Omega.{arith}
use Rattle.contact_checks.proofs.Chains.{width-padded, width-superseded, width-current, width-least}
use Rattle.contact_checks.proofs.after_chain.Goals as goal

pub returns-then-padded : goal.returns-then-padded
returns-then-padded c =
    let a = c.args in ap (λ (w : ℕ). a.at + w) (sym (width-padded a.bytes.now a.at a.padded c.if-padded.true))

pub bounds-bytes-at : goal.bounds-bytes-at
bounds-bytes-at c = let a = c.args in omega (arith, width-least a.bytes.now a.at a.padded)

pub returns-then-bytes-at-eq1 : goal.returns-then-bytes-at-eq1
returns-then-bytes-at-eq1 c =
    let a = c.args in ap (λ (w : ℕ). a.at + w) (sym (width-superseded a.bytes.now a.at a.padded c.if-bytes-at-eq1.true))

pub returns : goal.returns
returns c =
    let a = c.args in ap (λ (w : ℕ). a.at + w) (sym (width-current a.bytes.now a.at a.padded c.if-padded.false c.if-bytes-at-eq1.false))
