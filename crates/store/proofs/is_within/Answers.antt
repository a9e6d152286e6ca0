-- `store::is_within` meets its contract: where the length is within the run, the start may be at most what is left.
use Prim.Native.Nat.{ℕ, ◌+◌, ◌-◌, ◌≤◌, ◌<◌}
use mathlib.Core.Path.{◌≡◌}
use mathlib.Core.Bool.{false}
use native.Mathlib.Omega.{arith}
use lib.Dec.{leb, leb→le, le→leb}
use borrow.Author.Rules.{rules}
use Rattle.store.proofs.Tests.{same}
use Rattle.store.proofs.is_within.Goals as goal

fits : (start len size : ℕ) → len ≤ size → leb start (size - len) ≡ leb (start + len) size
fits start len size h = same (leb start (size - len)) (leb (start + len) size)
    (λ t. let x = leb→le start (size - len) t in le→leb (start + len) size (omega arith))
    (λ t. let x = leb→le (start + len) size t in le→leb start (size - len) (omega arith))

over : (start len size : ℕ) → size < len → false ≡ leb (start + len) size
over start len size h = same false (leb (start + len) size) (λ t. absurd t) (λ t. let x = leb→le (start + len) size t in absurd (omega arith))

pub returns-then-size-e : goal.returns-then-size-e
returns-then-size-e c = search (rules, over)

pub returns : goal.returns
returns c = search (rules, fits)
