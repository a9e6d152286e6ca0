-- Ledgers and accounts of two runs that are alike.
-- Assumes nothing.
use Prim.Native.Nat.{ℕ}
use mathlib.Core.List.{List, []}
use mathlib.Core.Bool.{Bool, true, false, cond, true≢false}
use mathlib.Core.Path.{◌≡◌}
use lib.ListN.{length}
use Rattle.ledger.specs.Call.{Answer, granted, advanced, truth, number, wrote, said, refused, refused_at}
use Rattle.ledger.specs.Ledger.{Ledger, Account, plain}
use Rattle.calls_step.specs.Two.{RowsAlike, LedgersAlike}

-- a row is written where the answer is a length
abbrev pub OutputsAlike : Answer → (out out' : List ℕ) → Type 0
OutputsAlike (wrote n) out out' = (n ≡ length out) × RowsAlike out out'
OutputsAlike granted out out' = Unit {0}
OutputsAlike (advanced b n) out out' = Unit {0}
OutputsAlike (truth b) out out' = Unit {0}
OutputsAlike (number n) out out' = Unit {0}
OutputsAlike (said n line) out out' = Unit {0}
OutputsAlike (refused q) out out' = Unit {0}
OutputsAlike (refused_at q i) out out' = Unit {0}

abbrev is_row : Answer → Bool
is_row (wrote n) = true
is_row granted = false
is_row (advanced b n) = false
is_row (truth b) = false
is_row (number n) = false
is_row (said n line) = false
is_row (refused q) = false
is_row (refused_at q i) = false

no_row : (a : Answer) → is_row a ≡ false → (out out' : List ℕ) → OutputsAlike a out out'
no_row granted e out out' = tt
no_row (advanced b n) e out out' = tt
no_row (truth b) e out out' = tt
no_row (number n) e out out' = tt
no_row (wrote n) e out out' = absurd (true≢false e)
no_row (said n line) e out out' = tt
no_row (refused q) e out out' = tt
no_row (refused_at q i) e out out' = tt

module _ (N : ℕ) where
  pub record AccountsAlike (a a' : Account) : Type 0 where
    pub answer : a.answer ≡ a'.answer
    pub state : LedgersAlike N a.state a'.state
    pub output : OutputsAlike a.answer a.output a'.output

  pub plain-alike : {a a' : Answer} {l l' : Ledger} → a ≡ a' → is_row a ≡ false → LedgersAlike N l l' → AccountsAlike (plain a l) (plain a' l')
  plain-alike {a = a} e r s = record { answer = e; state = s; output = no_row a r [] [] }

  pub cond-alike : (b : Bool) {a a' x x' : Account} → AccountsAlike a a' → AccountsAlike x x' → AccountsAlike (cond b a x) (cond b a' x')
  cond-alike true p q = p
  cond-alike false p q = q
