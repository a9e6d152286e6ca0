-- What the declared values of the code say: the numbers of an answer, and a decoded call.
-- Assumes nothing.
use Rattle.std.specs.Prelude.{ℕ, List, [], ◌∷◌, get_or, Some, None}
use Rattle.std.specs.Prelude as code
use Rattle.std.proofs.Math.Option.{Option, none, some}
use Rattle.ledger.specs.Call.{Call, restore}
use Rattle.calls_dispatch.specs.Dispatch.{call_of}
use Rattle.calls_code.specs.declared.Numbers.{Numbers}
use Rattle.calls_code.specs.declared.Decoded.{Decoded}
use Rattle.calls_code.specs.declared.Decoded.TheVariants as decoded
use Rattle.calls_code.specs.Encoding.{run_at, entries_at}

abbrev pub six : Numbers → List ℕ
six n = n.tag ∷ n.a ∷ n.b ∷ n.c ∷ n.d ∷ n.e ∷ []

abbrev pub numbers_as : (tag a b : ℕ) → Numbers
numbers_as tag a b = record { tag = tag; a = a; b = b; c = 0; d = 0; e = 0 }

-- the restore that six numbers say
abbrev pub restore_in : (run records six : List ℕ) → Call
restore_in run records six = restore (run_at (get_or six 1 0) (get_or six 2 0) run) (entries_at (get_or six 3 0) (get_or six 4 0) records)

-- the call that was decoded, if there is one
abbrev pub decoded_as : code.Option Decoded → (run records six : List ℕ) → Option Call
decoded_as None run records six = none
decoded_as (Some decoded.Restore) run records six = some (restore_in run records six)
decoded_as (Some (decoded.Made c)) run records six = some (call_of c)
