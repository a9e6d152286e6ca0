-- Encoded calls are typed as the ledger's laws ask: a part of a run of bytes is of bytes, and no message number is above the highest.
-- Assumes nothing.
use Prim.Native.Nat.{ℕ, zero, suc}
use mathlib.Core.List.{List}
use mathlib.Core.Bool.{Bool, true, false, cond}
use mathlib.Core.Option.{Option, none, some}
use native.Mathlib.Nat.{min-le_right}
use lib.ListN.{get_or, drop}
use lib.Dec.{eqb}
use Rattle.layout.specs.RowLaws.{Bytes}
use Rattle.layout.proofs.At.{bytes_drop}
use Rattle.layout.proofs.Front.{bytes_take}
use Rattle.ledger.specs.Call.{Call}
use Rattle.calls_step.specs.Legal.{Typed}
use Rattle.calls_step.specs.Replay.{AllTyped}
use Rattle.calls_step.specs.Proved.{HIGHEST}
use Rattle.calls_code.specs.Encoding as encoding
use Rattle.calls_code.specs.Encoding.{RESTORE, OPEN, COVER, CONTAINS, COVERS, TAKE, STATEMENT, WRITE, call_in, followed_by, calls_from}

abbrev TypedAs : Option Call → Type 0
TypedAs none = Unit {0}
TypedAs (some c) = Typed HIGHEST c

record TypedIf (x : Option Call) : Type 0 where
  is : TypedAs x

either : (b : Bool) {x y : Option Call} → TypedIf x → TypedIf y → TypedIf (cond b x y)
either true p q = p
either false p q = q

module _ (run records : List ℕ) (bytes : Bytes run) where
  typed_call : (numbers : List ℕ) → TypedIf (call_in run records numbers)
  unfolding encoding.call_as
  typed_call numbers =
      let code = get_or numbers 0 0 in
      let a = get_or numbers 1 0 in
      let b = get_or numbers 2 0 in
      either (eqb code RESTORE) (record { is = bytes_take b (drop a run) (bytes_drop a run bytes) })
      (either (eqb code OPEN) (record { is = tt })
      (either (eqb code COVER) (record { is = min-le_right b HIGHEST })
      (either (eqb code CONTAINS) (record { is = tt })
      (either (eqb code COVERS) (record { is = tt })
      (either (eqb code TAKE) (record { is = tt })
      (either (eqb code STATEMENT) (record { is = tt })
      (either (eqb code WRITE) (record { is = tt }) (record { is = tt }))))))))

  followed : (x : Option Call) (cs : List Call) → TypedAs x → AllTyped HIGHEST cs → AllTyped HIGHEST (followed_by x cs)
  followed none cs t ts = tt
  followed (some c) cs t ts = (t, ts)

  pub typed-calls : (most : ℕ) (numbers : List ℕ) → AllTyped HIGHEST (calls_from most run records numbers)
  unfolding encoding.calls_from
  typed-calls zero numbers = tt
  typed-calls (suc most) numbers = followed (call_in run records numbers) (calls_from most run records (drop 6 numbers)) (typed_call numbers).is (typed-calls most (drop 6 numbers))
