-- What a reader's proof learns from the answer of `run_at`, whatever the field's sensitivity.
-- Assumes nothing.
use Prim.Native.Nat.{ℕ, ◌+◌, ◌≤◌}
use mathlib.Core.List.{List}
use mathlib.Core.Path.{◌≡◌, sym}
use native.Mathlib.Omega.{arith}
use lib.ListN.{length, take, drop}
use Rattle.layout.specs.Read.{refused}
use Rattle.layout.specs.Veil.{Sensitivity, plain}
use Rattle.layout.specs.Form.{bytes}
use Rattle.layout.specs.Field.{takes, refuses, read_at}
use Rattle.layout.specs.RowLaws.{Bytes}
use Rattle.layout.proofs.Front.{bytes-lawful}
use Rattle.layout.proofs.At.{Took, took, refused-at, bytes_next}

module _ (row : List ℕ) (here : ℕ) (s : Sensitivity) (n : ℕ) where
  pub run-took : Bytes row → {bs : List ℕ} {next : ℕ} → read_at (bytes plain n) row here ≡ takes bs next → Took (bytes s n) row here bs next
  run-took by known =
      let t = took row here (bytes plain n) (bytes-lawful plain n) by known in
      record { reads = t.reads; inside = t.inside; onward = t.onward }

  pub run_short : {q : ℕ} → read_at (bytes plain n) row here ≡ refuses q → (bytes s n).read (drop here row) ≡ refused q
  run_short known = refused-at row here (bytes plain n) known

  -- from a position in the row a run stands there, and lies in the row
  pub run-stands : Bytes row → {start next : ℕ} → takes (take n (drop start row)) next ≡ read_at (bytes plain n) row here → next ≡ start + n → here ≤ length row
      → (start ≡ here) × (here + n ≤ length row)
  run-stands by known ends h =
      let t = took row here (bytes plain n) (bytes-lawful plain n) by (sym known) in
      let behind = bytes_next row here n plain by (sym known) h in
      (omega arith, omega (arith, t.inside))
