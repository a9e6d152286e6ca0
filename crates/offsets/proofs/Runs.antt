-- Where a run starts that `run_at` found: at the place that it was asked for. And where a field ends that takes a byte at least.
-- Assumes nothing.
use Prim.Native.Nat.{ℕ, ◌+◌, ◌<◌}
use mathlib.Core.List.{List, []}
use mathlib.Core.Path.{◌≡◌, sym}
use native.Mathlib.Omega.{arith}
use lib.ListN.{length, take, drop}
use borrow.Author.Tests.{lt-leb}
use Rattle.layout.specs.Questions.{FIELD}
use Rattle.layout.specs.Veil.{plain}
use Rattle.layout.specs.Read.{refused}
use Rattle.layout.specs.Form.{Form, bytes}
use Rattle.layout.specs.Field.{takes, read_at}
use Rattle.layout.specs.RowLaws.{Bytes}
use Rattle.layout.proofs.Lawful.{Lawful}
use Rattle.layout.proofs.Front.{bytes-lawful}
use Rattle.layout.proofs.At.{took-next, fits-at}
use Rattle.offsets.proofs.Offset.{not-past}

pub record Run (here : ℕ) (bs : List ℕ) (start next : ℕ) : Type 0 where
  pub starts : start ≡ here
  pub ends : next ≡ here + length bs

pub run-starts : (row : List ℕ) (here n : ℕ) → Bytes row → 0 < n → {start next : ℕ} → takes (take n (drop start row)) next ≡ read_at (bytes plain n) row here → next ≡ start + n
    → Run here (take n (drop start row)) start next
run-starts row here n by some known after =
    let inside = not-past row here (bytes plain n) {q = FIELD} (rw (lt-leb n 0 some)) (sym known) in
    let ends = took-next row here (bytes plain n) (bytes-lawful plain n) by (sym known) inside in
    let long = fits-at row here (bytes plain n) (bytes-lawful plain n) by (sym known) in
    record { starts = omega (arith, ends, long, after); ends = ends }

pub field-ends : {B : Type 0} (row : List ℕ) (here : ℕ) (f : Form B) → Lawful f → Bytes row → {q : ℕ} → f.read [] ≡ refused q → {b : B} {next : ℕ} → takes b next ≡ read_at f row here → next ≡ here + length (f.print b)
field-ends row here f law by empty known = took-next row here f law by (sym known) (not-past row here f empty (sym known))
