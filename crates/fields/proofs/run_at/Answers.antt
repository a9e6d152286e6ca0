-- `fields::run_at` meets its contract: the run lies in the row, or does not; past the row's end it is empty, or is not there.
use Rattle.std.proofs.Common.{◌≡◌, length, arith, inl, inr}
use mathlib.Core.Path.{refl, sym}
use native.Mathlib.Nat.{add-zero}
use Rattle.std.proofs.lemmas.Bool.{cases_lt}
use Rattle.layout.specs.Veil.{plain}
use Rattle.layout.proofs.At.{bytes-in, bytes-none, bytes-out}
use Rattle.fields.proofs.run_at.Goals as goal

pub returns-then-row-start : goal.returns-then-row-start
returns-then-row-start c = (sym (bytes-out _ _ _ plain (omega arith) (omega arith)), tt)

pub returns : goal.returns
returns c = elim (cases_lt (length c.args.row.now) c.args.at) [
  | inl past ↦
      let start : c.min-start.result ≡ length c.args.row.now = omega (arith, c.min-start.ensures) in
      let none : c.args.n ≡ 0 = omega arith in
      (rw (start, none, add-zero) (sym (bytes-none _ _ plain (omega arith))), refl)
  | inr inside ↦
      let start : c.min-start.result ≡ c.args.at = omega (arith, c.min-start.ensures) in
      (rw start (sym (bytes-in _ _ _ plain (omega arith))), refl)
]
