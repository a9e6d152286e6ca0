-- `fields::number_at` meets its contract: a number is what its bytes are.
use Rattle.std.proofs.Common.{rules, ◌≡◌, ℕ, ◌-◌, List, Err, length, take, drop, arith}
use mathlib.Core.Path.{refl, sym, ap, ◌∙◌}
use lib.ListN.{length-drop}
use lib.Seq.{length-take-le}
use Rattle.layout.specs.Veil.{plain}
use Rattle.layout.specs.Form.{big_endian, bytes}
use Rattle.layout.proofs.Front.{bytes-lawful}
use Rattle.layout.proofs.At.{typed, Took, took}
use Rattle.fields.proofs.Codes.{number_is, number-of}
use Rattle.fields.proofs.number_at.Goals as goal
use Rattle.fields.proofs.number_at.Goals.{In_ok-start}

pub returns-in_err-start : goal.returns-in_err-start
returns-in_err-start c =
    let no : c.from_residual.result ≡ Err c.in_err-start.field-0.0 = search rules in
    rw no (ap (number-of c.args.w) c.in_err-start.ensures.0 ∙ sym (number_is _ _ _))

-- the run's bytes lie in the row
run : (c : In_ok-start) → Took (bytes plain c.args.w) c.args.row.now c.args.at (take c.args.w (drop c.in_ok-start.start c.args.row.now)) c.in_ok-start.next
run c = took c.args.row.now c.args.at (bytes plain c.args.w) (bytes-lawful plain c.args.w) (typed c.args.row.now c.type_inv.row) (sym c.in_ok-start.ensures.0)

pub slice_bounds-big_endian-end : goal.slice_bounds-big_endian-end
slice_bounds-big_endian-end c = omega (arith, (run (goal.at.slice_bounds-big_endian-end c).In_ok-start).inside)

pub returns : goal.returns
returns c =
    let row : List ℕ = c.args.row.now in
    let start : ℕ = c.in_ok-start.start in
    let w : ℕ = c.args.w in
    let long : c.in_ok-start.next - start ≡ w = omega (arith, c.in_ok-start.ensures.1) in
    let whole : length (take w (drop start row)) ≡ w = length-take-le w (drop start row) (rw length-drop (omega (arith, c.in_ok-start.ensures.1, (run (goal.at.returns c).In_ok-start).inside))) in
    let taken : c.big_endian.result ≡ big_endian w (take w (drop start row)) = c.big_endian.ensures ∙ rw (long, whole) refl in
    rw taken (ap (number-of w) c.in_ok-start.ensures.0 ∙ sym (number_is row c.args.at w))
