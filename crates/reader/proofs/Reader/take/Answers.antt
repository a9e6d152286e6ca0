-- `Reader::take` meets its contract: the run lies in the row.
use Rattle.std.proofs.Common.{◌≤◌, length, arith}
use Rattle.layout.specs.Veil.{plain}
use Rattle.layout.specs.Form.{bytes}
use Rattle.reader.proofs.Inside.{ends_inside}
use Rattle.reader.proofs.Reader.take.Goals as goal

pub slice_bounds-result-end : goal.slice_bounds-result-end
slice_bounds-result-end c =
    let inside : c.in_ok-start.next ≤ length c.args.self.now.row.now = ends_inside (bytes plain c.args.length) _ _ c.in_ok-start.ensures.0 in
    omega (arith, inside)
