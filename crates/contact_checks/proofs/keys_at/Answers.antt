-- `contact_checks::keys_at` meets its contract: the first places of the bytes from `first` on.
use Rattle.std.proofs.Common.{◌≤◌, sym, length}
use lib.Seq.{length-take-le}
use Rattle.contact_checks.proofs.Keys.{places-fit, places-read}
use Rattle.contact_checks.proofs.keys_at.Goals as goal
use Rattle.contact_checks.proofs.keys_at.Goals.{After-as_chunks}

fits : (c : After-as_chunks) → c.args.count ≤ length c.as_chunks.result.0.now
fits c = rw c.as_chunks.ensures.front_len (places-fit c.args.bytes.now c.args.first c.args.count c.requires)

pub slice_bounds-result-end : goal.slice_bounds-result-end
slice_bounds-result-end c = sym (length-take-le c.args.count c.as_chunks.result.0.now (fits (goal.at.slice_bounds-result-end c).After-as_chunks))

pub returns : goal.returns
returns c = rw c.as_chunks.ensures.front (places-read c.args.bytes.now c.args.first c.args.count c.requires)
