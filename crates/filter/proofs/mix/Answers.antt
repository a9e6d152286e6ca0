-- `filter::mix` meets its contract.
use Rattle.std.proofs.Common.{◌≡◌, ◌+◌, ◌*◌, ◌/◌, ◌%◌, ◌^◌}
use Rattle.filter.specs.Filter as filter
use Rattle.filter.proofs.mix.Goals as goal

pub returns : goal.returns
unfolding filter.mixed
returns c = let e : c.wrapping_add_u64-sum.result ≡ ((c.args.n % 4294967296) * 2654435769 + (c.args.n / 4294967296) * 668265263) % 2 ^ 64 = c.wrapping_add_u64-sum.ensures.value in rw e
