-- `ascii::hex` meets its contract: its tests are those of the definition; the room is compared by halves, so that nothing overflows.
-- Assumes nothing.
use Prim.Native.Nat.{◌≤◌}
use mathlib.Core.Path.{◌≡◌}
use native.Mathlib.Omega.{arith}
use lib.ListN.{length}
use borrow.Author.Tests.{ne_eqb}
use Rattle.layout.proofs.Write.{stored_short, stored_row}
use Rattle.put.proofs.Put.{put_front}
use Rattle.ascii.specs.Hex.{pairs_of}
use Rattle.ascii.proofs.Pairs.{length_pairs}
use Rattle.ascii.proofs.hex.Goals as goal

pub returns-then-out-bytes : goal.returns-then-out-bytes
returns-then-out-bytes c =
    let bytes = c.args.bytes.now in
    rw (ne_eqb _ 0 c.if-bytes-eq0.false, stored_short (pairs_of bytes) c.args.out.now (omega (arith, length_pairs bytes)))

pub returns : goal.returns
returns c =
    let text = pairs_of c.args.bytes.now in
    let room : length text ≤ length c.args.out.now = omega (arith, length_pairs c.args.bytes.now) in
    let long : c.put_pairs.result ≡ length text = omega (arith, c.put_pairs.ensures.1.next-is) in
    rw (ne_eqb _ 0 c.if-bytes-eq0.false, stored_row text c.args.out.now room, long, c.put_pairs.ensures.1.now-is, put_front c.args.out.now text room)
