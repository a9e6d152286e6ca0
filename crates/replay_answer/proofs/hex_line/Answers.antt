-- `replay_answer::hex_line` meets its contract: its tests are those of the definition; the room is compared by halves, so that nothing overflows.
-- Assumes nothing.
use mathlib.Core.Path.{sym}
use native.Mathlib.Omega.{arith}
use Rattle.ascii.specs.Hex.{pairs_of}
use Rattle.ascii.proofs.Pairs.{length_pairs}
use Rattle.replay_answer.proofs.Lines.{no_room, line-written, as_line, no_bytes, some_bytes}
use Rattle.replay_answer.proofs.hex_line.Goals as goal

pub returns-then-bytes-eq0 : goal.returns-then-bytes-eq0
returns-then-bytes-eq0 c = as_line c.args.out.now (no_bytes c.args.bytes.now c.if-bytes-eq0.true) c.text_line.ensures

pub returns-then-out-lt-AROUND : goal.returns-then-out-lt-AROUND
returns-then-out-lt-AROUND c =
    as_line c.args.out.now (some_bytes c.args.bytes.now c.if-bytes-eq0.false) (sym (no_room c.args.out.now (pairs_of c.args.bytes.now) (omega arith)))

pub returns-then-out-bytes : goal.returns-then-out-bytes
returns-then-out-bytes c =
    as_line c.args.out.now (some_bytes c.args.bytes.now c.if-bytes-eq0.false) (sym (no_room c.args.out.now (pairs_of c.args.bytes.now) (omega (arith, length_pairs c.args.bytes.now))))

pub returns : goal.returns
returns c =
    as_line c.args.out.now (some_bytes c.args.bytes.now c.if-bytes-eq0.false)
    (line-written c.args.out.now (pairs_of c.args.bytes.now) (omega (arith, length_pairs c.args.bytes.now)) c.begin-at.ensures.1 c.put_pairs-end.ensures.1 c.put_byte.ensures.1)
