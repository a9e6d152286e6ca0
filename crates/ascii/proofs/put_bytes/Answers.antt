-- `ascii::put_bytes` meets its contract: a turn of its loop stores the byte of a pair.
use Rattle.std.proofs.Common.{◌≡◌, ◌+◌, ◌*◌, ◌<◌, length, get_or, arith}
use Rattle.put.proofs.Put.{bytes-turn, bytes-end}
use Rattle.ascii.specs.Hex.{hex_value, unpaired}
use Rattle.ascii.proofs.Blobs.{hex-at, pair-of, length-unpaired, unpaired-at}
use Rattle.ascii.proofs.put_bytes.Goals as goal
use Rattle.ascii.proofs.put_bytes.Goals.{After-hex_value, After-hex_value-in-loop-i}

high : (c : After-hex_value) → (c.hex_value.result ≡ hex_value (get_or c.args.text.now (2 * c.loop-i.i) 0)) × (c.hex_value.result < 16)
high c = (rw (pair-of c.args.text.now _ c.loop-i.i c.as_chunks.ensures.front (omega arith)) at c.hex_value.ensures) (hex-at c.args.text.now (2 * c.loop-i.i) c.requires.0 (omega arith))

low : (c : After-hex_value-in-loop-i) → (c.hex_value-in-loop-i.result ≡ hex_value (get_or c.args.text.now (2 * c.loop-i.i + 1) 0)) × (c.hex_value-in-loop-i.result < 16)
low c = (rw (pair-of c.args.text.now _ c.loop-i.i c.as_chunks.ensures.front (omega arith)) at c.hex_value-in-loop-i.ensures) (hex-at c.args.text.now (2 * c.loop-i.i + 1) c.requires.0 (omega arith))

pub overflow_mul-out : goal.overflow_mul-out
overflow_mul-out c = omega (arith, (high c).1)

pub overflow_add-out : goal.overflow_add-out
overflow_add-out c = omega (arith, (high (goal.at.overflow_add-out c).After-hex_value).1, (low c).1)

pub loop-i-preserved : goal.loop-i-preserved
loop-i-preserved c =
    let text = c.args.text.now in
    let h : c.loop-i.i < length (unpaired text) = omega (arith, length-unpaired text) in
    let e = rw (← (high (goal.at.loop-i-preserved c).After-hex_value).0, ← (low (goal.at.loop-i-preserved c).After-hex_value-in-loop-i).0) at (unpaired-at text c.loop-i.i h) in
    bytes-turn _ _ _ c.loop-i.i h e c.loop-i.invariant

pub returns : goal.returns
returns c =
    let text = c.args.text.now in
    let all : c.loop-i.i ≡ length c.as_chunks.result.0.now = omega arith in
    (omega arith, bytes-end _ _ _ (length c.as_chunks.result.0.now) (omega (arith, length-unpaired text)) (rw all at c.loop-i.invariant))
