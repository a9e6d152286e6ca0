-- `ascii::put_pairs` meets its contract: a turn of its loop stores the two digits of a byte.
use Rattle.std.proofs.Common.{◌≡◌, ◌+◌, ◌*◌, length, refl, sym, ◌∙◌, arith}
use Rattle.put.proofs.Put.{bytes-turn, bytes-end}
use Rattle.ascii.proofs.Pairs.{length_pairs, high_digit, low_digit}
use Rattle.ascii.proofs.put_pairs.Goals as goal

pub loop-i-preserved : goal.loop-i-preserved
loop-i-preserved c =
    let bytes = c.args.bytes.now in
    let i = c.loop-i.i in
    let long = length_pairs bytes in
    let high = bytes-turn _ _ _ (2 * i) (omega arith) (high_digit bytes i (omega arith) ∙ sym c.hex_digit.ensures) c.loop-i.invariant in
    let low = bytes-turn _ _ _ (2 * i + 1) (omega arith) (low_digit bytes i (omega arith) ∙ sym c.hex_digit-in-loop-i.ensures) high in
    let place : c.args.at + 2 * i + 1 ≡ c.args.at + (2 * i + 1) = omega arith in
    let next : 2 * (i + 1) ≡ 2 * i + 1 + 1 = omega arith in
    rw (place, next) low

pub returns : goal.returns
returns c =
    let bytes = c.args.bytes.now in
    let all : c.loop-i.i ≡ length bytes = omega arith in
    (refl, bytes-end _ _ _ (2 * length bytes) (length_pairs bytes) (rw all at c.loop-i.invariant))
