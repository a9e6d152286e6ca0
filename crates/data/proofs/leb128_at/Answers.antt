-- `data::leb128_at` meets its contract: each way out of a turn is one of the laws of `Reading`.
use Rattle.std.proofs.Common.{arith, rules, ◌<◌}
use Rattle.data.proofs.Leb.{bytes-end, too-high, zero-last, number-ends, goes_on, refused-there, taken-there}
use Rattle.data.proofs.leb128_at.Goals as goal
use Rattle.data.proofs.leb128_at.Goals.{then-i-eq4, else-i-eq4, then-i-gt0, else-i-gt0, then-byte-gt15-via-then-byte-gt15, then-byte-gt15-via-else-byte-gt15+then-byte-eq0}

pub returns-then-byte-gt15 : goal.returns-then-byte-gt15
returns-then-byte-gt15 c =
    refused-there _ _ c.min-start.ensures (elim c.then-byte-gt15.branch [
      | then-byte-gt15-via-then-byte-gt15 w ↦ too-high c.loop-i.invariant c.loop-i-test.true (elim c.if-i-eq4.branch [ then-i-eq4 v ↦ search rules | else-i-eq4 v ↦ search rules ]) (elim c.if-i-eq4.branch [ then-i-eq4 v ↦ search rules | else-i-eq4 v ↦ search rules ])
      | then-byte-gt15-via-else-byte-gt15+then-byte-eq0 w ↦ zero-last c.loop-i.invariant c.loop-i-test.true (elim w.if-i-gt0.branch [ then-i-gt0 v ↦ search rules | else-i-gt0 v ↦ search rules ]) (elim w.if-i-gt0.branch [ then-i-gt0 v ↦ search rules | else-i-gt0 v ↦ search rules ])
    ])

pub returns-then-byte-lt128 : goal.returns-then-byte-lt128
returns-then-byte-lt128 c =
    taken-there _ _ c.min-start.ensures c.loop-i-test.true (number-ends c.loop-i.invariant c.loop-i-test.true c.from.ensures
    (λ e. elim c.if-i-eq4.branch [ then-i-eq4 v ↦ search rules | else-i-eq4 v ↦ search rules ])
    (λ l e. elim c.if-i-gt0.branch [ then-i-gt0 v ↦ search rules | else-i-gt0 v ↦ search rules ])
    c.if-byte-lt128.true)

pub loop-i-preserved : goal.loop-i-preserved
loop-i-preserved c =
    let more : c.loop-i.i < 4 = elim c.if-i-eq4.branch [ then-i-eq4 v ↦ search rules | else-i-eq4 v ↦ omega (arith, c.loop-i.invariant.few, v.if-i-eq4.false) ] in
    goes_on c.loop-i.invariant c.loop-i-test.true c.from.ensures (omega arith) c.if-byte-lt128.false

pub returns : goal.returns
returns c = refused-there _ _ c.min-start.ensures (bytes-end c.loop-i.invariant c.loop-i-test.false)
