-- The bytes are fed, there is more where there were some, and nothing where the read failed.
use Rattle.std.proofs.Common.{rules, ap, ◌∙◌, length, take, ℕ, ltb}
use Prim.Native.Nat.{min}
use Rattle.sheet.specs.Machine.{held, fed}
use Rattle.statement.proofs.take_piece.Goals as goal

pub returns : goal.returns
returns c =
    let a = c.args in
    let count = c.min-n.ensures ∙ ap (λ (k : ℕ). min k (length a.chunk.now)) c.unwrap_or.ensures in
    record {
      fed-is = c.read_chunk-next.ensures ∙ ap (λ (m : ℕ). fed (take m a.chunk.now) (held a.state a.run.now a.records.now)) count;
      more-is = ap (ltb 0) count;
      failed-is = search rules;
    }
