-- `calls_open::statement` meets its contract: the line, and what its writer answers.
-- Assumes nothing.
use Prim.Native.Nat.{ℕ, ◌+◌}
use mathlib.Core.Path.{◌≡◌, ap, ◌∙◌}
use Rattle.std.proofs.Common.{rules}
use Rattle.layout.specs.Says.{answers, written_says}
use Rattle.layout.specs.Write.{Left, stored}
use Rattle.store.specs.Line.{line_of}
use Rattle.calls_open.specs.declared.Answer.TheVariants.{Said}
use Rattle.calls_open.specs.Calls.{left, line_says, numbers_in}
use Rattle.calls_open.proofs.Made.{mapped}
use Rattle.calls_open.proofs.statement.Goals as goal

pub returns : goal.returns
returns c =
    let a = c.args in
    let f = a.contact in
    let written = c.statement_line-written.result in
    let gone = c.numbers_in-lost.ensures.0 ∙ ap (λ (n : ℕ). numbers_in (n + 1) f.expired a.expired.now) c.from-acked.ensures in
    let line =
    c.statement_line-written.ensures
    ∙ (λ i. stored (line_of a.id.0 f.sent_msgno f.peer_acked f.contiguous (c.numbers_in-beyond.ensures.0 i) a.queued (gone i)) a.out.now) in
    let said : answers c.map.result ≡ line_says (written_says written) = mapped Said written c.map.result (λ n a m. search rules) c.map.ensures.cases in
    record {
      answer = c.answered.ensures ∙ ap (left f a.mark) (said ∙ ap (λ (w : Left). line_says w.answer) line);
      output = ap (λ (w : Left). w.out) line;
    }
