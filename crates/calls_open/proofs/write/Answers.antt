-- `calls_open::write` meets its contract: the row, and what its writer answers.
-- Assumes nothing.
use mathlib.Core.Path.{◌≡◌, ap, ◌∙◌}
use Rattle.std.proofs.Common.{rules}
use Rattle.layout.specs.Says.{answers, written_says}
use Rattle.layout.specs.Write.{Left}
use Rattle.calls_open.specs.declared.Answer.TheVariants.{Wrote}
use Rattle.calls_open.specs.Calls.{left, row_says}
use Rattle.calls_open.proofs.Made.{mapped}
use Rattle.calls_open.proofs.write.Goals as goal

pub returns : goal.returns
returns c =
    let a = c.args in
    let row = c.write_contact-written.ensures in
    let said : answers c.map.result ≡ row_says (written_says c.write_contact-written.result) = mapped Wrote c.write_contact-written.result c.map.result (λ n a m. search rules) c.map.ensures.cases in
    record {
      answer = c.answered.ensures ∙ ap (left a.contact a.mark) (said ∙ ap (λ (w : Left). row_says w.answer) row);
      output = ap (λ (w : Left). w.out) row;
    }
