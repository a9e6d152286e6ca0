-- What the table says of the first word, and the words behind it.
use Rattle.std.proofs.Common.{refl, ◌∙◌}
use Rattle.ascii.specs.Words.{SPACE, parted}
use Rattle.replay_script.proofs.Rows.{found, no-command, other-words, those-words, says-some}
use Rattle.replay_script.proofs.Command.from_line.Goals as goal

pub returns-in_err-command : goal.returns-in_err-command
returns-in_err-command c =
    let said = found _ c.named.ensures refl refl in
    rw (c.from_residual.ensures, ← c.word.ensures) (no-command _ (parted SPACE c.args.line.now) (rw c.in_err-command.was at said))

pub returns-then-marks-count : goal.returns-then-marks-count
returns-then-marks-count c =
    let said = found _ c.named.ensures refl refl in
    let row = c.in_ok-command in
    rw (← c.word.ensures)
    (other-words _ (parted SPACE c.args.line.now) (row.command, row.narrow, row.wide, row.others) (rw row.was at said) c.marks.ensures c.if-marks-count.true)

pub returns : goal.returns
returns c =
    let said = found _ c.named.ensures refl refl in
    let row = c.in_ok-command in
    rw (c.then_some.ensures, ← c.word.ensures)
    (says-some _ _
    ∙ those-words _ (parted SPACE c.args.line.now) (row.command, row.narrow, row.wide, row.others) (rw row.was at said) c.marks.ensures c.if-marks-count.false c.are_decimals.ensures)
