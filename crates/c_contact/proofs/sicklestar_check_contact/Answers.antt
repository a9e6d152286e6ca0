-- `c_contact::sicklestar_check_contact` meets its contract: the number of the verdict.
use mathlib.Core.Path.{ap, ◌∙◌}
use Rattle.layout.specs.Layout.{read_row}
use Rattle.rows.specs.Rows.{contact}
use Rattle.c_contact.specs.Faces.{number_of, check_number}
use Rattle.c_contact.proofs.Answers.{numbered}
use Rattle.c_contact.proofs.sicklestar_check_contact.Goals as goal

pub returns-in-Ok : goal.returns-in-Ok
unfolding check_number
returns-in-Ok c = ap number_of c.in-Ok.ensures ∙ numbered (read_row (contact c.args.version) c.args.row.now)

pub returns-in-Err : goal.returns-in-Err
unfolding check_number
returns-in-Err c = rw (c.from.ensures, c.number.ensures) (ap number_of c.in-Err.ensures ∙ numbered (read_row (contact c.args.version) c.args.row.now))
