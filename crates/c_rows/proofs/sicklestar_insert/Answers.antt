-- `c_rows::sicklestar_insert` meets its contract: where the answer has no room `plan` says which question refuses, else `insert` and `put_change` leave what the definition has.
use Rattle.c_rows.proofs.Cover.{refused, kept, short, granted}
use Rattle.c_rows.proofs.sicklestar_insert.Goals as goal

pub returns-in-Ok : goal.returns-in-Ok
returns-in-Ok c = rw (c.from.ensures, c.number.ensures) (short _ _ _ _ _ _ c.in-Ok.ensures c.if-answer-lt-PLACES.true)

pub returns-in-Err : goal.returns-in-Err
returns-in-Err c = rw (c.from-in-Err.ensures, c.number-in-Err.ensures) (refused _ _ _ _ _ _ c.in-Err.ensures)

-- what `insert` answers, and the list afterwards
pub returns-in-Ok-insert : goal.returns-in-Ok-insert
returns-in-Ok-insert c =
    let e = c.in-Ok-insert.ensures in
    rw e.above_after (granted _ _ _ _ _ _ e.value c.put_change.ensures)

pub returns-in-Err-insert : goal.returns-in-Err-insert
returns-in-Err-insert c =
    let e = c.in-Err-insert.ensures in
    rw (c.from-in-Err-insert.ensures, c.number-in-Err-insert.ensures, e.above_after) (kept _ _ _ _ _ _ e.value)
