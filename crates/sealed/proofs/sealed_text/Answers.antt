-- `sealed::sealed_text` meets its contract: the part from the position on, or the empty part at the row's end.
-- Assumes nothing.
use Prim.Native.Nat.{◌-◌}
use mathlib.Core.Path.{sym, ◌∙◌}
use native.Mathlib.Omega.{arith}
use lib.ListN.{length, drop, length-drop, drop_of_length-le}
use lib.Seq.{take_all}
use Rattle.sealed.proofs.sealed_text.Goals as goal

pub returns-then-at-len : goal.returns-then-at-len
returns-then-at-len c =
    let a = c.args in
    take_all (length a.row.now - a.at) (drop a.at a.row.now) (simp length-drop (omega arith))

pub returns : goal.returns
returns c =
    let a = c.args in
    let row = a.row.now in
    let whole = take_all (length row - length row) (drop (length row) row) (simp length-drop (omega arith)) in
    whole ∙ drop_of_length-le row {i = length row} (omega arith) ∙ sym (drop_of_length-le row {i = a.at} (omega arith))
