-- What reading a contact row into lent lists, and writing it again, leaves. Of the other rows it is `writes`, of the row itself.
-- Assumes nothing.
use Rattle.std.specs.Prelude.{ℕ, List, ◌++◌, cond, length, drop, leb}
use Rattle.layout.specs.Questions.{LISTS, OUTPUT}
use Rattle.layout.specs.Layout.{Answer, accepted, refused_by, read_row}
use Rattle.layout.specs.Write.{Written, wrote, refuses}
use Rattle.rows.specs.Values as value
use Rattle.rows.specs.Rows.{contact}
use Rattle.contact.specs.Contact.{Lists, long_enough, filled}

-- the answer, and what is lent, whole
pub record Left : Type 0 where
  pub answer : Written
  pub lists : Lists
  pub out : List ℕ

abbrev pub leaves : Written → Lists → List ℕ → Left
leaves answer lists out = record { answer = answer; lists = lists; out = out }

-- what reading asks, then 36, then 40; a refusal changes neither the lists nor the output
abbrev pub rewritten : Answer value.Contact → List ℕ → Lists → List ℕ → Left
rewritten (accepted v) row l out =
    cond (long_enough v l)
    (cond (leb (length row) (length out))
    (leaves (wrote (length row)) (filled v l) (row ++ drop (length row) out))
    (leaves (refuses OUTPUT) l out))
    (leaves (refuses LISTS) l out)
rewritten (refused_by q) row l out = leaves (refuses q) l out

unfoldable pub rewrites : ℕ → List ℕ → Lists → List ℕ → Left
rewrites version row l out = rewritten (read_row (contact version) row) row l out

-- ---- on the way: the refusal where the row has no room
abbrev pub without_room : Answer value.Contact → Lists → ℕ
without_room (accepted v) l = cond (long_enough v l) OUTPUT LISTS
without_room (refused_by q) l = q
