-- What the functions on contact rows for Rust and C answer, and what they leave in what is lent to them.
-- Assumes nothing.
use Rattle.std.specs.Prelude.{ℕ, List}
use Rattle.layout.specs.Layout.{Answer, accepted, refused_by, read_row}
use Rattle.rows.specs.Rows.{contact}
use Rattle.c_card.specs.Faces.{zero_or}
use Rattle.contact.specs.Contact.{Lists}
use Rattle.rewrite.specs.Rewrite.{Left}

-- ---- a row checked
abbrev pub number_of : {A : Type 0} → Answer A → ℕ
number_of (accepted v) = 0
number_of (refused_by q) = q

unfoldable pub check_number : ℕ → List ℕ → ℕ
check_number version row = number_of (read_row (contact version) row)

-- ---- a row read, and written again
-- the number answered, and what is lent, whole
pub record Leaves : Type 0 where
  pub number : ℕ
  pub lists : Lists
  pub out : List ℕ

abbrev pub leaves : ℕ → Lists → List ℕ → Leaves
leaves number lists out = record { number = number; lists = lists; out = out }

abbrev pub shown : Left → Leaves
shown left = leaves (zero_or left.answer) left.lists left.out
