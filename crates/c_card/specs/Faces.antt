-- What the functions for Rust and C answer, and what they leave in what is lent to them: the definitions of reading and writing, and how an answer is said.
-- Assumes nothing.
use Rattle.std.specs.Prelude.{ℕ, List, [], ◌∷◌}
use Rattle.layout.specs.Form.{flag_byte, leb128, leb_print}
use Rattle.layout.specs.Field.{Field, takes, read_at}
use Rattle.layout.specs.Field as field
use Rattle.layout.specs.Layout.{Answer, accepted, refused_by, read_row, print}
use Rattle.layout.specs.Write.{Written, wrote, refuses, Left, stored}
use Rattle.rows.specs.Utf8.{utf8}
use Rattle.rows.specs.Values.{Card}
use Rattle.rows.specs.Rows.{card_row}
use Rattle.c_card.specs.declared.WriteAnswer.{WriteAnswer}

-- what is answered, and the lent list whole
pub record Leaves (A : Type 0) : Type 0 where
  pub answer : A
  pub lent : List ℕ

abbrev pub leaves : {A : Type 0} → A → List ℕ → Leaves A
leaves answer lent = record { answer = answer; lent = lent }

-- ---- answers
-- 0 where the call is granted, the question's number otherwise
abbrev pub zero_or : Written → ℕ
zero_or (wrote n) = 0
zero_or (refuses q) = q

-- 0 and the length where the call is granted, the question's number otherwise
abbrev pub length_or : Written → WriteAnswer
length_or (wrote n) = record { length = n; number = 0 }
length_or (refuses q) = record { length = 0; number = q }

abbrev pub shown : {A : Type 0} → (Written → A) → Left → Leaves A
shown say left = leaves (say left.answer) left.out

-- ---- LEB128 read: the value, and how many bytes it took
abbrev pub numbers : Field ℕ → List ℕ → Left
numbers (takes value taken) lent = stored (value ∷ taken ∷ []) lent
numbers (field.refuses q) lent = record { answer = refuses q; out = lent }

unfoldable pub read_leb128 : List ℕ → List ℕ → Leaves ℕ
read_leb128 input lent = shown zero_or (numbers (read_at leb128 input 0) lent)

-- ---- LEB128 written
unfoldable pub write_leb128 : ℕ → List ℕ → Leaves WriteAnswer
write_leb128 value out = shown length_or (stored (leb_print 4 value) out)

-- ---- UTF-8: 1 yes, 0 no
abbrev pub is_utf8 : List ℕ → ℕ
is_utf8 name = flag_byte (utf8 name)

-- ---- a card read, and written again
abbrev pub again : Answer Card → List ℕ → Left
again (accepted card) out = stored (print card_row card) out
again (refused_by q) out = record { answer = refuses q; out = out }

unfoldable pub rewrite_card : List ℕ → List ℕ → Leaves ℕ
rewrite_card input out = shown zero_or (again (read_row card_row input) out)
