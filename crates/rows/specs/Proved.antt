-- What is proved of the definitions (proofs/Proved.antt).
-- Assumes nothing.
use Rattle.std.specs.Prelude.{ℕ, ◌≡◌}
use Rattle.layout.specs.declared.question.Question.{Question}
use Rattle.layout.specs.Questions.{number_of}
use Rattle.layout.specs.Layout.{Layout}
use Rattle.layout.specs.RowLaws.{RowLaws, VeilLaws}
use Rattle.layout.specs.Dwarf.{LebLaws}
use Rattle.layout.specs.Width.{WidthLaws}
use Rattle.rows.specs.Scalars.{Utf8Laws}
use Rattle.rows.specs.Meets.{MeetsLaws}
use Rattle.rows.specs.Rows.{device, card_row, contact, queued, courier}

-- of a row: read and write undo each other, one reading, and what is hidden does not show
pub record Row {A : Type 0} (l : Layout A) : Type 0 where
  pub laws : RowLaws l
  pub veil : VeilLaws l

pub record Proved : Type 0 where
  pub device : (version : ℕ) → Row (device version)
  pub card : Row card_row
  pub contact : (version : ℕ) → Row (contact version)
  pub queued : (version : ℕ) → Row (queued version)
  pub courier : (version : ℕ) → Row (courier version)
  -- a layout's questions, as statements in which none comes first
  pub meets : MeetsLaws
  -- no two questions have one number
  pub one-question : (a b : Question) → number_of a ≡ number_of b → a ≡ b
  -- numbers of every width, LEB128, UTF-8
  pub widths : (w : ℕ) → WidthLaws w
  pub leb128 : LebLaws
  pub utf8 : Utf8Laws
