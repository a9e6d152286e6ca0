-- What a cursor's answers say, and those about a range and about where an item ends.
-- Assumes nothing.
use Rattle.std.specs.Prelude.{ℕ, ◌≡◌, Result, Ok, Err}
use Rattle.layout.specs.declared.question.Question.{Question}
use Rattle.layout.specs.Questions.{number_of}
use Rattle.layout.specs.Field.{Field, takes, refuses}
use Rattle.layout.specs.Says.{field_says}
use Rattle.rows.specs.Values.{Range}
use Rattle.reader.specs.declared.Reader.{Reader}

-- a cursor took what stands for `f` of its answer, and is left at `next`
module _ {A B : Type 0} (f : A → B) where
  abbrev pub taken_as : Result A Question → ℕ → Field B
  taken_as (Ok a) next = takes (f a) next
  taken_as (Err q) next = refuses (number_of q)

module _ {A : Type 0} where
  abbrev pub taken : Result A Question → ℕ → Field A
  taken = taken_as (λ a. a)

  -- the row stays, and so does the position where the answer is no
  abbrev pub Stays : Reader → Reader → Result A Question → Type 0
  Stays old new (Ok a) = new.row ≡ old.row
  Stays old new (Err q) = new ≡ old

abbrev pub range_of : ℕ × ℕ → Range
range_of bounds = record { from = bounds.0; to = bounds.1 }

abbrev pub range_says : Result ((ℕ × ℕ) × ℕ) Question → Field Range
range_says = field_says range_of

-- a field's end, whatever its value
abbrev pub ended : {A : Type 0} → Field A → Field (Unit {0})
ended (takes a next) = takes tt next
ended (refuses q) = refuses q
