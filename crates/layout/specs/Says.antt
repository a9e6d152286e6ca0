-- What code answers, in the words of the definitions: an error is the question whose answer is no, and has its number.
-- Assumes nothing.
use Rattle.std.specs.Prelude.{ℕ, List, Result, Ok, Err}
use Rattle.layout.specs.declared.question.Question.{Question}
use Rattle.layout.specs.Questions.{number_of}
use Rattle.layout.specs.Field.{Field, takes, refuses}
use Rattle.layout.specs.Layout.{Answer, accepted, refused_by}
use Rattle.layout.specs.Write as write

-- by what numbers an error
module _ {R : Type 0} (number : R → ℕ) where
  abbrev pub answer_by : {A B : Type 0} → (A → B) → Result A R → Answer B
  answer_by f (Ok a) = accepted (f a)
  answer_by f (Err r) = refused_by (number r)

  abbrev pub answers_by : {A : Type 0} → Result A R → Answer A
  answers_by = answer_by (λ a. a)

  abbrev pub written_by : Result ℕ R → write.Written
  written_by (Ok n) = write.wrote n
  written_by (Err r) = write.refuses (number r)

module _ {A B : Type 0} (f : A → B) where
  -- a reader of a field: what is taken stands for `f` of it, and the next position is beside it
  abbrev pub field_says : Result (A × ℕ) Question → Field B
  field_says (Ok taken) = takes (f taken.0) taken.1
  field_says (Err q) = refuses (number_of q)

  -- a reader of a row, or a check of one
  abbrev pub answer_says : Result A Question → Answer B
  answer_says = answer_by number_of f

  -- what is made of an accepted value
  abbrev pub made : Answer A → Answer B
  made (accepted v) = accepted (f v)
  made (refused_by q) = refused_by q

module _ {A : Type 0} where
  -- the same where what is taken, or read, is what it stands for
  abbrev pub says : Result (A × ℕ) Question → Field A
  says = field_says (λ a. a)

  abbrev pub answers : Result A Question → Answer A
  answers = answer_says (λ a. a)

-- the next position alone
abbrev pub end_says : Result ℕ Question → Field (Unit {0})
end_says (Ok next) = takes tt next
end_says (Err q) = refuses (number_of q)

-- a writer: the length written; and the output as it leaves it
abbrev pub written_says : Result ℕ Question → write.Written
written_says = written_by number_of

abbrev pub leaves : Result ℕ Question → List ℕ → write.Left
leaves r out = record { answer = written_says r; out = out }
