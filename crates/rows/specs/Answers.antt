-- What answers about rows say.
-- Assumes nothing.
use Rattle.std.specs.Prelude.{Result, Ok, Err}
use Rattle.std.proofs.Math.Option.{Option, none, some}
use Rattle.layout.specs.declared.question.Question.{Question}
use Rattle.layout.specs.declared.question.Question.TheVariants as question
use Rattle.layout.specs.Layout.{Answer}
use Rattle.layout.specs.Says.{made}

module _ {A : Type 0} where
  -- whether a row is accepted, or by which question it is refused: what was read is left out
  abbrev pub verdict_of : Answer A → Answer (Unit {0})
  verdict_of = made (λ v. tt)

  -- what a code byte names, or question 6
  abbrev pub named : Option A → Result A Question
  named (some a) = Ok a
  named none = Err question.Code
