-- The numbers of the questions: each is one more than the place of the question among the enum's variants, so that no two questions have one number.
-- Assumes nothing.
use Prim.Native.Nat.{◌+◌}
use mathlib.Core.Path.{◌≡◌, refl}
use native.Mathlib.Omega.{arith}
use denote.Enum.Declared.{tag_of}
use denote.Enum.Bare.{tag_one}
use Rattle.layout.specs.declared.question.Question.{Question}
use Rattle.layout.specs.declared.question.Question.TheVariants as question
use Rattle.layout.specs.contracts.question.Question.{the_type}
use Rattle.layout.specs.Questions.{number_of}

-- the first case makes the second one stand for each other question
places : (q : Question) → number_of q ≡ tag_of the_type q + 1
places question.Order = refl
places q = refl

pub one-question : (a b : Question) → number_of a ≡ number_of b → a ≡ b
one-question a b e = tag_one the_type tt a b (omega (arith, places a, places b))
