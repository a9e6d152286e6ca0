-- What `map` makes of a length that was written: an answer, or the refusal.
-- Assumes nothing.
use Prim.Native.Nat.{ℕ}
use mathlib.Core.Path.{◌≡◌, ap}
use Rattle.std.specs.Prelude.{Result, Ok, Err, IsOkAnd, MatchResult}
use Rattle.layout.specs.declared.question.Question.{Question}
use Rattle.layout.specs.Layout as row
use Rattle.layout.specs.Layout.{accepted, refused_by}
use Rattle.layout.specs.Says.{answers, written_says}
use Rattle.layout.specs.Write as writer
use Rattle.calls_open.specs.declared.Answer.{Answer}

module _ (make : ℕ → Answer) where
  abbrev pub said : writer.Written → row.Answer Answer
  said (writer.wrote n) = accepted (make n)
  said (writer.refuses q) = refused_by q

  pub mapped : {Makes : ℕ → Answer → Type 0} (written : Result ℕ Question) (r : Result Answer Question) → ((n : ℕ) (a : Answer) → Makes n a → a ≡ make n)
      → MatchResult written (λ n. IsOkAnd r (Makes n)) (λ q. r ≡ Err q) → answers r ≡ said (written_says written)
  mapped (Ok n) (Ok a) makes m = ap accepted (makes n a m)
  mapped (Ok n) (Err q) makes m = absurd m
  mapped (Err q) r makes m = ap answers m
