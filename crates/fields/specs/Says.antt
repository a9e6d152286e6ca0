-- What the answers of readers of fields say, where they hold something else than the field's value.
-- Assumes nothing.
use Rattle.std.specs.Prelude.{ℕ, ◌+◌, List, ◌≡◌, Result, Ok, Err, take, drop}
use Rattle.layout.specs.declared.question.Question.{Question}
use Rattle.layout.specs.Field.{Field}
use Rattle.layout.specs.Says.{field_says}

-- a run of n bytes: those from its start on
abbrev pub run_says : ℕ → List ℕ → Result (ℕ × ℕ) Question → Field (List ℕ)
run_says n row = field_says (λ start. take n (drop start row))

abbrev pub Ends : ℕ → Result (ℕ × ℕ) Question → Type 0
Ends n (Ok run) = run.1 ≡ run.0 + n
Ends n (Err q) = Unit {0}
