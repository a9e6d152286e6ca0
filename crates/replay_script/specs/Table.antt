-- A table of commands by their names, as the code holds one.
-- Assumes nothing.
use Rattle.std.specs.Prelude.{ℕ, ◌≡◌, List, Option, find, option_map}
use Rattle.std.specs.Str.{bytes_eq}
use Rattle.replay_script.specs.declared.Command.{Command}

-- a command, and how many decimals of 32 bits, decimals of 64 bits and other words stand behind its name
abbrev pub Form : Type 0
Form = Command × ℕ × ℕ × ℕ

-- what it says of a word, where its rows begin with names that are these bytes: the form of the first row with this name
pub record NamedIn {Name : Type 0} (bytes_of : Name → List ℕ) (rows : List (Name × Form)) (word : List ℕ) (o : Option Form) : Type 0 where
  pub first-is : o ≡ option_map (λ (row : Name × Form). row.1) (find (λ (row : Name × Form). bytes_eq word (bytes_of row.0)) rows)
