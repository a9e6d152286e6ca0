-- The index behind one that a list has; another is its own next.
-- Assumes nothing.
use Rattle.std.specs.Prelude.{ℕ, ◌+◌, List, cond, ltb, length}

abbrev pub next_in : {A : Type 0} → List A → ℕ → ℕ
next_in l i = cond (ltb i (length l)) (i + 1) i
