-- Reading off the front of a row.
-- Assumes nothing.
use Rattle.std.specs.Prelude.{ℕ, List, [], Bool}
use Rattle.std.proofs.Math.Option.{Option, none, some}

-- a value, and the bytes left; or the number of the question whose answer is no
pub data Read (A : Type 0) : Type 0 where
  value : A → List ℕ → Read A
  refused : ℕ → Read A

module _ {A B : Type 0} where
  -- one reading after another: a refusal ends it
  abbrev pub and_then : Read A → (A → List ℕ → Read B) → Read B
  and_then (value a rest) k = k a rest
  and_then (refused q) k = refused q

  abbrev pub onto : (A → B) → Read A → Read B
  onto f (value a rest) = value (f a) rest
  onto f (refused q) = refused q

module _ {A : Type 0} where
  -- what is known of the bytes left, if there are any to know of
  abbrev pub after : Read A → (A → List ℕ → List Bool) → List Bool
  after (value a rest) k = k a rest
  after (refused q) k = []

  -- the answer on a value that a question refuses, or none does
  abbrev pub said : Option ℕ → A → List ℕ → Read A
  said none a rest = value a rest
  said (some q) a rest = refused q

-- the first of two refusals
abbrev pub first : Option ℕ → Option ℕ → Option ℕ
first none o = o
first (some q) o = some q
