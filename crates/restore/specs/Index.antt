-- Where an index says that a contact stands, and how far turns have come that are made once or not at all.
-- Assumes nothing.
use Rattle.std.specs.Prelude.{ℕ, ◌-◌, List, cond, eqb, length, get_or}
use Rattle.std.specs.Int.Bits.{bit_and}
use Rattle.store.specs.declared.Entry.{Entry}

-- an id's place in an index
abbrev pub place_in : (index : List ℕ) → Entry → ℕ
place_in index e = bit_and e.id (length index - 1)

-- 0 where nothing is looked for
abbrev pub hint_in : (index : List ℕ) → Entry → (upto : ℕ) → ℕ
hint_in index e upto = cond (eqb upto 0) 0 (get_or index (place_in index e) 0)

-- n entries' turns, made so many times, once at most
abbrev pub turns_done : (times n : ℕ) → ℕ
turns_done times n = cond (eqb times 0) 0 n
