-- What a cover does to the ranges above, as a change: how many of them stay, and what is new.
-- Assumes nothing.
use Rattle.std.specs.Prelude.{ℕ, ◌-◌, List, ◌∷◌, ◌++◌, cond, not, eqb, length, take, drop}
use Rattle.rows.specs.Values.{Range}
use Rattle.numbers.specs.Ranges.{Received, range, below, merged_at, all_ranges, inserted, added}
use Rattle.received.specs.declared.Change.{Change}

unfoldable pub change_of : Received → ℕ → ℕ → Change
change_of v f t = record {
  before = below f (all_ranges v);
  after = length (merged_at f t (all_ranges v)).behind;
  count = length (inserted v f t).above;
  contiguous = (inserted v f t).contiguous;
  from = (merged_at f t (all_ranges v)).range.from;
  to = (merged_at f t (all_ranges v)).range.to;
  moved = not (eqb (inserted v f t).contiguous v.contiguous);
  added = added v f t;
}

-- f..t in the place of the ranges from the i-th up to next
abbrev pub placed : (i next f t : ℕ) → List Range → List Range
placed i next f t rs = take i rs ++ range f t ∷ drop next rs

-- the ranges above that a change makes of those that were there
abbrev pub applied : Change → List Range → List Range
applied c rs =
    cond (eqb c.before 0) (drop (length rs - c.after) rs)
    (placed (c.before - 1) (length rs - c.after) c.from c.to rs)
