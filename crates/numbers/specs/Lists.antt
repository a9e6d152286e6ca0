-- The five lists that hold an open contact's items: how many places of its list an item takes, and for how many items lists have places.
-- Assumes nothing.
use Rattle.std.specs.Prelude.{ℕ, ◌/◌, min, Bool, ◌&&◌, length, leb}
use Rattle.rows.specs.Values.{Contact}

-- a chain stands in 51 bytes, whether its superseded_s is there or not; a skipped key in 46; a range is two numbers, from and to
abbrev pub CHAIN_PLACE : ℕ
CHAIN_PLACE = 51

abbrev pub SKIPPED_PLACE : ℕ
SKIPPED_PLACE = 46

abbrev pub RANGE_PLACE : ℕ
RANGE_PLACE = 2

-- a number for each list: how many items it holds, or how long it is
pub record Counts : Type 0 where
  pub chains : ℕ
  pub skipped : ℕ
  pub above : ℕ
  pub unacked : ℕ
  pub expired : ℕ

abbrev pub counts : (chains skipped above unacked expired : ℕ) → Counts
counts chains skipped above unacked expired = record { chains = chains; skipped = skipped; above = above; unacked = unacked; expired = expired }

-- a contact's items
abbrev pub items_of : Contact → Counts
items_of v = counts (length v.chains) (length v.skipped) (length v.above) (length v.unacked) (length v.expired)

-- the items that lists of these lengths have whole places for
abbrev pub places_in : (lengths : Counts) → Counts
places_in l = counts (l.chains / CHAIN_PLACE) (l.skipped / SKIPPED_PLACE) (l.above / RANGE_PLACE) l.unacked (l.expired / RANGE_PLACE)

abbrev pub each : (ℕ → ℕ → Bool) → (items places : Counts) → Bool
each p n m = p n.chains m.chains && p n.skipped m.skipped && p n.above m.above && p n.unacked m.unacked && p n.expired m.expired

-- 36 of a reader: is each list long enough for the items?
abbrev pub room_for : (items lengths : Counts) → Bool
room_for n l = each leb n (places_in l)

-- 36 of a writer, and 34: no count above its list's length, or above 65,535
abbrev pub within : (items places : ℕ) → Bool
within n places = leb n places && leb n 65535

abbrev pub counted : (items lengths : Counts) → Bool
counted n l = each within n (places_in l)

-- 38: the most ranges that may be left in a list of n numbers, its pairs or 65,535 if fewer
abbrev pub limit_of : ℕ → ℕ
limit_of n = min (n / RANGE_PLACE) 65535
