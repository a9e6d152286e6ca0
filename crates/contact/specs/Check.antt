-- What the answers about a contact row say: where its parts stand.
-- Assumes nothing.
use Rattle.std.specs.Prelude.{ℕ, ◌+◌, ◌≤◌, List, Option, Some, None, length}
use Rattle.rows.specs.Values as value
use Rattle.offsets.specs.Offset.{offset}
use Rattle.numbers.specs.Lists.{Counts, counts}
use Rattle.rows.specs.Rows.{contact}
use Rattle.contact_parts.specs.Parts.{paired_of, keys_of, chained_of, numbers_of, joined}
use Rattle.contact_parts.specs.Offsets.{paired_at, paired_from, keys_at, keys_from, chained_at, chained_from, numbers_at, numbers_from, CardOffsets, ChainedLists, NumbersLists}
use Rattle.contact_parts.specs.declared.PendingAt.{PendingAt}
use Rattle.contact_parts.specs.declared.SendChainAt.{SendChainAt}
use Rattle.contact.specs.declared.ContactAt.{ContactAt}

-- ---- a contact row: where its parts begin, and where their fields stand
abbrev pub contact_at : ℕ → value.Contact → ContactAt
contact_at version v = record {
  paired = paired_at (offset (contact version) 0 v) (paired_of v);
  keys = keys_at (offset (contact version) 7 v) (keys_of v);
  chained = chained_at (offset (contact version) 13 v) (chained_of v);
  numbers = numbers_at (offset (contact version) 17 v) (numbers_of v);
}

-- how many items its lists have
abbrev pub counts_at : ContactAt → Counts
counts_at at =
    counts at.chained.chains.count at.chained.skipped.count at.numbers.above.count at.numbers.unacked.count at.numbers.expired.count

-- ---- the contact that stands at places of a row, and that these lie in it
abbrev pub contact_from : List ℕ → ContactAt → value.Contact
contact_from row at = joined (paired_from row at.paired) (keys_from row at.keys) (chained_from row at.chained) (numbers_from row at.numbers)

pub record Offsets (row : List ℕ) (at : ContactAt) : Type 0 where
  pub card : CardOffsets row at.paired.card
  pub chained : ChainedLists row at.chained
  pub numbers : NumbersLists row at.numbers

-- ---- the runs lie in the row, so that they can be copied
abbrev pub PendingRuns : List ℕ → Option PendingAt → Type 0
PendingRuns row None = Unit {0}
PendingRuns row (Some p) = (p.chain_key + 32 ≤ length row) × (p.msg_seed + 32 ≤ length row)

abbrev pub SendRuns : List ℕ → Option SendChainAt → Type 0
SendRuns row None = Unit {0}
SendRuns row (Some s) = s.key + 32 ≤ length row

pub record Filling (row : List ℕ) (at : ContactAt) : Type 0 where
  pub places : Offsets row at
  pub pair_id : at.paired.pair_id + 16 ≤ length row
  pub th : at.paired.th + 48 ≤ length row
  pub nonce_b : at.paired.nonce_b + 16 ≤ length row
  pub door_a_to_b : at.keys.door_a_to_b + 32 ≤ length row
  pub door_b_to_a : at.keys.door_b_to_a + 32 ≤ length row
  pub route_key : at.keys.route_key + 32 ≤ length row
  pub chain_key : at.keys.chain_key + 32 ≤ length row
  pub pending : PendingRuns row at.chained.pending
  pub send : SendRuns row at.chained.send
