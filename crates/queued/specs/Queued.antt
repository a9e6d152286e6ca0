-- What the answers about a queued row say: where its parts stand.
-- Assumes nothing.
use Rattle.std.specs.Prelude.{ℕ, ◌+◌, ◌≤◌, List, Option, Some, None, length, take, drop}
use Rattle.std.proofs.Math.Option.{none, some}
use Rattle.std.proofs.Math.Option as math
use Rattle.layout.specs.Layout.{group}
use Rattle.offsets.specs.Offset.{offset, optional_at}
use Rattle.rows.specs.Values as value
use Rattle.rows.specs.Rows.{own_envelope, queued}
use Rattle.queued.specs.declared.EnvelopeAt.{EnvelopeAt}
use Rattle.queued.specs.declared.QueuedAt.{QueuedAt}

-- ---- an own envelope that stands at a place: its numbers, and where its runs start
abbrev pub envelope_at : ℕ → value.OwnEnvelope → EnvelopeAt
envelope_at from e = record {
  tag = from + offset own_envelope 0 e;
  s = from + offset own_envelope 1 e;
  expiry_min = e.expiry_min;
  copies = e.copies;
  renewed = e.renewed;
}

-- ... behind its flag
abbrev pub own_at : ℕ → math.Option value.OwnEnvelope → Option EnvelopeAt
own_at = optional_at (group own_envelope) envelope_at

-- ---- a queued row: its numbers, and where its runs start
abbrev pub queued_at : ℕ → value.Queued → QueuedAt
queued_at version q = record {
  created_s = q.created_s;
  envelope = own_at (offset (queued version) 1 q) q.envelope;
  gen_ = q.gen;
  idx = q.idx;
  sealed = offset (queued version) 4 q;
}

-- ---- the queued row that stands at places of a row, and that these lie in it
abbrev pub envelope_from : List ℕ → EnvelopeAt → value.OwnEnvelope
envelope_from row at = record {
  tag = take 16 (drop at.tag row);
  s = take 16 (drop at.s row);
  expiry_min = at.expiry_min;
  copies = at.copies;
  renewed = at.renewed;
}

pub record EnvelopeOffsets (row : List ℕ) (at : EnvelopeAt) : Type 0 where
  pub tag : at.tag + 16 ≤ length row
  pub s : at.s + 16 ≤ length row

abbrev pub own_from : List ℕ → Option EnvelopeAt → math.Option value.OwnEnvelope
own_from row None = none
own_from row (Some at) = some (envelope_from row at)

abbrev pub OwnOffsets : List ℕ → Option EnvelopeAt → Type 0
OwnOffsets row None = Unit {0}
OwnOffsets row (Some at) = EnvelopeOffsets row at

abbrev pub queued_from : List ℕ → QueuedAt → value.Queued
queued_from row at = record {
  created_s = at.created_s;
  envelope = own_from row at.envelope;
  gen = at.gen_;
  idx = at.idx;
  sealed = drop at.sealed row;
}

pub record Offsets (row : List ℕ) (at : QueuedAt) : Type 0 where
  pub envelope : OwnOffsets row at.envelope
  pub sealed : at.sealed ≤ length row
