-- What a reader leaves in the struct of a queued row, and which row a struct stands for.
-- Assumes nothing.
use Rattle.std.specs.Prelude.{ℕ, ◌-◌, ◌^◌, ◌<◌, List, Option, Some, None, Ok, ◌≡◌, length, take, drop}
use Rattle.std.proofs.Math.Option.{none, some}
use Rattle.std.proofs.Math.Option as math
use Rattle.layout.specs.Veil.{zeros}
use Rattle.layout.specs.Layout.{accepted, read_row, print, group, optional}
use Rattle.layout.specs.RowLaws.{Bytes}
use Rattle.layout.specs.Says.{answers, made, leaves}
use Rattle.layout.specs.Write.{stored, writes}
use Rattle.rows.specs.Values as value
use Rattle.rows.specs.Rows.{own_envelope, queued}
use Rattle.queued_row.specs.declared.OwnEnvelope.{OwnEnvelope}
use Rattle.queued_row.specs.declared.Outgoing.{Outgoing}
use Rattle.queued_row.specs.declared.QueuedRead.{QueuedRead}

-- ---- reading: 0 stands where the flag leaves something out
abbrev pub own_of : math.Option value.OwnEnvelope → Option OwnEnvelope
own_of none = None
own_of (some e) = Some (record { expiry_min = e.expiry_min; copies = e.copies; renewed = e.renewed })

abbrev pub tag_of : math.Option value.OwnEnvelope → List ℕ
tag_of none = zeros 16
tag_of (some e) = e.tag

abbrev pub s_of : math.Option value.OwnEnvelope → List ℕ
s_of none = zeros 16
s_of (some e) = e.s

abbrev pub queued_of : value.Queued → Outgoing
queued_of q = record {
  created_s = q.created_s;
  idx = q.idx;
  gen_ = q.gen;
  envelope = own_of q.envelope;
  tag = tag_of q.envelope;
  s = s_of q.envelope;
}

-- the sealed text stands last
abbrev pub decoded : List ℕ → value.Queued → QueuedRead
decoded row q = record { sealed_at = length row - length q.sealed; queued = queued_of q }

abbrev pub parts : List ℕ → value.Queued → ℕ × Outgoing
parts row q = ((decoded row q).sealed_at, (decoded row q).queued)

-- ---- writing: the row that would be written is the print of the value that the struct and the sealed text stand for
abbrev pub envelope_of : Option OwnEnvelope → List ℕ → List ℕ → math.Option value.OwnEnvelope
envelope_of None tag s = none
envelope_of (Some e) tag s = some (record { tag = tag; s = s; expiry_min = e.expiry_min; copies = e.copies; renewed = e.renewed })

abbrev pub value_of : Outgoing → List ℕ → value.Queued
value_of q sealed = record {
  created_s = q.created_s;
  envelope = envelope_of q.envelope q.tag q.s;
  gen = q.gen_;
  idx = q.idx;
  sealed = sealed;
}

unfoldable pub own_image : Outgoing → List ℕ
own_image q = (optional (group own_envelope)).print (envelope_of q.envelope q.tag q.s)

unfoldable pub image : Outgoing → List ℕ → List ℕ
image q sealed = print (queued 3) (value_of q sealed)

-- what the types say
abbrev pub OwnTyped : Option OwnEnvelope → Type 0
OwnTyped None = Unit {0}
OwnTyped (Some e) = (e.expiry_min < 256 ^ 4) × (e.copies < 256)

pub record OutgoingTyped (q : Outgoing) : Type 0 where
  pub created_s : q.created_s < 256 ^ 8
  pub idx : q.idx < 256 ^ 4
  pub gen_ : q.gen_ < 256
  pub envelope : OwnTyped q.envelope
  pub tag : length q.tag ≡ 16
  pub s : length q.s ≡ 16

-- ---- what is proved of both (proofs/RoundTrip.antt)
-- `leaves (Ok n) left ≡ writes ..` is what `Outgoing::row` ensures where it answers n and leaves the output as `left`; `answers (Ok read) ≡ made ..` is what `read_queued` does where it answers `read`
pub record QueuedLaws : Type 0 where
  -- write, then read: the same struct, with 0 for what its flag leaves out, and the sealed text in its place
  pub write_read : (q : Outgoing) → OutgoingTyped q → (sealed out left : List ℕ) (n : ℕ) → leaves (Ok n) left ≡ writes (queued 3) (image q sealed) out
      → made (decoded (take n left)) (read_row (queued 3) (take n left))
      ≡ accepted (record { sealed_at = length (take n left) - length sealed; queued = queued_of (value_of q sealed) })
  pub write-sealed : (q : Outgoing) (sealed out left : List ℕ) (n : ℕ) → leaves (Ok n) left ≡ writes (queued 3) (image q sealed) out
      → drop (length (take n left) - length sealed) (take n left) ≡ sealed
  -- read, then write: the same bytes
  pub read-write : (version : ℕ) (row : List ℕ) → Bytes row → (read : QueuedRead) → answers (Ok read) ≡ made (decoded row) (read_row (queued version) row)
      → (out : List ℕ) → writes (queued 3) (image read.queued (drop read.sealed_at row)) out ≡ stored row out
