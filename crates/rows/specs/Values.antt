-- What the rows hold. What a flag, a kind, the name length or KCI leaves out is no part of a value: it is `none`, or the list is shorter.
-- Assumes nothing.
use Rattle.std.specs.Prelude.{ℕ, List, Bool, ◌⊎◌}
use Rattle.std.proofs.Math.Option.{Option}
use Rattle.rows.specs.declared.PairingRole.{PairingRole}
use Rattle.rows.specs.declared.Verification.{Verification}
use Rattle.rows.specs.declared.Dir.{Dir}

pub record Device : Type 0 where
  pub beacon_day : ℕ
  pub beacon_key : List ℕ
  pub next_contact : ℕ
  pub read_receipts : Bool
  pub enabled : Bool
  pub copies : ℕ
  pub lifetime_min : ℕ

pub record Card : Type 0 where
  pub caps : ℕ
  pub beacon_day : ℕ
  pub beacon_key : List ℕ
  pub name : List ℕ
  pub static_ek : Option (List ℕ)

pub record Pending : Type 0 where
  pub chain_key : List ℕ
  pub msg_seed : List ℕ

pub record Send : Type 0 where
  pub gen : ℕ
  pub dir : Dir
  pub idx : ℕ
  pub key : List ℕ

pub record Chain : Type 0 where
  pub gen : ℕ
  pub dir : Dir
  pub next : ℕ
  pub key : List ℕ
  pub superseded_s : Option ℕ

pub record Skipped : Type 0 where
  pub gen : ℕ
  pub dir : Dir
  pub idx : ℕ
  pub key : List ℕ
  pub created_s : ℕ

pub record Range : Type 0 where
  pub from : ℕ
  pub to : ℕ

pub record Contact : Type 0 where
  pub role : PairingRole
  pub verification : Verification
  pub pair_id : List ℕ
  pub th : List ℕ
  pub nonce_b : List ℕ
  pub card : Card
  pub door_a_to_b : List ℕ
  pub door_b_to_a : List ℕ
  pub route_key : List ℕ
  pub resume_index : ℕ
  pub chain_key : List ℕ
  pub sent_msgno : ℕ
  pub pending : Option Pending
  pub send : Option Send
  pub chains : List Chain
  pub skipped : List Skipped
  pub peer_acked : ℕ
  pub peer_read : ℕ
  pub read_marked : ℕ
  pub contiguous : ℕ
  pub above : List Range
  pub unacked : List ℕ
  pub expired : List Range

pub record OwnEnvelope : Type 0 where
  pub tag : List ℕ
  pub s : List ℕ
  pub expiry_min : ℕ
  pub copies : ℕ
  pub renewed : Bool

pub record Queued : Type 0 where
  pub created_s : ℕ
  pub envelope : Option OwnEnvelope
  pub gen : ℕ
  pub idx : ℕ
  pub sealed : List ℕ

pub record Carried : Type 0 where
  pub depositor : ℕ
  pub tag : List ℕ
  pub c : List ℕ
  pub expiry_min : ℕ
  pub copies : ℕ
  pub sealed : List ℕ

pub record Tombstone : Type 0 where
  pub tag : List ℕ
  pub s : List ℕ
  pub expiry_min : ℕ

abbrev pub Courier : Type 0
Courier = Carried ⊎ Tombstone
