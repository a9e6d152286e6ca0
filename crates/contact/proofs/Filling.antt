-- A row that was checked meets what copying its contact asks: what was read fits, and a run of its whole length lies in the row.
-- Assumes nothing.
use Prim.Native.Nat.{ℕ, ◌+◌, ◌≤◌, ◌<◌}
use mathlib.Core.List.{List}
use mathlib.Core.Path.{◌≡◌}
use native.Mathlib.Omega.{arith}
use lib.ListN.{length, drop, length-take, length-drop}
use Rattle.layout.specs.Layout.{accepted, group, optional, read_row}
use Rattle.layout.specs.RowLaws.{Bytes}
use Rattle.rows.specs.Rows.{pending, send, contact}
use Rattle.rows.proofs.Proved.{proved}
use Rattle.contact_parts.specs.Offsets.{run, pending_from, send_from}
use Rattle.contact_parts.specs.declared.PendingAt.{PendingAt}
use Rattle.contact_parts.specs.declared.SendChainAt.{SendChainAt}
use Rattle.std.specs.Prelude.{Option, Some, None}
use Rattle.contact.specs.Check.{contact_from, Offsets, PendingRuns, SendRuns, Filling}
use Rattle.contact.specs.declared.ContactAt.{ContactAt}

module _ (row : List ℕ) where
  -- a run that has all its bytes lies in the row
  inside : (n from : ℕ) → 0 < n → length (run n row from) ≡ n → from + n ≤ length row
  inside n from some e = omega (arith, length-take n (drop from row), length-drop from row)

  pending-inside : (at : Option PendingAt) (post : List ℕ) → (optional (group pending)).fits (pending_from row at) post → PendingRuns row at
  pending-inside None post h = tt
  pending-inside (Some p) post h = (inside 32 p.chain_key (omega arith) h.1.0.0, inside 32 p.msg_seed (omega arith) h.1.0.1.0)

  send-inside : (at : Option SendChainAt) (post : List ℕ) → (optional (group send)).fits (send_from row at) post → SendRuns row at
  send-inside None post h = tt
  send-inside (Some s) post h = inside 32 s.key (omega arith) h.1.0.1.1.1.0

pub filling : (version : ℕ) (row : List ℕ) (at : ContactAt) → Bytes row → Offsets row at → read_row (contact version) row ≡ accepted (contact_from row at) → Filling row at
filling version row at by places e =
    let ids = ((proved.contact version).laws.read-valid row by (contact_from row at) e).fits.1.1.1 in
    let keys = ids.1.1.1.1 in
    let flags = keys.1.1.1.1.1.1 in
    record {
      places = places;
      pair_id = inside row 16 at.paired.pair_id (omega arith) ids.0;
      th = inside row 48 at.paired.th (omega arith) ids.1.0;
      nonce_b = inside row 16 at.paired.nonce_b (omega arith) ids.1.1.0;
      door_a_to_b = inside row 32 at.keys.door_a_to_b (omega arith) keys.0;
      door_b_to_a = inside row 32 at.keys.door_b_to_a (omega arith) keys.1.0;
      route_key = inside row 32 at.keys.route_key (omega arith) keys.1.1.0;
      chain_key = inside row 32 at.keys.chain_key (omega arith) keys.1.1.1.1.0;
      pending = pending-inside row at.chained.pending _ flags.0;
      send = send-inside row at.chained.send _ flags.1.0;
    }
