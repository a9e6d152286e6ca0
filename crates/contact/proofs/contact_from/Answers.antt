-- `contact::contact_from` meets its contract: each run copied, and each list's count that of its items.
use Prim.Native.Nat.{ℕ}
use mathlib.Core.List.{List}
use mathlib.Core.Path.{◌≡◌, sym}
use native.Mathlib.Omega.{arith}
use lib.ListN.{length}
use Rattle.layout.specs.Form.{Form, u32}
use Rattle.layout.specs.Layout.{group}
use Rattle.layout.specs.RowLaws.{Bytes}
use Rattle.layout.proofs.Lawful.{Lawful}
use Rattle.layout.proofs.Front.{number-lawful}
use Rattle.layout.proofs.At.{typed}
use Rattle.rows.specs.Rows.{chain, skipped, range}
use Rattle.rows.proofs.Lawful.{chain-lawful, skipped-lawful, range-lawful}
use Rattle.contact_lists.specs.declared.ListAt.{ListAt}
use Rattle.contact_lists.proofs.Ends.{listed-fits}
use Rattle.contact_parts.specs.Offsets.{list_in, ListIn}
use Rattle.contact.proofs.contact_from.Goals as goal

count : {B : Type 0} (f : Form B) → Lawful f → (row : List ℕ) → Bytes row → (l : ListAt) → ListIn f row l → l.count ≡ length (list_in f row l)
count f law row by l h = sym (listed-fits f law by h).0

pub copy_array-requires-7 : goal.copy_array-requires-7
copy_array-requires-7 c = (omega arith, c.requires.chain_key)

pub returns : goal.returns
returns c =
    let row = c.args.row.now in
    let at = c.args.at in
    let lists = c.requires.places in
    let by = typed row c.type_inv.row in
    λ i. record {
      resume_index = at.keys.resume_index;
      chains = count (group chain) chain-lawful row by at.chained.chains lists.chained.chains i;
      skipped = count (group skipped) skipped-lawful row by at.chained.skipped lists.chained.skipped i;
      above = count (group range) range-lawful row by at.numbers.above lists.numbers.above i;
      unacked = count u32 (number-lawful 4) row by at.numbers.unacked lists.numbers.unacked i;
      expired = count (group range) range-lawful row by at.numbers.expired lists.numbers.expired i;
      sent_msgno = at.keys.sent_msgno;
      peer_acked = at.numbers.peer_acked;
      peer_read = at.numbers.peer_read;
      read_marked = at.numbers.read_marked;
      contiguous = at.numbers.contiguous;
      send = (c.send_from-send.ensures i).chain;
      role = at.paired.role;
      verification = at.paired.verification;
      pending = (c.pending_from-pending.ensures i).present;
      peer = c.peer_from.ensures i;
      pair_id = c.copy_array.ensures i;
      th = c.copy_array-2.ensures i;
      nonce_b = c.copy_array-3.ensures i;
      door_a_to_b = c.copy_array-4.ensures i;
      door_b_to_a = c.copy_array-5.ensures i;
      route_key = c.copy_array-6.ensures i;
      chain_key = c.copy_array-7.ensures i;
      pending_chain_key = (c.pending_from-pending.ensures i).chain_key;
      pending_msg_seed = (c.pending_from-pending.ensures i).msg_seed;
      send_key = (c.send_from-send.ensures i).key;
    }
