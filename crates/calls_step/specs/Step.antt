-- What each call answers and leaves, of all that it is handed: what the contract of the function of its name says. Questions 34 to 40 in document 01's order.
-- N is the highest message number. Assumes nothing.
use Rattle.std.specs.Prelude.{ℕ, ◌+◌, List, Bool, cond, ◌&&◌, length, ltb}
use Rattle.std.proofs.Math.Option.{Option, none, some}
use Rattle.layout.specs.Questions.{STORE, CONTACT_STORED, LISTS, RANGE, MSGNO_LEFT}
use Rattle.layout.specs.Layout.{read_row, accepted, refused_by}
use Rattle.layout.specs.Layout as layout
use Rattle.layout.specs.Write as writer
use Rattle.rows.specs.Values as value
use Rattle.rows.specs.Rows as rows
use Rattle.numbers.specs.Ranges as received
use Rattle.numbers.specs.Ranges.{Received, is_range}
use Rattle.numbers.specs.Sets.{size, size_from}
use Rattle.received.specs.Lent.{pairs, received_in, plan_of, list_after}
use Rattle.contact.specs.Contact.{Lists, contact_of, long_enough, filled}
use Rattle.contact.specs.declared.Contact.{Contact}
use Rattle.contact_image.specs.Row.{counted, image}
use Rattle.store.specs.declared.Entry.{Entry}
use Rattle.store.specs.Store as store
use Rattle.store.specs.Store.{store_of, contact_in, part_of, store_passes, replaced_passes}
use Rattle.calls_step.specs.declared.Mark.{Mark}
use Rattle.calls_step.specs.declared.Mark.TheVariants.{Fresh, Restored, Opened}
use Rattle.ledger.specs.Call.{Call, restore, opens, cover, contains, covers, take, statement, write, Answer, granted, advanced, truth, number, wrote, said, refused, refused_at}
use Rattle.calls_step.specs.Input.{Input, Left, leaves, no}
use Rattle.store.specs.Line.{line_of, queued_of}
use Rattle.received.specs.declared.Change.{Change}

-- ---- restore writes to nothing lent: it leaves another store, and no contact open
abbrev pub restoring : (run : List ℕ) → List Entry → Input → store.Outcome → Left
restoring run es h (store.granted f) = leaves granted (record { mark = Restored; run = run; entries = es; contact = h.contact; lists = h.lists; out = h.out })
restoring run es h (store.refused q i) = leaves (refused_at q i) h

-- ---- 34
-- for open: store restored, and would it pass 1 to 33 and 54?
abbrev pub on_store : Mark → Input → Left → Left
on_store Fresh h then = no STORE h
on_store Restored h then = cond (store_passes h.run h.entries) then (no STORE h)
on_store (Opened id) h then = cond (store_passes h.run h.entries) then (no STORE h)

-- for the others: would it pass with the opened fields in place of that contact's row, and no count above its list's length?
abbrev pub passes : (contact : ℕ) → Input → Bool
passes k h = counted h.contact h.lists && replaced_passes h.run h.entries k (image h.contact h.lists)

-- ... and a contact open
abbrev pub on_opened : Mark → Input → (ℕ → Left) → Left
on_opened Fresh h then = no STORE h
on_opened Restored h then = no STORE h
on_opened (Opened id) h then = cond (passes id.0 h) (then id.0) (no STORE h)

-- ---- open
-- 36, and what reading the row leaves
abbrev pub filling : (contact : ℕ) → Input → layout.Answer value.Contact → Left
filling k h (layout.accepted v) =
    cond (long_enough v h.lists)
    (leaves granted (record { mark = Opened (record { 0 = k }); run = h.run; entries = h.entries; contact = contact_of v; lists = filled v h.lists; out = h.out }))
    (no LISTS h)
filling k h (layout.refused_by q) = no q h

-- 35
abbrev pub opening : (contact : ℕ) → Input → Option Entry → Left
opening k h none = no CONTACT_STORED h
opening k h (some e) = filling k h (read_row (rows.contact e.version) (part_of h.run e))

-- ---- the opened fields with other numbers: sent_msgno, contiguous, and how many ranges are above
abbrev pub renumbered : (sent contiguous above : ℕ) → Contact → Contact
renumbered sent contiguous above c = record {
  resume_index = c.resume_index;
  chains = c.chains;
  skipped = c.skipped;
  above = above;
  unacked = c.unacked;
  expired = c.expired;
  sent_msgno = sent;
  peer_acked = c.peer_acked;
  peer_read = c.peer_read;
  read_marked = c.read_marked;
  contiguous = contiguous;
  send = c.send;
  role = c.role;
  verification = c.verification;
  pending = c.pending;
  peer = c.peer;
  pair_id = c.pair_id;
  th = c.th;
  nonce_b = c.nonce_b;
  door_a_to_b = c.door_a_to_b;
  door_b_to_a = c.door_b_to_a;
  route_key = c.route_key;
  chain_key = c.chain_key;
  pending_chain_key = c.pending_chain_key;
  pending_msg_seed = c.pending_msg_seed;
  send_key = c.send_key;
}

abbrev pub above_as : List ℕ → Lists → Lists
above_as above l = record { chains = l.chains; skipped = l.skipped; above = above; unacked = l.unacked; expired = l.expired }

abbrev pub relisted : Contact → Lists → Input → Input
relisted c l h = record { mark = h.mark; run = h.run; entries = h.entries; contact = c; lists = l; out = h.out }

abbrev pub output : List ℕ → Input → Input
output out h = record { mark = h.mark; run = h.run; entries = h.entries; contact = h.contact; lists = h.lists; out = out }

-- ---- cover, contains, covers
abbrev pub covered_in : Input → Received
covered_in h = received_in h.contact.contiguous h.contact.above h.lists.above

-- 38. The answer is whether contiguous moved, and how many numbers are new; list places that cover frees become 0
abbrev pub covering : (from to : ℕ) → Input → layout.Answer Change → Left
covering f t h (accepted c) =
    leaves (advanced c.moved c.added)
    (relisted (renumbered h.contact.sent_msgno c.contiguous c.count h.contact) (above_as (list_after (covered_in h) h.lists.above f t) h.lists) h)
covering f t h (refused_by q) = no q h

-- ---- statement, write: 40
abbrev pub writing : (writer.Written → Answer) → Input → writer.Left → Left
writing answer h w = leaves (answer w.answer) (output w.out h)

abbrev pub wrote_row : writer.Written → Answer
wrote_row (writer.wrote n) = wrote n
wrote_row (writer.refuses q) = refused q

abbrev pub said_line : List ℕ → writer.Written → Answer
said_line line (writer.wrote n) = said n line
said_line line (writer.refuses q) = refused q

abbrev pub line_in : (contact : ℕ) → Input → List ℕ
line_in k h =
    line_of k h.contact.sent_msgno h.contact.peer_acked h.contact.contiguous (size (pairs h.contact.above h.lists.above))
    (queued_of k h.entries) (size_from (h.contact.peer_acked + 1) (pairs h.contact.expired h.lists.expired))

module _ (N : ℕ) where
  -- ---- take: 39
  abbrev pub taking : Input → Left
  taking h =
      let c = h.contact in
      cond (ltb c.sent_msgno N)
      (leaves (number (c.sent_msgno + 1)) (relisted (renumbered (c.sent_msgno + 1) c.contiguous c.above c) h.lists h))
      (no MSGNO_LEFT h)

  unfoldable pub step : Call → Input → Left
  step (restore run es) h = restoring run es h (store.restore (store_of run es))
  step (opens k) h = on_store h.mark h (opening k h (contact_in h.entries k))
  step (cover f t) h = on_opened h.mark h (λ k. cond (is_range f t) (covering f t h (plan_of (covered_in h) (length h.lists.above) f t)) (no RANGE h))
  step (contains n) h = on_opened h.mark h (λ k. leaves (truth (received.contains (covered_in h) n)) h)
  step (covers f t) h = on_opened h.mark h (λ k. cond (is_range f t) (leaves (truth (received.covers (covered_in h) f t)) h) (no RANGE h))
  step take h = on_opened h.mark h (λ k. taking h)
  step statement h = on_opened h.mark h (λ k. writing (said_line (line_in k h)) h (writer.stored (line_in k h) h.out))
  step write h = on_opened h.mark h (λ k. writing wrote_row h (writer.stored (image h.contact h.lists) h.out))
