-- What the answers about a contact row's parts say: where its fields stand, and the values that stand at such places.
-- Assumes nothing.
use Rattle.std.specs.Prelude.{ℕ, ◌+◌, ◌-◌, ◌≤◌, List, length, take, drop}
use Rattle.std.specs.Prelude as code
use Rattle.std.proofs.Math.Option.{Option, none, some}
use Rattle.layout.specs.Questions.{CARD_END}
use Rattle.layout.specs.Form.{Form, u32}
use Rattle.layout.specs.Layout.{group, list_layout, sized_layout}
use Rattle.offsets.specs.Offset.{offset, optional_at}
use Rattle.rows.specs.Values as value
use Rattle.rows.specs.Rows as rows
use Rattle.card.specs.Card as card
use Rattle.contact_lists.specs.Lists.{items, Listed}
use Rattle.contact_lists.specs.declared.ListAt.{ListAt}
use Rattle.contact_parts.specs.Parts.{Paired, Keys, Chained, Numbers}
use Rattle.contact_parts.specs.Parts as parts
use Rattle.contact_parts.specs.declared.CardOffset.{CardOffset}
use Rattle.contact_parts.specs.declared.PairedAt.{PairedAt}
use Rattle.contact_parts.specs.declared.KeysAt.{KeysAt}
use Rattle.contact_parts.specs.declared.PendingAt.{PendingAt}
use Rattle.contact_parts.specs.declared.SendChainAt.{SendChainAt}
use Rattle.contact_parts.specs.declared.ChainedAt.{ChainedAt}
use Rattle.contact_parts.specs.declared.NumbersAt.{NumbersAt}

-- n bytes from a place
abbrev pub run : ℕ → List ℕ → ℕ → List ℕ
run n row from = take n (drop from row)

-- ---- a card behind its length: its part of the row, and its numbers
abbrev pub card_at : ℕ → value.Card → CardOffset
card_at from c = record {
  start = from + offset (sized_layout (group rows.card) CARD_END) 1 c;
  end = from + offset (sized_layout (group rows.card) CARD_END) 2 c;
  at = record { caps = c.caps; beacon_day = c.beacon_day; name_len = length c.name };
}

abbrev pub card_in : List ℕ → CardOffset → value.Card
card_in row p = card.card_from (run (p.end - p.start) row p.start) p.at

-- the card's part lies in the row, and its runs in that part
pub record CardOffsets (row : List ℕ) (p : CardOffset) : Type 0 where
  pub starts : p.start ≤ p.end
  pub ends : p.end ≤ length row
  pub runs : card.Offsets (run (p.end - p.start) row p.start) p.at

-- ---- who the contact is
abbrev pub paired_at : ℕ → Paired → PairedAt
paired_at from p = record {
  role = p.role;
  verification = p.verification;
  pair_id = from + offset parts.paired 3 p;
  th = from + offset parts.paired 4 p;
  nonce_b = from + offset parts.paired 5 p;
  card = card_at (from + offset parts.paired 6 p) p.card;
}

abbrev pub paired_from : List ℕ → PairedAt → Paired
paired_from row p = record {
  role = p.role;
  verification = p.verification;
  pair_id = run 16 row p.pair_id;
  th = run 48 row p.th;
  nonce_b = run 16 row p.nonce_b;
  card = card_in row p.card;
}

-- ---- its keys: where they start, and its numbers
abbrev pub keys_at : ℕ → Keys → KeysAt
keys_at from k = record {
  door_a_to_b = from + offset parts.keys 0 k;
  door_b_to_a = from + offset parts.keys 1 k;
  route_key = from + offset parts.keys 2 k;
  resume_index = k.resume_index;
  chain_key = from + offset parts.keys 4 k;
  sent_msgno = k.sent_msgno;
}

abbrev pub keys_from : List ℕ → KeysAt → Keys
keys_from row k = record {
  door_a_to_b = run 32 row k.door_a_to_b;
  door_b_to_a = run 32 row k.door_b_to_a;
  route_key = run 32 row k.route_key;
  resume_index = k.resume_index;
  chain_key = run 32 row k.chain_key;
  sent_msgno = k.sent_msgno;
}

-- ---- a list that stands in the row
abbrev pub list_at : {B : Type 0} → Form B → ℕ → List B → ListAt
list_at f from bs = record { first = from + offset (list_layout f) 1 bs; count = length bs; next = from + offset (list_layout f) 2 bs }

module _ {B : Type 0} (f : Form B) (row : List ℕ) (l : ListAt) where
  abbrev pub list_in : List B
  list_in = items f l.count (drop l.first row)

  abbrev pub ListIn : Type 0
  ListIn = Listed f row l.first l.count l.next

-- ---- a part behind a flag
module _ {B P : Type 0} where
  abbrev pub optional_from : (P → B) → code.Option P → Option B
  optional_from of code.None = none
  optional_from of (code.Some p) = some (of p)

-- ---- what it awaits and sends, and its chains
abbrev pub pending_keys_at : ℕ → value.Pending → PendingAt
pending_keys_at from p = record { chain_key = from + offset rows.pending 0 p; msg_seed = from + offset rows.pending 1 p }

abbrev pub pending_at : ℕ → Option value.Pending → code.Option PendingAt
pending_at = optional_at (group rows.pending) pending_keys_at

abbrev pub pending_keys_from : List ℕ → PendingAt → value.Pending
pending_keys_from row p = record { chain_key = run 32 row p.chain_key; msg_seed = run 32 row p.msg_seed }

abbrev pub pending_from : List ℕ → code.Option PendingAt → Option value.Pending
pending_from row = optional_from (pending_keys_from row)

abbrev pub send_chain_at : ℕ → value.Send → SendChainAt
send_chain_at from s = record { gen_ = s.gen; dir = s.dir; idx = s.idx; key = from + offset rows.send 3 s }

abbrev pub send_at : ℕ → Option value.Send → code.Option SendChainAt
send_at = optional_at (group rows.send) send_chain_at

abbrev pub send_chain_from : List ℕ → SendChainAt → value.Send
send_chain_from row s = record { gen = s.gen_; dir = s.dir; idx = s.idx; key = run 32 row s.key }

abbrev pub send_from : List ℕ → code.Option SendChainAt → Option value.Send
send_from row = optional_from (send_chain_from row)

abbrev pub chained_at : ℕ → Chained → ChainedAt
chained_at from c = record {
  pending = pending_at (from + offset parts.chained 0 c) c.pending;
  send = send_at (from + offset parts.chained 1 c) c.send;
  chains = list_at (group rows.chain) (from + offset parts.chained 2 c) c.chains;
  skipped = list_at (group rows.skipped) (from + offset parts.chained 3 c) c.skipped;
}

abbrev pub chained_from : List ℕ → ChainedAt → Chained
chained_from row c = record {
  pending = pending_from row c.pending;
  send = send_from row c.send;
  chains = list_in (group rows.chain) row c.chains;
  skipped = list_in (group rows.skipped) row c.skipped;
}

-- its lists stand in the row
pub record ChainedLists (row : List ℕ) (c : ChainedAt) : Type 0 where
  pub chains : ListIn (group rows.chain) row c.chains
  pub skipped : ListIn (group rows.skipped) row c.skipped

-- ---- the message numbers
abbrev pub numbers_at : ℕ → Numbers → NumbersAt
numbers_at from n = record {
  peer_acked = n.peer_acked;
  peer_read = n.peer_read;
  read_marked = n.read_marked;
  contiguous = n.contiguous;
  above = list_at (group rows.range) (from + offset parts.numbers 4 n) n.above;
  unacked = list_at u32 (from + offset parts.numbers 5 n) n.unacked;
  expired = list_at (group rows.range) (from + offset parts.numbers 6 n) n.expired;
}

abbrev pub numbers_from : List ℕ → NumbersAt → Numbers
numbers_from row n = record {
  peer_acked = n.peer_acked;
  peer_read = n.peer_read;
  read_marked = n.read_marked;
  contiguous = n.contiguous;
  above = list_in (group rows.range) row n.above;
  unacked = list_in u32 row n.unacked;
  expired = list_in (group rows.range) row n.expired;
}

-- its lists stand in the row
pub record NumbersLists (row : List ℕ) (n : NumbersAt) : Type 0 where
  pub above : ListIn (group rows.range) row n.above
  pub unacked : ListIn u32 row n.unacked
  pub expired : ListIn (group rows.range) row n.expired
