-- Which row an opened contact stands for, and what writing it leaves.
-- Assumes nothing.
use Rattle.std.specs.Prelude.{ℕ, ◌*◌, ◌^◌, ◌≤◌, ◌<◌, List, ◌++◌, Bool, true, cond, ◌≡◌, length, get_or, take}
use Rattle.std.proofs.Math.Option.{Option, none, some}
use Rattle.layout.specs.Questions.{LISTS}
use Rattle.layout.specs.Form.{bytes_of, u32}
use Rattle.layout.specs.Layout.{print, group, optional, list}
use Rattle.layout.specs.RowLaws.{Bytes}
use Rattle.layout.specs.Write.{Written, refuses, Left, asked, writes}
use Rattle.rows.specs.Values as value
use Rattle.rows.specs.Rows.{pending, send, chain, skipped, range, contact}
use Rattle.card.specs.Card.{CardTyped, value_of}
use Rattle.contact_parts.specs.Parts.{Paired, paired, Keys, keys, Chained, Numbers, numbers, joined}
use Rattle.received.specs.Lent.{pairs}
use Rattle.contact_lent.specs.Lent.{Granted, chains_of, skipped_of, chains_bytes, skipped_bytes}
use Rattle.numbers.specs.Lists as lists
use Rattle.contact.specs.Contact.{Lists, lengths_of, counts_of}
use Rattle.contact.specs.declared.SendChain.{SendChain}
use Rattle.std.specs.Prelude as code
use Rattle.contact.specs.declared.Contact.{Contact}

-- ---- 36
unfoldable pub counted : Contact → Lists → Bool
counted c l = lists.counted (counts_of c) (lengths_of l)

-- ---- the parts of the value; what a flag leaves out is no part of it
abbrev pub paired_of : Contact → Paired
paired_of c = record {
  role = c.role;
  verification = c.verification;
  pair_id = c.pair_id;
  th = c.th;
  nonce_b = c.nonce_b;
  card = value_of c.peer;
}

abbrev pub keys_of : Contact → Keys
keys_of c = record {
  door_a_to_b = c.door_a_to_b;
  door_b_to_a = c.door_b_to_a;
  route_key = c.route_key;
  resume_index = c.resume_index;
  chain_key = c.chain_key;
  sent_msgno = c.sent_msgno;
}

abbrev pub pending_of : Contact → Option value.Pending
pending_of c = cond c.pending (some (record { chain_key = c.pending_chain_key; msg_seed = c.pending_msg_seed })) none

abbrev pub send_of : code.Option SendChain → List ℕ → Option value.Send
send_of code.None key = none
send_of (code.Some s) key = some (record { gen = s.gen_; dir = s.dir; idx = s.idx; key = key })

abbrev pub numbers_of : Contact → Lists → Numbers
numbers_of c l = record {
  peer_acked = c.peer_acked;
  peer_read = c.peer_read;
  read_marked = c.read_marked;
  contiguous = c.contiguous;
  above = pairs c.above l.above;
  unacked = take c.unacked l.unacked;
  expired = pairs c.expired l.expired;
}

-- ---- the row that would be written. The bytes of chains and skipped keys are taken from their places, whatever stands there
unfoldable pub chained_image : Contact → Lists → List ℕ
chained_image c l =
    (optional (group pending)).print (pending_of c)
    ++ ((optional (group send)).print (send_of c.send c.send_key)
    ++ ((bytes_of 2 c.chains ++ chains_bytes c.chains l.chains)
    ++ (bytes_of 2 c.skipped ++ skipped_bytes c.skipped l.skipped)))

unfoldable pub image : Contact → Lists → List ℕ
image c l = print paired (paired_of c) ++ (print keys (keys_of c) ++ (chained_image c l ++ print numbers (numbers_of c l)))

-- ---- its last part in two: the numbers that are no lists, and the lists
abbrev pub counters : Contact → List ℕ
counters c = bytes_of 4 c.peer_acked ++ (bytes_of 4 c.peer_read ++ (bytes_of 4 c.read_marked ++ bytes_of 4 c.contiguous))

abbrev pub lists_image : Contact → Lists → List ℕ
lists_image c l =
    (list (group range)).print (pairs c.above l.above)
    ++ ((list u32).print (take c.unacked l.unacked) ++ (list (group range)).print (pairs c.expired l.expired))

-- ---- a writer: 36, then what reading the row would ask, then 40
unfoldable pub asked_contact : Contact → Lists → Written
asked_contact c l = cond (counted c l) (asked (contact 3) (image c l)) (refuses LISTS)

unfoldable pub writes_contact : Contact → Lists → List ℕ → Left
writes_contact c l out = cond (counted c l) (writes (contact 3) (image c l) out) (record { answer = refuses LISTS; out = out })

-- ---- the value that it stands for, where no place is refused
abbrev pub chained_of : Contact → Lists → Chained
chained_of c l = record {
  pending = pending_of c;
  send = send_of c.send c.send_key;
  chains = chains_of c.chains l.chains;
  skipped = skipped_of c.skipped l.skipped;
}

abbrev pub contact_in : Contact → Lists → value.Contact
contact_in c l = joined (paired_of c) (keys_of c) (chained_of c l) (numbers_of c l)

-- ---- what the types say
abbrev pub SendTyped : code.Option SendChain → Type 0
SendTyped code.None = Unit {0}
SendTyped (code.Some s) = (s.gen_ < 256) × (s.idx < 256 ^ 4)

pub record ContactTyped (c : Contact) : Type 0 where
  pub resume_index : c.resume_index < 256 ^ 8
  pub sent_msgno : c.sent_msgno < 256 ^ 4
  pub peer_acked : c.peer_acked < 256 ^ 4
  pub peer_read : c.peer_read < 256 ^ 4
  pub read_marked : c.read_marked < 256 ^ 4
  pub contiguous : c.contiguous < 256 ^ 4
  pub send : SendTyped c.send
  pub peer : CardTyped c.peer
  pub pair_id : length c.pair_id ≡ 16
  pub th : length c.th ≡ 48
  pub nonce_b : length c.nonce_b ≡ 16
  pub door_a_to_b : length c.door_a_to_b ≡ 32
  pub door_b_to_a : length c.door_b_to_a ≡ 32
  pub route_key : length c.route_key ≡ 32
  pub chain_key : length c.chain_key ≡ 32
  pub pending_chain_key : length c.pending_chain_key ≡ 32
  pub pending_msg_seed : length c.pending_msg_seed ≡ 32
  pub send_key : length c.send_key ≡ 32

abbrev pub Words : List ℕ → Type 0
Words l = (i : ℕ) → get_or l i 0 < 256 ^ 4

pub record ListsTyped (l : Lists) : Type 0 where
  pub chains : Bytes l.chains
  pub skipped : Bytes l.skipped
  pub above : Words l.above
  pub unacked : Words l.unacked
  pub expired : Words l.expired

-- ---- before writing
-- the counted items are in their lists, and no question refuses a place
pub record ChainsLent (c : Contact) (l : Lists) : Type 0 where
  pub chains_granted : Granted 51 (group chain) c.chains l.chains
  pub skipped_granted : Granted 46 (group skipped) c.skipped l.skipped
  pub chains : 51 * c.chains ≤ length l.chains
  pub skipped : 46 * c.skipped ≤ length l.skipped

pub record NumbersLent (c : Contact) (l : Lists) : Type 0 where
  pub above : 2 * c.above ≤ length l.above
  pub unacked : c.unacked ≤ length l.unacked
  pub expired : 2 * c.expired ≤ length l.expired

-- what storing the row asks for: its counts, its name's length and its places are not refused, and there is room
pub record Writable (c : Contact) (l : Lists) (out : List ℕ) : Type 0 where
  pub counts : counted c l ≡ true
  pub name : c.peer.name_len ≤ 48
  pub chains : Granted 51 (group chain) c.chains l.chains
  pub skipped : Granted 46 (group skipped) c.skipped l.skipped
  pub room : length (image c l) ≤ length out
