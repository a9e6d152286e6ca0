-- An opened contact: a struct, and five lists that the caller lends. What reading a row leaves in them.
-- Assumes nothing.
use Rattle.std.specs.Prelude.{ℕ, ◌*◌, ◌≤◌, List, Bool, false, cond, ◌≡◌, length}
use Rattle.std.proofs.Math.Option.{Option, none, some}
use Rattle.std.specs.Borrow.{MutBor}
use denote.Triple.Both.{Both}
use Rattle.std.specs.Prelude as code
use Rattle.layout.specs.declared.question.Question.{Question}
use Rattle.layout.specs.Questions.{LISTS}
use Rattle.layout.specs.Says.{answers, answer_says}
use Rattle.layout.specs.Veil.{zeros}
use Rattle.layout.specs.Layout.{Answer, accepted, refused_by, read_row, group, present}
use Rattle.rows.specs.Values as value
use Rattle.rows.specs.Rows.{chain, skipped, contact}
use Rattle.rows.specs.declared.PairingRole.TheVariants as role
use Rattle.rows.specs.declared.Verification.TheVariants as verification
use Rattle.card.specs.Card.{card_of, zero_card}
use Rattle.put.specs.Put.{put}
use Rattle.contact_lists.specs.Places.{print_places}
use Rattle.received.specs.Lent.{flat}
use Rattle.numbers.specs.Lists.{CHAIN_PLACE, SKIPPED_PLACE, Counts, counts, items_of, room_for}
use Rattle.contact.specs.declared.SendChain.{SendChain}
use Rattle.contact.specs.declared.Contact.{Contact}
use Rattle.contact.specs.declared.ListsRef.{ListsRef}
use Rattle.contact.specs.declared.ListsMut.{ListsMut}
use Rattle.contact.specs.Check.{Offsets}
use Rattle.contact.specs.declared.ContactAt.{ContactAt}
use Rattle.contact.specs.declared.PendingKeys.{PendingKeys}
use Rattle.contact.specs.declared.Send.{Send}

-- the lent lists, whole
pub record Lists : Type 0 where
  -- places of 51 bytes
  pub chains : List ℕ
  -- places of 46 bytes
  pub skipped : List ℕ
  -- from, to, from, to
  pub above : List ℕ
  pub unacked : List ℕ
  -- from, to, from, to
  pub expired : List ℕ

abbrev pub lists : (chains skipped above unacked expired : List ℕ) → Lists
lists chains skipped above unacked expired = record { chains = chains; skipped = skipped; above = above; unacked = unacked; expired = expired }

-- those that a struct lends
abbrev pub read_in : ListsRef → Lists
read_in l = lists l.chains.now l.skipped.now l.above.now l.unacked.now l.expired.now

abbrev pub held_in : ListsMut → Lists
held_in l = lists l.chains.now l.skipped.now l.above.now l.unacked.now l.expired.now

-- the struct lends the same five slices, whatever stands in them
abbrev pub SameLists : (before after : ListsMut) → Type 0
SameLists before after =
    (after.chains.ghost_name ≡ before.chains.ghost_name)
    × (after.skipped.ghost_name ≡ before.skipped.ghost_name)
    × (after.above.ghost_name ≡ before.above.ghost_name)
    × (after.unacked.ghost_name ≡ before.unacked.ghost_name)
    × (after.expired.ghost_name ≡ before.expired.ghost_name)

abbrev pub lengths_of : Lists → Counts
lengths_of l = counts (length l.chains) (length l.skipped) (length l.above) (length l.unacked) (length l.expired)

-- the items that an opened contact counts
abbrev pub counts_of : Contact → Counts
counts_of c = counts c.chains c.skipped c.above c.unacked c.expired

-- a slice of numbers that a function is lent, as its contract sees it: at entry and at exit
abbrev pub Slice : Type 0
Slice = Both (MutBor (List ℕ)) (MutBor (List ℕ))

-- the five lists before the function ran, and after it
abbrev pub lists_before : (chains skipped above unacked expired : Slice) → Lists
lists_before c s a u e = lists c.entry.now s.entry.now a.entry.now u.entry.now e.entry.now

abbrev pub lists_after : (chains skipped above unacked expired : Slice) → Lists
lists_after c s a u e = lists c.exit.now s.exit.now a.exit.now u.exit.now e.exit.now

-- ---- the struct of a value: 0 stands where a flag leaves something out
abbrev pub send_of : Option value.Send → code.Option SendChain
send_of none = code.None
send_of (some s) = code.Some (record { gen_ = s.gen; dir = s.dir; idx = s.idx })

abbrev pub send_key_of : Option value.Send → List ℕ
send_key_of none = zeros 32
send_key_of (some s) = s.key

abbrev pub pending_key_of : Option value.Pending → List ℕ
pending_key_of none = zeros 32
pending_key_of (some p) = p.chain_key

abbrev pub pending_seed_of : Option value.Pending → List ℕ
pending_seed_of none = zeros 32
pending_seed_of (some p) = p.msg_seed

abbrev pub contact_of : value.Contact → Contact
contact_of v = record {
  resume_index = v.resume_index;
  chains = length v.chains;
  skipped = length v.skipped;
  above = length v.above;
  unacked = length v.unacked;
  expired = length v.expired;
  sent_msgno = v.sent_msgno;
  peer_acked = v.peer_acked;
  peer_read = v.peer_read;
  read_marked = v.read_marked;
  contiguous = v.contiguous;
  send = send_of v.send;
  role = v.role;
  verification = v.verification;
  pending = present v.pending;
  peer = card_of v.card;
  pair_id = v.pair_id;
  th = v.th;
  nonce_b = v.nonce_b;
  door_a_to_b = v.door_a_to_b;
  door_b_to_a = v.door_b_to_a;
  route_key = v.route_key;
  chain_key = v.chain_key;
  pending_chain_key = pending_key_of v.pending;
  pending_msg_seed = pending_seed_of v.pending;
  send_key = send_key_of v.send;
}

-- what a flag leaves out, as it is copied
abbrev pub pending_keys_of : Option value.Pending → PendingKeys
pending_keys_of p = record { present = present p; chain_key = pending_key_of p; msg_seed = pending_seed_of p }

abbrev pub send_part_of : Option value.Send → Send
send_part_of s = record { chain = send_of s; key = send_key_of s }

-- what stands where no row was read
abbrev pub zero_contact : Contact
zero_contact = record {
  resume_index = 0;
  chains = 0;
  skipped = 0;
  above = 0;
  unacked = 0;
  expired = 0;
  sent_msgno = 0;
  peer_acked = 0;
  peer_read = 0;
  read_marked = 0;
  contiguous = 0;
  send = code.None;
  role = role.A;
  verification = verification.Unverified;
  pending = false;
  peer = zero_card;
  pair_id = zeros 16;
  th = zeros 48;
  nonce_b = zeros 16;
  door_a_to_b = zeros 32;
  door_b_to_a = zeros 32;
  route_key = zeros 32;
  chain_key = zeros 32;
  pending_chain_key = zeros 32;
  pending_msg_seed = zeros 32;
  send_key = zeros 32;
}

-- ---- 36
abbrev pub long_enough : value.Contact → Lists → Bool
long_enough v l = room_for (items_of v) (lengths_of l)

-- the lists with the row's items in them; places past the items stay
abbrev pub filled : value.Contact → Lists → Lists
filled v l = record {
  chains = put l.chains 0 (print_places CHAIN_PLACE (group chain) v.chains);
  skipped = put l.skipped 0 (print_places SKIPPED_PLACE (group skipped) v.skipped);
  above = put l.above 0 (flat v.above);
  unacked = put l.unacked 0 v.unacked;
  expired = put l.expired 0 (flat v.expired);
}

-- ---- what reading leaves: the answer, and the lists
pub record Left : Type 0 where
  pub answer : Answer Contact
  pub lists : Lists

abbrev pub leaves : code.Result Contact Question → Lists → Left
leaves r l = record { answer = answers r; lists = l }

abbrev pub opened : Answer value.Contact → Lists → Left
opened (accepted v) l = cond (long_enough v l) (record { answer = accepted (contact_of v); lists = filled v l }) (record { answer = refused_by LISTS; lists = l })
opened (refused_by q) l = record { answer = refused_by q; lists = l }

-- the same of a row that was read, whose lists alone are filled
abbrev pub fills : value.Contact → code.Result (Unit {0}) Question → Lists → Left
fills v r l = record { answer = answer_says (λ u. contact_of v) r; lists = l }

unfoldable pub reads : ℕ → List ℕ → Lists → Left
reads version row l = opened (read_row (contact version) row) l

-- ---- before filling: the row's items stand there, and there are places for them
pub record Fillable (row : List ℕ) (at : ContactAt) (l : Lists) : Type 0 where
  pub places : Offsets row at
  pub chains : CHAIN_PLACE * at.chained.chains.count ≤ length l.chains
  pub skipped : SKIPPED_PLACE * at.chained.skipped.count ≤ length l.skipped
  pub above : 2 * at.numbers.above.count ≤ length l.above
  pub unacked : at.numbers.unacked.count ≤ length l.unacked
  pub expired : 2 * at.numbers.expired.count ≤ length l.expired
