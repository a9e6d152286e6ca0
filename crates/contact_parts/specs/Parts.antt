-- A contact row in four parts, each a layout of its own, so that each has its own reader. That the parts make up the row's layout is shown in
-- proofs/Parts.antt; nothing here needs to be believed beyond rows/specs/Rows.antt. Assumes nothing.
use Rattle.std.specs.Prelude.{ℕ, List}
use Rattle.std.proofs.Math.Option.{Option}
use Rattle.layout.specs.Questions.{CARD_END}
use Rattle.layout.specs.Veil.{plain, veiled}
use Rattle.layout.specs.Form.{bytes, u32, u64}
use Rattle.layout.specs.Layout.{Layout, done, field, group, optional, list, sized, ◌>>=◌}
use Rattle.rows.specs.Values.{Card, Pending, Send, Chain, Skipped, Range, Contact}
use Rattle.rows.specs.Rows.{role, mode, verification, card, pending, send, chain, skipped, range}
use Rattle.rows.specs.declared.PairingRole.{PairingRole}
use Rattle.rows.specs.declared.Verification.{Verification}

-- who the contact is
pub record Paired : Type 0 where
  pub role : PairingRole
  pub verification : Verification
  pub pair_id : List ℕ
  pub th : List ℕ
  pub nonce_b : List ℕ
  pub card : Card

abbrev pub paired : Layout Paired
paired = do
  r ← field role (λ p. p.role)
  always ← field mode (λ p. tt)
  v ← field verification (λ p. p.verification)
  pair_id ← field (bytes plain 16) (λ p. p.pair_id)
  th ← field (bytes plain 48) (λ p. p.th)
  nonce_b ← field (bytes plain 16) (λ p. p.nonce_b)
  its ← field (sized (group card) CARD_END) (λ p. p.card)
  done (record { role = r; verification = v; pair_id = pair_id; th = th; nonce_b = nonce_b; card = its })

-- its keys, and the last number sent
pub record Keys : Type 0 where
  pub door_a_to_b : List ℕ
  pub door_b_to_a : List ℕ
  pub route_key : List ℕ
  pub resume_index : ℕ
  pub chain_key : List ℕ
  pub sent_msgno : ℕ

abbrev pub keys : Layout Keys
keys = do
  door_a_to_b ← field (bytes veiled 32) (λ k. k.door_a_to_b)
  door_b_to_a ← field (bytes veiled 32) (λ k. k.door_b_to_a)
  route_key ← field (bytes veiled 32) (λ k. k.route_key)
  resume_index ← field u64 (λ k. k.resume_index)
  chain_key ← field (bytes veiled 32) (λ k. k.chain_key)
  sent_msgno ← field u32 (λ k. k.sent_msgno)
  done (record {
    door_a_to_b = door_a_to_b;
    door_b_to_a = door_b_to_a;
    route_key = route_key;
    resume_index = resume_index;
    chain_key = chain_key;
    sent_msgno = sent_msgno;
  })

-- what it awaits and sends, and its chains
pub record Chained : Type 0 where
  pub pending : Option Pending
  pub send : Option Send
  pub chains : List Chain
  pub skipped : List Skipped

abbrev pub chained : Layout Chained
chained = do
  waits ← field (optional (group pending)) (λ c. c.pending)
  sends ← field (optional (group send)) (λ c. c.send)
  chains ← field (list (group chain)) (λ c. c.chains)
  skips ← field (list (group skipped)) (λ c. c.skipped)
  done (record { pending = waits; send = sends; chains = chains; skipped = skips })

-- the message numbers
pub record Numbers : Type 0 where
  pub peer_acked : ℕ
  pub peer_read : ℕ
  pub read_marked : ℕ
  pub contiguous : ℕ
  pub above : List Range
  pub unacked : List ℕ
  pub expired : List Range

abbrev pub numbers : Layout Numbers
numbers = do
  peer_acked ← field u32 (λ n. n.peer_acked)
  peer_read ← field u32 (λ n. n.peer_read)
  read_marked ← field u32 (λ n. n.read_marked)
  contiguous ← field u32 (λ n. n.contiguous)
  above ← field (list (group range)) (λ n. n.above)
  unacked ← field (list u32) (λ n. n.unacked)
  expired ← field (list (group range)) (λ n. n.expired)
  done (record {
    peer_acked = peer_acked;
    peer_read = peer_read;
    read_marked = read_marked;
    contiguous = contiguous;
    above = above;
    unacked = unacked;
    expired = expired;
  })

-- ---- the parts of a contact
abbrev pub paired_of : Contact → Paired
paired_of c = record { role = c.role; verification = c.verification; pair_id = c.pair_id; th = c.th; nonce_b = c.nonce_b; card = c.card }

abbrev pub keys_of : Contact → Keys
keys_of c = record {
  door_a_to_b = c.door_a_to_b;
  door_b_to_a = c.door_b_to_a;
  route_key = c.route_key;
  resume_index = c.resume_index;
  chain_key = c.chain_key;
  sent_msgno = c.sent_msgno;
}

abbrev pub chained_of : Contact → Chained
chained_of c = record { pending = c.pending; send = c.send; chains = c.chains; skipped = c.skipped }

abbrev pub numbers_of : Contact → Numbers
numbers_of c = record {
  peer_acked = c.peer_acked;
  peer_read = c.peer_read;
  read_marked = c.read_marked;
  contiguous = c.contiguous;
  above = c.above;
  unacked = c.unacked;
  expired = c.expired;
}

-- ... and the contact that they make
abbrev pub joined : Paired → Keys → Chained → Numbers → Contact
joined p k c n = record {
  role = p.role;
  verification = p.verification;
  pair_id = p.pair_id;
  th = p.th;
  nonce_b = p.nonce_b;
  card = p.card;
  door_a_to_b = k.door_a_to_b;
  door_b_to_a = k.door_b_to_a;
  route_key = k.route_key;
  resume_index = k.resume_index;
  chain_key = k.chain_key;
  sent_msgno = k.sent_msgno;
  pending = c.pending;
  send = c.send;
  chains = c.chains;
  skipped = c.skipped;
  peer_acked = n.peer_acked;
  peer_read = n.peer_read;
  read_marked = n.read_marked;
  contiguous = n.contiguous;
  above = n.above;
  unacked = n.unacked;
  expired = n.expired;
}
