-- The rows, as document 01 lays them out: its fields in its order, (v) as `veiled`; `field f (λ v. v.x)` is the field that it calls x.
-- Assumes nothing.
use Rattle.std.specs.Prelude.{ℕ, ◌+◌, cond, ◌&&◌, length, eqb}
use Rattle.std.proofs.Math.Option.{Option, none, some}
use Rattle.layout.specs.Questions.{VERSION, CODE, CAPS, NAME_LENGTH, NAME_UTF8, CARD_END, COURIER_CONFIG, SEALED_LENGTH, CARRIED_COPIES, CARRIED_EXPIRY, ROW_END}
use Rattle.layout.specs.Questions.{CHAINS_COUNT, CHAINS_CURRENT, CHAINS_GENS, SKIPPED_KEYS, SKIPPED_COUNT, PEER_ACKED, UNACKED, ABOVE, EXPIRED}
use Rattle.layout.specs.Veil.{plain, veiled}
use Rattle.layout.specs.Form.{Form, bytes, letter, u8, u16, u32, u64, flag, leb128, to_end, only_if, either}
use Rattle.layout.specs.Layout.{Layout, done, field, ask, end, group, optional, list, sized, ◌>>=◌, ◌>>◌}
use Rattle.rows.specs.Utf8.{utf8}
use Rattle.rows.specs.Values.{Device, Card, Pending, Send, Chain, Skipped, Range, Contact, OwnEnvelope, Queued, Carried, Tombstone, Courier}
use Rattle.rows.specs.Checks.{version_known, caps_known, kci, name_short, courier_allowed, sealed_queued, sealed_carried, not_zero}
use Rattle.rows.specs.Checks.{few_chains, one_chain_at_most, gens_distinct, keys_distinct, few_skipped, acked_sent, rising, canonical, none_above}
use Rattle.rows.specs.declared.PairingRole.{PairingRole}
use Rattle.rows.specs.declared.PairingRole.TheVariants.{A, B}
use Rattle.rows.specs.declared.Verification.{Verification}
use Rattle.rows.specs.declared.Verification.TheVariants.{Unverified, Verified, Compromised}
use Rattle.rows.specs.declared.Dir.{Dir}
use Rattle.rows.specs.declared.Dir.TheVariants.{I, R}

-- ---- codes
abbrev pub role_of : ℕ → Option PairingRole
role_of b = cond (eqb b 0) (some A) (cond (eqb b 1) (some B) none)

abbrev pub role_byte : PairingRole → ℕ
role_byte A = 0
role_byte B = 1

-- always 3: what is read is nothing
abbrev pub mode_of : ℕ → Option (Unit {0})
mode_of b = cond (eqb b 3) (some tt) none

abbrev pub mode_byte : Unit {0} → ℕ
mode_byte u = 3

abbrev pub verification_of : ℕ → Option Verification
verification_of b = cond (eqb b 0) (some Unverified) (cond (eqb b 1) (some Verified) (cond (eqb b 2) (some Compromised) none))

abbrev pub verification_byte : Verification → ℕ
verification_byte Unverified = 0
verification_byte Verified = 1
verification_byte Compromised = 2

abbrev pub dir_of : ℕ → Option Dir
dir_of b = cond (eqb b 0x49) (some I) (cond (eqb b 0x52) (some R) none)

abbrev pub dir_byte : Dir → ℕ
dir_byte I = 0x49
dir_byte R = 0x52

abbrev pub role : Form PairingRole
role = letter CODE role_of role_byte

abbrev pub mode : Form (Unit {0})
mode = letter CODE mode_of mode_byte

abbrev pub verification : Form Verification
verification = letter CODE verification_of verification_byte

abbrev pub dir : Form Dir
dir = letter CODE dir_of dir_byte

-- ---- Device
abbrev pub device : ℕ → Layout Device
device version = do
  ask VERSION (version_known version)
  beacon_day ← field u32 (λ d. d.beacon_day)
  beacon_key ← field (bytes veiled 32) (λ d. d.beacon_key)
  next_contact ← field u64 (λ d. d.next_contact)
  read_receipts ← field flag (λ d. d.read_receipts)
  enabled ← field flag (λ d. d.enabled)
  copies ← field u8 (λ d. d.copies)
  lifetime_min ← field u16 (λ d. d.lifetime_min)
  ask COURIER_CONFIG (courier_allowed copies lifetime_min)
  end ROW_END
  done (record {
    beacon_day = beacon_day;
    beacon_key = beacon_key;
    next_contact = next_contact;
    read_receipts = read_receipts;
    enabled = enabled;
    copies = copies;
    lifetime_min = lifetime_min;
  })

-- ---- Card
abbrev pub card : Layout Card
card = do
  caps ← field u8 (λ c. c.caps)
  ask CAPS (caps_known caps)
  beacon_day ← field u32 (λ c. c.beacon_day)
  beacon_key ← field (bytes veiled 32) (λ c. c.beacon_key)
  name_len ← field u8 (λ c. length c.name)
  ask NAME_LENGTH (name_short name_len)
  name ← field (bytes plain name_len) (λ c. c.name)
  ask NAME_UTF8 (utf8 name)
  static_ek ← field (only_if (bytes plain 1184) (kci caps)) (λ c. c.static_ek)
  done (record { caps = caps; beacon_day = beacon_day; beacon_key = beacon_key; name = name; static_ek = static_ek })

-- a card that stands alone
abbrev pub card_row : Layout Card
card_row = do
  c ← field (group card) (λ c. c)
  end CARD_END
  done c

-- ---- Contact
abbrev pub pending : Layout Pending
pending = do
  chain_key ← field (bytes veiled 32) (λ p. p.chain_key)
  msg_seed ← field (bytes veiled 32) (λ p. p.msg_seed)
  done (record { chain_key = chain_key; msg_seed = msg_seed })

abbrev pub send : Layout Send
send = do
  gen ← field u8 (λ s. s.gen)
  d ← field dir (λ s. s.dir)
  idx ← field u32 (λ s. s.idx)
  key ← field (bytes veiled 32) (λ s. s.key)
  done (record { gen = gen; dir = d; idx = idx; key = key })

abbrev pub chain : Layout Chain
chain = do
  gen ← field u8 (λ c. c.gen)
  d ← field dir (λ c. c.dir)
  next ← field u64 (λ c. c.next)
  key ← field (bytes veiled 32) (λ c. c.key)
  superseded_s ← field (optional u64) (λ c. c.superseded_s)
  done (record { gen = gen; dir = d; next = next; key = key; superseded_s = superseded_s })

abbrev pub skipped : Layout Skipped
skipped = do
  gen ← field u8 (λ k. k.gen)
  d ← field dir (λ k. k.dir)
  idx ← field u32 (λ k. k.idx)
  key ← field (bytes veiled 32) (λ k. k.key)
  created_s ← field u64 (λ k. k.created_s)
  done (record { gen = gen; dir = d; idx = idx; key = key; created_s = created_s })

abbrev pub range : Layout Range
range = do
  from ← field u32 (λ r. r.from)
  to ← field u32 (λ r. r.to)
  done (record { from = from; to = to })

abbrev pub contact : ℕ → Layout Contact
contact version = do
  ask VERSION (version_known version)
  r ← field role (λ c. c.role)
  always ← field mode (λ c. tt)
  v ← field verification (λ c. c.verification)
  pair_id ← field (bytes plain 16) (λ c. c.pair_id)
  th ← field (bytes plain 48) (λ c. c.th)
  nonce_b ← field (bytes plain 16) (λ c. c.nonce_b)
  its ← field (sized (group card) CARD_END) (λ c. c.card)
  door_a_to_b ← field (bytes veiled 32) (λ c. c.door_a_to_b)
  door_b_to_a ← field (bytes veiled 32) (λ c. c.door_b_to_a)
  route_key ← field (bytes veiled 32) (λ c. c.route_key)
  resume_index ← field u64 (λ c. c.resume_index)
  chain_key ← field (bytes veiled 32) (λ c. c.chain_key)
  sent_msgno ← field u32 (λ c. c.sent_msgno)
  waits ← field (optional (group pending)) (λ c. c.pending)
  sends ← field (optional (group send)) (λ c. c.send)
  chains ← field (list (group chain)) (λ c. c.chains)
  skips ← field (list (group skipped)) (λ c. c.skipped)
  peer_acked ← field u32 (λ c. c.peer_acked)
  peer_read ← field u32 (λ c. c.peer_read)
  read_marked ← field u32 (λ c. c.read_marked)
  contiguous ← field u32 (λ c. c.contiguous)
  above ← field (list (group range)) (λ c. c.above)
  unacked ← field (list u32) (λ c. c.unacked)
  expired ← field (list (group range)) (λ c. c.expired)
  end ROW_END
  ask CHAINS_COUNT (few_chains chains)
  ask CHAINS_CURRENT (one_chain_at_most chains)
  ask CHAINS_GENS (gens_distinct chains)
  ask SKIPPED_KEYS (keys_distinct skips)
  ask SKIPPED_COUNT (few_skipped skips)
  ask PEER_ACKED (acked_sent peer_acked sent_msgno)
  ask UNACKED (rising 1 sent_msgno unacked)
  ask ABOVE (canonical (contiguous + 2) above)
  ask EXPIRED (canonical 1 expired && none_above sent_msgno expired)
  done (record {
    role = r;
    verification = v;
    pair_id = pair_id;
    th = th;
    nonce_b = nonce_b;
    card = its;
    door_a_to_b = door_a_to_b;
    door_b_to_a = door_b_to_a;
    route_key = route_key;
    resume_index = resume_index;
    chain_key = chain_key;
    sent_msgno = sent_msgno;
    pending = waits;
    send = sends;
    chains = chains;
    skipped = skips;
    peer_acked = peer_acked;
    peer_read = peer_read;
    read_marked = read_marked;
    contiguous = contiguous;
    above = above;
    unacked = unacked;
    expired = expired;
  })

-- ---- Queued
abbrev pub own_envelope : Layout OwnEnvelope
own_envelope = do
  tag ← field (bytes plain 16) (λ e. e.tag)
  s ← field (bytes veiled 16) (λ e. e.s)
  expiry_min ← field u32 (λ e. e.expiry_min)
  copies ← field u8 (λ e. e.copies)
  renewed ← field flag (λ e. e.renewed)
  done (record { tag = tag; s = s; expiry_min = expiry_min; copies = copies; renewed = renewed })

abbrev pub queued : ℕ → Layout Queued
queued version = do
  ask VERSION (version_known version)
  created_s ← field u64 (λ q. q.created_s)
  own ← field (optional (group own_envelope)) (λ q. q.envelope)
  gen ← field u8 (λ q. q.gen)
  idx ← field leb128 (λ q. q.idx)
  sealed ← field (to_end veiled SEALED_LENGTH sealed_queued) (λ q. q.sealed)
  end ROW_END
  done (record { created_s = created_s; envelope = own; gen = gen; idx = idx; sealed = sealed })

-- ---- Courier
abbrev pub carried : Layout Carried
carried = do
  depositor ← field u64 (λ c. c.depositor)
  tag ← field (bytes plain 16) (λ c. c.tag)
  c ← field (bytes plain 16) (λ c. c.c)
  expiry_min ← field u32 (λ c. c.expiry_min)
  ask CARRIED_EXPIRY (not_zero expiry_min)
  copies ← field u8 (λ c. c.copies)
  ask CARRIED_COPIES (not_zero copies)
  sealed ← field (to_end veiled SEALED_LENGTH sealed_carried) (λ c. c.sealed)
  done (record { depositor = depositor; tag = tag; c = c; expiry_min = expiry_min; copies = copies; sealed = sealed })

abbrev pub tombstone : Layout Tombstone
tombstone = do
  tag ← field (bytes plain 16) (λ t. t.tag)
  s ← field (bytes veiled 16) (λ t. t.s)
  expiry_min ← field u32 (λ t. t.expiry_min)
  done (record { tag = tag; s = s; expiry_min = expiry_min })

-- kind 0 is carried, 1 a tombstone
abbrev pub courier : ℕ → Layout Courier
courier version = do
  ask VERSION (version_known version)
  held ← field (either CODE (group carried) (group tombstone)) (λ h. h)
  end ROW_END
  done held
