-- THE LEDGER of document 01, with 02's A2 in the answer of a cover and its A5 in the line of a statement. It is fed the calls with their own arguments and lent lengths, and nothing that earlier calls left.
-- N is the highest message number; a set of message numbers is its test. Assumes nothing.
use Rattle.std.specs.Prelude.{ℕ, ◌+◌, ◌-◌, List, [], Bool, cond, ◌&&◌, ◌||◌, not, length, leb, ltb, eqb}
use Rattle.std.proofs.Math.Option.{Option, none, some}
use Rattle.layout.specs.Questions.{STORE, CONTACT_STORED, LISTS, RANGE, RANGES_FIT, MSGNO_LEFT, OUTPUT}
use Rattle.layout.specs.Layout.{read_row, print}
use Rattle.layout.specs.Layout as layout
use Rattle.rows.specs.Values.{Contact}
use Rattle.rows.specs.Checks.{any}
use Rattle.rows.specs.Rows as rows
use Rattle.numbers.specs.Ranges.{Received, is_range, inside}
use Rattle.numbers.specs.Lists.{items_of, room_for, counted, limit_of}
use Rattle.numbers.specs.Sets.{add, all_of, how_many, record_of}
use Rattle.store.specs.declared.Entry.{Entry}
use Rattle.store.specs.Store as store
use Rattle.store.specs.Store.{store_of, contact_in, part_of, store_passes, replaced_passes}
use Rattle.store.specs.Line.{line_of, queued_of}
use Rattle.ledger.specs.Call.{Call, restore, opens, cover, contains, covers, take, statement, write, Answer, granted, advanced, truth, number, wrote, said, refused, refused_at, Lent, lists_of}

-- ---- its state
-- an open contact: the fields that its row holds, its sent number n, and the set S of covered numbers
pub record Open : Type 0 where
  pub id : ℕ
  pub fields : Contact
  pub n : ℕ
  pub S : ℕ → Bool

-- the store of the last granted restore, at first none; none or one open contact
pub data Ledger : Type 0 where
  nothing : Ledger
  restored : (run : List ℕ) → List Entry → Ledger
  opened : (run : List ℕ) → List Entry → Open → Ledger

-- ---- what it says of a call: the answer, its state afterwards, how many pairs of `above` cover frees, and what is written to the output
pub record Account : Type 0 where
  pub answer : Answer
  pub state : Ledger
  pub freed : ℕ
  pub output : List ℕ

abbrev pub plain : Answer → Ledger → Account
plain a l = record { answer = a; state = l; freed = 0; output = [] }

abbrev pub refuse : ℕ → Ledger → Account
refuse q l = plain (refused q) l

-- ---- the fields with other numbers
abbrev pub with_numbers : (sent : ℕ) → Received → Contact → Contact
with_numbers sent covered c = record {
  role = c.role;
  verification = c.verification;
  pair_id = c.pair_id;
  th = c.th;
  nonce_b = c.nonce_b;
  card = c.card;
  door_a_to_b = c.door_a_to_b;
  door_b_to_a = c.door_b_to_a;
  route_key = c.route_key;
  resume_index = c.resume_index;
  chain_key = c.chain_key;
  sent_msgno = sent;
  pending = c.pending;
  send = c.send;
  chains = c.chains;
  skipped = c.skipped;
  peer_acked = c.peer_acked;
  peer_read = c.peer_read;
  read_marked = c.read_marked;
  contiguous = covered.contiguous;
  above = covered.above;
  unacked = c.unacked;
  expired = c.expired;
}

-- ---- 36 of a reader, and 34, by the lent lengths
abbrev pub enough : Contact → Lent → Bool
enough v l = room_for (items_of v) (lists_of l)

abbrev pub fitting : Contact → Lent → Bool
fitting v l = counted (items_of v) (lists_of l)

-- ---- restore
abbrev pub restores : (run : List ℕ) → List Entry → Ledger → store.Outcome → Account
restores run es l (store.granted f) = plain granted (restored run es)
restores run es l (store.refused q i) = plain (refused_at q i) l

-- ---- open: 34, 35, 36
-- S is 1..contiguous with all `above` ranges
abbrev pub covered_by : Contact → ℕ → Bool
covered_by v m = leb 1 m && (leb m v.contiguous || any (inside m m) v.above)

abbrev pub open_of : (contact : ℕ) → Contact → Open
open_of k v = record { id = k; fields = v; n = v.sent_msgno; S = covered_by v }

-- the row's fields. (In a store that passes no row is refused.)
abbrev pub fills : (contact : ℕ) → Lent → (run : List ℕ) → List Entry → Ledger → layout.Answer Contact → Account
fills k lent run es l (layout.accepted v) = cond (enough v lent) (plain granted (opened run es (open_of k v))) (refuse LISTS l)
fills k lent run es l (layout.refused_by q) = refuse q l

abbrev pub finds : (contact : ℕ) → Lent → (run : List ℕ) → List Entry → Ledger → Option Entry → Account
finds k lent run es l none = refuse CONTACT_STORED l
finds k lent run es l (some e) = fills k lent run es l (read_row (rows.contact e.version) (part_of run e))

abbrev pub open_in : (contact : ℕ) → Lent → (run : List ℕ) → List Entry → Ledger → Account
open_in k lent run es l = cond (store_passes run es) (finds k lent run es l (contact_in es k)) (refuse STORE l)

abbrev pub open_on : (contact : ℕ) → Lent → Ledger → Account
open_on k lent nothing = refuse STORE nothing
open_on k lent (restored run es) = open_in k lent run es (restored run es)
open_on k lent (opened run es o) = open_in k lent run es (opened run es o)

-- ---- statement, write: 40
abbrev pub write_now : Answer → (bytes : List ℕ) → Lent → Ledger → Account
write_now answer bytes lent l =
    cond (leb (length bytes) lent.out) (record { answer = answer; state = l; freed = 0; output = bytes }) (refuse OUTPUT l)

-- ---- the calls on an open contact
module _ (N : ℕ) where
  -- contiguous is the greatest c with 1..c in S, else 0; `above` are the maximal runs of S that do not start at 1, rising
  abbrev pub covered : Open → Received
  covered o = record_of N o.S

  -- the opened fields, with n as sent_msgno, contiguous, and those runs
  abbrev pub current : Open → Contact
  current o = with_numbers o.n (covered o) o.fields

  -- 34
  abbrev pub passes_now : Lent → (run : List ℕ) → List Entry → Open → Bool
  passes_now lent run es o = fitting (current o) lent && replaced_passes run es o.id (print (rows.contact 3) (current o))

  -- 38. The numbers of S after it, less those before it, are counted (02, A2)
  abbrev pub cover_now : (from to : ℕ) → Lent → (run : List ℕ) → List Entry → Open → Account
  cover_now f t lent run es o =
      let before = covered o in
      let after = record_of N (add f t o.S) in
      cond (leb (length after.above) (limit_of lent.above))
      (record {
        answer = advanced (not (eqb after.contiguous before.contiguous)) (how_many (add f t o.S) 1 N - how_many o.S 1 N);
        state = opened run es (record { id = o.id; fields = o.fields; n = o.n; S = add f t o.S });
        freed = length before.above - length after.above;
        output = [];
      })
      (refuse RANGES_FIT (opened run es o))

  -- 39
  abbrev pub take_now : (run : List ℕ) → List Entry → Open → Account
  take_now run es o =
      cond (ltb o.n N)
      (plain (number (o.n + 1)) (opened run es (record { id = o.id; fields = o.fields; n = o.n + 1; S = o.S })))
      (refuse MSGNO_LEFT (opened run es o))

  -- the numbers above contiguous that are in S, and the numbers above peer_acked that are in an expired range (02, A5), are counted
  abbrev pub line_now : List Entry → Open → List ℕ
  line_now es o =
      let c = (covered o).contiguous in
      let acked = o.fields.peer_acked in
      line_of o.id o.n acked c (how_many o.S (c + 1) (N - c)) (queued_of o.id es)
      (how_many (λ m. any (inside m m) o.fields.expired) (acked + 1) (N - acked))

  abbrev pub row_now : Open → List ℕ
  row_now o = print (rows.contact 3) (current o)

  -- 34, and then what is left of a call on an open contact
  abbrev pub on_open : Lent → Ledger → ((run : List ℕ) → List Entry → Open → Account) → Account
  on_open lent nothing then = refuse STORE nothing
  on_open lent (restored run es) then = refuse STORE (restored run es)
  on_open lent (opened run es o) then = cond (passes_now lent run es o) (then run es o) (refuse STORE (opened run es o))

  unfoldable pub ledger : Call → Lent → Ledger → Account
  ledger (restore run es) lent l = restores run es l (store.restore (store_of run es))
  ledger (opens k) lent l = open_on k lent l
  ledger (cover f t) lent l = on_open lent l (λ run es o. cond (is_range f t) (cover_now f t lent run es o) (refuse RANGE (opened run es o)))
  ledger (contains m) lent l = on_open lent l (λ run es o. plain (truth (o.S m)) (opened run es o))
  ledger (covers f t) lent l = on_open lent l (λ run es o. cond (is_range f t) (plain (truth (all_of o.S f (t + 1 - f))) (opened run es o)) (refuse RANGE (opened run es o)))
  ledger take lent l = on_open lent l take_now
  ledger statement lent l = on_open lent l (λ run es o. write_now (said (length (line_now es o)) (line_now es o)) (line_now es o) lent (opened run es o))
  ledger write lent l = on_open lent l (λ run es o. write_now (wrote (length (row_now o))) (row_now o) lent (opened run es o))
