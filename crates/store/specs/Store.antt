-- Restore: the questions of document 01 from 1 to 33, with 54 of document 02, in their order, and what a granted restore finds.
-- The RUN is document 01's one run of bytes; a store is the run and its entries. Assumes nothing.
use Rattle.std.specs.Prelude.{ℕ, zero, suc, ◌+◌, List, [], ◌∷◌, Bool, true, false, cond, ◌&&◌, ◌||◌, not, length, get_or, take, drop, leb, ltb, eqb}
use Rattle.std.proofs.Math.Option.{Option, none, some}
use Rattle.layout.specs.Questions.{ORDER, BOUNDS, CONTACT_BELOW_NEXT, CONTACT_NEW, QUEUED_CONTACT, QUEUED_MSGNO, QUEUED_UNACKED, QUEUED_NEW, DEPOSITOR, SLOT_NEW, SLOT_BELOW_LAST}
use Rattle.layout.specs.Layout.{Answer, accepted, refused_by, read_row, print}
use Rattle.rows.specs.Values.{Contact}
use Rattle.rows.specs.Checks.{any}
use Rattle.rows.specs.Rows as rows
use Rattle.store.specs.declared.Entry.{Entry}
use Rattle.store.specs.Rounds.{Asked, Going, Refused, Question, ask, first_no, Round, rounds}
use Rattle.store.specs.Kinds.{DEVICE, CONTACT, QUEUED, COURIER, Kind, device, contact, queued, courier, unknown, kind_of, ValueOf, layout_of, Seen, nothing, seen_of, refusal_in}

-- ---- stores
-- the run's length, the entries, and the row of each entry: a part of the run, but for the contact that is open
pub record Store : Type 0 where
  pub size : ℕ
  pub entries : List Entry
  pub row_of : Entry → List ℕ

-- what stands past the end of a list of entries
abbrev pub no_entry : Entry
no_entry = record { id = 0; start = 0; len = 0; msgno = 0; version = 0; kind = 0 }

abbrev pub entry_at : List Entry → ℕ → Entry
entry_at es i = get_or es i no_entry

-- 2, in exact numbers
abbrev pub within : (size : ℕ) → Entry → Bool
within size e = leb (e.start + e.len) size

-- an entry's part of the run; nothing where it is not within the run
abbrev pub part_of : (run : List ℕ) → Entry → List ℕ
part_of run e = cond (within (length run) e) (take e.len (drop e.start run)) []

-- the store that restore is handed
abbrev pub store_of : (run : List ℕ) → List Entry → Store
store_of run es = record { size = length run; entries = es; row_of = part_of run }

-- of this kind, and this contact or slot
abbrev pub is_of : (kind id : ℕ) → Entry → Bool
is_of kind id e = eqb e.kind kind && eqb e.id id

-- the first entry of contact k
abbrev pub contact_in : List Entry → (contact : ℕ) → Option Entry
contact_in [] k = none
contact_in (e ∷ es) k = cond (is_of CONTACT k e) (some e) (contact_in es k)

-- the store of question 34: this row in place of contact k's
abbrev pub replaced_in : (run : List ℕ) → List Entry → (k : ℕ) → (row : List ℕ) → Store
replaced_in run es k row = record { size = length run; entries = es; row_of = λ e. cond (is_of CONTACT k e) row (part_of run e) }

-- ... the row that these fields are written as
abbrev pub opened_in : (run : List ℕ) → List Entry → (k : ℕ) → Contact → Store
opened_in run es k fields = replaced_in run es k (print (rows.contact 3) fields)

-- ---- rows
abbrev pub answer_of : Store → (e : Entry) → Answer (ValueOf (kind_of e.kind))
answer_of s e = read_row (layout_of (kind_of e.kind) e.version) (s.row_of e)

abbrev pub seen : Store → Entry → Seen
seen s e = seen_of (kind_of e.kind) (answer_of s e)

-- ---- 1
abbrev pub in_order : List Entry → ℕ → Bool
in_order es zero = eqb (entry_at es 0).kind DEVICE
in_order es (suc i) =
    leb CONTACT (entry_at es (suc i)).kind && leb (entry_at es (suc i)).kind COURIER && leb (entry_at es i).kind (entry_at es (suc i)).kind

-- ---- 25 to 33: of an entry e, the i-th
abbrev pub any_below : ℕ → (ℕ → Bool) → Bool
any_below zero p = false
any_below (suc n) p = p n || any_below n p

-- the device's
abbrev pub next_in : (Entry → Seen) → List Entry → ℕ
next_in look [] = 0
next_in look (e ∷ es) = (look e).next_contact

-- the highest u64
abbrev pub last_slot : ℕ
last_slot = 18446744073709551615

module _ (es : List Entry) where
  -- an entry before the i-th is of this kind, and this contact or slot
  abbrev pub before : (i kind id : ℕ) → Bool
  before i kind id = any_below i (λ j. is_of kind id (entry_at es j))

  abbrev pub queued_before : (i id msgno : ℕ) → Bool
  queued_before i id msgno = any_below i (λ j. is_of QUEUED id (entry_at es j) && eqb (entry_at es j).msgno msgno)

module _ (es : List Entry) (look : Entry → Seen) where
  -- what is seen of a contact, among the entries before the i-th
  abbrev pub contact_before : (i id : ℕ) → Seen
  contact_before zero id = nothing
  contact_before (suc i) id = cond (is_of CONTACT id (entry_at es i)) (look (entry_at es i)) (contact_before i id)

  -- asked of carried rows only
  abbrev pub low_depositor : Option ℕ → Bool
  low_depositor none = true
  low_depositor (some d) = ltb d (next_in look es)

  abbrev pub across_as : Kind → Entry → ℕ → List Question
  across_as device e i = []
  across_as contact e i =
      ask CONTACT_BELOW_NEXT (ltb e.id (next_in look es))
      ∷ ask CONTACT_NEW (not (before es i CONTACT e.id))
      ∷ []
  across_as queued e i =
      let c = contact_before i e.id in
      ask QUEUED_CONTACT (before es i CONTACT e.id)
      ∷ ask QUEUED_MSGNO (leb 1 e.msgno && leb e.msgno c.sent_msgno)
      ∷ ask QUEUED_UNACKED (not (any (eqb e.msgno) c.unacked))
      ∷ ask QUEUED_NEW (not (queued_before es i e.id e.msgno))
      ∷ []
  across_as courier e i =
      ask DEPOSITOR (low_depositor (look e).depositor)
      ∷ ask SLOT_NEW (not (before es i COURIER e.id))
      ∷ ask SLOT_BELOW_LAST (ltb e.id last_slot)
      ∷ []
  across_as unknown e i = []

-- ---- the rounds
module _ (s : Store) where
  abbrev pub order : Round
  order i = first_no (ask ORDER (in_order s.entries i) ∷ [])

  abbrev pub bounds : Round
  bounds i = first_no (ask BOUNDS (within s.size (entry_at s.entries i)) ∷ [])

  -- 3 to 24 and 54, row by row
  abbrev pub read : Round
  read i = refusal_in (answer_of s (entry_at s.entries i))

  abbrev pub across : Round
  across i = let e = entry_at s.entries i in first_no (across_as s.entries (seen s) (kind_of e.kind) e i)

  abbrev pub all_rounds : List Round
  all_rounds = order ∷ bounds ∷ read ∷ across ∷ []

  -- no entries: 1 at 0
  abbrev pub begun : Asked
  begun = cond (eqb (length s.entries) 0) (Refused ORDER 0) Going

  abbrev pub asked : Asked
  asked = rounds all_rounds (length s.entries) begun

-- ---- what is found
pub record ContactRow : Type 0 where
  pub id : ℕ
  pub fields : Contact

abbrev pub contacts_as : (k : Kind) → (id : ℕ) → Answer (ValueOf k) → List ContactRow → List ContactRow
contacts_as contact id (accepted c) rest = record { id = id; fields = c } ∷ rest
contacts_as contact id (refused_by q) rest = rest
contacts_as device id a rest = rest
contacts_as queued id a rest = rest
contacts_as courier id a rest = rest
contacts_as unknown id a rest = rest

abbrev pub contacts_in : Store → List Entry → List ContactRow
contacts_in s [] = []
contacts_in s (e ∷ es) = contacts_as (kind_of e.kind) e.id (answer_of s e) (contacts_in s es)

-- the highest slot + 1 of the entries before the i-th, or 0
abbrev pub slots_below : List Entry → ℕ → ℕ
slots_below es zero = 0
slots_below es (suc i) =
    let r = slots_below es i in
    cond (eqb (entry_at es i).kind COURIER && leb r (entry_at es i).id) ((entry_at es i).id + 1) r

pub record Found : Type 0 where
  pub contacts : List ContactRow
  pub next_contact : ℕ
  pub next_slot : ℕ

abbrev pub found : Store → Found
found s = record { contacts = contacts_in s s.entries; next_contact = next_in (seen s) s.entries; next_slot = slots_below s.entries (length s.entries) }

-- ---- restore
pub data Outcome : Type 0 where
  granted : Found → Outcome
  refused : (number place : ℕ) → Outcome

abbrev pub outcome : Asked → Found → Outcome
outcome Going f = granted f
outcome (Refused n i) f = refused n i

abbrev pub restore : Store → Outcome
restore s = outcome (asked s) (found s)

-- ---- question 34's part about the store: for open, and for the other calls, of the row that the opened fields would be written as
abbrev pub going : Asked → Bool
going Going = true
going (Refused n i) = false

abbrev pub store_passes : (run : List ℕ) → List Entry → Bool
store_passes run es = going (asked (store_of run es))

abbrev pub replaced_passes : (run : List ℕ) → List Entry → (k : ℕ) → (row : List ℕ) → Bool
replaced_passes run es k row = before es (length es) CONTACT k && going (asked (replaced_in run es k row))
