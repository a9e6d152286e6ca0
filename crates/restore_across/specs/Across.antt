-- What one entry's turn asks and leaves, and where it looks: questions 25 to 33, over the structs that the code keeps.
-- Assumes nothing.
use Rattle.std.specs.Prelude.{ℕ, ◌+◌, ◌≤◌, ◌<◌, List, [], ◌∷◌, Bool, true, cond, ◌&&◌, not, ◌≡◌, leb, ltb, eqb, T, Result, Ok, Err}
use Rattle.std.proofs.Math.Option.{Option, none, some}
use Rattle.layout.specs.declared.question.Question.{Question}
use Rattle.layout.specs.Questions.{number_of, CONTACT_BELOW_NEXT, CONTACT_NEW, QUEUED_CONTACT, QUEUED_MSGNO, QUEUED_UNACKED, QUEUED_NEW, DEPOSITOR, SLOT_NEW, SLOT_BELOW_LAST}
use Rattle.layout.specs.Layout.{read_row}
use Rattle.rows.specs.Checks.{any}
use Rattle.rows.specs.Rows as rows
use Rattle.store.specs.declared.Entry.{Entry}
use Rattle.store.specs.declared.Refusal.{Refusal}
use Rattle.store.specs.Omitted.{Omitted}
use Rattle.store.specs.Rounds.{ask, first_no}
use Rattle.store.specs.Kinds.{CONTACT, QUEUED, Kind, device, contact, queued, courier, unknown, kind_of, seen_of}
use Rattle.store.specs.Store.{entry_at, is_of, part_of, last_slot}
use Rattle.store.specs.declared.Wanted.{Wanted}
use Rattle.restore_across.specs.declared.Owner.{Owner}
use Rattle.restore_across.specs.declared.Progress.{Progress}
use Rattle.restore_across.specs.Owner.{no_owner, owner_seen, owner_from, owner_found, unacked_at, OwnerStands, Known}

-- how far they have come: every answer so far was yes, and this is kept; or the first no, the question's number and the entry's index
pub data Across : Type 0 where
  Going : Progress → Across
  Refused : ℕ → ℕ → Across

-- what code answers of one entry or more
abbrev pub across_by : {R : Type 0} → (number : R → ℕ) → Result Progress (Refusal R) → Across
across_by number (Ok w) = Going w
across_by number (Err r) = Refused (number r.question) r.place

abbrev pub across_says : Result Progress (Refusal Question) → Across
across_says = across_by number_of

-- ... and of the i-th
abbrev pub turn_says : (i : ℕ) → Result Progress Question → Across
turn_says i (Ok w) = Going w
turn_says i (Err q) = Refused (number_of q) i

-- ---- before the first turn
abbrev pub fresh : Progress
fresh = record { next_contact = 0; slots = 0; latest = 0; owner = no_owner }

-- ---- where a queued row's contact stands
abbrev pub contact_of : Entry → Wanted
contact_of e = record { id = e.id; msgno = 0; kind = CONTACT }

abbrev pub earlier : ℕ → ℕ → ℕ
earlier a b = cond (leb a b) a b

-- the place of c, if that is below upto and c is the contact; else the other
abbrev pub place_or : (e c : Entry) → (place upto other : ℕ) → ℕ
place_or e c place upto other = cond (ltb place upto) (cond (is_of CONTACT e.id c) place other) other

-- at `latest`, where a stands, or at `hint`, where b does, if that is below upto; else upto
abbrev pub tried : (e a : Entry) → (latest : ℕ) → (b : Entry) → (hint upto : ℕ) → ℕ
tried e a latest b hint upto = place_or e a latest upto (place_or e b hint upto upto)

-- it was found at p below upto; or it is looked for from `near` on, and found at q; or from the start up to `far`, and found at o
abbrev pub near_limit : (p latest upto : ℕ) → ℕ
near_limit p latest upto = cond (ltb p upto) upto (earlier latest upto)

abbrev pub far_limit : (p q near upto : ℕ) → ℕ
far_limit p q near upto = cond (ltb p upto) 0 (cond (ltb q upto) 0 near)

abbrev pub chosen : (p q o far upto : ℕ) → ℕ
chosen p q o far upto = cond (ltb p upto) p (cond (ltb q upto) q (cond (ltb o far) o upto))

-- p is where it stands, if that is below upto; else none stands there
pub record OwnerAt (es : List Entry) (e : Entry) (upto p : ℕ) : Type 0 where
  pub hit : p < upto → T (is_of CONTACT e.id (entry_at es p))
  pub misses : upto ≤ p → (m : ℕ) → m < upto → T (is_of CONTACT e.id (entry_at es m)) → ⊥

-- nothing is looked for but a queued row's contact
abbrev pub owner_limit : Entry → (i : ℕ) → ℕ
owner_limit e i = cond (eqb e.kind QUEUED) i 0

-- what is asked of the contact found at p: what is kept, where the last queued row's contact stands there; nothing where none was found below upto
abbrev pub kept_or : Across → (p : ℕ) → Owner → Owner
kept_or (Going w) p o = cond (eqb p w.latest) w.owner o
kept_or (Refused n j) p o = o

abbrev pub owner_for : (run : List ℕ) → Omitted → (c : Entry) → (p upto : ℕ) → Across → Owner
owner_for run omitted c p upto s = cond (ltb p upto) (kept_or s p (owner_from run omitted c)) no_owner

-- where that contact is the one kept, what is kept of it is what is seen of it
abbrev pub Reusable : (run : List ℕ) → Omitted → (c : Entry) → (p upto : ℕ) → Across → Type 0
Reusable run omitted c p upto (Going w) = p < upto → p ≡ w.latest → OwnerStands (owner_seen run omitted c) (part_of run c) w.owner
Reusable run omitted c p upto (Refused n j) = Unit {0}

-- what is answered is what is asked of that contact, if its row is known to be accepted; and what is seen of it, if what is kept is
abbrev pub OwnerFor : (run : List ℕ) → Omitted → (c : Entry) → (p upto : ℕ) → Across → Owner → Type 0
OwnerFor run omitted c p upto s o =
    (p < upto → Known run omitted c)
    → (o ≡ owner_for run omitted c p upto s) × (Reusable run omitted c p upto s → OwnerStands (owner_found run omitted c p upto) (part_of run c) o)

-- ---- one turn: the i-th entry is e; its contact's entry is c, found at p, and o what is asked of it; f is the first entry that has a duplicate
abbrev pub after : Option ℕ → (i : ℕ) → Progress → Across
after none i w = Going w
after (some n) i w = Refused n i

abbrev pub low_in : (next : ℕ) → Option ℕ → Bool
low_in next none = true
low_in next (some d) = ltb d next

abbrev pub next_contact_in : (run : List ℕ) → Entry → ℕ
next_contact_in run e = (seen_of device (read_row (rows.device e.version) (part_of run e))).next_contact

abbrev pub depositor_read : (version : ℕ) → (row : List ℕ) → Option ℕ
depositor_read version row = (seen_of courier (read_row (rows.courier version) row)).depositor

abbrev pub depositor_in : (run : List ℕ) → Entry → Option ℕ
depositor_in run e = depositor_read e.version (part_of run e)

-- where the answer is yes, 31 is a yes of every row with these bytes
abbrev pub SurelyLow : (next : ℕ) → (row : List ℕ) → Bool → Type 0
SurelyLow next row r = r ≡ true → (version : ℕ) → low_in next (depositor_read version row) ≡ true

abbrev pub device_turn : (run : List ℕ) → Entry → Progress → Across
device_turn run e w = Going (record { next_contact = next_contact_in run e; slots = w.slots; latest = w.latest; owner = w.owner })

abbrev pub contact_turn : Entry → (i f : ℕ) → Progress → Across
contact_turn e i f w = after (first_no (ask CONTACT_BELOW_NEXT (ltb e.id w.next_contact) ∷ ask CONTACT_NEW (ltb i f) ∷ [])) i w

abbrev pub queued_turn : (row : List ℕ) → Entry → (i p f : ℕ) → Owner → Progress → Across
queued_turn row e i p f o w =
    after
    (first_no (
    ask QUEUED_CONTACT (ltb p i)
    ∷ ask QUEUED_MSGNO (leb 1 e.msgno && leb e.msgno o.sent_msgno)
    ∷ ask QUEUED_UNACKED (not (any (eqb e.msgno) (unacked_at row o)))
    ∷ ask QUEUED_NEW (ltb i f)
    ∷ []))
    i (record { next_contact = w.next_contact; slots = w.slots; latest = p; owner = o })

-- one above id, if that is higher
abbrev pub raised : ℕ → ℕ → ℕ
raised high id = cond (leb high id) (id + 1) high

abbrev pub courier_turn : (run : List ℕ) → Entry → (i f : ℕ) → Progress → Across
courier_turn run e i f w =
    after
    (first_no (
    ask DEPOSITOR (low_in w.next_contact (depositor_in run e))
    ∷ ask SLOT_NEW (ltb i f)
    ∷ ask SLOT_BELOW_LAST (ltb e.id last_slot)
    ∷ []))
    i (record { next_contact = w.next_contact; slots = raised w.slots e.id; latest = w.latest; owner = w.owner })

abbrev pub entry_turn_as : Kind → (run : List ℕ) → (e c : Entry) → (i p f : ℕ) → Owner → Progress → Across
entry_turn_as device run e c i p f o w = device_turn run e w
entry_turn_as contact run e c i p f o w = contact_turn e i f w
entry_turn_as queued run e c i p f o w = queued_turn (part_of run c) e i p f o w
entry_turn_as courier run e c i p f o w = courier_turn run e i f w
entry_turn_as unknown run e c i p f o w = Going w

abbrev pub entry_turn : (run : List ℕ) → (e c : Entry) → (i p f : ℕ) → Owner → Across → Across
entry_turn run e c i p f o (Going w) = entry_turn_as (kind_of e.kind) run e c i p f o w
entry_turn run e c i p f o (Refused n j) = Refused n j
