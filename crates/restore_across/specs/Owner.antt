-- What is asked of a queued row's contact: its sent_msgno, and its unacked numbers where they stand in its row.
-- Assumes nothing.
use Rattle.std.specs.Prelude.{ℕ, List, false, cond, ◌≡◌, drop, T, ltb}
use Rattle.std.proofs.Math.Option.{none}
use Rattle.layout.specs.Form.{u32}
use Rattle.layout.specs.Layout.{Answer, accepted, refused_by, read_row}
use Rattle.rows.specs.Values as value
use Rattle.rows.specs.Checks.{rising}
use Rattle.rows.specs.Rows as rows
use Rattle.contact_lists.specs.Lists.{items, Stands}
use Rattle.contact.specs.Check.{contact_at}
use Rattle.contact.specs.declared.ContactAt.{ContactAt}
use Rattle.store.specs.declared.Entry.{Entry}
use Rattle.store.specs.Omitted.{Omitted, is_omitted, omitted_seen}
use Rattle.store.specs.Kinds.{contact, Seen, nothing, contact_sight, seen_of, refusal_in}
use Rattle.store.specs.Store.{part_of}
use Rattle.restore_across.specs.declared.Owner.{Owner}

-- what is seen of a contact's row
abbrev pub contact_seen : (version : ℕ) → (row : List ℕ) → Seen
contact_seen version row = seen_of contact (read_row (rows.contact version) row)

-- ... and of a contact's entry, whose row may be left out
abbrev pub owner_seen : (run : List ℕ) → Omitted → Entry → Seen
owner_seen run omitted c = cond (is_omitted omitted c) (omitted_seen omitted) (contact_seen c.version (part_of run c))

abbrev pub unacked_at : (row : List ℕ) → Owner → List ℕ
unacked_at row o = items u32 o.count (drop o.unacked row)

-- these numbers stand in the row, and rise
pub record Searchable (row : List ℕ) (o : Owner) : Type 0 where
  pub stands : Stands u32 row o.unacked o.count
  pub highest : ℕ
  pub rises : T (rising 1 highest (unacked_at row o))

-- what is said of a contact with this row
abbrev pub owner_says : (row : List ℕ) → Owner → Seen
owner_says row o = contact_sight o.sent_msgno (unacked_at row o)

-- ... is what is seen of it, and its numbers can be searched
abbrev pub OwnerStands : Seen → (row : List ℕ) → Owner → Type 0
OwnerStands x row o = (owner_says row o ≡ x) × Searchable row o

-- nothing
abbrev pub no_owner : Owner
no_owner = record { unacked = 0; count = 0; sent_msgno = 0 }

-- of a contact's row: where its unacked numbers stand, and how many they are; nothing where it was refused
abbrev pub owner_at : ContactAt → Owner
owner_at at = record { unacked = at.numbers.unacked.first; count = at.numbers.unacked.count; sent_msgno = at.keys.sent_msgno }

abbrev pub owner_read : (version : ℕ) → Answer value.Contact → Owner
owner_read version (accepted v) = owner_at (contact_at version v)
owner_read version (refused_by q) = no_owner

abbrev pub owner_in : (version : ℕ) → (row : List ℕ) → Owner
owner_in version row = owner_read version (read_row (rows.contact version) row)

-- where some version's questions accept the row, this is what is seen of it
abbrev pub OwnerIn : (row : List ℕ) → Owner → Type 0
OwnerIn row o = (version : ℕ) → refusal_in (read_row (rows.contact version) row) ≡ none → (o ≡ owner_in version row) × OwnerStands (contact_seen version row) row o

-- of the contact left out
abbrev pub owner_omitted : Omitted → Owner
owner_omitted omitted = record { unacked = 0; count = 0; sent_msgno = (omitted_seen omitted).sent_msgno }

-- of a contact's entry
abbrev pub owner_from : (run : List ℕ) → Omitted → Entry → Owner
owner_from run omitted c = cond (is_omitted omitted c) (owner_omitted omitted) (owner_in c.version (part_of run c))

-- its row, if it is not left out, is accepted
abbrev pub Known : (run : List ℕ) → Omitted → Entry → Type 0
Known run omitted c = is_omitted omitted c ≡ false → refusal_in (read_row (rows.contact c.version) (part_of run c)) ≡ none

-- ... and then this is what is seen of it
abbrev pub OwnerFrom : (run : List ℕ) → Omitted → Entry → Owner → Type 0
OwnerFrom run omitted c o = Known run omitted c → (o ≡ owner_from run omitted c) × OwnerStands (owner_seen run omitted c) (part_of run c) o

-- what is seen of the contact that was found at p; nothing where none was found below upto
abbrev pub owner_found : (run : List ℕ) → Omitted → Entry → (p upto : ℕ) → Seen
owner_found run omitted c p upto = cond (ltb p upto) (owner_seen run omitted c) nothing
