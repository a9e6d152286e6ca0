-- Question 34 of what it is asked of, and the parts of its answer.
-- Assumes nothing.
use Rattle.std.specs.Prelude.{ℕ, List, Bool, false, ◌&&◌, not, ◌≡◌, Option, Some, None}
use Rattle.rows.specs.declared.ContactId.{ContactId}
use Rattle.contact.specs.Contact.{Lists}
use Rattle.contact.specs.declared.Contact.{Contact}
use Rattle.contact_image.specs.Row.{counted, image, asked_contact, ContactTyped, ListsTyped}
use Rattle.store.specs.declared.Entry.{Entry}
use Rattle.store.specs.Omitted.{Omitted}
use Rattle.store.specs.Store.{store_passes, replaced_passes}
use Rattle.calls_step.specs.Omitted.{is_length}
use Rattle.calls_store.specs.declared.Passed.{Passed}
use Rattle.calls_store.specs.declared.Asking.{Asking}
use Rattle.calls_store.specs.declared.Asking.TheVariants.{Nothing, Stored, Opened}

abbrev pub passes_for : Asking → (run : List ℕ) → List Entry → ContactId → Contact → Lists → Bool
passes_for Nothing run es id c l = false
passes_for Stored run es id c l = store_passes run es
passes_for Opened run es id c l = counted c l && replaced_passes run es id.0 (image c l)

-- a writer would answer a length; and what the types say of the fields and their lists
pub record Writable (c : Contact) (l : Lists) (r : Bool) : Type 0 where
  pub asked : r ≡ is_length (asked_contact c l)
  pub contact : ContactTyped c
  pub lists : ListsTyped l

abbrev pub passed_as : Option Entry → (passed : Bool) → Passed
passed_as s passed = record { sought = s; passed = passed }

-- ---- the parts
abbrev pub WritableFor : Asking → Contact → Lists → (r : Bool) → Type 0
WritableFor Nothing c l r = r ≡ false
WritableFor Stored c l r = r ≡ false
WritableFor Opened c l r = Writable c l r

abbrev pub omitted_for : Asking → ContactId → Contact → Omitted
omitted_for Nothing id c = None
omitted_for Stored id c = None
omitted_for Opened id c = Some (record { contact = id; sent_msgno = c.sent_msgno })

abbrev pub count_for : Asking → Contact → ℕ
count_for Nothing c = 0
count_for Stored c = 0
count_for Opened c = c.unacked

abbrev pub yes_for : Asking → (writable found going among : Bool) → Bool
yes_for Nothing writable found going among = false
yes_for Stored writable found going among = going
yes_for Opened writable found going among = writable && (found && (going && not among))
