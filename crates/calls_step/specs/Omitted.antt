-- How 34 can be asked of an open contact without its row being written: of the fields by what a writer asks, and of the entries with the contact's row left
-- out. That this is question 34 is proved (Proved.antt), so it need not be believed; the code's contracts may cite it. Assumes nothing.
use Rattle.std.specs.Prelude.{ℕ, List, Bool, true, false, ◌&&◌, length, take}
use Rattle.layout.specs.Write.{Written, wrote, refuses}
use Rattle.contact.specs.Contact.{Lists}
use Rattle.contact.specs.declared.Contact.{Contact}
use Rattle.contact_image.specs.Row.{asked_contact}
use Rattle.store.specs.declared.Entry.{Entry}
use Rattle.store.specs.Kinds.{CONTACT, Seen, contact_sight}
use Rattle.store.specs.Store.{is_of, before, going}
use Rattle.store.specs.Omitted.{asked_omitted}
use Rattle.calls_step.specs.Input.{Input}

-- what the questions across rows look at in an opened contact
abbrev pub sight_of : Contact → Lists → Seen
sight_of c l = contact_sight c.sent_msgno (take c.unacked l.unacked)

-- contact k is in the store, and with its row left out and x seen of it every question is a yes
abbrev pub passes_omitted : (run : List ℕ) → List Entry → (contact : ℕ) → Seen → Bool
passes_omitted run es k x = before es (length es) CONTACT k && going (asked_omitted run es (is_of CONTACT k) x)

abbrev pub is_length : Written → Bool
is_length (wrote n) = true
is_length (refuses q) = false

abbrev pub passes_in_parts : (contact : ℕ) → Input → Bool
passes_in_parts k h = is_length (asked_contact h.contact h.lists) && passes_omitted h.run h.entries k (sight_of h.contact h.lists)
