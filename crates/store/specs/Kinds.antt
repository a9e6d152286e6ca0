-- The kinds of entry, what the row of each is read as, and what the questions across rows look at in it.
-- Assumes nothing.
use Rattle.std.specs.Prelude.{ℕ, List, [], false, cond, eqb}
use Rattle.std.proofs.Math.Option.{Option, none, some}
use Rattle.std.proofs.Common.{inl, inr}
use Rattle.layout.specs.Questions.{CODE}
use Rattle.layout.specs.Layout.{Layout, done, ask, Answer, accepted, refused_by}
use Rattle.rows.specs.Values.{Device, Contact, Queued, Courier}
use Rattle.rows.specs.Rows as rows

abbrev pub DEVICE : ℕ
DEVICE = 0

abbrev pub CONTACT : ℕ
CONTACT = 1

abbrev pub QUEUED : ℕ
QUEUED = 2

abbrev pub COURIER : ℕ
COURIER = 3

pub data Kind : Type 0 where
  device contact queued courier unknown : Kind

abbrev pub kind_of : ℕ → Kind
kind_of k = cond (eqb k DEVICE) device (cond (eqb k CONTACT) contact (cond (eqb k QUEUED) queued (cond (eqb k COURIER) courier unknown)))

-- the value of a row
abbrev pub ValueOf : Kind → Type 0
ValueOf device = Device
ValueOf contact = Contact
ValueOf queued = Queued
ValueOf courier = Courier
ValueOf unknown = Unit {0}

-- the row's layout; an unknown kind is refused before anything is read
abbrev pub layout_of : (k : Kind) → (version : ℕ) → Layout (ValueOf k)
layout_of device version = rows.device version
layout_of contact version = rows.contact version
layout_of queued version = rows.queued version
layout_of courier version = rows.courier version
layout_of unknown version = ask CODE false (done tt)

-- ---- what the questions across rows look at
pub record Seen : Type 0 where
  -- a device's
  pub next_contact : ℕ
  -- a contact's
  pub sent_msgno : ℕ
  pub unacked : List ℕ
  -- a carried row's
  pub depositor : Option ℕ

abbrev pub nothing : Seen
nothing = record { next_contact = 0; sent_msgno = 0; unacked = []; depositor = none }

-- what is seen of a contact
abbrev pub contact_sight : (sent : ℕ) → (unacked : List ℕ) → Seen
contact_sight sent unacked = record { next_contact = 0; sent_msgno = sent; unacked = unacked; depositor = none }

abbrev pub depositor_of : Courier → Option ℕ
depositor_of (inl c) = some c.depositor
depositor_of (inr t) = none

abbrev pub seen_in : (k : Kind) → ValueOf k → Seen
seen_in device d = record { next_contact = d.next_contact; sent_msgno = 0; unacked = []; depositor = none }
seen_in contact c = contact_sight c.sent_msgno c.unacked
seen_in queued q = nothing
seen_in courier h = record { next_contact = 0; sent_msgno = 0; unacked = []; depositor = depositor_of h }
seen_in unknown v = nothing

-- of a row that was refused nothing is seen
abbrev pub seen_of : (k : Kind) → Answer (ValueOf k) → Seen
seen_of k (accepted v) = seen_in k v
seen_of k (refused_by q) = nothing

abbrev pub refusal_in : {A : Type 0} → Answer A → Option ℕ
refusal_in (accepted v) = none
refusal_in (refused_by q) = some q
