-- What a call is handed, and what it leaves.
-- Assumes nothing.
use Rattle.std.specs.Prelude.{ℕ, List, length}
use Rattle.contact.specs.declared.Contact.{Contact}
use Rattle.contact.specs.Contact.{Lists}
use Rattle.store.specs.declared.Entry.{Entry}
use Rattle.ledger.specs.Call.{Answer, refused, Lent}
use Rattle.calls_step.specs.declared.Mark.{Mark}

-- all that is handed to a call. The MARK is document 01's: whether a store is restored, and which contact is open
pub record Input : Type 0 where
  pub mark : Mark
  pub run : List ℕ
  pub entries : List Entry
  -- the opened fields, and the lists that hold their items
  pub contact : Contact
  pub lists : Lists
  pub out : List ℕ

abbrev pub lent_of : Input → Lent
lent_of h = record {
  chains = length h.lists.chains;
  skipped = length h.lists.skipped;
  above = length h.lists.above;
  unacked = length h.lists.unacked;
  expired = length h.lists.expired;
  out = length h.out;
}

-- what a call leaves: its answer, and what stands afterwards where it was handed something
pub record Left : Type 0 where
  pub answer : Answer
  pub after : Input

abbrev pub leaves : Answer → Input → Left
leaves a h = record { answer = a; after = h }

-- a no changes no state and no lent byte
abbrev pub no : ℕ → Input → Left
no q h = leaves (refused q) h
