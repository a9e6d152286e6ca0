-- Lists of calls: what each call is handed, of what the last granted call left. Document 01: "In a list of calls run and entries stay those the last granted
-- restore received, fields and list items those the last granted call left, items as far as the lent length goes; before any are left, anything may be handed in."
-- Assumes nothing.
use Rattle.std.specs.Prelude.{ℕ, ◌*◌, ◌/◌, ◌≤◌, min, List, [], ◌∷◌, cond, ◌≡◌, length}
use Rattle.std.proofs.Math.ListN as list
use Rattle.layout.specs.RowLaws.{Bytes}
use Rattle.numbers.specs.Lists.{CHAIN_PLACE, SKIPPED_PLACE, RANGE_PLACE}
use Rattle.contact.specs.declared.Contact.{Contact}
use Rattle.contact.specs.Contact.{Lists}
use Rattle.calls_step.specs.declared.Mark.{Mark}
use Rattle.calls_step.specs.declared.Mark.TheVariants.{Fresh, Restored, Opened}
use Rattle.ledger.specs.Call.{Call, restore, opens, cover, contains, covers, take, statement, write, is_granted}
use Rattle.calls_step.specs.Input.{Input, Left}
use Rattle.calls_step.specs.Step.{step}

-- a call, with what it is handed
pub record Turn : Type 0 where
  pub call : Call
  pub input : Input

-- of each turn of a list
abbrev pub Each : (Turn → Type 0) → List Turn → Type 0
Each P [] = Unit {0}
Each P (t ∷ ts) = P t × Each P ts

-- of n items, w places each, as many as the lent list has whole places for are those that were left. Behind them anything may stand
abbrev pub SameItems : (w n : ℕ) → (left lent : List ℕ) → Type 0
SameItems w n left lent = list.take (w * min n (length lent / w)) lent ≡ list.take (w * min n (length lent / w)) left

-- g is what was left, h what is handed in
pub record SameStore (g h : Input) : Type 0 where
  pub run : h.run ≡ g.run
  pub entries : h.entries ≡ g.entries

pub record SameLists (c : Contact) (left lent : Lists) : Type 0 where
  pub chains : SameItems CHAIN_PLACE c.chains left.chains lent.chains
  pub skipped : SameItems SKIPPED_PLACE c.skipped left.skipped lent.skipped
  pub above : SameItems RANGE_PLACE c.above left.above lent.above
  pub unacked : SameItems 1 c.unacked left.unacked lent.unacked
  pub expired : SameItems RANGE_PLACE c.expired left.expired lent.expired

-- while no store is restored, any store may be handed in; while no contact is open, any fields and lists
abbrev pub StoreAgain : Mark → (g h : Input) → Type 0
StoreAgain Fresh g h = Unit {0}
StoreAgain Restored g h = SameStore g h
StoreAgain (Opened k) g h = SameStore g h

abbrev pub FieldsAgain : Mark → (g h : Input) → Type 0
FieldsAgain Fresh g h = Unit {0}
FieldsAgain Restored g h = Unit {0}
FieldsAgain (Opened k) g h = (h.contact ≡ g.contact) × SameLists g.contact g.lists h.lists

pub record Continues (g h : Input) : Type 0 where
  pub mark : h.mark ≡ g.mark
  pub store : StoreAgain g.mark g h
  pub fields : FieldsAgain g.mark g h

-- what was left last, once a call has left this: by a granted call what it leaves, by a refused one what was left before
abbrev pub last_left : Input → Left → Input
last_left g l = cond (is_granted l.answer) l.after g

module _ (N : ℕ) where
  -- what a turn leaves: the call made of what it is handed
  abbrev pub made : Turn → Left
  made t = step N t.call t.input

  -- what the arguments' types say: a run is of bytes, a message number at most N
  abbrev pub Typed : Call → Type 0
  Typed (restore run es) = Bytes run
  Typed (opens k) = Unit {0}
  Typed (cover f t) = t ≤ N
  Typed (contains m) = Unit {0}
  Typed (covers f t) = Unit {0}
  Typed take = Unit {0}
  Typed statement = Unit {0}
  Typed write = Unit {0}

  -- lent lengths, outputs, and what stands behind the items vary freely from call to call
  abbrev pub Legal : Input → List Turn → Type 0
  Legal g [] = Unit {0}
  Legal g (t ∷ ts) = Typed t.call × Continues g t.input × Legal (last_left g (made t)) ts
