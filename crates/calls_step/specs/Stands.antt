-- Which memory stands for a state of the ledger, what is known of a state that calls come to, and what the last granted call has left of it. A call may be lent
-- other lengths than the one before it; what was left last is what it is handed as much of as it is lent (`Continues`).
-- Assumes nothing.
use Rattle.std.specs.Prelude.{ℕ, ◌*◌, ◌≤◌, List, true, ◌≡◌, length, take}
use Rattle.layout.specs.Layout.{print, group}
use Rattle.layout.specs.RowLaws.{Bytes, Valid}
use Rattle.rows.specs.Values.{Contact}
use Rattle.rows.specs.Rows.{contact, chain, skipped}
use Rattle.contact_lists.specs.Places.{print_places}
use Rattle.numbers.specs.Lists.{CHAIN_PLACE, SKIPPED_PLACE, RANGE_PLACE}
use Rattle.received.specs.Lent.{flat}
use Rattle.numbers.specs.Sets.{Records}
use Rattle.contact.specs.Contact.{Lists, contact_of}
use Rattle.store.specs.declared.Entry.{Entry}
use Rattle.store.specs.Rounds.{Going}
use Rattle.store.specs.Kinds.{CONTACT}
use Rattle.store.specs.Store.{store_of, opened_in, asked, before}
use Rattle.calls_step.specs.declared.Mark.TheVariants.{Fresh, Restored, Opened}
use Rattle.calls_step.specs.Input.{Input}
use Rattle.ledger.specs.Ledger.{Open, Ledger, nothing, restored, opened, covered, current}
use Rattle.calls_step.specs.Agree.{standing}

-- n items of w places each stand at the front of l
pub record Holds (w n : ℕ) (items l : List ℕ) : Type 0 where
  pub long : length items ≡ w * n
  pub front : take (w * n) l ≡ items

-- the lists hold a contact's items
pub record HoldsAll (v : Contact) (l : Lists) : Type 0 where
  pub chains : Holds CHAIN_PLACE (length v.chains) (print_places CHAIN_PLACE (group chain) v.chains) l.chains
  pub skipped : Holds SKIPPED_PLACE (length v.skipped) (print_places SKIPPED_PLACE (group skipped) v.skipped) l.skipped
  pub above : Holds RANGE_PLACE (length v.above) (flat v.above) l.above
  pub unacked : Holds 1 (length v.unacked) v.unacked l.unacked
  pub expired : Holds RANGE_PLACE (length v.expired) (flat v.expired) l.expired

-- a store that was granted
pub record SoundStore (run : List ℕ) (es : List Entry) : Type 0 where
  pub bytes : Bytes run
  pub going : asked (store_of run es) ≡ Going

-- ---- what the last granted call left: the store, and a contact's fields and items
pub record LeftStore (r : List ℕ) (es : List Entry) (g : Input) : Type 0 where
  pub run : g.run ≡ r
  pub entries : g.entries ≡ es

pub record LeftFields (v : Contact) (g : Input) : Type 0 where
  pub contact : g.contact ≡ contact_of v
  pub lists : HoldsAll v g.lists

module _ (N : ℕ) where
  -- an open contact: its fields are as they were read, no fewer are sent, and with them in its row's place the store goes on passing
  pub record Sound (run : List ℕ) (es : List Entry) (o : Open) : Type 0 where
    pub store : SoundStore run es
    pub fields : Valid (contact 3) o.fields
    pub bytes : Bytes (print (contact 3) o.fields)
    pub now : Valid (contact 3) (current N o)
    pub more : o.fields.sent_msgno ≤ o.n
    pub records : Records N o.S (covered N o)
    pub stored : before es (length es) CONTACT o.id ≡ true
    pub going : asked (opened_in run es o.id (current N o)) ≡ Going

  abbrev pub SoundLedger : Ledger → Type 0
  SoundLedger nothing = Unit {0}
  SoundLedger (restored run es) = SoundStore run es
  SoundLedger (opened run es o) = Sound run es o

  -- ---- an input stands for the ledger's state: it is what would stand there by it
  pub record StandsFor (l : Ledger) (h : Input) : Type 0 where
    pub stands : standing N l 0 h.out h ≡ h

  -- ---- this is what was left last in the state
  abbrev pub LastLeft : Ledger → Input → Type 0
  LastLeft nothing g = g.mark ≡ Fresh
  LastLeft (restored run es) g = (g.mark ≡ Restored) × LeftStore run es g
  LastLeft (opened run es o) g = (g.mark ≡ Opened (record { 0 = o.id })) × LeftStore run es g × LeftFields (current N o) g
