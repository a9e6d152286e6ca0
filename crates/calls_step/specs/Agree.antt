-- What stands after a call, by the ledger: opened fields, lent lists and the output, whole.
-- Document 01: they are the ledger's while a contact is open, and as handed in while none is. Assumes nothing.
use Rattle.std.specs.Prelude.{ℕ, ◌*◌, ◌/◌, List, [], ◌∷◌, ◌++◌, ◌≡◌, length, take, drop}
use Rattle.layout.specs.Veil.{zeros}
use Rattle.layout.specs.Layout.{group}
use Rattle.rows.specs.Values as value
use Rattle.rows.specs.Rows.{chain, skipped}
use Rattle.put.specs.Put.{put}
use Rattle.contact_lists.specs.Places.{print_places}
use Rattle.numbers.specs.Lists.{CHAIN_PLACE, SKIPPED_PLACE, RANGE_PLACE}
use Rattle.received.specs.Lent.{flat}
use Rattle.contact.specs.Contact.{Lists, contact_of}
use Rattle.calls_step.specs.declared.Mark.TheVariants.{Fresh, Restored, Opened}
use Rattle.calls_step.specs.Input.{Input, Left, leaves, lent_of}
use Rattle.ledger.specs.Ledger.{Ledger, nothing, restored, opened, Account, current, ledger}
use Rattle.calls_step.specs.Legal.{Turn, made}

-- a list with these items at its front, each w places, as far as its length goes in whole items; what stands behind them stays
unfoldable pub laid : (w : ℕ) → (items : List ℕ) → List ℕ → List ℕ
laid w items l = put l 0 (take (w * (length l / w)) items)

-- the lists with the items of a contact in them; pairs that cover freed are 0
abbrev pub laid_lists : value.Contact → (freed : ℕ) → Lists → Lists
laid_lists v freed l = record {
  chains = laid CHAIN_PLACE (print_places CHAIN_PLACE (group chain) v.chains) l.chains;
  skipped = laid SKIPPED_PLACE (print_places SKIPPED_PLACE (group skipped) v.skipped) l.skipped;
  above = laid RANGE_PLACE (flat v.above ++ zeros (2 * freed)) l.above;
  unacked = laid 1 v.unacked l.unacked;
  expired = laid RANGE_PLACE (flat v.expired) l.expired;
}

module _ (N : ℕ) where
  abbrev pub standing : Ledger → (freed : ℕ) → (out : List ℕ) → Input → Input
  standing nothing freed out h = record { mark = Fresh; run = h.run; entries = h.entries; contact = h.contact; lists = h.lists; out = out }
  standing (restored run es) freed out h = record { mark = Restored; run = run; entries = es; contact = h.contact; lists = h.lists; out = out }
  standing (opened run es o) freed out h = record {
    mark = Opened (record { 0 = o.id });
    run = run;
    entries = es;
    contact = contact_of (current N o);
    lists = laid_lists (current N o) freed h.lists;
    out = out;
  }

  -- what is written stands at the front of the output; what stands behind it stays
  abbrev pub shown : Account → Input → Left
  shown a h = leaves a.answer (standing a.state a.freed (a.output ++ drop (length a.output) h.out) h)

  -- what the ledger says of a turn: it is fed the call and the lent lengths
  abbrev pub booked : Turn → Ledger → Account
  booked t l = ledger N t.call (lent_of t.input) l

  -- a list of calls agrees with the ledger, call by call: the answer, and all that stands afterwards
  abbrev pub AgreesAll : Ledger → List Turn → Type 0
  AgreesAll l [] = Unit {0}
  AgreesAll l (t ∷ ts) = let a = booked t l in (made N t ≡ shown a t.input) × AgreesAll a.state ts
