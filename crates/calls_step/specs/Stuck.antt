-- What question 34 may be a no for in a list of calls: no store restored, no contact open, or a list lent too short for its items.
-- Assumes nothing.
use Rattle.std.specs.Prelude.{ℕ, Bool, false, ◌≡◌}
use Rattle.layout.specs.Questions.{STORE}
use Rattle.contact.specs.declared.Contact.{Contact}
use Rattle.numbers.specs.Lists.{room_for}
use Rattle.contact.specs.Contact.{Lists, lengths_of, counts_of}
use Rattle.calls_step.specs.declared.Mark.{Mark}
use Rattle.calls_step.specs.declared.Mark.TheVariants.{Fresh, Restored, Opened}
use Rattle.ledger.specs.Call.{Call, restore, opens, cover, contains, covers, take, statement, write, refused}
use Rattle.calls_step.specs.Input.{Input}
use Rattle.calls_step.specs.Legal.{Turn, made}

-- each list has places for as many items as are counted
abbrev pub places_for : Contact → Lists → Bool
places_for c l = room_for (counts_of c) (lengths_of l)

-- of a call on an open contact
abbrev pub Wanting : Mark → Input → Type 0
Wanting Fresh h = Unit {0}
Wanting Restored h = Unit {0}
Wanting (Opened k) h = places_for h.contact h.lists ≡ false

abbrev pub WantingStore : Mark → Type 0
WantingStore Fresh = Unit {0}
WantingStore Restored = ⊥
WantingStore (Opened k) = ⊥

-- restore is not asked 34
abbrev pub Excuse : Call → Input → Type 0
Excuse (restore run es) h = ⊥
Excuse (opens k) h = WantingStore h.mark
Excuse (cover f t) h = Wanting h.mark h
Excuse (contains m) h = Wanting h.mark h
Excuse (covers f t) h = Wanting h.mark h
Excuse take h = Wanting h.mark h
Excuse statement h = Wanting h.mark h
Excuse write h = Wanting h.mark h

abbrev pub Unstuck : (N : ℕ) → Turn → Type 0
Unstuck N t = (made N t).answer ≡ refused STORE → Excuse t.call t.input
