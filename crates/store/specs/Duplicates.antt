-- The first entry that has a duplicate before it: another of its kind, and of its contact, message or slot. Questions 26, 30 and 32 are a yes of those before it, and a
-- no of it (Proved.antt); 25 to 33 end there, so what stands behind it is asked nothing. Assumes nothing.
use Rattle.std.specs.Prelude.{ℕ, List, Bool, true, false, ◌&&◌, length}
use Rattle.store.specs.declared.Entry.{Entry}
use Rattle.store.specs.declared.Wanted.{Wanted}
use Rattle.store.specs.Kinds.{Kind, device, contact, queued, courier, unknown, kind_of}
use Rattle.store.specs.Store.{entry_at, any_below}
use Rattle.store.specs.Find.{is_wanted, first_where}

abbrev pub duplicate_of : Entry → Wanted
duplicate_of e = record { id = e.id; msgno = e.msgno; kind = e.kind }

-- the kinds whose entries have to be new
abbrev pub asks_new : Kind → Bool
asks_new device = false
asks_new contact = true
asks_new queued = true
asks_new courier = true
asks_new unknown = false

module _ (es : List Entry) where
  -- one of the entries before the i-th is e's duplicate
  abbrev pub duplicate_before : Entry → (i : ℕ) → Bool
  duplicate_before e i = asks_new (kind_of e.kind) && any_below i (λ j. is_wanted (duplicate_of e) (entry_at es j))

  abbrev pub has_duplicate : ℕ → Bool
  has_duplicate i = duplicate_before (entry_at es i) i

  -- the number of entries where none has a duplicate
  abbrev pub first_duplicate : ℕ
  first_duplicate = first_where has_duplicate 0 (length es)
