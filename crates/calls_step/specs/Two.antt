-- Two runs of one list of calls, over stores that differ only in veiled bytes: which lists are so paired, and what is alike then.
-- Assumes nothing.
use Rattle.std.specs.Prelude.{ℕ, List, [], ◌∷◌, ◌≡◌, length, take}
use Rattle.layout.specs.Veil.{Outside}
use Rattle.layout.specs.Layout.{veiled_bytes}
use Rattle.rows.specs.Values.{Contact}
use Rattle.rows.specs.Rows as rows
use Rattle.contact.specs.Contact.{contact_of}
use Rattle.store.specs.declared.Entry.{Entry}
use Rattle.store.specs.Veiled.{VeilEqual, ContactAlike}
use Rattle.calls_step.specs.declared.Mark.{Mark}
use Rattle.calls_step.specs.declared.Mark.TheVariants.{Fresh, Restored, Opened}
use Rattle.ledger.specs.Call.{Call, restore, Answer, granted, advanced, truth, number, wrote, said, refused, refused_at}
use Rattle.calls_step.specs.Input.{Input, Left, lent_of}
use Rattle.ledger.specs.Ledger.{Open, Ledger, nothing, restored, opened, current}
use Rattle.calls_step.specs.Legal.{Turn, made}
use Rattle.calls_step.specs.Agree.{laid_lists}

-- ---- the same call; restores may be of stores that differ only in veiled bytes
pub data CallsAlike : Call → Call → Type 0 where
  stores : (run run' : List ℕ) (es : List Entry) → VeilEqual run run' es → CallsAlike (restore run es) (restore run' es)
  same : (c : Call) → CallsAlike c c

-- the same list of calls, with the same lent lengths; what else is handed in may differ
abbrev pub Paired : List Turn → List Turn → Type 0
Paired [] [] = Unit {0}
Paired [] (u ∷ us) = ⊥
Paired (t ∷ ts) [] = ⊥
Paired (t ∷ ts) (u ∷ us) = CallsAlike t.call u.call × (lent_of t.input ≡ lent_of u.input) × Paired ts us

-- ---- rows of one length, the same outside the veiled bytes
pub record RowsAlike (row row' : List ℕ) : Type 0 where
  pub long : length row ≡ length row'
  pub outside : Outside (veiled_bytes (rows.contact 3) row) row row'

-- a row is written, to the front of the output, where the answer is its length
abbrev pub WrittenAlike : Answer → (out out' : List ℕ) → Type 0
WrittenAlike (wrote n) out out' = RowsAlike (take n out) (take n out')
WrittenAlike granted out out' = Unit {0}
WrittenAlike (advanced b n) out out' = Unit {0}
WrittenAlike (truth b) out out' = Unit {0}
WrittenAlike (number n) out out' = Unit {0}
WrittenAlike (said n line) out out' = Unit {0}
WrittenAlike (refused q) out out' = Unit {0}
WrittenAlike (refused_at q i) out out' = Unit {0}

-- ---- opened fields and lists are those of a contact v: its items stand in the lists, as far as these go
pub record FieldsOf (v : Contact) (h : Input) : Type 0 where
  pub contact : h.contact ≡ contact_of v
  pub lists : laid_lists v 0 h.lists ≡ h.lists

-- ... of two that are alike outside veiled fields
pub record FieldsAlike (h h' : Input) : Type 0 where
  pub its : Contact
  pub others : Contact
  pub alike : ContactAlike its others
  pub first : FieldsOf its h
  pub second : FieldsOf others h'

abbrev pub OpenedAlike : Mark → (h h' : Input) → Type 0
OpenedAlike Fresh h h' = Unit {0}
OpenedAlike Restored h h' = Unit {0}
OpenedAlike (Opened id) h h' = FieldsAlike h h'

-- ---- two calls: the same answer and mark, opened fields alike outside veiled ones, rows written that differ only in veiled bytes
pub record LeftsAlike (l l' : Left) : Type 0 where
  pub answer : l.answer ≡ l'.answer
  pub mark : l.after.mark ≡ l'.after.mark
  pub fields : OpenedAlike l.after.mark l.after l'.after
  pub written : WrittenAlike l.answer l.after.out l'.after.out

module _ (N : ℕ) where
  abbrev pub AlikeAll : List Turn → List Turn → Type 0
  AlikeAll [] [] = Unit {0}
  AlikeAll [] (u ∷ us) = ⊥
  AlikeAll (t ∷ ts) [] = ⊥
  AlikeAll (t ∷ ts) (u ∷ us) = LeftsAlike (made N t) (made N u) × AlikeAll ts us

  -- ---- the ledgers of two such runs: the same store but for veiled bytes
  -- one contact is open in both: the same numbers sent and covered, fields alike outside veiled ones
  pub record OpenAlike (o o' : Open) : Type 0 where
    pub id : o.id ≡ o'.id
    pub n : o.n ≡ o'.n
    pub S : o.S ≡ o'.S
    pub fields : ContactAlike (current N o) (current N o')

  pub data LedgersAlike : Ledger → Ledger → Type 0 where
    nothings : LedgersAlike nothing nothing
    restoreds : (run run' : List ℕ) (es : List Entry) → VeilEqual run run' es → LedgersAlike (restored run es) (restored run' es)
    openeds : (run run' : List ℕ) (es : List Entry) (o o' : Open) → VeilEqual run run' es → OpenAlike o o' → LedgersAlike (opened run es o) (opened run' es o')
