-- The accepted stores: every condition of document 01 as a statement over the entries and pairs of them, with no order of questions. And the first no.
-- Restore grants exactly the accepted stores, and answers exactly the first no (Proved.antt). Assumes nothing.
use Rattle.std.specs.Prelude.{ℕ, suc, ◌+◌, ◌≤◌, ◌<◌, List, [], ◌∷◌, ◌⊎◌, ◌≡◌, length}
use Rattle.std.proofs.Math.Option.{some}
use Rattle.layout.specs.Questions.{ORDER}
use Rattle.layout.specs.Layout.{print, fits_of}
use Rattle.rows.specs.Meets.{MeetsDevice, MeetsContact, MeetsQueued, MeetsCourier}
use Rattle.store.specs.declared.Entry.{Entry}
use Rattle.store.specs.Rounds.{First}
use Rattle.store.specs.Kinds.{DEVICE, CONTACT, QUEUED, COURIER, Kind, device, contact, queued, courier, unknown, kind_of, ValueOf, layout_of, Seen, seen_in}
use Rattle.store.specs.Store.{Store, entry_at, next_in, last_slot, all_rounds}

abbrev pub NotIn : ℕ → List ℕ → Type 0
NotIn n [] = Unit {0}
NotIn n (x ∷ xs) = (n ≡ x → ⊥) × NotIn n xs

-- ---- 25 to 33
-- entries j and i are of one kind, and one contact or slot
pub record Twice (es : List Entry) (kind j i : ℕ) : Type 0 where
  pub one : (entry_at es i).kind ≡ kind
  pub other : (entry_at es j).kind ≡ kind
  pub same : (entry_at es j).id ≡ (entry_at es i).id

-- `look` says what is seen of each entry's row
module _ (es : List Entry) (look : Entry → Seen) where
  -- the entry of the contact that the i-th entry, a queued one, is of
  pub record Owner (i : ℕ) : Type 0 where
    pub place : ℕ
    pub below : place < length es
    pub «is» : (entry_at es place).kind ≡ CONTACT
    pub id : (entry_at es place).id ≡ (entry_at es i).id
    pub from : 1 ≤ (entry_at es i).msgno
    pub to : (entry_at es i).msgno ≤ (look (entry_at es place)).sent_msgno
    pub unacked : NotIn (entry_at es i).msgno (look (entry_at es place)).unacked

  pub record Across : Type 0 where
    pub below_next : (i : ℕ) → i < length es → (entry_at es i).kind ≡ CONTACT → (entry_at es i).id < next_in look es
    pub contacts-new : (i j : ℕ) → i < length es → j < i → Twice es CONTACT j i → ⊥
    pub owners : (i : ℕ) → i < length es → (entry_at es i).kind ≡ QUEUED → Owner i
    pub queued-new : (i j : ℕ) → i < length es → j < i → Twice es QUEUED j i → (entry_at es j).msgno ≡ (entry_at es i).msgno → ⊥
    pub depositors : (i d : ℕ) → i < length es → (entry_at es i).kind ≡ COURIER → (look (entry_at es i)).depositor ≡ some d → d < next_in look es
    pub slots-new : (i j : ℕ) → i < length es → j < i → Twice es COURIER j i → ⊥
    pub below_last : (i : ℕ) → i < length es → (entry_at es i).kind ≡ COURIER → (entry_at es i).id < last_slot

-- ---- 3 to 24 and 54: the entry's row is the print of a value that has its fields' widths and meets its kind's questions, and x is what is seen of it
-- 7 to 9, 11, 13 to 15, 54 and 17 to 24 (rows/specs/Meets.antt); of an unknown kind there is no row (6)
abbrev pub MeetsOf : (k : Kind) → ValueOf k → Type 0
MeetsOf device d = MeetsDevice d
MeetsOf contact c = MeetsContact c
MeetsOf queued q = MeetsQueued q
MeetsOf courier h = MeetsCourier h
MeetsOf unknown u = ⊥

pub record Shows (s : Store) (e : Entry) (x : Seen) : Type 0 where
  pub value : ValueOf (kind_of e.kind)
  -- 3
  pub version : e.version ≡ 3
  -- 4 to 6, 10, 12 and 16
  pub fits : fits_of (layout_of (kind_of e.kind) e.version) value []
  pub prints : print (layout_of (kind_of e.kind) e.version) value ≡ s.row_of e
  pub meets : MeetsOf (kind_of e.kind) value
  pub seen : seen_in (kind_of e.kind) value ≡ x

-- ---- 1: a later kind is 1 to 3, and not below the one before
pub record Follows (kind before : ℕ) : Type 0 where
  pub from : CONTACT ≤ kind
  pub to : kind ≤ COURIER
  pub rises : before ≤ kind

pub record Accepted (s : Store) : Type 0 where
  pub look : Entry → Seen
  pub some-entry : 0 < length s.entries
  pub device : (entry_at s.entries 0).kind ≡ DEVICE
  pub kinds : (i : ℕ) → suc i < length s.entries → Follows (entry_at s.entries (suc i)).kind (entry_at s.entries i).kind
  pub bounds : (i : ℕ) → i < length s.entries → (entry_at s.entries i).start + (entry_at s.entries i).len ≤ s.size
  pub rows : (i : ℕ) → i < length s.entries → Shows s (entry_at s.entries i) (look (entry_at s.entries i))
  pub across : Across s.entries look

-- ---- the first no: of no entries 1 at 0, else the first of the rounds
pub record NoEntries (n q p : ℕ) : Type 0 where
  pub none : n ≡ 0
  pub number : q ≡ ORDER
  pub place : p ≡ 0

abbrev pub FirstNo : Store → (q p : ℕ) → Type 0
FirstNo s q p = NoEntries (length s.entries) q p ⊎ ((0 < length s.entries) × First (all_rounds s) (length s.entries) q p)
