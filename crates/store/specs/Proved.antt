-- What is proved of restore's definitions (proofs/Proved.antt).
-- Assumes nothing.
use Rattle.std.specs.Prelude.{ℕ, ◌+◌, ◌≤◌, ◌<◌, List, map, not, ◌⊎◌, ◌↔◌, ◌≡◌, length, T, ltb}
use Rattle.std.proofs.Math.Option.{some}
use Rattle.layout.specs.Veil.{Outside}
use Rattle.layout.specs.Layout.{read_row, accepted, print, veiled_bytes}
use Rattle.layout.specs.RowLaws.{Bytes, Valid}
use Rattle.rows.specs.Values.{Contact}
use Rattle.rows.specs.Rows as rows
use Rattle.store.specs.declared.Entry.{Entry}
use Rattle.store.specs.Rounds.{Going, Question, first_no, FirstIn, Quiet}
use Rattle.store.specs.Kinds.{CONTACT, QUEUED, COURIER}
use Rattle.store.specs.Store.{Store, entry_at, is_of, before, queued_before, part_of, store_of, opened_in, across, asked, found, granted, refused, restore, replaced_passes}
use Rattle.store.specs.Accepted.{Accepted, FirstNo}
use Rattle.store.specs.Veiled.{VeilEqual, OpenAgree, OutcomesAlike, FieldsAlike, copied, blanked, Apart, Disjoint}
use Rattle.store.specs.Used.{used}
use Rattle.store.specs.Duplicates.{first_duplicate}

-- ---- which stores are granted, and which refusal the others get
pub record AnswerLaws : Type 0 where
  -- of any store whose rows are bytes, as those of a run are
  pub granted-exactly : (s : Store) → ((e : Entry) → Bytes (s.row_of e)) → (restore s ≡ granted (found s)) ↔ Accepted s
  pub run-bytes : (run : List ℕ) (es : List Entry) → Bytes run → (e : Entry) → Bytes ((store_of run es).row_of e)
  pub refused-exactly : (s : Store) (n i : ℕ) → (restore s ≡ refused n i) ↔ FirstNo s n i
  pub first-in : (qs : List Question) (n : ℕ) → (first_no qs ≡ some n) ↔ FirstIn qs n
  -- what a row's kind has no use for isn't read
  pub unused : (run : List ℕ) (es es' : List Entry) → map used es ≡ map used es' → restore (store_of run es) ≡ restore (store_of run es')
  pub unused-opened : (run : List ℕ) (es es' : List Entry) (k : ℕ) (row : List ℕ) → map used es ≡ map used es' → replaced_passes run es k row ≡ replaced_passes run es' k row

-- `next` is one above a slot, that of one of the first n entries
pub record LastSlot (es : List Entry) (n next : ℕ) : Type 0 where
  pub place : ℕ
  pub below : place < n
  pub «is» : (entry_at es place).kind ≡ COURIER
  pub last : next ≡ (entry_at es place).id + 1

-- ---- next_slot is the highest slot + 1, or 0
pub record SlotLaws : Type 0 where
  pub above : (s : Store) (i : ℕ) → i < length s.entries → (entry_at s.entries i).kind ≡ COURIER → (entry_at s.entries i).id < (found s).next_slot
  pub least : (s : Store) → ((found s).next_slot ≡ 0) ⊎ LastSlot s.entries (length s.entries) (found s).next_slot

-- ---- veiled bytes do not show
pub record BlindLaws : Type 0 where
  pub blind : (run run' : List ℕ) (es : List Entry) → VeilEqual run run' es → OutcomesAlike (restore (store_of run es)) (restore (store_of run' es))
  pub symmetric : (run run' : List ℕ) (es : List Entry) → VeilEqual run run' es → VeilEqual run' run es
  pub byte-by-byte : (run run' : List ℕ) (es : List Entry) → VeilEqual run run' es ↔ OpenAgree run run' es
  -- every row replaced by its veiled copy
  pub copied-rows : (s : Store) → OutcomesAlike (restore s) (restore (copied s))
  -- the run with 0 for its veiled bytes: it differs only in veiled bytes, and is answered alike
  pub blanked-equal : (run : List ℕ) (es : List Entry) → Apart run es → VeilEqual run (blanked run es) es
  pub blanked-run : (run : List ℕ) (es : List Entry) → Apart run es → OutcomesAlike (restore (store_of run es)) (restore (store_of (blanked run es) es))
  pub disjoint-apart : (run : List ℕ) (es : List Entry) → Disjoint es → Apart run es

-- ---- opened fields in place of contact k's row
pub record OpenedLaws : Type 0 where
  -- just opened: the store passes as it did
  pub just-opened : (run : List ℕ) (es : List Entry) (k j : ℕ) (c : Contact) → Bytes run → asked (store_of run es) ≡ Going → j < length es → T (is_of CONTACT k (entry_at es j))
      → read_row (rows.contact 3) (part_of run (entry_at es j)) ≡ accepted c → asked (opened_in run es k c) ≡ Going
  -- and goes on passing while the fields stay valid, no fewer are sent, and unacked stays
  pub opened-lasts : (run : List ℕ) (es : List Entry) (k : ℕ) (c c' : Contact) → Valid (rows.contact 3) c → Valid (rows.contact 3) c' → c.sent_msgno ≤ c'.sent_msgno → c.unacked ≡ c'.unacked
      → asked (opened_in run es k c) ≡ Going → asked (opened_in run es k c') ≡ Going
  -- two runs: stores that differ only in veiled bytes, fields alike outside veiled ones
  pub opened-alike : (run run' : List ℕ) (es : List Entry) (k : ℕ) (c c' : Contact) → VeilEqual run run' es → FieldsAlike c c' → asked (opened_in run es k c) ≡ asked (opened_in run' es k c')
  -- rows written of such fields are as long, and differ only in veiled bytes
  pub written-long : (c c' : Contact) → FieldsAlike c c' → Bytes (print (rows.contact 3) c) → Bytes (print (rows.contact 3) c') → length (print (rows.contact 3) c) ≡ length (print (rows.contact 3) c')
  pub written-alike : (c c' : Contact) → FieldsAlike c c' → Bytes (print (rows.contact 3) c) → Bytes (print (rows.contact 3) c')
      → Outside (veiled_bytes (rows.contact 3) (print (rows.contact 3) c)) (print (rows.contact 3) c) (print (rows.contact 3) c')

-- ---- 26, 30 and 32 asked of the index alone: while every answer so far was yes, an entry is new exactly where it stands before the first one that has a duplicate
pub record DuplicateLaws : Type 0 where
  pub contact-new : (s : Store) (i : ℕ) → i < length s.entries → Quiet (across s) 0 i → (entry_at s.entries i).kind ≡ CONTACT
      → ltb i (first_duplicate s.entries) ≡ not (before s.entries i CONTACT (entry_at s.entries i).id)
  pub queued-new : (s : Store) (i : ℕ) → i < length s.entries → Quiet (across s) 0 i → (entry_at s.entries i).kind ≡ QUEUED
      → ltb i (first_duplicate s.entries) ≡ not (queued_before s.entries i (entry_at s.entries i).id (entry_at s.entries i).msgno)
  pub slot-new : (s : Store) (i : ℕ) → i < length s.entries → Quiet (across s) 0 i → (entry_at s.entries i).kind ≡ COURIER
      → ltb i (first_duplicate s.entries) ≡ not (before s.entries i COURIER (entry_at s.entries i).id)

pub record StoreLaws : Type 0 where
  pub answers : AnswerLaws
  pub slots : SlotLaws
  pub veiled : BlindLaws
  pub opened : OpenedLaws
  pub duplicates : DuplicateLaws
