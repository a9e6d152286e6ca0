-- Stores that differ only in veiled bytes, and answers that are alike outside veiled fields.
-- Assumes nothing.
use Rattle.std.specs.Prelude.{ℕ, suc, ◌+◌, ◌-◌, ◌<◌, List, [], ◌∷◌, Bool, false, cond, ◌&&◌, not, ◌≡◌, length, get_or, leb, ltb, T}
use Rattle.layout.specs.Veil.{veil, hide, Outside}
use Rattle.layout.specs.Layout.{blank_of, veiled_bytes}
use Rattle.layout.specs.RowLaws.{Valid}
use Rattle.rows.specs.Values.{Contact}
use Rattle.rows.specs.Rows as rows
use Rattle.store.specs.declared.Entry.{Entry}
use Rattle.store.specs.Kinds.{kind_of, layout_of}
use Rattle.store.specs.Store.{Store, entry_at, within, part_of, any_below, ContactRow, Found, Outcome, granted, refused}

-- which bytes of an entry's row are veiled: by the row's own first refusal; none of another version, or of an unknown kind
abbrev pub veiled_in : Entry → List ℕ → List Bool
veiled_in e row = veiled_bytes (layout_of (kind_of e.kind) e.version) row

-- 01: run lengths and entries agree, and each entry's row agrees outside its own veiled bytes. Of a row outside the run nothing is asked, and nothing of bytes in no row
pub record VeilEqual (run run' : List ℕ) (es : List Entry) : Type 0 where
  pub long : length run ≡ length run'
  pub each : (i : ℕ) → i < length es → Outside (veiled_in (entry_at es i) (part_of run (entry_at es i))) (part_of run (entry_at es i)) (part_of run' (entry_at es i))

-- ---- the same, byte by byte of the run
-- byte p of the run is in e's row; and is veiled there
abbrev pub covers : Entry → ℕ → Bool
covers e p = leb e.start p && ltb p (e.start + e.len)

abbrev pub veils : (run : List ℕ) → Entry → ℕ → Bool
veils run e p = within (length run) e && covers e p && get_or (veiled_in e (part_of run e)) (p - e.start) false

-- a byte that is in some row and not veiled there agrees, though an overlapping row may veil it
pub record OpenAgree (run run' : List ℕ) (es : List Entry) : Type 0 where
  pub long : length run ≡ length run'
  pub each : (i p : ℕ) → i < length es → T (within (length run) (entry_at es i)) → T (covers (entry_at es i) p) → T (not (veils run (entry_at es i) p)) → get_or run p 0 ≡ get_or run' p 0

-- ---- answers alike
abbrev pub ContactAlike : Contact → Contact → Type 0
ContactAlike c c' = blank_of (rows.contact 3) veil c ≡ blank_of (rows.contact 3) veil c'

-- contacts in the same order, with the same ids, alike outside veiled fields
abbrev pub ContactsAlike : List ContactRow → List ContactRow → Type 0
ContactsAlike [] [] = Unit {0}
ContactsAlike [] (r ∷ rs) = ⊥
ContactsAlike (r ∷ rs) [] = ⊥
ContactsAlike (r ∷ rs) (r' ∷ rs') = (r.id ≡ r'.id) × ContactAlike r.fields r'.fields × ContactsAlike rs rs'

pub record FoundAlike (f f' : Found) : Type 0 where
  pub contacts : ContactsAlike f.contacts f'.contacts
  pub nexts : f.next_contact ≡ f'.next_contact
  pub slots : f.next_slot ≡ f'.next_slot

-- the same number and place, or both granted
abbrev pub OutcomesAlike : Outcome → Outcome → Type 0
OutcomesAlike (granted f) (granted f') = FoundAlike f f'
OutcomesAlike (refused n i) (refused n' i') = (n ≡ n') × (i ≡ i')
OutcomesAlike (granted f) (refused n i) = ⊥
OutcomesAlike (refused n i) (granted f) = ⊥

-- opened fields of which each could be written, alike outside veiled ones
pub record FieldsAlike (c c' : Contact) : Type 0 where
  pub alike : ContactAlike c c'
  pub valid : Valid (rows.contact 3) c
  pub valid' : Valid (rows.contact 3) c'

-- ---- with 0 for what is veiled
-- the store whose rows are their veiled copies
abbrev pub copied : Store → Store
copied s = record { size = s.size; entries = s.entries; row_of = λ e. hide (veiled_in e (s.row_of e)) (s.row_of e) }

abbrev pub zero_if : (ℕ → Bool) → List ℕ → List ℕ
zero_if f [] = []
zero_if f (b ∷ bs) = cond (f 0) 0 b ∷ zero_if (λ p. f (suc p)) bs

-- the run with 0 for each byte that some row veils
abbrev pub blanked : (run : List ℕ) → List Entry → List ℕ
blanked run es = zero_if (λ p. any_below (length es) (λ j. veils run (entry_at es j) p)) run

-- a byte that one row veils is open in no other row of the run
abbrev pub Apart : (run : List ℕ) → List Entry → Type 0
Apart run es =
    (i j p : ℕ) → i < length es → j < length es → T (veils run (entry_at es j) p) → T (within (length run) (entry_at es i)) → T (covers (entry_at es i) p)
    → T (veils run (entry_at es i) p)

-- no byte is in two rows
abbrev pub Disjoint : List Entry → Type 0
Disjoint es = (i j p : ℕ) → i < length es → j < length es → T (covers (entry_at es i) p) → T (covers (entry_at es j) p) → i ≡ j
