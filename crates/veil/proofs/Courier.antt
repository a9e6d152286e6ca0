-- Courier rows: with 0 for s and for the sealed text, the struct that was read stands for the veiled value.
-- Assumes nothing.
use Prim.Native.Nat.{ℕ, ◌-◌, ◌≤◌}
use mathlib.Core.List.{List, []}
use mathlib.Core.Bool.{Bool, true, false, cond}
use mathlib.Core.Option.{none, some}
use mathlib.Core.Logic.{inl, inr}
use mathlib.Core.Path.{◌≡◌, refl, sym, ap, subst, ◌∙◌}
use native.Mathlib.Omega.{arith}
use lib.ListN.{length, drop}
use Rattle.layout.specs.Questions.{SEALED_LENGTH, CARRIED_COPIES, CARRIED_EXPIRY}
use Rattle.layout.specs.Read.{first}
use Rattle.layout.specs.Veil.{veil, zeros}
use Rattle.layout.specs.Layout.{accepted, read_row, print, blank_of, fits_of, refusal_of}
use Rattle.layout.specs.Layout as layout
use Rattle.layout.specs.RowLaws.{Bytes, Valid}
use Rattle.layout.specs.Says.{made}
use Rattle.layout.specs.Write.{writes}
use Rattle.layout.proofs.Front.{none≢some}
use Rattle.rows.specs.Values as value
use Rattle.rows.specs.Checks.{sealed_carried, not_zero}
use Rattle.rows.specs.Rows.{courier}
use Rattle.rows.proofs.Proved.{proved}
use Rattle.sealed.proofs.Buckets.{carried-few}
use Rattle.rows.proofs.RoundTrip.{three}
use Rattle.courier_row.specs.Row as spec
use Rattle.courier_row.specs.Row.{held_of, text_of, parts, value_of, image}
use Rattle.courier_row.specs.declared.Held.{Held}
use Rattle.courier_row.proofs.RoundTrip.{sealed-last}
use Rattle.veil.specs.Veil.{Tail, VeiledText, veils, held_without_s}
use Rattle.veil.proofs.Copied.{Granted, granted, copied}
use Rattle.veil.proofs.Text.{long, tail}

-- the value that it stands for, with zeros for the sealed text
value-is : (v : value.Courier) → fits_of (courier 3) v [] → value_of (held_without_s (held_of v)) (zeros (length (text_of v))) ≡ blank_of (courier 3) veil v
unfolding layout.blank_of
value-is (inl x) h = refl
value-is (inr t) h = rw h.0.1.0

-- ---- the sealed text's length
no-refusal : (s t u : Bool) (p q r : ℕ) → first (cond s (cond t (first (cond u none (some p)) none) (some q)) (some r)) none ≡ none → u ≡ true
no-refusal s t true p q r h = refl
no-refusal true true false p q r h = absurd (none≢some (sym h))
no-refusal true false false p q r h = absurd (none≢some (sym h))
no-refusal false t false p q r h = absurd (none≢some (sym h))

sealed-few : (v : value.Courier) → refusal_of (courier 3) v ≡ none → length (text_of v) ≤ 4064
unfolding layout.refusal_of
sealed-few (inl x) h = carried-few (length x.sealed) (no-refusal (not_zero x.expiry_min) (not_zero x.copies) (sealed_carried (length x.sealed)) SEALED_LENGTH CARRIED_COPIES CARRIED_EXPIRY h)
sealed-few (inr t) h = omega arith

-- ---- what was read
module _ (version : ℕ) (row : List ℕ) (by : Bytes row) (read : ℕ × Held) (told : accepted read ≡ made (parts row) (read_row (courier version) row)) where
  yes : Granted (parts row) (read_row (courier version) row) read
  yes = granted (parts row) (courier version) row told

  known : read_row (courier 3) row ≡ accepted yes.value
  known = subst (λ (n : ℕ). read_row (courier n) row ≡ accepted yes.value) (three _ version row yes.is) yes.is

  valid : Valid (courier 3) yes.value
  valid = (proved.courier 3).laws.read-valid row by yes.value known

  last : drop (length row - length (text_of yes.value)) row ≡ text_of yes.value
  last = sealed-last 3 yes.value row ((proved.courier 3).laws.read-print row by yes.value known)

  courier-tail : Tail row read.0
  courier-tail = subst (Tail row) (sym (ap (λ (x : ℕ × Held). x.0) yes.made-is)) (tail row (text_of yes.value) last (sealed-few yes.value valid.granted))

  courier-copied : (out : List ℕ) → writes (courier 3) (image (held_without_s read.1) (zeros (length row - read.0))) out ≡ veils (courier version) row out
  unfolding spec.image
  courier-copied out =
      ap (λ (x : ℕ × Held). writes (courier 3) (image (held_without_s x.1) (zeros (length row - x.0))) out) yes.made-is
      ∙ ap (λ (n : ℕ). writes (courier 3) (image (held_without_s (held_of yes.value)) (zeros n)) out) (long row (text_of yes.value) last)
      ∙ ap (λ (x : value.Courier). writes (courier 3) (print (courier 3) x) out) (value-is yes.value valid.fits)
      ∙ copied (courier 3) row out (proved.courier 3) by known
      ∙ rw (three _ version row yes.is)

pub courier-text : (version : ℕ) (row : List ℕ) → Bytes row → VeiledText courier parts image held_without_s version row
courier-text version row by = record { tail = courier-tail version row by; copied = courier-copied version row by }
