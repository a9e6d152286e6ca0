-- The body that a struct and ct stand for: its bytes, its length, and that reading it gives them back.
-- Assumes nothing.
use Prim.Native.Nat.{ℕ, ◌+◌, ◌≤◌}
use mathlib.Core.List.{List, [], ◌∷◌, ◌++◌, append-nil}
use mathlib.Core.Option.{none}
use mathlib.Core.Path.{◌≡◌, refl, ap, ◌∙◌}
use native.Mathlib.Omega.{arith}
use lib.ListN.{length, length-append}
use borrow.Author.Tests.{le-leb}
use Rattle.layout.specs.Questions.{SEALED_LENGTH}
use Rattle.layout.specs.Veil.{Level, plain, veiled}
use Rattle.layout.specs.Form.{bytes_of}
use Rattle.layout.specs.Layout.{fits_of, refusal_of, accepted, read_row, group}
use Rattle.layout.specs.Layout as layout
use Rattle.layout.specs.RowLaws.{RowLaws}
use Rattle.layout.specs.Write.{wrote, asked}
use Rattle.layout.specs.Write as write
use Rattle.layout.proofs.Lawful.{Lawful, s-any, s-done, Blind, b-done, b-field, b-plain, group-lawful}
use Rattle.layout.proofs.Front.{bytes-lawful, number-lawful, length-bytes_of, byte-print}
use Rattle.layout.proofs.Ends.{to_end-lawful}
use Rattle.layout.proofs.Theorems.{row_laws}
use Rattle.layout.proofs.Along.{Fields}
use Rattle.put.proofs.Put.{wrote-long}
use Rattle.envelope.specs.Envelope as spec
use Rattle.envelope.specs.Envelope.{Body, any_length, body, value_of, image, storable, EnvelopeTyped}
use Rattle.envelope.specs.declared.Envelope.{Envelope}

-- ---- the layout is lawful
body-blind : (lv : Level) → Blind lv (λ (v v' : Body). layout.blank_of body lv v ≡ layout.blank_of body lv v') body body
unfolding layout.blank_of
body-blind lv =
    b-plain (bytes-lawful plain 16) (λ bs. refl) (λ tag. b-plain (bytes-lawful plain 16) (λ bs. refl) (λ c.
    b-plain (number-lawful 4) (λ n. refl) (λ expiry. b-plain (number-lawful 1) (λ n. refl) (λ copies.
    b-field (to_end-lawful veiled SEALED_LENGTH any_length) (λ ct ct' e.
    b-done (λ i. record { tag = tag; c = c; expiry_min = expiry; copies = copies; ct = e i }))))))

body-lawful : Lawful (group body)
body-lawful =
    group-lawful body
    (s-any (bytes-lawful plain 16) (λ tag. s-any (bytes-lawful plain 16) (λ c. s-any (number-lawful 4) (λ expiry. s-any (number-lawful 1) (λ copies.
    s-any (to_end-lawful veiled SEALED_LENGTH any_length) (λ ct. s-done (((((tt, refl), refl), refl), refl), refl)))))))
    body-blind

pub body-laws : RowLaws body
unfolding layout.print
body-laws = row_laws body body-lawful (λ v rest h. h.1.1.1.1.0)

-- so that it can be read field by field
pub body-fields : Fields body
body-fields = (bytes-lawful plain 16, λ tag. (bytes-lawful plain 16, λ c. (number-lawful 4, λ e. (number-lawful 1, λ k. (to_end-lawful veiled SEALED_LENGTH any_length, λ ct. tt)))))

-- ---- the bytes
module _ (e : Envelope) (ty : EnvelopeTyped e) (ct : List ℕ) where
  pub image-is : image e ct ≡ e.tag ++ (e.c ++ (bytes_of 4 e.expiry_min ++ ((e.copies ∷ []) ++ ct)))
  unfolding spec.image layout.print
  image-is =
      ap (λ (l : List ℕ). e.tag ++ (e.c ++ (bytes_of 4 e.expiry_min ++ (l ++ (ct ++ []))))) (byte-print e.copies ty.copies)
      ∙ ap (λ (l : List ℕ). e.tag ++ (e.c ++ (bytes_of 4 e.expiry_min ++ ((e.copies ∷ []) ++ l)))) (append-nil ct)

  pub length-image : length (image e ct) ≡ 37 + length ct
  length-image = rw image-is (simp (length-append, length-bytes_of) (omega (arith, ty.tag, ty.c)))

  fits : fits_of body (value_of e ct) []
  unfolding layout.print
  fits = (ty.tag, (ty.c, (ty.expiry_min, (ty.copies, (refl, refl)))))

  granted : refusal_of body (value_of e ct) ≡ none
  unfolding layout.refusal_of
  granted = refl

  pub read-image : read_row body (image e ct) ≡ accepted (value_of e ct)
  unfolding spec.image
  read-image = body-laws.print-read (value_of e ct) (record { fits = fits; granted = granted })

  pub whole : asked body (image e ct) ≡ wrote (37 + length ct)
  unfolding write.asked
  whole = rw read-image (ap wrote length-image)

-- ---- what is stored, where the body fits
pub whole-fits : (e : Envelope) (ct : List ℕ) (room : ℕ) → length (image e ct) ≤ room → storable e ct room ≡ image e ct
whole-fits e ct room inside = rw (le-leb (length (image e ct)) room inside)

-- what shows that there is room for the next part
pub ruleset room = (length-image, wrote-long)
