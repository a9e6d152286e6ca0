-- The row that a struct and a sealed text stand for: its bytes, its length, and what reading it would answer.
-- Assumes nothing.
use Prim.Native.Nat.{ℕ, ◌+◌}
use mathlib.Core.List.{List, [], ◌∷◌, ◌++◌, append-nil}
use mathlib.Core.Bool.{true, false}
use mathlib.Core.Option.{none, some}
use mathlib.Core.Logic.{inl, inr}
use mathlib.Core.Path.{◌≡◌, refl, ap, ◌∙◌}
use native.Mathlib.Omega.{arith}
use lib.ListN.{length, length-append}
use Rattle.layout.specs.Questions.{SEALED_LENGTH, CARRIED_COPIES, CARRIED_EXPIRY}
use Rattle.layout.specs.Form.{bytes_of}
use Rattle.layout.specs.Layout.{print, fits_of, refusal_of, accepted, refused_by, read_row}
use Rattle.layout.specs.Layout as layout
use Rattle.layout.specs.Write.{wrote, refuses, asked}
use Rattle.layout.specs.Write as write
use Rattle.layout.proofs.Front.{length-bytes_of}
use Rattle.rows.specs.Checks.{sealed_carried, not_zero}
use Rattle.rows.specs.Rows.{carried, tombstone, courier}
use Rattle.put.proofs.Put.{wrote-long}
use Rattle.rows.proofs.Proved.{proved}
use Rattle.envelope.specs.Envelope as env
use Rattle.envelope.specs.declared.Envelope.{Envelope}
use Rattle.envelope.proofs.Image.{length-image}
use Rattle.courier.specs.declared.Kind.{Kind}
use Rattle.courier.specs.declared.Kind.TheVariants.{Carried, Tombstone}
use Rattle.courier_row.specs.Row as spec
use Rattle.courier_row.specs.Row.{carried_of, tombstone_of, value_as, carried_image, tombstone_image, image, HeldTyped}
use Rattle.courier_row.specs.declared.Held.{Held}

-- ---- the bytes
-- what a courier carries for its depositor
abbrev pub envelope_in : Held → Envelope
envelope_in h = record { expiry_min = h.expiry_min; copies = h.copies; tag = h.tag; c = h.c }

module _ (h : Held) (ty : HeldTyped h) where
  pub carried-is : (sealed : List ℕ) → carried_image h sealed ≡ (0 ∷ []) ++ (bytes_of 8 h.depositor.0 ++ env.image (envelope_in h) sealed)
  unfolding spec.carried_image env.image layout.print
  carried-is sealed = append-nil (0 ∷ print carried (carried_of h sealed))

  pub tombstone-is : tombstone_image h ≡ (1 ∷ []) ++ (h.tag ++ (h.s ++ bytes_of 4 h.expiry_min))
  unfolding spec.tombstone_image layout.print
  tombstone-is =
      append-nil (1 ∷ print tombstone (tombstone_of h)) ∙ ap (λ (l : List ℕ). 1 ∷ (h.tag ++ (h.s ++ l))) (append-nil (bytes_of 4 h.expiry_min))

  pub length-in : (sealed : List ℕ) → length (env.image (envelope_in h) sealed) ≡ 37 + length sealed
  length-in sealed = length-image (envelope_in h) (record { expiry_min = ty.expiry_min; copies = ty.copies; tag = ty.tag; c = ty.c }) sealed

  pub length-carried : (sealed : List ℕ) → length (carried_image h sealed) ≡ 46 + length sealed
  length-carried sealed = rw (carried-is sealed) (simp (length-append, length-bytes_of) (omega (arith, length-in sealed)))

  pub length-tombstone : length (tombstone_image h) ≡ 37
  length-tombstone = rw tombstone-is (simp (length-append, length-bytes_of) (omega (arith, ty.tag, ty.s)))

-- by its kind
module _ (h : Held) (sealed : List ℕ) where
  pub image-carried : h.kind ≡ Carried → image h sealed ≡ carried_image h sealed
  unfolding spec.image spec.carried_image
  image-carried e = ap (λ (k : Kind). print (courier 3) (value_as k h sealed)) e

  pub image-tombstone : h.kind ≡ Tombstone → image h sealed ≡ tombstone_image h
  unfolding spec.image spec.tombstone_image
  image-tombstone e = ap (λ (k : Kind). print (courier 3) (value_as k h sealed)) e

-- ---- what reading it would answer
module _ (h : Held) (ty : HeldTyped h) (sealed : List ℕ) where
  pub carried-fits : fits_of (courier 3) (inl (carried_of h sealed)) []
  unfolding layout.print
  carried-fits = ((ty.depositor, (ty.tag, (ty.c, (ty.expiry_min, (ty.copies, (refl, refl)))))), (refl, refl))

  pub tombstone-fits : fits_of (courier 3) (inr (tombstone_of h)) []
  unfolding layout.print
  tombstone-fits = ((ty.tag, (ty.s, (ty.expiry_min, refl))), (refl, refl))

  module _ {q : ℕ} (refusal : refusal_of (courier 3) (inl (carried_of h sealed)) ≡ some q) where
    carried-refused : read_row (courier 3) (carried_image h sealed) ≡ refused_by q
    unfolding spec.carried_image
    carried-refused = (proved.courier 3).laws.print-refused (inl (carried_of h sealed)) q carried-fits refusal

    asks-no : h.kind ≡ Carried → asked (courier 3) (image h sealed) ≡ refuses q
    unfolding write.asked
    asks-no e = rw (image-carried h sealed e, carried-refused)

  expiry-no : not_zero h.expiry_min ≡ false → refusal_of (courier 3) (inl (carried_of h sealed)) ≡ some CARRIED_EXPIRY
  unfolding layout.refusal_of
  expiry-no e = rw e

  copies-no : not_zero h.expiry_min ≡ true → not_zero h.copies ≡ false → refusal_of (courier 3) (inl (carried_of h sealed)) ≡ some CARRIED_COPIES
  unfolding layout.refusal_of
  copies-no p e = rw (p, e)

  length-no : not_zero h.expiry_min ≡ true → not_zero h.copies ≡ true → sealed_carried (length sealed) ≡ false
      → refusal_of (courier 3) (inl (carried_of h sealed)) ≡ some SEALED_LENGTH
  unfolding layout.refusal_of
  length-no p q e = rw (p, q, e)

  carried-granted : not_zero h.expiry_min ≡ true → not_zero h.copies ≡ true → sealed_carried (length sealed) ≡ true
      → refusal_of (courier 3) (inl (carried_of h sealed)) ≡ none
  unfolding layout.refusal_of
  carried-granted p q e = rw (p, q, e)

  tombstone-granted : refusal_of (courier 3) (inr (tombstone_of h)) ≡ none
  unfolding layout.refusal_of
  tombstone-granted = refl

  -- the answers
  pub tombstone-read : read_row (courier 3) (tombstone_image h) ≡ accepted (inr (tombstone_of h))
  unfolding spec.tombstone_image
  tombstone-read = (proved.courier 3).laws.print-read (inr (tombstone_of h)) (record { fits = tombstone-fits; granted = tombstone-granted })

  pub whole-tombstone : h.kind ≡ Tombstone → asked (courier 3) (image h sealed) ≡ wrote (length (tombstone_image h))
  unfolding write.asked
  whole-tombstone e = rw (image-tombstone h sealed e, tombstone-read)

  module _ (e : h.kind ≡ Carried) where
    pub bad-expiry : not_zero h.expiry_min ≡ false → asked (courier 3) (image h sealed) ≡ refuses CARRIED_EXPIRY
    bad-expiry p = asks-no (expiry-no p) e

    pub bad-copies : not_zero h.expiry_min ≡ true → not_zero h.copies ≡ false → asked (courier 3) (image h sealed) ≡ refuses CARRIED_COPIES
    bad-copies p q = asks-no (copies-no p q) e

    pub bad-length : not_zero h.expiry_min ≡ true → not_zero h.copies ≡ true → sealed_carried (length sealed) ≡ false
        → asked (courier 3) (image h sealed) ≡ refuses SEALED_LENGTH
    bad-length p q r = asks-no (length-no p q r) e

  module _ (p : not_zero h.expiry_min ≡ true) (q : not_zero h.copies ≡ true) (r : sealed_carried (length sealed) ≡ true) where
    pub carried-read : read_row (courier 3) (carried_image h sealed) ≡ accepted (inl (carried_of h sealed))
    unfolding spec.carried_image
    carried-read = (proved.courier 3).laws.print-read (inl (carried_of h sealed)) (record { fits = carried-fits; granted = carried-granted p q r })

    pub whole-carried : h.kind ≡ Carried → asked (courier 3) (image h sealed) ≡ wrote (length (carried_image h sealed))
    unfolding write.asked
    whole-carried e = rw (image-carried h sealed e, carried-read)

-- what shows that there is room for the next part
pub ruleset room = (length-tombstone, length-carried, length-in, wrote-long)
