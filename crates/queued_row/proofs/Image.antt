-- The row that a struct and a sealed text stand for: its bytes, its length, and what reading it would answer.
-- Assumes nothing.
use Prim.Native.Nat.{ℕ, ◌+◌, ◌<◌}
use Rattle.std.specs.Prelude.{Option, Some, None}
use mathlib.Core.List.{List, [], ◌∷◌, ◌++◌, append-nil}
use mathlib.Core.Bool.{Bool, true, false, cond}
use mathlib.Core.Option.{none, some}
use mathlib.Core.Option as math
use mathlib.Core.Path.{◌≡◌, refl, ap, subst, ◌∙◌}
use native.Mathlib.Omega.{arith}
use lib.ListN.{length, length-append}
use Rattle.layout.specs.Questions.{SEALED_LENGTH}
use Rattle.layout.specs.Read.{first}
use Rattle.layout.specs.Form.{bytes_of, flag_of, flag_byte, leb_print}
use Rattle.layout.specs.Layout.{print, fits_of, refusal_of, accepted, refused_by, read_row, group, optional}
use Rattle.layout.specs.Layout as layout
use Rattle.layout.specs.Write.{wrote, refuses, asked}
use Rattle.layout.specs.Write as write
use Rattle.layout.proofs.Front.{length-bytes_of, byte-print}
use Rattle.rows.specs.Values as value
use Rattle.rows.specs.Checks.{sealed_queued}
use Rattle.rows.specs.Rows.{own_envelope, queued}
use Rattle.put.proofs.Put.{wrote-long}
use Rattle.rows.proofs.Proved.{proved}
use Rattle.queued_row.specs.Row as spec
use Rattle.queued_row.specs.Row.{envelope_of, value_of, own_image, image, OwnTyped, OutgoingTyped}
use Rattle.queued_row.specs.declared.OwnEnvelope.{OwnEnvelope}
use Rattle.queued_row.specs.declared.Outgoing.{Outgoing}

-- ---- the envelope's bytes
pub own-absent : (q : Outgoing) → q.envelope ≡ None → own_image q ≡ 0 ∷ []
unfolding spec.own_image layout.print
own-absent q e = rw e

envelope-print : (e : value.OwnEnvelope) → e.copies < 256
    → print own_envelope e ≡ e.tag ++ (e.s ++ (bytes_of 4 e.expiry_min ++ ((e.copies ∷ []) ++ (flag_byte e.renewed ∷ []))))
unfolding layout.print
envelope-print e few = ap (λ (l : List ℕ). e.tag ++ (e.s ++ (bytes_of 4 e.expiry_min ++ (l ++ (flag_byte e.renewed ∷ []))))) (byte-print e.copies few)

flagged : (e : value.OwnEnvelope) → (optional (group own_envelope)).print (some e) ≡ 1 ∷ print own_envelope e
unfolding layout.print
flagged e = ap (λ (l : List ℕ). 1 ∷ l) (append-nil (print own_envelope e))

module _ (q : Outgoing) (ty : OutgoingTyped q) {e : OwnEnvelope} (is : q.envelope ≡ Some e) where
  pub own-present : own_image q ≡ (1 ∷ []) ++ (q.tag ++ (q.s ++ (bytes_of 4 e.expiry_min ++ ((e.copies ∷ []) ++ (flag_byte e.renewed ∷ [])))))
  unfolding spec.own_image
  own-present =
      let its : value.OwnEnvelope = record { tag = q.tag; s = q.s; expiry_min = e.expiry_min; copies = e.copies; renewed = e.renewed } in
      ap (λ (own : Option OwnEnvelope). (optional (group own_envelope)).print (envelope_of own q.tag q.s)) is ∙ flagged its
      ∙ ap (λ (l : List ℕ). 1 ∷ l) (envelope-print its (subst OwnTyped is ty.envelope).1)

  pub length-present : length (own_image q) ≡ 39
  length-present = rw own-present (simp (length-append, length-bytes_of) (omega (arith, ty.tag, ty.s)))

-- ---- the row's bytes
module _ (q : Outgoing) (ty : OutgoingTyped q) (sealed : List ℕ) where
  pub image-is : image q sealed ≡ bytes_of 8 q.created_s ++ (own_image q ++ ((q.gen_ ∷ []) ++ (leb_print 4 q.idx ++ sealed)))
  unfolding spec.image spec.own_image layout.print
  image-is =
      ap (λ (l : List ℕ). bytes_of 8 q.created_s ++ (own_image q ++ (l ++ (leb_print 4 q.idx ++ (sealed ++ []))))) (byte-print q.gen_ ty.gen_)
      ∙ ap (λ (l : List ℕ). bytes_of 8 q.created_s ++ (own_image q ++ ((q.gen_ ∷ []) ++ (leb_print 4 q.idx ++ l)))) (append-nil sealed)

  pub length-image : length (image q sealed) ≡ 9 + length (own_image q) + length (leb_print 4 q.idx) + length sealed
  length-image = rw image-is (simp (length-append, length-bytes_of) (omega arith))

  -- ---- what reading it would answer
  flag-fits : (t : Bool) → flag_of (flag_byte t) ≡ some t
  flag-fits true = refl
  flag-fits false = refl

  own-fits : (own : Option OwnEnvelope) → OwnTyped own → (post : List ℕ) → (optional (group own_envelope)).fits (envelope_of own q.tag q.s) post
  own-fits None t post = (refl, (tt, refl))
  own-fits (Some e) t post = (refl, ((ty.tag, (ty.s, (t.0, (t.1, (flag-fits e.renewed, refl))))), refl))

  pub fits : fits_of (queued 3) (value_of q sealed) []
  unfolding layout.print
  fits = (ty.created_s, (own-fits q.envelope ty.envelope _, (ty.gen_, (ty.idx, (refl, (refl, refl))))))

  own_granted : (own : Option OwnEnvelope) → (optional (group own_envelope)).refusal (envelope_of own q.tag q.s) ≡ none
  unfolding layout.refusal_of
  own_granted None = refl
  own_granted (Some e) = refl

  refusal : {o : math.Option ℕ} → cond (sealed_queued (length sealed)) none (some SEALED_LENGTH) ≡ o → refusal_of (queued 3) (value_of q sealed) ≡ o
  unfolding layout.refusal_of
  refusal e = rw (own_granted q.envelope) (last _ ∙ e)
    where
      last : (o : math.Option ℕ) → first o (first none none) ≡ o
      last none = refl
      last (some n) = refl

  read-image : sealed_queued (length sealed) ≡ true → read_row (queued 3) (image q sealed) ≡ accepted (value_of q sealed)
  unfolding spec.image
  read-image allowed = (proved.queued 3).laws.print-read (value_of q sealed) (record { fits = fits; granted = refusal (rw allowed) })

  refused-image : sealed_queued (length sealed) ≡ false → read_row (queued 3) (image q sealed) ≡ refused_by SEALED_LENGTH
  unfolding spec.image
  refused-image not = (proved.queued 3).laws.print-refused (value_of q sealed) SEALED_LENGTH fits (refusal (rw not))

  pub bad-length : sealed_queued (length sealed) ≡ false → asked (queued 3) (image q sealed) ≡ refuses SEALED_LENGTH
  unfolding write.asked
  bad-length not = rw (refused-image not)

  pub whole : sealed_queued (length sealed) ≡ true → asked (queued 3) (image q sealed) ≡ wrote (length (image q sealed))
  unfolding write.asked
  whole allowed = rw (read-image allowed)

-- what shows that there is room for the next part
pub ruleset room = (length-image, length-present, wrote-long)
