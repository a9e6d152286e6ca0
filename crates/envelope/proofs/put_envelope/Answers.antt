-- `envelope::put_envelope` meets its contract: the body where it fits, and nothing where it does not.
use Prim.Native.Nat.{ℕ, ◌+◌, ◌-◌, ◌≤◌}
use mathlib.Core.List.{List}
use mathlib.Core.Bool.{true, false}
use mathlib.Core.Path.{◌≡◌, sym, ap, ◌∙◌}
use native.Mathlib.Omega.{arith}
use lib.ListN.{length}
use lib.Dec.{leb}
use borrow.Author.Tests.{leb-true, lt-leb}
use Rattle.put.specs.Put.{Wrote}
use Rattle.put.proofs.Put.{wrote_none}
use Rattle.envelope.specs.Envelope.{EnvelopeTyped, image, storable}
use Rattle.envelope.specs.declared.Envelope.{Envelope}
use Rattle.envelope.proofs.Image.{length-image}
use Rattle.envelope.proofs.put_envelope.Goals as goal
use Rattle.envelope.proofs.put_envelope.Goals.{then-len-at-via-then-len-at, then-len-at-via-else-len-at+then-not-envelope_fits}

module _ (e : Envelope) (ty : EnvelopeTyped e) (ct : List ℕ) (room : ℕ) where
  body-fits : leb (length (image e ct)) room ≡ leb (37 + length ct) room
  body-fits = ap (λ (n : ℕ). leb n room) (length-image e ty ct)

  not-stored : (out : List ℕ) (at : ℕ) → leb (37 + length ct) room ≡ false → Wrote out at (storable e ct room) out at
  not-stored out at f = rw (body-fits ∙ f) (wrote_none out at)

  whole-stored : {out m : List ℕ} {at p : ℕ} → leb (37 + length ct) room ≡ true → Wrote out at (image e ct) m p → Wrote out at (storable e ct room) m p
  whole-stored f w = rw (body-fits ∙ f) w

pub returns-then-len-at : goal.returns-then-len-at
returns-then-len-at c =
    let a = c.args in
    let room = length a.out.now - a.at in
    elim c.then-len-at.branch [
      | then-len-at-via-then-len-at w ↦ not-stored a.envelope c.typed.ensures a.ct.now room a.out.now a.at (lt-leb (37 + length a.ct.now) room (omega arith))
      | then-len-at-via-else-len-at+then-not-envelope_fits w ↦ not-stored a.envelope c.typed.ensures a.ct.now room a.out.now a.at (sym w.envelope_fits.ensures ∙ w.if-not-envelope_fits.true)
    ]

pub put_body-requires : goal.put_body-requires
put_body-requires c =
    let a = c.args in
    let room : 37 + length a.ct.now ≤ length a.out.now - a.at = leb-true _ _ (sym c.envelope_fits.ensures ∙ c.if-not-envelope_fits.false) in
    omega (arith, length-image a.envelope c.typed.ensures a.ct.now, c.if-len-at.false)

pub returns : goal.returns
returns c =
    let a = c.args in
    whole-stored a.envelope c.typed.ensures a.ct.now (length a.out.now - a.at) (sym c.envelope_fits.ensures ∙ c.if-not-envelope_fits.false) c.put_body.ensures.1
