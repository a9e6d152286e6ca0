-- `envelope::Envelope::encode` meets its contract: the body where it fits; it is never empty, so nothing is written where it does not.
use mathlib.Core.List.{[]}
use Prim.Native.Nat.{ℕ, ◌+◌, ◌-◌}
use mathlib.Core.List.{List}
use mathlib.Core.Bool.{Bool, true, false, cond}
use mathlib.Core.Path.{◌≡◌, refl, sym, ap, ap₂, ◌∙◌}
use native.Mathlib.Omega.{arith}
use lib.ListN.{length}
use lib.Dec.{leb}
use borrow.Author.Tests.{leb-true, leb-false}
use Rattle.std.specs.Prelude.{Ok, Err}
use Rattle.layout.specs.declared.question.Question.TheVariants as question
use Rattle.layout.specs.Write.{writes}
use Rattle.layout.specs.Says.{leaves}
use Rattle.layout.proofs.Write.{writes_short, writes-row}
use Rattle.put.specs.Put.{Wrote}
use Rattle.put.proofs.Put.{put_front, wrote_none}
use Rattle.envelope.specs.Envelope.{EnvelopeTyped, body, image}
use Rattle.envelope.specs.declared.Envelope.{Envelope}
use Rattle.envelope.proofs.Image.{length-image, whole}
use Rattle.envelope.proofs.Envelope.encode.Goals as goal

module _ (e : Envelope) (ty : EnvelopeTyped e) (ct out m : List ℕ) (p : ℕ) where
  abbrev Stored : Bool → Type 0
  Stored t = Wrote out 0 (cond t (image e ct) []) m p

  abbrev fits : Bool
  fits = leb (length (image e ct)) (length out - 0)

  none_written : (t : Bool) → fits ≡ t → Stored t → p ≡ 0 → leaves (Err question.Output) m ≡ writes body (image e ct) out
  none_written true f w z = absurd (omega (arith, w.next-is, length-image e ty ct))
  none_written false f w z =
      ap (leaves (Err question.Output)) (w.now-is ∙ sym (wrote_none out 0).now-is)
      ∙ sym (writes_short body (image e ct) out (whole e ty ct) (omega (arith, leb-false (length (image e ct)) (length out - 0) f, length-image e ty ct)))

  all-written : (t : Bool) → fits ≡ t → Stored t → (p ≡ 0 → ⊥) → leaves (Ok p) m ≡ writes body (image e ct) out
  all-written true f w n =
      let room = leb-true (length (image e ct)) (length out - 0) f in
      let long : p ≡ 37 + length ct = omega (arith, w.next-is, length-image e ty ct) in
      ap₂ (λ (r : ℕ) (l : List ℕ). leaves (Ok r) l) long (w.now-is ∙ put_front out (image e ct) (omega arith))
      ∙ sym (writes-row body (image e ct) out (whole e ty ct) (omega (arith, length-image e ty ct)))
  all-written false f w n = absurd (n w.next-is)

pub returns-then-n-eq0 : goal.returns-then-n-eq0
returns-then-n-eq0 c =
    let a = c.args in
    none_written a.self c.typed.ensures a.ct.now a.out.now _ _ _ refl c.put_envelope-n.ensures c.if-n-eq0.true

pub returns : goal.returns
returns c =
    let a = c.args in
    all-written a.self c.typed.ensures a.ct.now a.out.now _ _ _ refl c.put_envelope-n.ensures c.if-n-eq0.false
