-- What stands at the places that `check_queued` answers: the queued row that is read.
-- Assumes nothing.
use Prim.Native.Nat.{ℕ}
use mathlib.Core.List.{List}
use mathlib.Core.Option.{Option, none, some}
use mathlib.Core.Path.{◌≡◌, refl, sym, ap, subst}
use native.Mathlib.Omega.{arith}
use Rattle.layout.specs.Questions.{SEALED_LENGTH}
use Rattle.layout.specs.Veil.{plain, veiled}
use Rattle.layout.specs.Read.{Read, value, refused}
use Rattle.layout.specs.Layout.{group, optional, parse, accepted, answer, read_row}
use Rattle.layout.specs.Says.{made}
use Rattle.layout.specs.RowLaws.{Bytes}
use Rattle.layout.proofs.Theorems.{accepted≢}
use Rattle.rows.specs.Values.{OwnEnvelope, Queued}
use Rattle.rows.specs.Checks.{sealed_queued}
use Rattle.rows.specs.Rows.{own_envelope, queued}
use Rattle.rows.proofs.Lawful.{queued-lawful}
use Rattle.offsets.proofs.Offset.{Stands, stands-first, field-stands, row-stands, offset-inside, run_is, run_inside, to-end-is, optional-stands}
use Rattle.queued.specs.Queued.{envelope_at, own_at, queued_at, envelope_from, EnvelopeOffsets, own_from, OwnOffsets, queued_from, Offsets}
use Rattle.queued.specs.declared.QueuedAt.{QueuedAt}

module _ (row : List ℕ) where
  module _ (from : ℕ) (e : OwnEnvelope) (s : Stands (group own_envelope) e row from) where
    envelope-is : envelope_from row (envelope_at from e) ≡ e
    envelope-is = λ i. record {
      tag = run_is plain 16 (field-stands row own_envelope 0 e s) i;
      s = run_is veiled 16 (field-stands row own_envelope 1 e s) i;
      expiry_min = e.expiry_min;
      copies = e.copies;
      renewed = e.renewed;
    }

    envelope-inside : EnvelopeOffsets row (envelope_at from e)
    envelope-inside = record {
      tag = run_inside plain 16 (field-stands row own_envelope 0 e s) (omega arith);
      s = run_inside veiled 16 (field-stands row own_envelope 1 e s) (omega arith);
    }

  own_is : (from : ℕ) (o : Option OwnEnvelope) → Stands (optional (group own_envelope)) o row from → (own_from row (own_at from o) ≡ o) × OwnOffsets row (own_at from o)
  own_is from none s = (refl, tt)
  own_is from (some e) s =
      let its = optional-stands (group own_envelope) s in
      (ap some (envelope-is _ e its), envelope-inside _ e its)

  -- the value at the places that were answered, and that they lie in the row
  module _ (by : Bytes row) (version : ℕ) where
    stands : (q : Queued) → Stands (group (queued version)) q row 0 → (queued_from row (queued_at version q) ≡ q) × Offsets row (queued_at version q)
    stands q s =
        let own = own_is _ q.envelope (row-stands row (queued version) 1 q s) in
        let text = to-end-is veiled SEALED_LENGTH sealed_queued (row-stands row (queued version) 4 q s) in (
          (λ i. record { created_s = q.created_s; envelope = own.0 i; gen = q.gen; idx = q.idx; sealed = text i }),
          record { envelope = own.1; sealed = omega (arith, offset-inside row (queued version) 4 q s (omega arith)) },
        )

    pub placed : {at : QueuedAt} → accepted at ≡ made (queued_at version) (read_row (queued version) row) → (read_row (queued version) row ≡ accepted (queued_from row at)) × Offsets row at
    placed {at} e = go (parse (queued version) row) refl e
      where
        go : (x : Read Queued) → parse (queued version) row ≡ x → accepted at ≡ made (queued_at version) (answer x) → (answer x ≡ accepted (queued_from row at)) × Offsets row at
        go (value q rest) read e =
            let s = stands q (stands-first (group (queued version)) (queued-lawful version) by read) in
            let same : queued_at version q ≡ at = cc in
            subst (λ (p : QueuedAt). (accepted q ≡ accepted (queued_from row p)) × Offsets row p) same (ap accepted (sym s.0), s.1)
        go (refused n) read e = absurd (accepted≢ e)
