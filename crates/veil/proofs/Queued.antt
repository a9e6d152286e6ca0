-- Queued rows: with 0 for s and for the sealed text, the struct that was read stands for the veiled value.
-- Assumes nothing.
use Prim.Native.Nat.{ℕ, ◌-◌, ◌≤◌}
use mathlib.Core.List.{List}
use mathlib.Core.Option.{Option, none, some}
use mathlib.Core.Path.{◌≡◌, refl, sym, ap, subst, ◌∙◌}
use lib.ListN.{length, drop}
use Rattle.layout.specs.Veil.{veil, zeros}
use Rattle.layout.specs.Layout.{accepted, read_row, print, blank_of, refusal_of, group, optional}
use Rattle.layout.specs.Layout as layout
use Rattle.layout.specs.RowLaws.{Bytes, Valid}
use Rattle.layout.specs.Says.{made}
use Rattle.layout.specs.Write.{writes}
use Rattle.rows.specs.Values as value
use Rattle.rows.specs.Rows.{own_envelope, queued}
use Rattle.rows.proofs.Proved.{proved}
use Rattle.sealed.proofs.Buckets.{queued-few}
use Rattle.rows.proofs.RoundTrip.{three}
use Rattle.queued_row.specs.Row as spec
use Rattle.queued_row.specs.Row.{own_of, tag_of, queued_of, parts, envelope_of, value_of, image}
use Rattle.queued_row.specs.declared.Outgoing.{Outgoing}
use Rattle.queued_row.proofs.RoundTrip.{sealed-last}
use Rattle.veil.specs.Veil.{Tail, VeiledText, veils, queued_without_s}
use Rattle.veil.proofs.Copied.{Granted, granted, copied}
use Rattle.veil.proofs.Text.{long, tail}

-- ---- the value that it stands for, with zeros for the sealed text
own_is : (o : Option value.OwnEnvelope) (post : List ℕ) → (optional (group own_envelope)).fits o post → envelope_of (own_of o) (tag_of o) (zeros 16) ≡ (optional (group own_envelope)).blank veil o
unfolding layout.blank_of
own_is none post h = refl
own_is (some e) post h = rw h.1.0.1.0

value-is : (v : value.Queued) (post : List ℕ) → (optional (group own_envelope)).fits v.envelope post → value_of (queued_without_s (queued_of v)) (zeros (length v.sealed)) ≡ blank_of (queued 3) veil v
unfolding layout.blank_of
value-is v post h =
    ap (λ (o : Option value.OwnEnvelope). record { created_s = v.created_s; envelope = o; gen = v.gen; idx = v.idx; sealed = zeros (length v.sealed) }) (own_is v.envelope post h)

-- ---- the sealed text's length
sealed-few : (v : value.Queued) → refusal_of (queued 3) v ≡ none → length v.sealed ≤ 4064
sealed-few v h = queued-few (length v.sealed) ((proved.meets.queued 3 v).0 h).1.sealed

-- ---- what was read
module _ (version : ℕ) (row : List ℕ) (by : Bytes row) (read : ℕ × Outgoing) (told : accepted read ≡ made (parts row) (read_row (queued version) row)) where
  yes : Granted (parts row) (read_row (queued version) row) read
  yes = granted (parts row) (queued version) row told

  known : read_row (queued 3) row ≡ accepted yes.value
  known = subst (λ (n : ℕ). read_row (queued n) row ≡ accepted yes.value) (three _ version row yes.is) yes.is

  valid : Valid (queued 3) yes.value
  valid = (proved.queued 3).laws.read-valid row by yes.value known

  last : drop (length row - length yes.value.sealed) row ≡ yes.value.sealed
  last = sealed-last 3 yes.value row ((proved.queued 3).laws.read-print row by yes.value known)

  queued-tail : Tail row read.0
  queued-tail = subst (Tail row) (sym (ap (λ (x : ℕ × Outgoing). x.0) yes.made-is)) (tail row yes.value.sealed last (sealed-few yes.value valid.granted))

  queued-copied : (out : List ℕ) → writes (queued 3) (image (queued_without_s read.1) (zeros (length row - read.0))) out ≡ veils (queued version) row out
  unfolding spec.image
  queued-copied out =
      ap (λ (x : ℕ × Outgoing). writes (queued 3) (image (queued_without_s x.1) (zeros (length row - x.0))) out) yes.made-is
      ∙ ap (λ (n : ℕ). writes (queued 3) (image (queued_without_s (queued_of yes.value)) (zeros n)) out) (long row yes.value.sealed last)
      ∙ ap (λ (x : value.Queued). writes (queued 3) (print (queued 3) x) out) (value-is yes.value _ valid.fits.1.0)
      ∙ copied (queued 3) row out (proved.queued 3) by known
      ∙ rw (three _ version row yes.is)

pub queued-text : (version : ℕ) (row : List ℕ) → Bytes row → VeiledText queued parts image queued_without_s version row
queued-text version row by = record { tail = queued-tail version row by; copied = queued-copied version row by }
