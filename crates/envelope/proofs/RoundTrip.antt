-- The round trips of an envelope, from the contracts of `encode` and `decode` alone; and what `valid` asks at minute 0.
-- Assumes nothing.
use Prim.Native.Nat.{ℕ, ◌-◌, ◌<◌}
use mathlib.Core.List.{List, ◌++◌, append_assoc, append-nil}
use mathlib.Core.Bool.{Bool, true, false, not, ◌&&◌}
use mathlib.Core.Path.{◌≡◌, refl, sym, ap, subst, ◌∙◌}
use native.Mathlib.Omega.{arith}
use lib.ListN.{length, take, drop}
use lib.Dec.{ltb, eqb}
use borrow.Author.Tests.{eqb-true, eqb-false, lt-ltb, le-ltb}
use Rattle.std.specs.Prelude.{Ok}
use Rattle.layout.specs.Form.{bytes_of}
use Rattle.layout.specs.Layout.{Answer, accepted, refused_by, read_row, print}
use Rattle.layout.specs.Layout as layout
use Rattle.layout.specs.RowLaws.{Bytes}
use Rattle.layout.specs.Write.{stored, writes}
use Rattle.layout.specs.Says.{made, leaves}
use Rattle.layout.proofs.Theorems.{accepted≢}
use Rattle.rows.specs.Checks.{sealed_carried, not_zero}
use Rattle.rows.proofs.RoundTrip.{Stands, stands, rewritten, last-at}
use Rattle.envelope.specs.Envelope as spec
use Rattle.envelope.specs.Envelope.{Body, body, read_of, valid_at, value_of, image, EnvelopeTyped, EnvelopeLaws}
use Rattle.envelope.specs.declared.Envelope.{Envelope}
use Rattle.envelope.specs.declared.EnvelopeRead.{EnvelopeRead}
use Rattle.envelope.proofs.Image.{body-laws, read-image}

-- ---- a body's last bytes are ct
front : Body → List ℕ
front b = b.tag ++ (b.c ++ (bytes_of 4 b.expiry_min ++ bytes_of 1 b.copies))

print-is : (b : Body) → print body b ≡ front b ++ b.ct
unfolding layout.print front
print-is b = ap (λ (l : List ℕ). b.tag ++ (b.c ++ (bytes_of 4 b.expiry_min ++ (bytes_of 1 b.copies ++ l)))) (append-nil b.ct) ∙ sym (simp append_assoc)

ct-last : (b : Body) (input : List ℕ) → print body b ≡ input → drop (length input - length b.ct) input ≡ b.ct
ct-last b input e = subst (λ (l : List ℕ). drop (length l - length b.ct) l ≡ b.ct) (sym (print-is b) ∙ e) (last-at (front b) b.ct)

-- ---- encode, then decode
module _ (e : Envelope) (ct out left : List ℕ) (n : ℕ) (contract : leaves (Ok n) left ≡ writes body (image e ct) out) where
  held : Stands body (image e ct) left n
  held = stands body (image e ct) out left contract

  is_read : EnvelopeTyped e → read_row body (take n left) ≡ accepted (value_of e ct)
  is_read ty = ap (λ (l : List ℕ). read_row body l) held.front ∙ read-image e ty ct

  write-ct : drop (length (take n left) - length ct) (take n left) ≡ ct
  unfolding spec.image
  write-ct = ct-last (value_of e ct) (take n left) (sym held.front)

-- ---- decode, then encode
read-write : (input : List ℕ) → Bytes input → (read : EnvelopeRead) → made (read_of input) (read_row body input) ≡ accepted read
    → (out : List ℕ) → writes body (image read.envelope (drop read.ct_at input)) out ≡ stored input out
unfolding spec.image
read-write input by read r out = go (read_row body input) refl r
  where
    go : (a : Answer Body) → read_row body input ≡ a → made (read_of input) a ≡ accepted read → writes body (image read.envelope (drop read.ct_at input)) out ≡ stored input out
    go (accepted b) e h =
        let same : read ≡ read_of input b = cc in
        ap (λ (x : EnvelopeRead). writes body (image x.envelope (drop x.ct_at input)) out) same
        ∙ ap (λ (l : List ℕ). writes body (print body (record { tag = b.tag; c = b.c; expiry_min = b.expiry_min; copies = b.copies; ct = l })) out)
        (ct-last b input (body-laws.read-print input by b e))
        ∙ rewritten body body-laws input by b e out
    go (refused_by p) e h = absurd (accepted≢ (sym h))

-- ---- valid
valid-row : (e : Envelope) (len : ℕ) → valid_at e len 0 ≡ (sealed_carried len && not_zero e.copies && not_zero e.expiry_min)
valid-row e len = ap (λ (t : Bool). sealed_carried len && not_zero e.copies && t) (go (eqb e.expiry_min 0) refl)
  where
    go : (t : Bool) → eqb e.expiry_min 0 ≡ t → ltb 0 e.expiry_min ≡ not t
    go true p = le-ltb 0 e.expiry_min (omega (arith, eqb-true e.expiry_min 0 p))
    go false p = lt-ltb 0 e.expiry_min (above e.expiry_min (eqb-false e.expiry_min 0 p))
      where
        above : (n : ℕ) → (n ≡ 0 → ⊥) → 0 < n
        above n h = omega arith

pub envelope-laws : EnvelopeLaws
envelope-laws = record {
  write_read = λ e ty ct out left n contract. ap (made (read_of (take n left))) (is_read e ct out left n contract ty);
  write-ct = write-ct;
  read-write = read-write;
  valid-row = valid-row;
}
