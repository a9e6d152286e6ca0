-- An envelope's layout, what decoding leaves in the struct, when a courier accepts it, and which body a struct stands for.
-- Assumes nothing.
use Rattle.std.specs.Prelude.{ℕ, ◌-◌, ◌^◌, ◌<◌, List, [], Bool, true, cond, ◌&&◌, Ok, ◌≡◌, length, take, drop, leb, ltb}
use Rattle.layout.specs.Questions.{SEALED_LENGTH}
use Rattle.layout.specs.Veil.{plain, veiled}
use Rattle.layout.specs.Form.{bytes, u8, u32, to_end}
use Rattle.layout.specs.Layout.{Layout, done, field, accepted, read_row, print, ◌>>=◌}
use Rattle.layout.specs.RowLaws.{Bytes}
use Rattle.layout.specs.Write.{stored, writes}
use Rattle.layout.specs.Says.{made, leaves}
use Rattle.rows.specs.Checks.{sealed_carried, not_zero}
use Rattle.envelope.specs.declared.Envelope.{Envelope}
use Rattle.envelope.specs.declared.EnvelopeRead.{EnvelopeRead}

pub record Body : Type 0 where
  pub tag : List ℕ
  pub c : List ℕ
  pub expiry_min : ℕ
  pub copies : ℕ
  pub ct : List ℕ

-- ct may be of any length
abbrev pub any_length : ℕ → Bool
any_length n = true

-- a carried row behind its depositor, without that row's questions: courier.rs asks them by `valid`
abbrev pub body : Layout Body
body = do
  tag ← field (bytes plain 16) (λ b. b.tag)
  c ← field (bytes plain 16) (λ b. b.c)
  expiry_min ← field u32 (λ b. b.expiry_min)
  copies ← field u8 (λ b. b.copies)
  ct ← field (to_end veiled SEALED_LENGTH any_length) (λ b. b.ct)
  done (record { tag = tag; c = c; expiry_min = expiry_min; copies = copies; ct = ct })

-- ---- decoding: the envelope, and where its ct starts
abbrev pub envelope_of : Body → Envelope
envelope_of b = record { expiry_min = b.expiry_min; copies = b.copies; tag = b.tag; c = b.c }

abbrev pub read_of : List ℕ → Body → EnvelopeRead
read_of input b = record { ct_at = length input - length b.ct; envelope = envelope_of b }

-- ---- a courier accepts it
abbrev pub valid_at : Envelope → ℕ → ℕ → Bool
valid_at e len now = sealed_carried len && not_zero e.copies && ltb now e.expiry_min

-- ---- encoding: the body that would be written is the print of the value that the struct and ct stand for
abbrev pub value_of : Envelope → List ℕ → Body
value_of e ct = record { tag = e.tag; c = e.c; expiry_min = e.expiry_min; copies = e.copies; ct = ct }

unfoldable pub image : Envelope → List ℕ → List ℕ
image e ct = print body (value_of e ct)

-- what is stored where there are so many bytes: nothing where the body does not fit
abbrev pub storable : Envelope → (ct : List ℕ) → (room : ℕ) → List ℕ
storable e ct room = cond (leb (length (image e ct)) room) (image e ct) []

-- what the struct's type says
pub record EnvelopeTyped (e : Envelope) : Type 0 where
  pub expiry_min : e.expiry_min < 256 ^ 4
  pub copies : e.copies < 256
  pub tag : length e.tag ≡ 16
  pub c : length e.c ≡ 16

-- ---- what is proved of both, and of `valid` (proofs/RoundTrip.antt)
-- `leaves (Ok n) left ≡ writes ..` is what `encode` ensures where it answers n and leaves the output as `left`; `made (read_of input) (read_row body input)` is what `decode` answers
pub record EnvelopeLaws : Type 0 where
  -- encode, then decode: the same struct, and ct in its place
  pub write_read : (e : Envelope) → EnvelopeTyped e → (ct out left : List ℕ) (n : ℕ) → leaves (Ok n) left ≡ writes body (image e ct) out
      → made (read_of (take n left)) (read_row body (take n left)) ≡ accepted (record { ct_at = length (take n left) - length ct; envelope = e })
  pub write-ct : (e : Envelope) (ct out left : List ℕ) (n : ℕ) → leaves (Ok n) left ≡ writes body (image e ct) out
      → drop (length (take n left) - length ct) (take n left) ≡ ct
  -- decode, then encode: the same bytes
  pub read-write : (input : List ℕ) → Bytes input → (read : EnvelopeRead) → made (read_of input) (read_row body input) ≡ accepted read
      → (out : List ℕ) → writes body (image read.envelope (drop read.ct_at input)) out ≡ stored input out
  -- at minute 0, as state.rs calls it, `valid` asks what a carried row is asked: 13, 14 and 15
  pub valid-row : (e : Envelope) (len : ℕ) → valid_at e len 0 ≡ (sealed_carried len && not_zero e.copies && not_zero e.expiry_min)
