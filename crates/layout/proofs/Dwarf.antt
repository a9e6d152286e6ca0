-- The reader of LEB128 accepts exactly the minimal encodings of the numbers below 2 ^ 32. Each such number has one, and that is what is printed.
-- Assumes nothing.
use Prim.Native.Nat.{ℕ, zero, suc, ◌*◌, ◌/◌, ◌^◌, ◌≤◌, ◌<◌}
use mathlib.Core.List.{List, [], ◌∷◌, ◌++◌}
use mathlib.Core.Bool.{false}
use mathlib.Core.Path.{◌≡◌, refl, sym, ap, ap₂, ◌∙◌}
use native.Mathlib.Omega.{arith}
use native.Mathlib.Decide.{dec_lt}
use native.Mathlib.Nat.{pow-suc}
use lib.ListN.{length}
use borrow.Author.Tests.{lt-ltb, le-ltb}
use Rattle.layout.specs.Read.{value}
use Rattle.layout.specs.Form.{leb_read, leb_print}
use Rattle.layout.specs.RowLaws.{Bytes}
use Rattle.layout.specs.Dwarf.{Encoding, last, more, value_of, Minimal, Accepted, LebLaws}
use Rattle.layout.proofs.Leb.{print-read, Found, read-printed}

-- ---- minimal encodings
some_byte : {bs : List ℕ} → Encoding bs → 1 ≤ length bs
some_byte (last h) = omega arith
some_byte (more h k e) = omega arith

one_byte : {b : ℕ} → b < 128 → Minimal (b ∷ [])
one_byte h = record { encodes = last h; shortest = λ cs e v. some_byte e }

-- a byte before a minimal encoding, unless that is of zero
byte_more : {b : ℕ} {bs : List ℕ} → 128 ≤ b → b < 256 → Minimal bs → 1 ≤ value_of bs → Minimal (b ∷ bs)
byte_more {b} {bs} h k m p = record { encodes = more h k m.encodes; shortest = go }
  where
    go : (cs : List ℕ) → Encoding cs → value_of cs ≡ value_of (b ∷ bs) → length (b ∷ bs) ≤ length cs
    go cs (last l) v = absurd (omega arith)
    go cs (more {bs = cs'} l r e) v = omega (arith, m.shortest cs' e (omega arith))

same_bytes : {bs cs : List ℕ} → Encoding bs → Encoding cs → length bs ≡ length cs → value_of bs ≡ value_of cs → bs ≡ cs
same_bytes (last h) (last k) l v = ap (λ (b : ℕ). b ∷ []) (omega arith)
same_bytes (last h) (more k r c) l v = absurd (omega (arith, some_byte c))
same_bytes (more h r b) (last k) l v = absurd (omega (arith, some_byte b))
same_bytes (more h r b) (more k s c) l v = ap₂ ◌∷◌ (omega arith) (same_bytes b c (omega arith) (omega arith))

pub one-encoding : {bs cs : List ℕ} → Minimal bs → Minimal cs → value_of bs ≡ value_of cs → bs ≡ cs
one-encoding {bs} {cs} m k v =
    let l = m.shortest cs k.encodes (sym v) in
    let r = k.shortest bs m.encodes v in
    same_bytes m.encodes k.encodes (omega arith) v

-- ---- what is printed is minimal
print-minimal : (left n : ℕ) → n < 16 * 128 ^ left → Minimal (leb_print left n) × (value_of (leb_print left n) ≡ n)
unfolding leb_print
print-minimal zero n h = (one_byte (omega arith), omega arith)
print-minimal (suc l) n h =
    elim (dec_lt n 128) [
      | yes s ↦ rw (lt-ltb n 128 s) (one_byte s, omega arith)
      | no s ↦
          let (m, v) = print-minimal l (n / 128) (omega (arith, rw pow-suc at h)) in
          rw (le-ltb n 128 (omega arith)) (byte_more (omega arith) (omega arith) m (omega arith), omega arith)
    ]

pub printed : (n : ℕ) (rest : List ℕ) → n < 2 ^ 32 → Accepted (leb_print 4 n ++ rest) n rest
printed n rest h =
    let (m, v) = print-minimal 4 n h in
    record { front = leb_print 4 n; joins = refl; minimal = m; means = v; below = h }

pub read_back : (row : List ℕ) (n : ℕ) (rest : List ℕ) → Accepted row n rest → leb_read 4 false row ≡ value n rest
read_back row n rest a =
    let (m, v) = print-minimal 4 n a.below in
    let same : a.front ≡ leb_print 4 n = one-encoding a.minimal m (a.means ∙ sym v) in
    rw (← a.joins, same) (print-read 4 false n rest a.below refl)

pub accepted : (row : List ℕ) (n : ℕ) (rest : List ℕ) → Bytes row → leb_read 4 false row ≡ value n rest → Accepted row n rest
accepted row n rest by e =
    let f : Found 4 false row n rest = rw e at (read-printed 4 false row by) in
    rw f.joins at (printed n rest f.below)

pub leb-laws : LebLaws
leb-laws = record { accepted = accepted; read_back = read_back; printed = printed; one-encoding = one-encoding }
