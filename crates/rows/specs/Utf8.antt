-- UTF-8 by the grammar of RFC 3629, section 4 (question 9).
-- Assumes nothing.
use Rattle.std.specs.Prelude.{ℕ, List, [], ◌∷◌, Bool, true, false, cond, ◌&&◌, leb}
use Rattle.std.proofs.Math.Option.{Option, none, some}

-- %xLO-HI
pub record Limits : Type 0 where
  pub lo : ℕ
  pub hi : ℕ

abbrev pub limits : ℕ → ℕ → Limits
limits lo hi = record { lo = lo; hi = hi }

abbrev pub is_in : Limits → ℕ → Bool
is_in r b = leb r.lo b && leb b r.hi

-- UTF8-tail = %x80-BF
abbrev pub tail : Limits
tail = limits 0x80 0xBF

-- one alternative of the grammar: the limits of the first byte, and of each byte after it
pub record Shape : Type 0 where
  pub first : Limits
  pub more : List Limits

abbrev pub shape : Limits → List Limits → Shape
shape first more = record { first = first; more = more }

-- UTF8-char = UTF8-1 / UTF8-2 / UTF8-3 / UTF8-4
abbrev pub shapes : List Shape
shapes =
    shape (limits 0x00 0x7F) []
    ∷ shape (limits 0xC2 0xDF) (tail ∷ [])
    ∷ shape (limits 0xE0 0xE0) (limits 0xA0 0xBF ∷ tail ∷ [])
    ∷ shape (limits 0xE1 0xEC) (tail ∷ tail ∷ [])
    ∷ shape (limits 0xED 0xED) (limits 0x80 0x9F ∷ tail ∷ [])
    ∷ shape (limits 0xEE 0xEF) (tail ∷ tail ∷ [])
    ∷ shape (limits 0xF0 0xF0) (limits 0x90 0xBF ∷ tail ∷ tail ∷ [])
    ∷ shape (limits 0xF1 0xF3) (tail ∷ tail ∷ tail ∷ [])
    ∷ shape (limits 0xF4 0xF4) (limits 0x80 0x8F ∷ tail ∷ tail ∷ [])
    ∷ []

-- the limits of the bytes after a first byte b; none where no character starts with b
abbrev pub choose : List Shape → ℕ → Option (List Limits)
choose [] b = none
choose (s ∷ ss) b = cond (is_in s.first b) (some s.more) (choose ss b)

unfoldable pub following : ℕ → Option (List Limits)
following = choose shapes

-- the bytes complete the character begun, of which `rs` is still to come, and go on in whole characters
abbrev pub or_no : Option (List Limits) → (List Limits → Bool) → Bool
or_no none k = false
or_no (some rs) k = k rs

unfoldable pub completes : List Limits → List ℕ → Bool
completes [] [] = true
completes [] (b ∷ bs) = or_no (following b) (λ rs. completes rs bs)
completes (r ∷ rs) [] = false
completes (r ∷ rs) (b ∷ bs) = is_in r b && completes rs bs

-- UTF8-octets = *( UTF8-char )
abbrev pub utf8 : List ℕ → Bool
utf8 bs = completes [] bs
