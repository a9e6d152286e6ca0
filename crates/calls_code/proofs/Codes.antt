-- Numbers that begin with none of the codes are no call.
-- Assumes nothing.
use Prim.Native.Nat.{ℕ}
use mathlib.Core.List.{List}
use mathlib.Core.Option.{none}
use mathlib.Core.Path.{◌≡◌, sym}
use lib.ListN.{get_or}
use borrow.Author.Tests.{ne_eqb}
use Rattle.calls_code.specs.Encoding as encoding
use Rattle.calls_code.specs.Encoding.{RESTORE, OPEN, COVER, CONTAINS, COVERS, TAKE, STATEMENT, WRITE, call_in}

pub by-no-code : (run records six : List ℕ) {code : ℕ} → code ≡ get_or six 0 0 → (code ≡ RESTORE → ⊥) → (code ≡ OPEN → ⊥) → (code ≡ COVER → ⊥) → (code ≡ CONTAINS → ⊥)
    → (code ≡ COVERS → ⊥) → (code ≡ TAKE → ⊥) → (code ≡ STATEMENT → ⊥) → (code ≡ WRITE → ⊥) → none ≡ call_in run records six
unfolding encoding.call_as
by-no-code run records six {code} first a b c d e f g h =
    rw (sym first, ne_eqb code RESTORE a, ne_eqb code OPEN b, ne_eqb code COVER c, ne_eqb code CONTAINS d, ne_eqb code COVERS e, ne_eqb code TAKE f, ne_eqb code STATEMENT g, ne_eqb code WRITE h)
