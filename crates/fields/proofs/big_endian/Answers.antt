-- `fields::big_endian` meets its contract: a number of fewer than eight bytes has room for one more.
use Prim.Native.Nat.{ℕ, ◌<◌, ◌^◌}
use mathlib.Core.List.{List}
use mathlib.Core.Path.{◌≡◌, refl}
use native.Mathlib.Omega.{arith}
use native.Mathlib.Nat.{pow-le-pow_right}
use native.Mathlib.Numerals.{add-one}
use lib.ListN.{length}
use lib.Dec.{lit<}
use Rattle.layout.specs.Form.{big_endian}
use Rattle.layout.specs.Form as form
use Rattle.layout.specs.RowLaws.{Bytes}
use Rattle.layout.proofs.Front.{big-below}
use Rattle.layout.proofs.At.{typed}
use Rattle.fields.proofs.big_endian.Goals as goal

small : (bytes : List ℕ) (i : ℕ) → Bytes bytes → i < 8 → big_endian i bytes < 256 ^ 7
small bytes i by h =
    let below = big-below i bytes by in
    let most = pow-le-pow_right {n = 256} (lit< tt) {i = i} {j = 7} (omega arith) in
    omega arith

pub loop-byte-init : goal.loop-byte-init
unfolding form.big_endian
loop-byte-init c = refl

pub overflow_mul-n : goal.overflow_mul-n
overflow_mul-n c = let below = small c.args.bytes.now c.loop-byte.byte-index (typed _ c.type_inv.bytes) (omega arith) in omega (arith, c.loop-byte.invariant)

pub overflow_add-n : goal.overflow_add-n
overflow_add-n c =
    let by = typed c.args.bytes.now c.type_inv.bytes in
    omega (arith, small c.args.bytes.now c.loop-byte.byte-index by (omega arith), by c.loop-byte.byte-index, c.loop-byte.invariant)

pub loop-byte-preserved : goal.loop-byte-preserved
unfolding form.big_endian
loop-byte-preserved c = rw (add-one, c.from.ensures, c.loop-byte.invariant) refl

pub returns : goal.returns
returns c = let all : c.loop-byte.byte-index ≡ length c.args.bytes.now = omega arith in rw (← all) c.loop-byte.invariant
