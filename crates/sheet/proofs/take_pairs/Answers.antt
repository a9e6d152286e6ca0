-- `sheet::take_pairs` meets its contract: what the pairs do one by one (`pairs`), at once.
-- Assumes nothing.
use Prim.Native.Nat.{ℕ, ◌*◌, ◌/◌, ◌-◌, ◌<◌}
use mathlib.Core.Bool.{Bool, true, false, cond}
use mathlib.Core.Path.{◌≡◌, refl}
use native.Mathlib.Omega.{arith}
use lib.ListN.{length, take, length-take}
use lib.Seq.{take_all}
use lib.Dec.{ltb}
use borrow.Author.Tests.{ltb-true}
use Rattle.sheet.specs.Machine.{room_for}
use Rattle.ascii.proofs.Blobs.{hex-take}
use Rattle.sheet.proofs.Pairs.{all_fit, some_fit, none-fit}
use Rattle.sheet.proofs.take_pairs.Goals as goal

-- where not all fit, there is less room than pairs
not-most : (most lent r : ℕ) → r ≡ room_for most lent → (r ≡ most → ⊥) → (r ≡ lent) × (lent < most)
not-most most lent r e other = go (ltb lent most) refl e
  where
    go : (t : Bool) → ltb lent most ≡ t → r ≡ cond t lent most → (r ≡ lent) × (lent < most)
    go true f g = (g, ltb-true lent most f)
    go false f g = absurd (other g)

pub put_bytes-end-requires : goal.put_bytes-end-requires
put_bytes-end-requires c =
    let a = c.args in
    (hex-take (2 * c.room_for-fit.result) a.digits.now c.requires.3, simp length-take (omega (arith, c.room_for-fit.ensures.2, c.room_for-room.ensures.2)))

pub returns-then-fit-n : goal.returns-then-fit-n
returns-then-fit-n c =
    let digits = c.args.digits.now in
    let fit = c.room_for-fit in
    let whole : take (2 * fit.result) digits ≡ digits = take_all (2 * fit.result) digits (omega (arith, c.if-fit-n.true, c.requires.2)) in
    rw (rw whole at c.put_bytes-end.ensures.0)
    (all_fit c.args.s digits c.args.run.now c.requires.0 c.requires.1 c.requires.2 c.requires.3 _ (rw whole at c.put_bytes-end.ensures.1.now-is)
    (rw (← c.room_for-room.ensures.0) (omega (arith, c.if-fit-n.true, fit.ensures.2, c.if-s-room.true))))

pub returns-else-fit-n : goal.returns-else-fit-n
returns-else-fit-n c =
    let fit = c.room_for-fit in
    let n = length c.args.digits.now / 2 in
    let least = not-most n (c.room_for-room.result - c.args.s.used) fit.result fit.ensures.0 c.if-fit-n.false in
    let e = c.room_for-room.ensures.0 in
    rw e
    (some_fit c.args.s c.args.digits.now c.args.run.now c.requires.0 c.requires.1 c.requires.2 c.requires.3 fit.result c.put_bytes-end.new.out (rw e at least.0)
    c.put_bytes-end.ensures.1.now-is (rw (← e) (omega (arith, least))))

pub returns-else-s-room : goal.returns-else-s-room
returns-else-s-room c =
    let e = c.room_for-room.ensures.0 in
    rw e (none-fit c.args.s c.args.digits.now c.args.run.now c.requires.0 c.requires.1 c.requires.2 c.requires.3 (rw e at c.if-s-room.false))
