-- `device::CourierConfig::new` meets its contract: limit by limit.
use Rattle.std.proofs.Common.{inl, inr}
use mathlib.Core.Path.{refl}
use borrow.Author.Tests.{le-leb, lt-leb}
use Rattle.device.specs.Device as spec
use Rattle.device.proofs.CourierConfig.new.Goals as goal

pub returns-then-copies-lt-MIN_COPIES : goal.returns-then-copies-lt-MIN_COPIES
unfolding spec.new_config
returns-then-copies-lt-MIN_COPIES c = elim c.then-copies-lt-MIN_COPIES.either [ inl few ↦ rw (lt-leb _ _ few) | inr h ↦ rw (le-leb _ _ h.0, lt-leb _ _ h.1) ]

pub returns-then-lifetime_min-lt-MIN_LIFETIME_MIN : goal.returns-then-lifetime_min-lt-MIN_LIFETIME_MIN
unfolding spec.new_config
returns-then-lifetime_min-lt-MIN_LIFETIME_MIN c =
    rw (le-leb _ _ c.if-copies-lt-MIN_COPIES.false, le-leb _ _ c.if-copies-gt-MAX_COPIES.false)
    (elim c.then-lifetime_min-lt-MIN_LIFETIME_MIN.either [ inl short ↦ rw (lt-leb _ _ short) refl | inr h ↦ rw (le-leb _ _ h.0, lt-leb _ _ h.1) refl ])

pub returns : goal.returns
unfolding spec.new_config
returns c =
    rw (le-leb _ _ c.if-copies-lt-MIN_COPIES.false, le-leb _ _ c.if-copies-gt-MAX_COPIES.false, le-leb _ _ c.if-lifetime_min-lt-MIN_LIFETIME_MIN.false, le-leb _ _ c.if-lifetime_min-gt-MAX_LIFETIME_MIN.false)
