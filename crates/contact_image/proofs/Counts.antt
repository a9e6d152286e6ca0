-- What the counts say, where question 36 is a yes.
-- Assumes nothing.
use Prim.Native.Nat.{ℕ, ◌*◌, ◌/◌, ◌≤◌}
use mathlib.Core.Bool.{true}
use mathlib.Core.Path.{◌≡◌}
use native.Mathlib.Omega.{arith}
use lib.ListN.{length}
use lib.Dec.{leb}
use borrow.Author.Tests.{leb-true}
use Rattle.contact.specs.Contact.{Lists}
use Rattle.contact.specs.declared.Contact.{Contact}
use Rattle.contact.proofs.Counts.{both, five, in-51, in-46, in-2}
use Rattle.numbers.specs.Lists.{within}
use Rattle.contact_image.specs.Row.{counted}

-- n items, of w each, in a list of so many
pub record Counted (n w long : ℕ) : Type 0 where
  pub held : w * n ≤ long
  pub few : n ≤ 65535

pub record AllCounted (c : Contact) (l : Lists) : Type 0 where
  pub chains : Counted c.chains 51 (length l.chains)
  pub skipped : Counted c.skipped 46 (length l.skipped)
  pub above : Counted c.above 2 (length l.above)
  pub unacked : Counted c.unacked 1 (length l.unacked)
  pub expired : Counted c.expired 2 (length l.expired)

module _ (n items : ℕ) (e : within n items ≡ true) where
  held : leb n items ≡ true
  held = (both (leb n items) (leb n 65535) e).0

  few : n ≤ 65535
  few = leb-true n 65535 (both (leb n items) (leb n 65535) e).1

module _ (n long : ℕ) where
  in-places-51 : within n (long / 51) ≡ true → Counted n 51 long
  in-places-51 e = record { held = in-51 n long (held n (long / 51) e); few = few n (long / 51) e }

  in-places-46 : within n (long / 46) ≡ true → Counted n 46 long
  in-places-46 e = record { held = in-46 n long (held n (long / 46) e); few = few n (long / 46) e }

  in_pairs : within n (long / 2) ≡ true → Counted n 2 long
  in_pairs e = record { held = in-2 n long (held n (long / 2) e); few = few n (long / 2) e }

  in_list : within n long ≡ true → Counted n 1 long
  in_list e = record { held = omega (arith, leb-true n long (held n long e)); few = few n long e }

pub all-counted : (c : Contact) (l : Lists) → counted c l ≡ true → AllCounted c l
unfolding counted
all-counted c l e =
    let h = five (within c.chains (length l.chains / 51)) (within c.skipped (length l.skipped / 46)) (within c.above (length l.above / 2))
    (within c.unacked (length l.unacked)) (within c.expired (length l.expired / 2)) e in
    record {
      chains = in-places-51 c.chains (length l.chains) h.chains;
      skipped = in-places-46 c.skipped (length l.skipped) h.skipped;
      above = in_pairs c.above (length l.above) h.above;
      unacked = in_list c.unacked (length l.unacked) h.unacked;
      expired = in_pairs c.expired (length l.expired) h.expired;
    }
