-- What reading a contact row leaves, from what the check found.
-- Assumes nothing.
use Prim.Native.Nat.{ℕ}
use mathlib.Core.List.{List}
use mathlib.Core.Bool.{Bool, true, false}
use mathlib.Core.Path.{◌≡◌, ap, ◌∙◌}
use borrow.Author.Tests.{leb-true}
use Rattle.layout.specs.Questions.{LISTS}
use Rattle.layout.specs.Layout.{Answer, accepted, refused_by, read_row}
use Rattle.layout.specs.RowLaws.{Bytes}
use Rattle.layout.proofs.Front.{number-lawful}
use Rattle.rows.specs.Values as value
use Rattle.rows.specs.Rows.{contact}
use Rattle.rows.proofs.Lawful.{chain-lawful, skipped-lawful, range-lawful}
use Rattle.contact_lists.proofs.Ends.{listed-fits}
use Rattle.numbers.specs.Lists.{room_for}
use Rattle.contact.specs.Check.{contact_from, counts_at, Offsets}
use Rattle.contact.specs.Contact as spec
use Rattle.contact.specs.Contact.{Lists, Left, lengths_of, contact_of, long_enough, filled, opened, reads, Fillable}
use Rattle.contact.specs.declared.ContactAt.{ContactAt}
use Rattle.contact.proofs.Counts.{five, in-51, in-46, in-2}

-- a is the row's answer, and x what it leaves
pub opened-is : (version : ℕ) (row : List ℕ) (l : Lists) {a : Answer value.Contact} → a ≡ read_row (contact version) row → {x : Left} → x ≡ opened a l → x ≡ reads version row l
unfolding spec.reads
opened-is version row l e left = left ∙ ap (λ a. opened a l) e

module _ (v : value.Contact) (l : Lists) where
  pub too_short : long_enough v l ≡ false → opened (accepted v) l ≡ record { answer = refused_by LISTS; lists = l }
  too_short h = rw h

  pub is_filled : long_enough v l ≡ true → opened (accepted v) l ≡ record { answer = accepted (contact_of v); lists = filled v l }
  is_filled h = rw h

-- ---- 36, asked of the counts
module _ (row : List ℕ) (by : Bytes row) (at : ContactAt) (p : Offsets row at) (l : Lists) where
  abbrev pub has_room : Bool
  has_room = room_for (counts_at at) (lengths_of l)

  pub counts-are : long_enough (contact_from row at) l ≡ has_room
  counts-are =
      rw (
        (listed-fits _ chain-lawful by p.chained.chains).0,
        (listed-fits _ skipped-lawful by p.chained.skipped).0,
        (listed-fits _ range-lawful by p.numbers.above).0,
        (listed-fits _ (number-lawful 4) by p.numbers.unacked).0,
        (listed-fits _ range-lawful by p.numbers.expired).0,
      )

  pub fillable : has_room ≡ true → Fillable row at l
  fillable e =
      let h = five _ _ _ _ _ e in
      record {
        places = p;
        chains = in-51 _ _ h.chains;
        skipped = in-46 _ _ h.skipped;
        above = in-2 _ _ h.above;
        unacked = leb-true _ _ h.unacked;
        expired = in-2 _ _ h.expired;
      }
