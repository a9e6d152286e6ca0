-- What is proved of contact rows read and written (proofs/RoundTrip.antt), from the contracts of `Contact::decode` and of the writer alone.
-- `leaves (Ok read) left ≡ reads version row l` is what the reader ensures where it answers the struct `read`, was lent the lists l and leaves them as `left`;
-- `written.leaves (Ok n) left ≡ writes_contact c l out` is what the writer ensures where it answers n and leaves the output as `left`. Assumes nothing.
use Rattle.std.specs.Prelude.{ℕ, List, true, ◌≡◌, take, Ok}
use Rattle.layout.specs.Layout.{read_row, accepted}
use Rattle.layout.specs.RowLaws.{Bytes, Valid}
use Rattle.layout.specs.Says as written
use Rattle.layout.specs.Write.{stored}
use Rattle.rows.specs.Values as value
use Rattle.rows.specs.Rows.{contact}
use Rattle.contact.specs.Contact.{Lists, contact_of, long_enough, filled, leaves, reads}
use Rattle.contact.specs.declared.Contact.{Contact}
use Rattle.contact_image.specs.Row.{ContactTyped, ListsTyped, contact_in, writes_contact}

pub record ContactLaws : Type 0 where
  -- read: the struct and the lists stand for the value that the row holds
  pub read-value : (version : ℕ) (row : List ℕ) → Bytes row → (l left : Lists) (read : Contact) → leaves (Ok read) left ≡ reads version row l
      → read_row (contact version) row ≡ accepted (contact_in read left)
  -- write: the row holds the value that the struct and the lists stand for
  pub write-value : (c : Contact) (l : Lists) → ContactTyped c → ListsTyped l → (out left : List ℕ) (n : ℕ) → written.leaves (Ok n) left ≡ writes_contact c l out
      → read_row (contact 3) (take n left) ≡ accepted (contact_in c l)
  -- read, then write: the same bytes
  pub read-write : (version : ℕ) (row : List ℕ) → Bytes row → (l left : Lists) (read : Contact) → leaves (Ok read) left ≡ reads version row l
      → (out : List ℕ) → writes_contact read left out ≡ stored row out
  -- write, then read: the same struct, with 0 for what its flags, its name's length and KCI leave out, and the same items
  pub write_read : (c : Contact) (l : Lists) → ContactTyped c → ListsTyped l → (out left : List ℕ) (n : ℕ) → written.leaves (Ok n) left ≡ writes_contact c l out
      → (lent : Lists) → long_enough (contact_in c l) lent ≡ true
      → reads 3 (take n left) lent ≡ leaves (Ok (contact_of (contact_in c l))) (filled (contact_in c l) lent)
  -- ... into lists that are long enough, as those are that it was written from
  pub write-enough : (c : Contact) (l : Lists) (out left : List ℕ) (n : ℕ) → written.leaves (Ok n) left ≡ writes_contact c l out → long_enough (contact_in c l) l ≡ true
  -- the struct of a value, and lists with its items in them, stand for it
  pub value-back : (version : ℕ) (v : value.Contact) → Valid (contact version) v → (l : Lists) → long_enough v l ≡ true → contact_in (contact_of v) (filled v l) ≡ v
