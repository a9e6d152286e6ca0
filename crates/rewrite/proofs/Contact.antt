-- A contact row read into lists and written again: what the definition gives, from what reading and writing leave.
-- Assumes nothing.
use Prim.Native.Nat.{ℕ, ◌≤◌, ◌<◌}
use mathlib.Core.List.{List, ◌++◌}
use mathlib.Core.Bool.{Bool, true, false, cond}
use mathlib.Core.Path.{◌≡◌, refl, ap, ◌∙◌}
use lib.ListN.{length, drop}
use borrow.Author.Tests.{lt-leb, le-leb}
use Rattle.std.specs.Prelude.{Ok}
use Rattle.layout.specs.Questions.{LISTS, OUTPUT}
use Rattle.layout.specs.Layout.{Answer, accepted, refused_by, read_row}
use Rattle.layout.specs.RowLaws.{Bytes}
use Rattle.layout.specs.Write.{wrote, refuses, stored}
use Rattle.layout.specs.Write as write
use Rattle.rows.specs.Values as value
use Rattle.rows.specs.Rows.{contact}
use Rattle.contact.specs.Contact as contacts
use Rattle.contact.specs.Contact.{Lists, long_enough, opened, reads}
use Rattle.contact.specs.declared.Contact.{Contact}
use Rattle.contact_image.specs.Row.{writes_contact}
use Rattle.contact_laws.proofs.RoundTrip.{contact-laws}
use Rattle.rewrite.specs.Rewrite.{Left, leaves, rewritten, rewrites, without_room}

module _ (version : ℕ) (row : List ℕ) (l : Lists) (out : List ℕ) where
  -- ---- the output is too short for the row
  pub no_room : length out < length row → leaves (refuses (without_room (read_row (contact version) row) l)) l out ≡ rewrites version row l out
  unfolding rewrites
  no_room short = go (read_row (contact version) row)
    where
      asked : (t : Bool) → leaves (refuses (cond t OUTPUT LISTS)) l out ≡ cond t (leaves (refuses OUTPUT) l out) (leaves (refuses LISTS) l out)
      asked true = refl
      asked false = refl

      go : (a : Answer value.Contact) → leaves (refuses (without_room a l)) l out ≡ rewritten a row l out
      go (accepted v) = rw (lt-leb (length row) (length out) short) (asked (long_enough v l))
      go (refused_by q) = refl

  -- ---- there is room: the row is written exactly where it is read
  module _ (room : length row ≤ length out) where
    abbrev after_answer : Answer Contact → Lists → Left
    after_answer (accepted c) after = leaves (wrote (length row)) after (row ++ drop (length row) out)
    after_answer (refused_by q) after = leaves (refuses q) after out

    abbrev after_reading : contacts.Left → Left
    after_reading left = after_answer left.answer left.lists

    either : (t : Bool) (x y : contacts.Left) → after_reading (cond t x y) ≡ cond t (after_reading x) (after_reading y)
    either true x y = refl
    either false x y = refl

    after-opened : (a : Answer value.Contact) → after_reading (opened a l) ≡ rewritten a row l out
    after-opened (accepted v) = rw (le-leb (length row) (length out) room) (either (long_enough v l) _ _)
    after-opened (refused_by q) = refl

    stored_row : stored row out ≡ record { answer = wrote (length row); out = row ++ drop (length row) out }
    stored_row = rw (le-leb (length row) (length out) room)

    -- a is what reading answered, and `after` is what it left of the lists
    module _ {after : Lists} where
      known : {a : Answer Contact} → ◌≡◌ {A = contacts.Left} (record { answer = a; lists = after }) (reads version row l) → after_answer a after ≡ rewrites version row l out
      unfolding rewrites contacts.reads
      known is = ap after_reading is ∙ after-opened (read_row (contact version) row)

      pub refused : {q : ℕ} → ◌≡◌ {A = contacts.Left} (record { answer = refused_by q; lists = after }) (reads version row l) → leaves (refuses q) after out ≡ rewrites version row l out
      refused is = known is

      -- x is what writing left
      pub granted : Bytes row → {c : Contact} → contacts.leaves (Ok c) after ≡ reads version row l → {x : write.Left} → x ≡ writes_contact c after out
          → leaves x.answer after x.out ≡ rewrites version row l out
      granted by {c} is writes =
          ap (λ (x : write.Left). leaves x.answer after x.out) (writes ∙ contact-laws.read-write version row by l after c is out ∙ stored_row)
          ∙ known is
