-- What the contract of `contact_row::write_contact` says of write. For the proof of this call's code.
-- Assumes nothing.
use Prim.Native.Nat.{ℕ}
use mathlib.Core.List.{List}
use mathlib.Core.Bool.{Bool, true, false, cond, false≢true}
use mathlib.Core.Path.{◌≡◌, refl, sym, ◌∙◌}
use lib.ListN.{length}
use Rattle.layout.specs.Questions.{LISTS}
use Rattle.layout.specs.Layout.{Answer, accepted, refused_by, read_row}
use Rattle.layout.specs.Write.{stored}
use Rattle.layout.specs.Write as write
use Rattle.rows.specs.Values as value
use Rattle.rows.specs.Rows.{contact}
use Rattle.rows.proofs.Tests.{and_both}
use Rattle.contact.specs.declared.Contact.{Contact}
use Rattle.contact_image.specs.Row as row
use Rattle.contact_image.specs.Row.{counted, image, asked_contact, writes_contact, ContactTyped, ListsTyped}
use Rattle.calls_step.specs.Input.{Input}
use Rattle.calls_step.specs.Step.{passes}
use Rattle.calls_step.specs.Omitted.{sight_of, passes_omitted, is_length}
use Rattle.calls_step.proofs.Omitted.{passes-in-parts}

-- ---- write: past 34 the writer asks for room alone
module _ (k : ℕ) (h : Input) (ty : ContactTyped h.contact) (lt : ListsTyped h.lists) where
  pub passed-writes : passes k h ≡ true → (out : List ℕ) → writes_contact h.contact h.lists out ≡ stored (image h.contact h.lists) out
  unfolding row.writes_contact row.asked_contact write.asked write.writes
  passed-writes e out =
      let asked = (and_both (is_length (asked_contact h.contact h.lists)) (passes_omitted h.run h.entries k (sight_of h.contact h.lists)) (sym (passes-in-parts k h ty lt) ∙ e)).0 in
      go (counted h.contact h.lists) (read_row (contact 3) (image h.contact h.lists)) asked
    where
      go : (b : Bool) (y : Answer value.Contact) → is_length (cond b (write.sized y (length (image h.contact h.lists))) (write.refuses LISTS)) ≡ true
          → cond b (write.judged y (image h.contact h.lists) out) (record { answer = write.refuses LISTS; out = out }) ≡ stored (image h.contact h.lists) out
      go true (accepted v) p = refl
      go true (refused_by q) p = absurd (false≢true p)
      go false y p = absurd (false≢true p)
