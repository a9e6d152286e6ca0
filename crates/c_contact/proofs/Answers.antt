-- What the definitions give, once it is known what asking a contact row, and reading and writing it again, answered.
-- Assumes nothing.
use Prim.Native.Nat.{ℕ}
use mathlib.Core.Path.{◌≡◌, refl, ap}
use Rattle.layout.specs.Layout.{Answer, accepted, refused_by}
use Rattle.rows.specs.Answers.{verdict_of}
use Rattle.c_card.specs.Faces.{zero_or}
use Rattle.contact.specs.Contact.{Lists}
use Rattle.rewrite.specs.Rewrite.{Left}
use Rattle.c_contact.specs.Faces.{number_of, leaves, shown}

-- a row's value has no number
pub numbered : {A : Type 0} (a : Answer A) → number_of (verdict_of a) ≡ number_of a
numbered (accepted v) = refl
numbered (refused_by q) = refl

-- x is what was left, and `after` what the caller's lists hold
pub answered : {n : ℕ} {x left : Left} {after : Lists} → after ≡ x.lists → n ≡ zero_or x.answer → x ≡ left → leaves n after x.out ≡ shown left
answered {x = x} kept number is = rw (kept, number) (ap (λ (y : Left). shown y) is)
