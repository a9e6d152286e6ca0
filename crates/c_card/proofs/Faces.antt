-- What two stores at the front of a lent list leave; and what a writer left, with its answer as a face says it.
-- Assumes nothing.
use Prim.Native.Nat.{ℕ, ◌≤◌}
use mathlib.Core.List.{List, [], ◌∷◌}
use mathlib.Core.Path.{◌≡◌, ap, ◌∙◌}
use native.Mathlib.Omega.{arith}
use lib.ListN.{length, set}
use borrow.Author.Tests.{le-leb}
use Rattle.layout.specs.Write.{Written, wrote, Left, stored}
use Rattle.c_card.specs.Faces.{leaves, shown}

pub set-two : (a b : ℕ) (lent : List ℕ) → 2 ≤ length lent → stored (a ∷ b ∷ []) lent ≡ record { answer = wrote 2; out = set (set lent 0 a) 1 b }
set-two a b [] h = absurd (omega arith)
set-two a b (x ∷ []) h = absurd (omega arith)
set-two a b (x ∷ y ∷ lent) h = rw (le-leb 2 (length (x ∷ y ∷ lent)) h)

pub answered : {A : Type 0} (say : Written → A) {r : A} {x left : Left} → r ≡ say x.answer → x ≡ left → leaves r x.out ≡ shown say left
answered {A} say {x = x} is-r is = ap (λ (r : A). leaves r x.out) is-r ∙ ap (λ (y : Left). shown say y) is
