-- What the definition of a cover for Rust and C gives, once it is known what `plan` or `insert` answers.
-- Assumes nothing.
use Prim.Native.Nat.{ℕ, ◌<◌}
use mathlib.Core.List.{List}
use mathlib.Core.Path.{◌≡◌, sym, ap, ◌∙◌}
use lib.ListN.{length}
use borrow.Author.Tests.{lt-leb}
use Rattle.layout.specs.Questions.{OUTPUT}
use Rattle.layout.specs.Write.{Left, wrote, refuses}
use Rattle.received.specs.Lent.{received_in, plan_of, list_after}
use Rattle.received.proofs.Changes as changes
use Rattle.c_rows.specs.Faces.{covered, answered, covered_by, insert_range}
use Rattle.layout.specs.Layout.{Answer, accepted, refused_by}
use Rattle.received.specs.declared.Change.{Change}

module _ (contiguous count from to : ℕ) (above answer : List ℕ) where
  abbrev plan : Answer Change
  plan = plan_of (received_in contiguous count above) (length above) from to

  abbrev after : List ℕ
  after = list_after (received_in contiguous count above) above from to

  planned : {p : Answer Change} → p ≡ plan → covered_by (answered p answer) after above ≡ insert_range contiguous count from to above answer
  unfolding insert_range
  planned is = ap (λ (p : Answer Change). covered_by (answered p answer) after above) is

  pub refused : {q : ℕ} → refused_by q ≡ plan → covered q above answer ≡ insert_range contiguous count from to above answer
  refused is = planned is

  -- ... and so of `insert`, which has left the list as it was
  pub kept : {q : ℕ} → refused_by q ≡ plan → covered q after answer ≡ insert_range contiguous count from to above answer
  kept {q} is = ap (λ (l : List ℕ). covered q l answer) (sym (changes.kept contiguous count above from to q is)) ∙ refused is

  module _ {change : Change} (is : accepted change ≡ plan) where
    no_room : length answer < 4 → answered (accepted change) answer ≡ record { answer = refuses OUTPUT; out = answer }
    no_room h = rw (lt-leb 4 (length answer) h)

    pub short : length answer < 4 → covered OUTPUT above answer ≡ insert_range contiguous count from to above answer
    short h = ap (λ (left : Left). covered_by left after above) (sym (no_room h)) ∙ planned is

    pub granted : {written : List ℕ} → record { answer = wrote 4; out = written } ≡ answered (accepted change) answer
        → covered 0 after written ≡ insert_range contiguous count from to above answer
    granted w = ap (λ (left : Left). covered_by left after above) w ∙ planned is
