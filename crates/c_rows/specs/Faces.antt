-- What covering a range answers Rust and C, and what it leaves in what is lent to it.
-- Assumes nothing.
use Rattle.std.specs.Prelude.{ℕ, List, [], ◌∷◌, length}
use Rattle.layout.specs.Form.{flag_byte}
use Rattle.layout.specs.Write.{Written, wrote, refuses, Left, stored}
use Rattle.c_card.specs.Faces.{zero_or}
use Rattle.received.specs.Lent.{received_in, plan_of, list_after}
use Rattle.layout.specs.Layout.{Answer, accepted, refused_by}
use Rattle.received.specs.declared.Change.{Change}

-- the number answered, and both lent lists whole
pub record Covered : Type 0 where
  pub number : ℕ
  pub above : List ℕ
  pub answer : List ℕ

abbrev pub covered : ℕ → List ℕ → List ℕ → Covered
covered number above answer = record { number = number; above = above; answer = answer }

-- the answer's places: contiguous, how many ranges lie above it, whether it moved, how many numbers are new
abbrev pub answered : Answer Change → List ℕ → Left
answered (accepted c) answer = stored (c.contiguous ∷ c.count ∷ flag_byte c.moved ∷ c.added ∷ []) answer
answered (refused_by q) answer = record { answer = refuses q; out = answer }

-- a refused call changes neither list
abbrev pub after_or : Written → List ℕ → List ℕ → List ℕ
after_or (wrote n) after before = after
after_or (refuses q) after before = before

abbrev pub covered_by : Left → List ℕ → List ℕ → Covered
covered_by left after before = covered (zero_or left.answer) (after_or left.answer after before) left.out

-- 38 is asked first, then room for the answer
unfoldable pub insert_range : (contiguous count from to : ℕ) → List ℕ → List ℕ → Covered
insert_range contiguous count from to above answer =
    let v = received_in contiguous count above in
    covered_by (answered (plan_of v (length above) from to) answer) (list_after v above from to) above
