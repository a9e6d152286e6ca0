-- What a session and the lent memory hand to a call, and what one encoded call leaves.
-- Assumes nothing.
use Rattle.std.specs.Prelude.{ℕ, List, [], ◌∷◌, cond, ◌≡◌, get_or, Some, None, option_map}
use Rattle.std.proofs.Math.Option.{Option, none, some}
use Rattle.contact.specs.declared.Contact.{Contact}
use Rattle.contact.specs.Contact.{Lists, zero_contact}
use Rattle.calls_step.specs.declared.Mark.{Mark}
use Rattle.calls_step.specs.declared.Mark.TheVariants.{Fresh}
use Rattle.ledger.specs.Call.{Call, restore, opens, cover, contains, covers, take, statement, write, Answer, is_granted}
use Rattle.calls_step.specs.Input.{Input, Left}
use Rattle.calls_step.specs.Step.{step}
use Rattle.calls_step.specs.Proved.{HIGHEST}
use Rattle.calls_dispatch.specs.Dispatch.{input_of}
use Rattle.calls_code.specs.declared.Numbers.{Numbers}
use Rattle.calls_code.specs.Encoding.{run_at, entries_at, six_of}
use Rattle.calls_code.specs.Coded.{six}
use Rattle.calls_session.specs.declared.Session.{Session}
use Rattle.calls_session.specs.declared.CallLeft.{CallLeft}

-- nothing is restored
abbrev pub begun : Session
begun = record { contact = zero_contact; mark = Fresh; start = 0; len = 0; first = 0; n = 0 }

abbrev pub input_in : Session → (run records : List ℕ) → Lists → (out : List ℕ) → Input
input_in s run records l out = input_of s.mark (run_at s.start s.len run) (entries_at s.first s.n records) s.contact l out

-- ---- where the store stands: so many bytes of the lent run from a place on, and so many entries of the lent records from an entry on
abbrev pub store_at : Session → List ℕ
store_at s = s.start ∷ s.len ∷ s.first ∷ s.n ∷ []

-- behind a granted restore it stands where the call's numbers say, behind any other call where it stood
abbrev pub moved_by : Call → Answer → (numbers at : List ℕ) → List ℕ
moved_by (restore run es) a numbers at = cond (is_granted a) (get_or numbers 1 0 ∷ get_or numbers 2 0 ∷ get_or numbers 3 0 ∷ get_or numbers 4 0 ∷ []) at
moved_by (opens k) a numbers at = at
moved_by (cover f t) a numbers at = at
moved_by (contains m) a numbers at = at
moved_by (covers f t) a numbers at = at
moved_by take a numbers at = at
moved_by statement a numbers at = at
moved_by write a numbers at = at

-- ---- one call
-- what is left is this: `after` stands where something was handed in, there is an answer, which is its numbers, and the store stands there
pub record LeftAs (l : Left) (at : List ℕ) (after : Input) (r : CallLeft) : Type 0 where
  pub stands : after ≡ l.after
  pub said : option_map six r.answer ≡ Some (six_of l.answer)
  pub placed : store_at r.session ≡ at

abbrev pub next_of : Session → Mark → Contact → Numbers → CallLeft
next_of s m c a = record { session = record { contact = c; mark = m; start = s.start; len = s.len; first = s.first; n = s.n }; answer = Some a }

abbrev pub unknown_of : Session → CallLeft
unknown_of s = record { session = s; answer = None }

-- numbers that are no call change nothing, and have no answer
abbrev pub LeftBy : Option Call → (numbers : List ℕ) → Session → (h after : Input) → CallLeft → Type 0
LeftBy none numbers s h after r = (r ≡ unknown_of s) × (after ≡ h)
LeftBy (some c) numbers s h after r = let l = step HIGHEST c h in LeftAs l (moved_by c l.answer numbers (store_at s)) after r

pub record Ran (call : Option Call) (numbers : List ℕ) (s : Session) (h after : Input) (r : CallLeft) : Type 0 where
  pub is : LeftBy call numbers s h after r
