-- Document 01's (p) cases, in one table; each says what the definitions answer. (proofs/Cases.antt shows them all.)
-- Assumes nothing.
use Rattle.std.specs.Prelude.{ℕ, List, [], ◌∷◌, Bool, true, false, ◌≡◌, length}
use Rattle.layout.specs.Questions.{LEB128, RANGES_FIT}
use Rattle.layout.specs.Read.{Read, value, refused}
use Rattle.layout.specs.Form.{leb128}
use Rattle.rows.specs.Checks.{sealed_queued, sealed_carried}
use Rattle.numbers.specs.Ranges.{Received, received, range, contains, covers}
use Rattle.received.specs.Lent.{pairs, plan_of, list_after}
use Rattle.layout.specs.Layout.{Answer, accepted, refused_by}
use Rattle.received.specs.declared.Change.{Change}

-- what a cover leads to: a record, which the list then holds, whether contiguous moved, and how many numbers are new (02, A2); or a refusal, and the list as it is then
pub data Outcome : Type 0 where
  gives : Received → (moved : Bool) → (added : ℕ) → Outcome
  refuses : ℕ → List ℕ → Outcome

abbrev pub outcome : Answer Change → List ℕ → Outcome
outcome (accepted c) l = gives (received c.contiguous (pairs c.count l)) c.moved c.added
outcome (refused_by q) l = refuses q l

pub data Case : Type 0 where
  -- reading these LEB128 bytes gives this
  reads : List ℕ → Read ℕ → Case
  -- a sealed text of this length passes: queued, carried
  sealed : ℕ → (queued carried : Bool) → Case
  -- asked of contiguous 2 and a list of which one pair counts
  cover : (lent : List ℕ) (from to : ℕ) → Outcome → Case
  contained : (lent : List ℕ) (msgno : ℕ) → Bool → Case
  covered : (lent : List ℕ) (from to : ℕ) → Bool → Case

abbrev pub cases : List Case
cases =
    cover (4 ∷ 4 ∷ 0 ∷ 0 ∷ []) 3 3 (gives (received 4 []) true 1)
    ∷ cover (4 ∷ 4 ∷ 0 ∷ 0 ∷ []) 5 5 (gives (received 2 (range 4 5 ∷ [])) false 1)
    ∷ cover (4 ∷ 4 ∷ 0 ∷ 0 ∷ []) 6 9 (gives (received 2 (range 4 4 ∷ range 6 9 ∷ [])) false 4)
    ∷ cover (4 ∷ 4 ∷ []) 6 9 (refuses RANGES_FIT (4 ∷ 4 ∷ []))
    ∷ contained (4 ∷ 4 ∷ []) 0 false
    ∷ covered (4 ∷ 4 ∷ []) 3 4 false
    ∷ reads (0x80 ∷ 0x01 ∷ []) (value 128 [])
    ∷ reads (0x80 ∷ 0x00 ∷ []) (refused LEB128)
    ∷ reads (0xFF ∷ 0xFF ∷ 0xFF ∷ 0xFF ∷ 0x0F ∷ []) (value 4294967295 [])
    ∷ reads (0xFF ∷ 0xFF ∷ 0xFF ∷ 0xFF ∷ 0x10 ∷ []) (refused LEB128)
    ∷ sealed 48 true true
    ∷ sealed 47 false false
    ∷ sealed 4064 true false
    ∷ []

abbrev pub start : List ℕ → Received
start lent = received 2 (pairs 1 lent)

abbrev pub Holds : Case → Type 0
Holds (reads bytes answer) = leb128.read bytes ≡ answer
Holds (sealed length queued carried) = (sealed_queued length ≡ queued) × (sealed_carried length ≡ carried)
Holds (cover lent f t o) = outcome (plan_of (start lent) (length lent) f t) (list_after (start lent) lent f t) ≡ o
Holds (contained lent n b) = contains (start lent) n ≡ b
Holds (covered lent f t b) = covers (start lent) f t ≡ b

abbrev pub AllHold : List Case → Type 0
AllHold [] = Unit {0}
AllHold (c ∷ cs) = Holds c × AllHold cs
