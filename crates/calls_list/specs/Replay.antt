-- What running a list of calls leaves: demand 3 of document 01 about code, from any state of the ledger that the memory stands for, and of two runs.
-- Assumes nothing.
use Rattle.std.specs.Prelude.{ℕ, List, [], ◌∷◌, ◌≡◌, drop}
use Rattle.put.specs.Put.{put}
use Rattle.ledger.specs.Call.{Call}
use Rattle.calls_step.specs.Input.{Input, lent_of}
use Rattle.calls_step.specs.Step.{step}
use Rattle.ledger.specs.Ledger.{Ledger}
use Rattle.calls_step.specs.Legal.{last_left}
use Rattle.calls_step.specs.Stands.{SoundLedger, StandsFor}
use Rattle.calls_step.specs.Two.{LedgersAlike}
use Rattle.calls_step.specs.Replay as list
use Rattle.calls_step.specs.Replay.{AllTyped, Agreed, AllAlike, AgreedAlike}
use Rattle.calls_step.specs.Proved.{HIGHEST}
use Rattle.calls_code.specs.Encoding.{numbers_of}
use Rattle.calls_session.specs.declared.Session.{Session}
use Rattle.calls_session.specs.Session.{store_at, moved_by}

-- where the store stands behind the calls that the numbers say
abbrev pub placed_by : List Call → (numbers : List ℕ) → Input → (at : List ℕ) → List ℕ
placed_by [] numbers h at = at
placed_by (c ∷ cs) numbers h at = let l = step HIGHEST c h in placed_by cs (drop 6 numbers) (last_left h l) (moved_by c l.answer numbers at)

-- of the session s, and of h, which is handed in, they leave r and `after`, and of the answers' list `before` they leave `now`
pub record Replayed (calls : List Call) (numbers : List ℕ) (s r : Session) (h after : Input) (before now : List ℕ) : Type 0 where
  pub left : after ≡ list.left HIGHEST calls h
  -- this, with the mark and the fields, is the whole session
  pub placed : store_at r ≡ placed_by calls numbers h (store_at s)
  -- the answers stand in front, and what is behind them stays
  pub said : now ≡ put before 0 (numbers_of (list.answers HIGHEST calls h))
  pub typed : AllTyped HIGHEST calls
  -- by the ledger: call by call, and what is left stands for its next state
  pub agreed : (l : Ledger) → SoundLedger HIGHEST l → StandsFor HIGHEST l h → Agreed HIGHEST l calls h

-- two runs with the same lent lengths, in memory that stands for states that differ only in veiled bytes, are alike call by call, leave such states again, and
-- give the same numbers
abbrev pub TwoRuns : Type 0
TwoRuns = (cs ds : List Call) (m n : List ℕ) (s r s' r' : Session) (h after i after' : Input) (before now now' : List ℕ)
    → Replayed cs m s r h after before now → Replayed ds n s' r' i after' before now' → AllAlike cs ds → lent_of h ≡ lent_of i
    → (l k : Ledger) → LedgersAlike HIGHEST l k → SoundLedger HIGHEST l → SoundLedger HIGHEST k → StandsFor HIGHEST l h → StandsFor HIGHEST k i
    → AgreedAlike HIGHEST l k cs ds h i × (now ≡ now')
