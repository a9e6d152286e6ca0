-- A list of calls made one after the other in the same memory: each is handed exactly what the last granted call left. What is said of such a list, from any
-- state of the ledger that the memory stands for, holds of the next list too, which may be lent other lengths.
-- Assumes nothing.
use Rattle.std.specs.Prelude.{ℕ, List, [], ◌∷◌}
use Rattle.ledger.specs.Call.{Call, Answer, Lent}
use Rattle.calls_step.specs.Input.{Input}
use Rattle.ledger.specs.Ledger.{Ledger, ledger}
use Rattle.calls_step.specs.Legal.{Turn, made, Typed, Continues, Legal, last_left}
use Rattle.calls_step.specs.Agree.{booked, AgreesAll}
use Rattle.calls_step.specs.Stands.{SoundLedger, StandsFor, LastLeft}
use Rattle.calls_step.specs.Two.{CallsAlike, AlikeAll, LedgersAlike}

abbrev pub turn : Call → Input → Turn
turn c h = record { call = c; input = h }

-- the same calls; restores may be of stores that differ only in veiled bytes
abbrev pub AllAlike : List Call → List Call → Type 0
AllAlike [] [] = Unit {0}
AllAlike [] (d ∷ ds) = ⊥
AllAlike (c ∷ cs) [] = ⊥
AllAlike (c ∷ cs) (d ∷ ds) = CallsAlike c d × AllAlike cs ds

module _ (N : ℕ) where
  abbrev pub replay : List Call → Input → List Turn
  replay [] h = []
  replay (c ∷ cs) h = turn c h ∷ replay cs (last_left h (made N (turn c h)))

  -- what the calls answer, and what they leave
  abbrev pub answers : List Call → Input → List Answer
  answers [] h = []
  answers (c ∷ cs) h = let l = made N (turn c h) in l.answer ∷ answers cs (last_left h l)

  abbrev pub left : List Call → Input → Input
  left [] h = h
  left (c ∷ cs) h = left cs (last_left h (made N (turn c h)))

  -- what the ledger answers, where the same lengths are lent each time
  abbrev pub ledger_answers : List Call → Lent → Ledger → List Answer
  ledger_answers [] lent l = []
  ledger_answers (c ∷ cs) lent l = let a = ledger N c lent l in a.answer ∷ ledger_answers cs lent a.state

  abbrev pub AllTyped : List Call → Type 0
  AllTyped [] = Unit {0}
  AllTyped (c ∷ cs) = Typed N c × AllTyped cs

  -- behind these turns: the ledger's state, and what was left last
  abbrev pub closing : Ledger → List Turn → Ledger
  closing l [] = l
  closing l (t ∷ ts) = closing (booked N t l).state ts

  abbrev pub last_of : Input → List Turn → Input
  last_of g [] = g
  last_of g (t ∷ ts) = last_of (last_left g (made N t)) ts

  -- of a list of calls made in h, which stands for the state l
  pub record Agreed (l : Ledger) (cs : List Call) (h : Input) : Type 0 where
    -- call by call they agree with the ledger: answer, mark, store, fields, every lent list and the output whole
    pub agrees : AgreesAll N l (replay cs h)
    -- what is left stands for the ledger's next state: another list may begin there
    pub sound : SoundLedger N (closing l (replay cs h))
    pub stands : StandsFor N (closing l (replay cs h)) (left cs h)
    -- where lengths change between lists: behind g, which was left last, the turns are a legal list, and what is left last now is the next state's
    pub legal : (g : Input) → Continues g h → Legal N g (replay cs h)
    pub last : (g : Input) → LastLeft N l g → Continues g h → LastLeft N (closing l (replay cs h)) (last_of g (replay cs h))

  -- of two runs of it, in h and in i, which stand for the states l and m: they are alike, and so are the next states
  pub record AgreedAlike (l m : Ledger) (cs ds : List Call) (h i : Input) : Type 0 where
    pub turns : AlikeAll N (replay cs h) (replay ds i)
    pub states : LedgersAlike N (closing l (replay cs h)) (closing m (replay ds i))
