-- Lists of calls with the lengths that are to be lent to them: which lists of turns serve them.
-- Assumes nothing.
use Rattle.std.specs.Prelude.{ℕ, List, [], ◌∷◌, ◌≡◌}
use Rattle.ledger.specs.Call.{Call, Lent}
use Rattle.calls_step.specs.Input.{Input, lent_of}
use Rattle.calls_step.specs.Legal.{Turn, Typed, Legal}

pub record Request : Type 0 where
  pub call : Call
  pub lent : Lent

abbrev pub Serves : List Request → List Turn → Type 0
Serves [] [] = Unit {0}
Serves [] (t ∷ ts) = ⊥
Serves (w ∷ ws) [] = ⊥
Serves (w ∷ ws) (t ∷ ts) = (t.call ≡ w.call) × (lent_of t.input ≡ w.lent) × Serves ws ts

module _ (N : ℕ) where
  abbrev pub RequestsTyped : List Request → Type 0
  RequestsTyped [] = Unit {0}
  RequestsTyped (w ∷ ws) = Typed N w.call × RequestsTyped ws

  -- a legal list of these calls with these lent lengths
  pub record Served (g : Input) (ws : List Request) : Type 0 where
    pub turns : List Turn
    pub legal : Legal N g turns
    pub serves : Serves ws turns
