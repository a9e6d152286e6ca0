-- A list of calls on stores whose veiled bytes are 0: every answer is the one that the list gave.
-- Assumes nothing.
use Rattle.std.specs.Prelude.{ℕ, List, [], ◌∷◌, ◌≡◌}
use Rattle.store.specs.Veiled.{blanked, Apart}
use Rattle.ledger.specs.Call.{Call, restore, opens, cover, contains, covers, take, statement, write}
use Rattle.calls_step.specs.Input.{Input, lent_of}
use Rattle.calls_step.specs.Legal.{Turn, made, Legal}

-- the call, on the store with 0 for each byte that some row veils
abbrev pub blank_call : Call → Call
blank_call (restore run es) = restore (blanked run es) es
blank_call (opens k) = opens k
blank_call (cover f t) = cover f t
blank_call (contains m) = contains m
blank_call (covers f t) = covers f t
blank_call take = take
blank_call statement = statement
blank_call write = write

-- rows may overlap: then what one row veils must not be open in another
abbrev pub Blankable : Call → Type 0
Blankable (restore run es) = Apart run es
Blankable (opens k) = Unit {0}
Blankable (cover f t) = Unit {0}
Blankable (contains m) = Unit {0}
Blankable (covers f t) = Unit {0}
Blankable take = Unit {0}
Blankable statement = Unit {0}
Blankable write = Unit {0}

module _ (N : ℕ) where
  -- the same calls on blanked stores, with the same lent lengths and the same answers
  abbrev pub SameAnswers : List Turn → List Turn → Type 0
  SameAnswers [] [] = Unit {0}
  SameAnswers [] (u ∷ us) = ⊥
  SameAnswers (t ∷ ts) [] = ⊥
  SameAnswers (t ∷ ts) (u ∷ us) =
      (u.call ≡ blank_call t.call) × (lent_of t.input ≡ lent_of u.input) × ((made N t).answer ≡ (made N u).answer) × SameAnswers ts us

  pub record Blanks (g : Input) (ts : List Turn) : Type 0 where
    pub turns : List Turn
    pub legal : Legal N g turns
    pub answers : SameAnswers ts turns
