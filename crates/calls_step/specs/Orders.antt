-- Covers in another order, document 02's A11, in lists of calls: granted covers behind other calls, and a granted write behind them.
-- N is the highest message number. Assumes nothing.
use Rattle.std.specs.Prelude.{ℕ, ◌+◌, List, [], ◌∷◌, ◌++◌, Bool, ◌≡◌, length, take}
use Rattle.rows.specs.Values.{Range}
use Rattle.ledger.specs.Call.{cover, write, advanced, wrote}
use Rattle.calls_step.specs.Input.{Input}
use Rattle.calls_step.specs.Legal.{Turn, made, Legal}

module _ (N : ℕ) where
  -- these turns are granted covers of these ranges, one after the other; their answers count so many new numbers in all
  pub data CoverTurns : List Turn → List Range → (total : ℕ) → Type 0 where
    none : CoverTurns [] [] 0
    more : (t : Turn) (ts : List Turn) (r : Range) (rs : List Range) (moved : Bool) (added total : ℕ)
        → t.call ≡ cover r.from r.to → (made N t).answer ≡ advanced moved added → CoverTurns ts rs total → CoverTurns (t ∷ ts) (r ∷ rs) (added + total)

  -- this turn is a granted write of this row, to the front of the output
  pub record Writes (t : Turn) (row : List ℕ) : Type 0 where
    pub call : t.call ≡ write
    pub answer : (made N t).answer ≡ wrote (length row)
    pub front : take (length row) (made N t).after.out ≡ row

  -- a legal list: the turns ps, directly behind them covers of these ranges, and directly behind these a write of this row. The covers and the write are granted,
  -- whatever is lent to each; turns of ps may be refused
  pub record CoversThenWrite (g : Input) (ps : List Turn) (rs : List Range) (total : ℕ) (row : List ℕ) : Type 0 where
    pub turns : List Turn
    pub last : Turn
    pub legal : Legal N g (ps ++ (turns ++ last ∷ []))
    pub covers : CoverTurns turns rs total
    pub writes : Writes last row
