-- What a row writer leaves: its answer, and the output whole.
-- Assumes nothing.
use Rattle.std.specs.Prelude.{ℕ, List, ◌++◌, cond, length, drop, leb}
use Rattle.layout.specs.Questions.{OUTPUT}
use Rattle.layout.specs.Layout.{Layout, Answer, accepted, refused_by, read_row}

-- the length written, or the number of the question whose answer is no
pub data Written : Type 0 where
  wrote : ℕ → Written
  refuses : ℕ → Written

pub record Left : Type 0 where
  pub answer : Written
  pub out : List ℕ

-- the row at the front of the output, if there is room; what stands behind it stays
abbrev pub stored : List ℕ → List ℕ → Left
stored row out =
    cond (leb (length row) (length out))
    (record { answer = wrote (length row); out = row ++ drop (length row) out })
    (record { answer = refuses OUTPUT; out = out })

-- what reading the row would ask is asked first; a refusal changes nothing
module _ {A : Type 0} where
  abbrev pub judged : Answer A → List ℕ → List ℕ → Left
  judged (accepted v) row out = stored row out
  judged (refused_by q) row out = record { answer = refuses q; out = out }

  -- what is asked before the output: the row's length, or the refusal
  abbrev pub sized : Answer A → ℕ → Written
  sized (accepted v) n = wrote n
  sized (refused_by q) n = refuses q

  unfoldable pub asked : Layout A → List ℕ → Written
  asked l row = sized (read_row l row) (length row)

  unfoldable pub writes : Layout A → List ℕ → List ℕ → Left
  writes l row out = judged (read_row l row) row out
