-- What is proved of the S lines of a sheet's text (proofs/Proved.antt): they are what the calls answer.
-- Assumes nothing.
use Rattle.std.specs.Prelude.{ℕ, ◌≤◌, List, [], ◌∷◌, true, ◌≡◌, length}
use Rattle.layout.specs.RowLaws.{Bytes}
use Rattle.store.specs.declared.Entry.{Entry}
use Rattle.store.specs.Store as store
use Rattle.store.specs.Store.{store_of, ContactRow, Found}
use Rattle.calls_step.specs.declared.Mark.TheVariants.{Fresh}
use Rattle.ledger.specs.Call.{Call, restore, opens, statement, Answer, granted, said, Lent}
use Rattle.calls_step.specs.Input.{Input, lent_of}
use Rattle.ledger.specs.Ledger.{enough}
use Rattle.calls_step.specs.Replay.{answers}
use Rattle.calls_step.specs.Proved.{HIGHEST}
use Rattle.statement_text.specs.Text.{contact_line}

-- each contact is opened in turn, and its line asked for
abbrev pub calls_on : List ContactRow → List Call
calls_on [] = []
calls_on (c ∷ cs) = opens c.id ∷ statement ∷ calls_on cs

-- ... and each call is granted: the lines are those of the text
abbrev pub lines_of : List Entry → List ContactRow → List Answer
lines_of es [] = []
lines_of es (c ∷ cs) = granted ∷ said (length (contact_line es c)) (contact_line es c) ∷ lines_of es cs

-- every lent length is enough: the lists for each contact's items, the output for its line
abbrev pub LentEnough : List Entry → Lent → List ContactRow → Type 0
LentEnough es lent [] = Unit {0}
LentEnough es lent (c ∷ cs) = (enough c.fields lent ≡ true) × (length (contact_line es c) ≤ lent.out) × LentEnough es lent cs

pub record LineLaws : Type 0 where
  -- of a store that restore grants, the calls say exactly the text's line of each contact
  pub lines-said : (run : List ℕ) (es : List Entry) (f : Found) → Bytes run → store.restore (store_of run es) ≡ store.granted f
      → (h : Input) → h.mark ≡ Fresh → LentEnough es (lent_of h) f.contacts → answers HIGHEST (restore run es ∷ calls_on f.contacts) h ≡ granted ∷ lines_of es f.contacts
