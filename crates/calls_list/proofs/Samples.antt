-- A list of calls on no store, by computation.
-- Assumes nothing.
use mathlib.Core.List.{[], ◌∷◌}
use mathlib.Core.Path.{◌≡◌, refl}
use Rattle.layout.specs.Questions.{ORDER, STORE}
use Rattle.contact.specs.Contact.{lists}
use Rattle.calls_step.specs.Step as steps
use Rattle.calls_step.specs.Replay.{answers}
use Rattle.calls_step.specs.Proved.{HIGHEST}
use Rattle.sheet_entries.specs.Table as tables
use Rattle.calls_code.specs.Encoding as encoding
use Rattle.calls_code.specs.Encoding.{RESTORE, OPEN, TAKE, NO, NO_AT, calls_of, numbers_of}
use Rattle.calls_session.specs.Session.{begun, input_in}

-- a store without entries is refused, and so are calls on no store
samples :
    (numbers_of (answers HIGHEST (calls_of [] [] (RESTORE ∷ 0 ∷ 0 ∷ 0 ∷ 0 ∷ 0 ∷ OPEN ∷ 1 ∷ 0 ∷ 0 ∷ 0 ∷ 0 ∷ TAKE ∷ 0 ∷ 0 ∷ 0 ∷ 0 ∷ 0 ∷ []) 18) (input_in begun [] [] (lists [] [] [] [] []) []))
    ≡ NO_AT ∷ ORDER ∷ 0 ∷ 0 ∷ 0 ∷ 0 ∷ NO ∷ STORE ∷ 0 ∷ 0 ∷ 0 ∷ 0 ∷ NO ∷ STORE ∷ 0 ∷ 0 ∷ 0 ∷ 0 ∷ [])
unfolding steps.step tables.entries_from encoding.call_as encoding.calls_from encoding.numbers_of
samples = refl
