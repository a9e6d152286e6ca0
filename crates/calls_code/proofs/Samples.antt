-- Encoded lists of calls, and their answers, by computation.
-- Assumes nothing.
use mathlib.Core.List.{[], ◌∷◌}
use mathlib.Core.Bool.{true, false}
use mathlib.Core.Path.{◌≡◌, refl}
use Rattle.ledger.specs.Call.{restore, opens, cover, contains, covers, take, statement, write, granted, advanced, truth, number, wrote, said, refused, refused_at}
use Rattle.sheet_entries.specs.Table as tables
use Rattle.calls_code.specs.Encoding as encoding
use Rattle.calls_code.specs.Encoding.{RESTORE, OPEN, COVER, CONTAINS, COVERS, TAKE, STATEMENT, WRITE, calls_of, numbers_of}

samples :
    -- a store of two bytes from the byte 1 on, and one entry from the entry 1 on; the other calls; a message number wider than its field counts as the highest.
    -- The list ends at 9, which is no code
    (calls_of (10 ∷ 11 ∷ 12 ∷ []) (0 ∷ 0 ∷ 0 ∷ 0 ∷ 0 ∷ 0 ∷ 2 ∷ 7 ∷ 1 ∷ 1 ∷ 4294967296 ∷ 3 ∷ [])
    (RESTORE ∷ 1 ∷ 2 ∷ 1 ∷ 1 ∷ 0 ∷ OPEN ∷ 7 ∷ 0 ∷ 0 ∷ 0 ∷ 0 ∷ COVER ∷ 5 ∷ 4294967296 ∷ 0 ∷ 0 ∷ 0 ∷ CONTAINS ∷ 6 ∷ 0 ∷ 0 ∷ 0 ∷ 0 ∷ COVERS ∷ 8 ∷ 9 ∷ 0 ∷ 0 ∷ 0
    ∷ TAKE ∷ 0 ∷ 0 ∷ 0 ∷ 0 ∷ 0 ∷ STATEMENT ∷ 0 ∷ 0 ∷ 0 ∷ 0 ∷ 0 ∷ WRITE ∷ 0 ∷ 0 ∷ 0 ∷ 0 ∷ 0 ∷ 9 ∷ 0 ∷ 0 ∷ 0 ∷ 0 ∷ 0 ∷ TAKE ∷ 0 ∷ 0 ∷ 0 ∷ 0 ∷ 0 ∷ [])
    60
    ≡ restore (11 ∷ 12 ∷ []) (record { id = 7; start = 1; len = 1; msgno = 4294967295; version = 3; kind = 2 } ∷ [])
    ∷ opens 7 ∷ cover 5 4294967295 ∷ contains 6 ∷ covers 8 9 ∷ take ∷ statement ∷ write ∷ [])
    -- fewer than six numbers are no call; nor is there one without room for its answer
    × (calls_of [] [] (TAKE ∷ 0 ∷ 0 ∷ 0 ∷ 0 ∷ 0 ∷ TAKE ∷ 0 ∷ 0 ∷ 0 ∷ 0 ∷ []) 12 ≡ take ∷ [])
    × (calls_of [] [] (TAKE ∷ 0 ∷ 0 ∷ 0 ∷ 0 ∷ 0 ∷ WRITE ∷ 0 ∷ 0 ∷ 0 ∷ 0 ∷ 0 ∷ []) 11 ≡ take ∷ [])
    -- each answer
    × (numbers_of (granted ∷ advanced true 5 ∷ advanced false 0 ∷ truth true ∷ truth false ∷ number 4 ∷ wrote 303 ∷ said 16 (1 ∷ 2 ∷ []) ∷ refused 34 ∷ refused_at 25 2 ∷ [])
    ≡ 0 ∷ 0 ∷ 0 ∷ 0 ∷ 0 ∷ 0 ∷ 1 ∷ 1 ∷ 5 ∷ 0 ∷ 0 ∷ 0 ∷ 1 ∷ 0 ∷ 0 ∷ 0 ∷ 0 ∷ 0 ∷ 2 ∷ 1 ∷ 0 ∷ 0 ∷ 0 ∷ 0 ∷ 2 ∷ 0 ∷ 0 ∷ 0 ∷ 0 ∷ 0 ∷ 3 ∷ 4 ∷ 0 ∷ 0 ∷ 0 ∷ 0
    ∷ 4 ∷ 303 ∷ 0 ∷ 0 ∷ 0 ∷ 0 ∷ 5 ∷ 16 ∷ 0 ∷ 0 ∷ 0 ∷ 0 ∷ 6 ∷ 34 ∷ 0 ∷ 0 ∷ 0 ∷ 0 ∷ 7 ∷ 25 ∷ 2 ∷ 0 ∷ 0 ∷ 0 ∷ [])
unfolding tables.entries_from encoding.call_as encoding.calls_from encoding.numbers_of
samples = (refl, refl, refl, refl)
