-- What restore answers Rust and C.
-- Assumes nothing.
use Rattle.restore.specs.Restored.{Restored, Granted, Refused}
use Rattle.c_restore.specs.declared.RestoreAnswer.{RestoreAnswer}

-- 0, next_contact and next_slot; or the question's number, and the entry's index
abbrev pub answer_of : Restored → RestoreAnswer
answer_of (Granted contact slot) = record { next_contact = contact; next_slot = slot; index = 0; number = 0 }
answer_of (Refused number place) = record { next_contact = 0; next_slot = 0; index = place; number = number }
