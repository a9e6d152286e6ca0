-- What was left may be handed in again as it is.
-- Assumes nothing.
use mathlib.Core.Path.{refl}
use Rattle.calls_step.specs.declared.Mark.{Mark}
use Rattle.calls_step.specs.declared.Mark.TheVariants.{Fresh, Restored, Opened}
use Rattle.calls_step.specs.Input.{Input}
use Rattle.calls_step.specs.Legal.{StoreAgain, FieldsAgain, Continues}

store-again : (m : Mark) (h : Input) → StoreAgain m h h
store-again Fresh h = tt
store-again Restored h = record { run = refl; entries = refl }
store-again (Opened k) h = record { run = refl; entries = refl }

fields-again : (m : Mark) (h : Input) → FieldsAgain m h h
fields-again Fresh h = tt
fields-again Restored h = tt
fields-again (Opened k) h = (refl, record { chains = refl; skipped = refl; above = refl; unacked = refl; expired = refl })

pub continued-again : (h : Input) → Continues h h
continued-again h = record { mark = refl; store = store-again h.mark h; fields = fields-again h.mark h }
