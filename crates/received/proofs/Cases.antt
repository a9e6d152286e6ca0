-- Document 01's (p) cases: how many there are, and that they hold, by computation.
-- Assumes nothing.
use mathlib.Core.Path.{◌≡◌, refl}
use lib.ListN.{length}
use Rattle.layout.specs.Form as form
use Rattle.put.specs.Put as put
use Rattle.numbers.specs.Ranges as ranges
use Rattle.received.specs.Change as change
use Rattle.received.specs.Lent as lent
use Rattle.received.specs.Cases.{cases, AllHold}

pub thirteen : length cases ≡ 13
thirteen = refl

pub proved-cases : AllHold cases
unfolding form.leb_read put.put ranges.insert ranges.inserted ranges.uncovered change.change_of lent.pairs lent.stored
proved-cases = (refl, (refl, (refl, (refl, (refl, (refl, (refl, (refl, (refl, (refl, ((refl, refl), ((refl, refl), ((refl, refl), tt)))))))))))))
