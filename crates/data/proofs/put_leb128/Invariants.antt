-- `data::put_leb128` meets its contract. The invariant: what is left to print (`Printing`), written from here on, gives the whole (`Writing`). The measure is what is left.
-- Assumes nothing.
use Rattle.layout.specs.Form.{leb_print}
use Rattle.put.proofs.Put.{Writing}
use Rattle.data.proofs.Leb.{Printing}
use Rattle.data.proofs.put_leb128.Given as goal

abbrev pub invariant-loop-rest : goal.invariant-loop-rest
invariant-loop-rest l = Printing (Writing l.initial.out l.at (leb_print 4 l.value) l.out l.here) l.rest

abbrev pub decreases-loop-rest : goal.decreases-loop-rest
decreases-loop-rest l = l.rest
