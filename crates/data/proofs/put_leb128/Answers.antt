-- `data::put_leb128` meets its contract. The invariant: what is left to print (`Printing`), written from here on, gives the whole (`Writing`). The measure is what is left.
-- Assumes nothing.
use Rattle.std.proofs.Common.{[]}
use mathlib.Core.List.{◌∷◌}
use native.Mathlib.Omega.{arith}
use borrow.Author.Rules.{rules}
use Rattle.put.proofs.Put.{writing_start, writing_step, writing-done}
use Rattle.data.proofs.Leb.{prints-more, prints-last, some-printed}
use Rattle.data.proofs.put_leb128.Goals as goal

pub loop-rest-init : goal.loop-rest-init
loop-rest-init c = record { left = 4; below = search rules; holds = writing_start _ _ _ }

pub put_byte-here-requires : goal.put_byte-here-requires
put_byte-here-requires c = let l = c.loop-rest in omega (arith, some-printed l.invariant.left l.rest)

pub loop-rest-preserved : goal.loop-rest-preserved
loop-rest-preserved c =
    prints-more c.loop-rest.invariant c.loop-rest-test.true (λ l w. writing_step (_ ∷ []) w c.put_byte-here.ensures.1)

pub put_byte-requires : goal.put_byte-requires
put_byte-requires c = let l = c.loop-rest in omega (arith, some-printed l.invariant.left l.rest)

pub returns : goal.returns
returns c =
    let wrote = writing-done (writing_step (_ ∷ []) (prints-last c.loop-rest.invariant c.loop-rest-test.false) c.put_byte.ensures.1) in
    (wrote.next-is, wrote)
