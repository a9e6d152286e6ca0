-- `put_array` meets its contract: its loop stores the array byte by byte.
use Rattle.std.proofs.Common.{◌≡◌, refl, arith}
use Rattle.put.proofs.Put.{bytes-turn, bytes-end}
use Rattle.put.proofs.put_array.Goals as goal

pub loop-i-preserved : goal.loop-i-preserved
loop-i-preserved g c = bytes-turn _ _ _ c.loop-i.i (omega arith) refl c.loop-i.invariant

pub returns : goal.returns
returns g c =
    let all : c.loop-i.i ≡ g.row.N = omega arith in
    (refl, bytes-end _ _ _ g.row.N c.told-src (rw all at c.loop-i.invariant))
