-- `put_be`: what is still to be stored, stored into the buffer as it is, gives the whole.
use mathlib.Core.Path.{◌≡◌}
use Rattle.layout.specs.Form.{bytes_of}
use Rattle.put.specs.Put.{put}
use Rattle.put.proofs.put_be.Given as goal

abbrev pub invariant-loop-i : goal.invariant-loop-i
invariant-loop-i l = put l.out l.at (bytes_of l.i l.x) ≡ put l.initial.out l.at (bytes_of l.k l.v)
