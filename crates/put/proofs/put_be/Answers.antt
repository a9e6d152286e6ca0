-- `put_be` meets its contract: a turn stores the last byte of what is left (`number-turn`).
use mathlib.Core.Path.{◌≡◌, refl, ◌∙◌}
use native.Mathlib.Omega.{arith}
use Rattle.layout.specs.Form as form
use Rattle.layout.proofs.Front.{length-bytes_of}
use Rattle.put.specs.Put.{put}
use Rattle.put.proofs.Put.{number-turn}
use Rattle.put.proofs.put_be.Goals as goal

pub loop-i-preserved : goal.loop-i-preserved
loop-i-preserved c = number-turn _ _ c.loop-i.i _ (omega arith) ∙ c.loop-i.invariant

pub returns : goal.returns
unfolding form.bytes_of put
returns c =
    let e : c.loop-i.i ≡ 0 = omega arith in
    (refl, record { now-is = rw e at c.loop-i.invariant; next-is = rw length-bytes_of })
