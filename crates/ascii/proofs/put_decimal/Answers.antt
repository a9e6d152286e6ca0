-- `ascii::put_decimal` meets its contract. The invariant: the digits still to be stored, stored into the buffer as it is, give the whole.
use Rattle.std.proofs.Common.{◌≡◌, refl, ◌∙◌, length-set, rules, arith}
use Rattle.put.specs.Put.{put}
use Rattle.ascii.proofs.LastDigits.{last_digits, all-last, digit-turn}
use Rattle.ascii.proofs.put_decimal.Goals as goal

pub loop-i-init : goal.loop-i-init
loop-i-init c = (refl, rw (c.decimal_len-digits.ensures.0, all-last c.args.n))

pub loop-i-preserved : goal.loop-i-preserved
loop-i-preserved c = (simp length-set (search rules), digit-turn _ _ c.loop-i.i _ (omega arith) ∙ c.loop-i.invariant.1)

pub returns : goal.returns
unfolding put last_digits
returns c =
    let e : c.loop-i.i ≡ 0 = omega arith in
    (omega arith, record { now-is = rw e at c.loop-i.invariant.1; next-is = omega arith })
