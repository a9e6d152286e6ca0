-- `ascii::digits` meets its contract. The invariant: the digits left, behind the number so far, answer as all do.
use Rattle.std.proofs.Common.{rules, ◌≡◌, None, sym, ◌∙◌, arith}
use Rattle.ascii.proofs.Decimals.{nothing-behind-0, digit-none, digit-some, digits-end}
use Rattle.ascii.proofs.digits.Goals as goal

pub returns-then-n-eq0 : goal.returns-then-n-eq0
returns-then-n-eq0 c = sym (nothing-behind-0 _ c.loop-b.n _ c.loop-b.b-index (omega arith) c.if-n-eq0.true) ∙ c.loop-b.invariant

pub returns-in_err-n : goal.returns-in_err-n
returns-in_err-n c =
    let no : c.from_residual.result ≡ None = search rules in
    rw no (sym (digit-none _ c.loop-b.n _ c.loop-b.b-index (omega arith) c.if-n-eq0.false (sym c.in_err-n.ensures)) ∙ c.loop-b.invariant)

pub loop-b-preserved : goal.loop-b-preserved
loop-b-preserved c = sym (digit-some _ c.loop-b.n _ c.loop-b.b-index (omega arith) c.if-n-eq0.false c.in_ok-n.n (sym c.in_ok-n.ensures)) ∙ c.loop-b.invariant

pub returns : goal.returns
returns c = sym (digits-end _ c.loop-b.n _ c.loop-b.b-index c.loop-b-test.false) ∙ c.loop-b.invariant
