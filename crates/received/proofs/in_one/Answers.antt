-- `received::in_one` meets its contract: `any` over the pairs is `any` over their ranges.
use Rattle.std.proofs.Common.{◌∙◌, rules, tests}
use Rattle.std.proofs.lemmas.Iterator.{YieldsList-from_slice}
use Rattle.std.proofs.lemmas.Iterator.Search.{any_from_yields_List}
use Rattle.numbers.specs.Ranges.{inside}
use Rattle.received.specs.Lent.{as_range}
use Rattle.received.proofs.Pairs.{any-of}
use Rattle.received.proofs.in_one.Goals as goal

pub returns : goal.returns
returns c =
    let a = c.args in
    any_from_yields_List (λ p. inside a.from a.to (as_range p)) _ _ _ c.any.ensures.ran (YieldsList-from_slice a.ranges.now cc) (λ x b q k. search (rules, tests))
    ∙ any-of (inside a.from a.to) a.ranges.now
