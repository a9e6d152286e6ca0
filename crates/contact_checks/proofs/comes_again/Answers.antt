-- `contact_checks::comes_again` meets its contract: `any` over the places is `any` over their numbers.
use Rattle.std.proofs.Common.{◌∙◌, eqb, rules, tests}
use Rattle.std.proofs.lemmas.Iterator.{YieldsList-from_slice}
use Rattle.std.proofs.lemmas.Iterator.Search.{any_from_yields_List}
use Rattle.contact_checks.specs.Cells.{key_number}
use Rattle.contact_checks.proofs.Keys.{any-number}
use Rattle.contact_checks.proofs.comes_again.Goals as goal

pub returns : goal.returns
returns c =
    let a = c.args in
    any_from_yields_List (λ p. eqb a.key (key_number p)) _ _ _ c.any.ensures.ran (YieldsList-from_slice a.keys.now cc) (λ x b q k. search (rules, tests))
    ∙ any-number a.key a.keys.now
