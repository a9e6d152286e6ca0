-- `ascii::marks` meets its contract: there is one word more than there are marks.
use Rattle.std.proofs.Common.{eqb, ap, suc, ◌∙◌, rules, tests}
use Rattle.std.proofs.lemmas.Iterator.{YieldsList-from_slice}
use Rattle.std.proofs.lemmas.Iterator.Consumers.{count_from_yields_List, YieldsList-from_filter}
use Rattle.ascii.proofs.Words.{words-counted}
use Rattle.ascii.proofs.marks.Goals as goal

pub returns : goal.returns
returns c =
    let a = c.args in
    ap suc (count_from_yields_List c.filter.result _ c.count.ensures.ran (YieldsList-from_filter _ (λ b. eqb b a.mark) (YieldsList-from_slice a.text.now cc) c.filter.ensures.closure (λ x r q k. search (rules, tests))))
    ∙ words-counted a.mark a.text.now
