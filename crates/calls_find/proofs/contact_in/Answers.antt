-- `calls_find::contact_in` meets its contract: what a search of all entries finds.
-- Assumes nothing.
use Rattle.std.proofs.Common.{rules, tests, ◌∙◌}
use Rattle.std.proofs.lemmas.Iterator.{YieldsList-from_slice}
use Rattle.std.proofs.lemmas.Iterator.Search.{find_from_yields_List}
use Rattle.store.specs.Kinds.{CONTACT}
use Rattle.store.specs.Store.{is_of}
use Rattle.calls_find.proofs.Laws.{first_found}
use Rattle.calls_find.proofs.contact_in.Goals as goal

pub returns : goal.returns
returns c =
    let a = c.args in
    let found = find_from_yields_List (is_of CONTACT a.id.0) _ _ c.find.result c.find.ensures.ran (YieldsList-from_slice a.entries.now cc) (λ x b q k. search (rules, tests)) in
    c.copied.ensures ∙ found ∙ first_found a.id.0 a.entries.now
