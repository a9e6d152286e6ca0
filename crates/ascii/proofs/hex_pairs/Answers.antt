-- `ascii::hex_pairs` meets its contract: as many pairs are taken as are digits in front.
use Rattle.std.proofs.Common.{◌/◌, length, ◌∙◌, rules, tests, arith}
use Rattle.std.specs.Simd.{first_chunks}
use Rattle.std.proofs.lemmas.List.Folds.{length-prefix_len}
use Rattle.std.proofs.lemmas.Iterator.{YieldsList-from_slice}
use Rattle.std.proofs.lemmas.Iterator.Consumers.{count_from_yields_List}
use Rattle.std.proofs.lemmas.Iterator.Search.{YieldsList-from_take_while}
use Rattle.ascii.proofs.Blobs.{both_hex, pairs-front}
use Rattle.ascii.proofs.hex_pairs.Goals as goal

pub returns : goal.returns
returns c =
    let text = c.args.text.now in
    count_from_yields_List c.take_while.result _ c.count.ensures.ran (YieldsList-from_take_while _ both_hex (YieldsList-from_slice (first_chunks 2 (length text / 2) text) cc) c.take_while.ensures.closure c.take_while.ensures.done (λ x b q k. search (rules, tests)))
    ∙ rw length-prefix_len (pairs-front (length text / 2) text (omega arith) (omega arith))
