-- `ascii::until` meets its contract: the first byte that is `stop` has as many before it.
use Rattle.std.proofs.Common.{ℕ, ◌≡◌, List, length, rules, arith, tests}
use Rattle.std.specs.Option.{unwrap_or}
use Rattle.std.proofs.lemmas.Iterator.{YieldsList-from_slice, IsFirst-from_position, index_from_first}
use Rattle.ascii.specs.Words.{before}
use Rattle.ascii.proofs.Words.{before-short, none_before, stops, goes_on}
use Rattle.ascii.proofs.until.Goals as goal

pub returns : goal.returns
returns c =
    let stop = c.args.stop in
    let text = c.args.text.now in
    let found = IsFirst-from_position _ _ c.position.result (λ b. b ≡ stop) (λ b. b ≡ stop → ⊥) c.position.ensures.ran (YieldsList-from_slice text cc) (λ x q k. search (rules, tests)) (λ x q k. search (rules, tests)) in
    let is : length (before stop text) ≡ unwrap_or c.position.result (length text) =
    index_from_first (λ (bs : List ℕ). length (before stop bs)) (λ (b : ℕ). b ≡ stop) (λ (b : ℕ). b ≡ stop → ⊥) (none_before stop) (stops stop) (goes_on stop) text c.position.result found in
    let same : c.unwrap_or.result ≡ length (before stop text) = cc in
    (same, omega (arith, same, before-short stop text))
