-- Questions 54 and 17 to 24 of a contact's value, in their order: the number of the first that is a no. The code's own words, which nobody has to believe:
-- that the layout of a contact row asks the same is proved (proofs/Consistent.antt). Assumes nothing.
use Rattle.std.specs.Prelude.{ℕ, ◌+◌, List, Bool, Result, Ok, Err, cond, ◌&&◌}
use Rattle.std.proofs.Math.Option.{Option, none, some}
use Rattle.layout.specs.declared.question.Question.{Question}
use Rattle.layout.specs.Questions.{number_of}
use Rattle.layout.specs.Questions.{CHAINS_COUNT, CHAINS_CURRENT, CHAINS_GENS, SKIPPED_KEYS, SKIPPED_COUNT, PEER_ACKED, UNACKED, ABOVE, EXPIRED}
use Rattle.layout.specs.Read.{first}
use Rattle.rows.specs.Values.{Chain, Skipped, Range, Contact}
use Rattle.rows.specs.Checks.{few_chains, one_chain_at_most, gens_distinct, keys_distinct, few_skipped, acked_sent, rising, canonical, none_above}

-- question q, and then the others
abbrev pub asks : ℕ → Bool → Option ℕ → Option ℕ
asks q t others = cond t others (some q)

-- 54, 17 to 20
abbrev pub chains_refusal : List Chain → List Skipped → Option ℕ
chains_refusal chains skipped =
    asks CHAINS_COUNT (few_chains chains)
    (asks CHAINS_CURRENT (one_chain_at_most chains)
    (asks CHAINS_GENS (gens_distinct chains)
    (asks SKIPPED_KEYS (keys_distinct skipped)
    (asks SKIPPED_COUNT (few_skipped skipped) none))))

-- 21 to 24
abbrev pub numbers_refusal : (sent acked contiguous : ℕ) (above : List Range) (unacked : List ℕ) (expired : List Range) → Option ℕ
numbers_refusal sent acked contiguous above unacked expired =
    asks PEER_ACKED (acked_sent acked sent)
    (asks UNACKED (rising 1 sent unacked)
    (asks ABOVE (canonical (contiguous + 2) above)
    (asks EXPIRED (canonical 1 expired && none_above sent expired) none)))

abbrev pub inconsistency : Contact → Option ℕ
inconsistency v =
    first (chains_refusal v.chains v.skipped)
    (numbers_refusal v.sent_msgno v.peer_acked v.contiguous v.above v.unacked v.expired)

-- the question that an answer names
abbrev pub refusal_in : Result (Unit {0}) Question → Option ℕ
refusal_in (Ok u) = none
refusal_in (Err q) = some (number_of q)
