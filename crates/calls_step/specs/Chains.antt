-- Two lists of the same calls that are lent the same, but for the list of chains: each call has eight places of it, or more (02, A10).
-- Assumes nothing.
use Rattle.std.specs.Prelude.{ℕ, ◌≤◌, List, [], ◌∷◌, ◌≡◌}
use Rattle.ledger.specs.Chains.{EIGHT_PLACES, with_chains}
use Rattle.calls_step.specs.Input.{lent_of}
use Rattle.calls_step.specs.Legal.{Turn, made}

pub record ButChains (t u : Turn) : Type 0 where
  pub call : t.call ≡ u.call
  pub lent : with_chains 0 (lent_of t.input) ≡ with_chains 0 (lent_of u.input)
  pub eight : EIGHT_PLACES ≤ (lent_of t.input).chains
  pub eight-too : EIGHT_PLACES ≤ (lent_of u.input).chains

abbrev pub AllButChains : List Turn → List Turn → Type 0
AllButChains [] [] = Unit {0}
AllButChains [] (u ∷ us) = ⊥
AllButChains (t ∷ ts) [] = ⊥
AllButChains (t ∷ ts) (u ∷ us) = ButChains t u × AllButChains ts us

-- they answer the same, turn by turn
abbrev pub SameAnswers : (N : ℕ) → List Turn → List Turn → Type 0
SameAnswers N [] [] = Unit {0}
SameAnswers N [] (u ∷ us) = ⊥
SameAnswers N (t ∷ ts) [] = ⊥
SameAnswers N (t ∷ ts) (u ∷ us) = ((made N t).answer ≡ (made N u).answer) × SameAnswers N ts us
