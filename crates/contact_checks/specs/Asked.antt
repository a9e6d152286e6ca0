-- What is known of a list that was read, when it is asked questions 17 to 24; and what the chains are asked.
-- Assumes nothing.
use Rattle.std.specs.Prelude.{ℕ, ◌*◌, ◌≤◌, List, ◌≡◌, length}
use Rattle.layout.specs.Read.{value}
use Rattle.layout.specs.Form.{Form}
use Rattle.rows.specs.Values.{Chain}
use Rattle.rows.specs.Checks.{one_chain_at_most, gens_distinct}
use Rattle.contact_lists.specs.Places.{read_places}
use Rattle.contact_checks.specs.declared.ChainsAsked.{ChainsAsked}

-- `count` items stand in lent places of w bytes
pub record Placed {B : Type 0} (w : ℕ) (f : Form B) (lent : List ℕ) (count : ℕ) : Type 0 where
  pub room : w * count ≤ length lent
  pub records : List B
  pub rest : List ℕ
  pub so : read_places w f count lent ≡ value records rest

-- 17 and 18
abbrev pub chains_asked : List Chain → ChainsAsked
chains_asked cs = record { one_current = one_chain_at_most cs; gens_distinct = gens_distinct cs }
