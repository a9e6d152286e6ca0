-- Items that stand in bytes, one after the other, each as wide as its bytes say: what of each is looked at.
-- Assumes nothing.
use Rattle.std.specs.Prelude.{ℕ, zero, suc, ◌+◌, ◌*◌, ◌≤◌, List, [], ◌∷◌, Bool, true, cond, not, ◌&&◌, ◌||◌, length, get_or, drop, leb, eqb}
use Rattle.layout.specs.Form.{big_endian}
use Rattle.rows.specs.Checks.{ChainKey, count}

module _ (width : List ℕ → ℕ) where
  module _ {C : Type 0} (cell : List ℕ → C) where
    unfoldable pub cells : ℕ → List ℕ → List C
    cells zero l = []
    cells (suc n) l = cell l ∷ cells n (drop (width l) l)

  -- n items stand within the bytes
  pub data Rooms : ℕ → List ℕ → Type 0 where
    rooms-none : {l : List ℕ} → Rooms zero l
    rooms-more : {n : ℕ} {l : List ℕ} → width l ≤ length l → Rooms n (drop (width l) l) → Rooms (suc n) l

-- ---- 19: gen and idx of a skipped key's 46 bytes, and both as one number
abbrev pub key_at : List ℕ → ChainKey
key_at l = record { gen = get_or l 0 0; idx = big_endian 4 (drop 2 l) }

abbrev pub number_of : ChainKey → ℕ
number_of p = p.gen * 4294967296 + p.idx

abbrev pub key_number : List ℕ → ℕ
key_number l = number_of (key_at l)

abbrev pub key_numbers : ℕ → List ℕ → List ℕ
key_numbers = cells (λ l. 46) key_number

abbrev pub KeysStand : ℕ → List ℕ → Type 0
KeysStand = Rooms (λ l. 46)

-- each at least lo, and above the one before
abbrev pub ascending : ℕ → List ℕ → Bool
ascending lo [] = true
ascending lo (n ∷ ns) = leb lo n && ascending (n + 1) ns

-- ---- 17 and 18: gen of a chain, and whether it is superseded; it ends behind that flag, or 8 bytes later, as every key of a lent list does
abbrev pub gen_at : List ℕ → ℕ
gen_at l = get_or l 0 0

abbrev pub superseded_at : List ℕ → Bool
superseded_at l = eqb (get_or l 42 0) 1

abbrev pub chain_width : Bool → List ℕ → ℕ
chain_width padded l = cond (padded || superseded_at l) 51 43

abbrev pub gens : Bool → ℕ → List ℕ → List ℕ
gens padded = cells (chain_width padded) gen_at

abbrev pub supersededs : Bool → ℕ → List ℕ → List Bool
supersededs padded = cells (chain_width padded) superseded_at

abbrev pub ChainsStand : Bool → ℕ → List ℕ → Type 0
ChainsStand padded = Rooms (chain_width padded)

-- at most one is not superseded, those counted that were found before
abbrev pub one_current : ℕ → List Bool → Bool
one_current found ss = leb (found + count not ss) 1
