-- The questions that are asked of values: what is a yes. Each has its number before it, document 01's, or 02's for 54. `leb` is at most, `ltb` below, `eqb` equal.
-- Assumes nothing.
use Rattle.std.specs.Prelude.{ℕ, suc, ◌+◌, ◌/◌, ◌%◌, List, [], ◌∷◌, map, Bool, true, false, cond, ◌&&◌, ◌||◌, not, length, leb, ltb, eqb}
use Rattle.layout.specs.Layout.{present}
use Rattle.rows.specs.Values.{Chain, Skipped, Range}

module _ {A : Type 0} where
  abbrev pub any : (A → Bool) → List A → Bool
  any p [] = false
  any p (x ∷ xs) = p x || any p xs

  abbrev pub all : (A → Bool) → List A → Bool
  all p [] = true
  all p (x ∷ xs) = p x && all p xs

  abbrev pub count : (A → Bool) → List A → ℕ
  count p [] = 0
  count p (x ∷ xs) = cond (p x) (suc (count p xs)) (count p xs)

  -- no two are the same
  abbrev pub distinct : (A → A → Bool) → List A → Bool
  distinct same [] = true
  distinct same (x ∷ xs) = not (any (same x) xs) && distinct same xs

-- 3
abbrev pub version_known : ℕ → Bool
version_known version = eqb version 3

-- 7: caps bits 2 to 7 clear
abbrev pub caps_known : ℕ → Bool
caps_known caps = ltb caps 4

-- caps bit 1
abbrev pub kci : ℕ → Bool
kci caps = eqb (caps / 2 % 2) 1

-- 8
abbrev pub name_short : ℕ → Bool
name_short len = leb len 48

-- 11
abbrev pub courier_allowed : ℕ → ℕ → Bool
courier_allowed copies lifetime = leb 1 copies && leb copies 16 && leb 60 lifetime && leb lifetime 10080

-- 13
abbrev pub INNER_BUCKETS : List ℕ
INNER_BUCKETS = 32 ∷ 64 ∷ 128 ∷ 256 ∷ 512 ∷ 1024 ∷ 2048 ∷ 4048 ∷ []

abbrev pub sealed_queued : ℕ → Bool
sealed_queued n = any (λ bucket. eqb n (bucket + 16)) INNER_BUCKETS

abbrev pub sealed_carried : ℕ → Bool
sealed_carried n = any (λ bucket. leb bucket 2048 && eqb n (bucket + 16)) INNER_BUCKETS

-- 14, 15
abbrev pub not_zero : ℕ → Bool
not_zero n = not (eqb n 0)

-- 54 (02, A10)
abbrev pub few_chains : List Chain → Bool
few_chains chains = leb (length chains) 8

-- 17
abbrev pub one_chain_at_most : List Chain → Bool
one_chain_at_most chains = leb (count not (map (λ c. present c.superseded_s) chains)) 1

-- 18
abbrev pub gens_distinct : List Chain → Bool
gens_distinct chains = distinct eqb (map (λ c. c.gen) chains)

-- 19
pub record ChainKey : Type 0 where
  pub gen : ℕ
  pub idx : ℕ

abbrev pub key_of : Skipped → ChainKey
key_of k = record { gen = k.gen; idx = k.idx }

abbrev pub same_key : ChainKey → ChainKey → Bool
same_key x y = eqb x.gen y.gen && eqb x.idx y.idx

abbrev pub keys_distinct : List Skipped → Bool
keys_distinct skipped = distinct same_key (map key_of skipped)

-- 20
abbrev pub few_skipped : List Skipped → Bool
few_skipped skipped = leb (length skipped) 500

-- 21
abbrev pub acked_sent : ℕ → ℕ → Bool
acked_sent acked sent = leb acked sent

-- 22: strictly rising, from lo to hi
abbrev pub rising : ℕ → ℕ → List ℕ → Bool
rising lo hi [] = true
rising lo hi (n ∷ ns) = leb lo n && leb n hi && rising (n + 1) hi ns

-- 23, 24: canonical from f
abbrev pub canonical : ℕ → List Range → Bool
canonical f [] = true
canonical f (r ∷ rs) = leb r.from r.to && leb f r.from && canonical (r.to + 2) rs

-- 24
abbrev pub none_above : ℕ → List Range → Bool
none_above sent ranges = all (λ r. leb r.to sent) ranges
