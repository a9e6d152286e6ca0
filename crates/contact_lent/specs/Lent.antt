-- The lists of an opened contact, which a caller lends: chains in places of 51 bytes, skipped keys in places of 46, ranges and numbers flat.
-- What is said of them before they are filled and written, and the bytes that a row has for them. Assumes nothing.
use Rattle.std.specs.Prelude.{ℕ, zero, suc, ◌+◌, ◌*◌, List, [], ◌++◌, cond, ◌≡◌, length, get_or, take, drop, eqb}
use Rattle.layout.specs.Read.{Read, value, refused}
use Rattle.layout.specs.Form.{Form}
use Rattle.layout.specs.Layout.{group}
use Rattle.layout.specs.Write.{Written, wrote, refuses}
use Rattle.rows.specs.Values.{Chain, Skipped}
use Rattle.rows.specs.Rows.{chain, skipped}
use Rattle.contact_lists.specs.Places.{read_places, places_of}

-- ---- before writing: how many bytes a row has for what was read, or the refusal
abbrev pub size_of : {A : Type 0} → Form A → Read A → Written
size_of f (value a rest) = wrote (length (f.print a))
size_of f (refused q) = refuses q

-- one size behind another, or the first refusal
abbrev pub plus : ℕ → Written → Written
plus n (wrote k) = wrote (n + k)
plus n (refuses q) = refuses q

abbrev pub both : Written → Written → Written
both (wrote k) s = plus k s
both (refuses q) s = refuses q

-- of the first n places of w bytes, if the place that l starts with has `size l`
unfoldable pub sizes : ℕ → (List ℕ → Written) → ℕ → List ℕ → Written
sizes w size zero l = wrote 0
sizes w size (suc n) l = both (size l) (sizes w size n (drop w l))

module _ {B : Type 0} (w : ℕ) (f : Form B) where
  -- no question refuses a record of the first n places
  pub record Granted (n : ℕ) (l : List ℕ) : Type 0 where
    pub reads : read_places w f n l ≡ value (places_of w f n l) (drop (w * n) l)

abbrev pub chains_of : ℕ → List ℕ → List Chain
chains_of n l = places_of 51 (group chain) n l

abbrev pub skipped_of : ℕ → List ℕ → List Skipped
skipped_of n l = places_of 46 (group skipped) n l

-- ---- the bytes that a row has for the first n places of w bytes, if it has `size l` for the place that l starts with
module _ (w : ℕ) (size : List ℕ → ℕ) where
  unfoldable pub places_bytes : ℕ → List ℕ → List ℕ
  places_bytes zero l = []
  places_bytes (suc n) l = take (size l) l ++ places_bytes n (drop w l)

-- a chain: gen, dir, next, key, the flag at 42, and superseded_s, which a row has only behind a flag 1
abbrev pub chain_size : List ℕ → ℕ
chain_size l = cond (eqb (get_or l 42 0) 1) 51 43

abbrev pub chains_bytes : ℕ → List ℕ → List ℕ
chains_bytes n l = places_bytes 51 chain_size n l

-- a skipped key: gen, dir, idx, key, created_s
abbrev pub skipped_bytes : ℕ → List ℕ → List ℕ
skipped_bytes n l = take (46 * n) l

-- ---- the same answer, with other bytes left behind it
abbrev pub rejoin : {A : Type 0} → List ℕ → Read A → Read A
rejoin post (value a rest) = value a post
rejoin post (refused q) = refused q
