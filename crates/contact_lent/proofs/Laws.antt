-- What reading the bytes that a row has for lent lists gives, what the records print, and that filled lists hold what they were filled with.
-- Assumes nothing.
use Prim.Native.Nat.{ℕ, ◌*◌, ◌≤◌}
use mathlib.Core.List.{List, [], ◌∷◌, ◌++◌}
use mathlib.Core.Option.{Option, none, some}
use mathlib.Core.Path.{◌≡◌, refl, sym, ◌∙◌}
use lib.ListN.{length}
use Rattle.layout.specs.Read.{value}
use Rattle.layout.specs.Form.{Form, u64, read_many, print_many, fits_many, refusal_many}
use Rattle.layout.specs.Form as form
use Rattle.layout.specs.Layout.{group}
use Rattle.layout.specs.Layout as layout
use Rattle.layout.specs.RowLaws.{Bytes}
use Rattle.rows.specs.Values.{Chain, Skipped}
use Rattle.rows.specs.Rows.{chain, skipped}
use Rattle.contact_lists.specs.Places.{read_places, print_places}
use Rattle.contact_lent.specs.Lent.{chain_size, chains_bytes, skipped_bytes, rejoin}
use Rattle.contact_lent.proofs.Offsets.{Printed, read-places, places-printed, filled-reads, filled-bytes, length-places, bytes-exact}
use Rattle.contact_lent.proofs.Records.{chain-placed, chain-narrow, skipped-placed, skipped-narrow}

-- ---- reading what a row has for the first n places: as the places are read
module _ (n : ℕ) (l : List ℕ) where
  pub read-chains : (post : List ℕ) → 51 * n ≤ length l → read_many (group chain) n (chains_bytes n l ++ post) ≡ rejoin post (read_places 51 (group chain) n l)
  read-chains post h = read-places 51 (group chain) chain_size chain-placed n l post h

  pub read-skipped : (post : List ℕ) → 46 * n ≤ length l → read_many (group skipped) n (skipped_bytes n l ++ post) ≡ rejoin post (read_places 46 (group skipped) n l)
  read-skipped post h = rw (← bytes-exact 46 n l) (read-places 46 (group skipped) (λ l. 46) skipped-placed n l post h)

  -- ... and it is what the records print
  pub chains-printed : {cs : List Chain} {rest : List ℕ} → read_places 51 (group chain) n l ≡ value cs rest → Bytes l → 51 * n ≤ length l → Printed (group chain) (chains_bytes n l) n cs
  chains-printed e by h = places-printed 51 (group chain) chain_size chain-placed n l e by h

  pub skipped-printed : {ks : List Skipped} {rest : List ℕ} → read_places 46 (group skipped) n l ≡ value ks rest → Bytes l → 46 * n ≤ length l → Printed (group skipped) (skipped_bytes n l) n ks
  skipped-printed e by h = rw (← bytes-exact 46 n l) (places-printed 46 (group skipped) (λ l. 46) skipped-placed n l e by h)

-- ---- places that were filled: no question refuses a chain or a skipped key that can be printed
never-many : {B : Type 0} (f : Form B) → ((b : B) → f.refusal b ≡ none) → (bs : List B) → refusal_many f bs ≡ none
unfolding form.refusal_many
never-many f h [] = refl
never-many f h (b ∷ bs) = rw (h b, never-many f h bs)

chain-never : (c : Chain) → (group chain).refusal c ≡ none
unfolding layout.refusal_of
chain-never c = rw (go c.superseded_s)
  where
    go : (s : Option ℕ) → form.refusal_if u64 s ≡ none
    go none = refl
    go (some n) = refl

skipped-never : (k : Skipped) → (group skipped).refusal k ≡ none
unfolding layout.refusal_of
skipped-never k = refl

pub record Filled {B : Type 0} (w : ℕ) (f : Form B) (row : ℕ → List ℕ → List ℕ) (bs : List B) (rest : List ℕ) : Type 0 where
  -- they are read back, a row has for them what they print, and they take so many bytes
  pub reads : read_places w f (length bs) (print_places w f bs ++ rest) ≡ value bs rest
  pub bytes : row (length bs) (print_places w f bs ++ rest) ≡ print_many f bs
  pub long : length (print_places w f bs) ≡ w * length bs

pub chains-filled : (cs : List Chain) (rest post : List ℕ) → fits_many (group chain) cs post → Filled 51 (group chain) chains_bytes cs rest
chains-filled cs rest post h = record {
  reads = filled-reads 51 (group chain) chain-narrow cs rest post h (never-many (group chain) chain-never cs);
  bytes = filled-bytes 51 (group chain) chain-narrow chain_size chain-placed cs rest post h;
  long = length-places 51 (group chain) chain-narrow cs post h;
}

pub skipped-filled : (ks : List Skipped) (rest post : List ℕ) → fits_many (group skipped) ks post → Filled 46 (group skipped) skipped_bytes ks rest
skipped-filled ks rest post h = record {
  reads = filled-reads 46 (group skipped) skipped-narrow ks rest post h (never-many (group skipped) skipped-never ks);
  bytes = sym (bytes-exact 46 (length ks) (print_places 46 (group skipped) ks ++ rest)) ∙ filled-bytes 46 (group skipped) skipped-narrow (λ l. 46) skipped-placed ks rest post h;
  long = length-places 46 (group skipped) skipped-narrow ks post h;
}
