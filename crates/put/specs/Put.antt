-- What a store into a buffer leaves in it. A buffer's contents are a list of bytes.
-- Assumes nothing.
use Rattle.std.specs.Prelude.{ℕ, suc, ◌+◌, List, [], ◌∷◌, ◌≡◌, length, set}

-- the list l with the bytes bs stored one by one from index at on
unfoldable pub put : List ℕ → ℕ → List ℕ → List ℕ
put l at [] = l
put l at (b ∷ bs) = put (set l at b) (suc at) bs

-- what a writer says of its work: the buffer was l and is now m, which is l with bs stored from at on; p is the position behind them
pub record Wrote (l : List ℕ) (at : ℕ) (bs m : List ℕ) (p : ℕ) : Type 0 where
  pub now-is : m ≡ put l at bs
  pub next-is : p ≡ at + length bs
