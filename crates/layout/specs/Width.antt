-- What is proved of numbers of w bytes, for every width (proofs/Front.antt).
-- Assumes nothing.
use Rattle.std.specs.Prelude.{ℕ, ◌^◌, ◌≤◌, ◌<◌, List, ◌≡◌, length, take}
use Rattle.layout.specs.Form.{big_endian, bytes_of}
use Rattle.layout.specs.RowLaws.{Bytes}

pub record WidthLaws (w : ℕ) : Type 0 where
  pub long : (n : ℕ) → length (bytes_of w n) ≡ w
  pub below : (bs : List ℕ) → Bytes bs → big_endian w bs < 256 ^ w
  pub read_back : (n : ℕ) → n < 256 ^ w → big_endian w (bytes_of w n) ≡ n
  pub print-back : (bs : List ℕ) → Bytes bs → w ≤ length bs → bytes_of w (big_endian w bs) ≡ take w bs
