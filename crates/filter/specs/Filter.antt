-- A filter of numbers: each number that is added sets bits of one word, which the number itself says. A number one of whose bits is clear was not added; of one
-- whose bits are set nothing is known. Assumes nothing.
use Rattle.std.specs.Prelude.{ℕ, ◌+◌, ◌-◌, ◌*◌, ◌/◌, ◌%◌, ◌^◌, Bool, true, cond, List, length, ◌==◌, bit_and, bit_or, bit_xor, slice_index, slice_set}

-- one more than the highest number of 32 bits
abbrev HALF : ℕ
HALF = 4294967296

-- a number whose bits hang on all bits of n; nothing else is used of it
unfoldable pub mixed : ℕ → ℕ
mixed n = let sum = ((n % HALF) * 2654435769 + (n / HALF) * 668265263) % 2 ^ 64 in bit_xor sum (sum / HALF)

-- ---- the bits of a number in its word
unfoldable pub bit_of : ℕ → ℕ
bit_of h = (1 * 2 ^ (h % 64)) % 2 ^ 64

unfoldable pub mask_of : ℕ → ℕ
mask_of h = bit_or (bit_or (bit_or (bit_of h) (bit_of (h / 64))) (bit_of (h / 4096))) (bit_of (h / HALF))

-- ... and its word, of so many
abbrev pub index_of : (words h : ℕ) → ℕ
index_of words h = bit_and (h / 262144) (words - 1)

abbrev pub word_of : (bits : List ℕ) → (h : ℕ) → ℕ
word_of bits h = slice_index bits (index_of (length bits) h)

-- all bits of a number are set; where there are no words, any number may have been added
abbrev pub is_set : (bits : List ℕ) → (h : ℕ) → Bool
is_set bits h = cond (length bits == 0) true (bit_or (word_of bits h) (mask_of h) == word_of bits h)

abbrev pub added : (bits : List ℕ) → (h : ℕ) → List ℕ
added bits h = slice_set bits (index_of (length bits) h) (bit_or (word_of bits h) (mask_of h))
