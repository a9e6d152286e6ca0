-- The hash of an entry's key: a number that hangs on the kind, the contact or slot and, of a queued row, the message, and on nothing else of the entry.
-- Assumes nothing.
use Rattle.std.specs.Prelude.{ℕ, ◌+◌, ◌*◌, ◌/◌, ◌%◌, ◌^◌, bit_xor}
use Rattle.store.specs.declared.Entry.{Entry}
use Rattle.restore_duplicates.specs.Above.{msgno_of}

-- one more than the highest number of 32 bits
abbrev HALF : ℕ
HALF = 4294967296

abbrev wrapped : ℕ → ℕ → ℕ
wrapped a b = (a + b) % 2 ^ 64

unfoldable pub key_hash : (kind id msgno : ℕ) → ℕ
key_hash kind id msgno =
    let sum = wrapped (wrapped ((id % HALF) * 2654435769) ((id / HALF) * 668265263)) (wrapped (msgno * 2246822519) (kind * 3266489917)) in
    bit_xor sum (sum / HALF)

abbrev pub hash_of : Entry → ℕ
hash_of e = key_hash e.kind e.id (msgno_of e)
