-- A list of calls as numbers, six for each call, and the answers as numbers, six for each.
-- Assumes nothing.
use Rattle.std.specs.Prelude.{ℕ, zero, suc, ◌*◌, ◌/◌, min, List, [], ◌∷◌, ◌++◌, cond, length, get_or, drop, eqb}
use Rattle.std.proofs.Math.Option.{Option, none, some}
use Rattle.std.proofs.Math.ListN as list
use Rattle.store.specs.declared.Entry.{Entry}
use Rattle.ledger.specs.Call.{Call, restore, opens, cover, contains, covers, take, statement, write, Answer, granted, advanced, truth, number, wrote, said, refused, refused_at}
use Rattle.sheet_entries.specs.Table.{ENTRIES, in_field, entries_from}

-- ---- calls
-- a call's code, and what follows it; further numbers are not read
-- start, len, first, n: a store within the lent run and records
abbrev pub RESTORE : ℕ
RESTORE = 1

-- id
abbrev pub OPEN : ℕ
OPEN = 2

-- from, to
abbrev pub COVER : ℕ
COVER = 3

-- msgno
abbrev pub CONTAINS : ℕ
CONTAINS = 4

-- from, to
abbrev pub COVERS : ℕ
COVERS = 5

abbrev pub TAKE : ℕ
TAKE = 6

abbrev pub STATEMENT : ℕ
STATEMENT = 7

abbrev pub WRITE : ℕ
WRITE = 8

-- a store's run: so many bytes of the lent run
abbrev pub run_at : (start len : ℕ) → (run : List ℕ) → List ℕ
run_at start len run = list.take len (drop start run)

-- a store's entries: so many of the lent records, from the first-th on, six numbers each, and at most as many as a table has
abbrev pub entries_at : (first n : ℕ) → (records : List ℕ) → List Entry
entries_at first n records = entries_from (min n ENTRIES) (drop (6 * first) records)

-- the call with this code. A message number that is wider than its field counts as the highest
unfoldable pub call_as : (code : ℕ) → (run records six : List ℕ) → Option Call
call_as code run records six =
    let a = get_or six 1 0 in
    let b = get_or six 2 0 in
    cond (eqb code RESTORE) (some (restore (run_at a b run) (entries_at (get_or six 3 0) (get_or six 4 0) records)))
    (cond (eqb code OPEN) (some (opens a))
    (cond (eqb code COVER) (some (cover (in_field a) (in_field b)))
    (cond (eqb code CONTAINS) (some (contains (in_field a)))
    (cond (eqb code COVERS) (some (covers (in_field a) (in_field b)))
    (cond (eqb code TAKE) (some take)
    (cond (eqb code STATEMENT) (some statement)
    (cond (eqb code WRITE) (some write)
    none)))))))

-- the call that the first six numbers say
abbrev pub call_in : (run records numbers : List ℕ) → Option Call
call_in run records numbers = call_as (get_or numbers 0 0) run records numbers

abbrev pub followed_by : Option Call → List Call → List Call
followed_by none cs = []
followed_by (some c) cs = c ∷ cs

-- so many calls, or those before the first numbers that are no call
unfoldable pub calls_from : (most : ℕ) → (run records numbers : List ℕ) → List Call
calls_from zero run records numbers = []
calls_from (suc most) run records numbers = followed_by (call_in run records numbers) (calls_from most run records (drop 6 numbers))

-- as many calls as there are six numbers for each, and room for six of each answer
abbrev pub most_calls : (numbers room : ℕ) → ℕ
most_calls numbers room = min (numbers / 6) (room / 6)

abbrev pub calls_of : (run records numbers : List ℕ) → (room : ℕ) → List Call
calls_of run records numbers room = calls_from (most_calls (length numbers) room) run records numbers

-- ---- answers
-- an answer's tag, and what follows it; the other numbers are 0
abbrev pub YES : ℕ
YES = 0

-- 1 where contiguous moved, and how many numbers are new
abbrev pub ADVANCED : ℕ
ADVANCED = 1

-- 1 for true
abbrev pub TRUTH : ℕ
TRUTH = 2

-- the number taken
abbrev pub NUMBER : ℕ
NUMBER = 3

-- the length written
abbrev pub WROTE : ℕ
WROTE = 4

-- the line's length; its bytes are the front of the output
abbrev pub SAID : ℕ
SAID = 5

-- the question's number
abbrev pub NO : ℕ
NO = 6

-- ... and the entry's index
abbrev pub NO_AT : ℕ
NO_AT = 7

abbrev pub tagged : (tag a b : ℕ) → List ℕ
tagged tag a b = tag ∷ a ∷ b ∷ 0 ∷ 0 ∷ 0 ∷ []

abbrev pub six_of : Answer → List ℕ
six_of granted = tagged YES 0 0
six_of (advanced moved added) = tagged ADVANCED (cond moved 1 0) added
six_of (truth b) = tagged TRUTH (cond b 1 0) 0
six_of (number n) = tagged NUMBER n 0
six_of (wrote n) = tagged WROTE n 0
six_of (said n line) = tagged SAID n 0
six_of (refused q) = tagged NO q 0
six_of (refused_at q i) = tagged NO_AT q i

unfoldable pub numbers_of : List Answer → List ℕ
numbers_of [] = []
numbers_of (a ∷ later) = six_of a ++ numbers_of later
