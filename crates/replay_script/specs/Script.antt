-- A line of a script of calls, on its bytes: words with a space between them, the first a command's name.
-- Behind the name stand decimals, first those of 32 bits and then those of 64, and then other words: hexadecimal, and the lent lengths of a read.
-- The lines behind a `rawrestore` are of decimals alone.
-- Assumes nothing.
use Rattle.std.specs.Prelude.{ℕ, zero, suc, ◌+◌, List, [], ◌∷◌, Bool, true, false, cond, ◌&&◌, length, get_or, eqb, leb}
use Prim.Native.Char as char
use Prim.Native.String.{String, [] as ε, ◌∷◌ as ◌∷ᵗ◌}
use Rattle.std.proofs.Math.Option.{Option, none, some}
use Rattle.numbers.specs.Decimal.{COMMA}
use Rattle.ascii.specs.Decimal.{U32, U64, decimal_in}
use Rattle.ascii.specs.Hex.{dash_of}
use Rattle.ascii.specs.Words.{SPACE, parted, word_at}
use Rattle.store.specs.Kinds.{CONTACT, COURIER}
use Rattle.std.specs.Prelude as answer
use Rattle.replay_script.specs.declared.Command as declared
use Rattle.replay_script.specs.declared.Command.TheVariants as code

-- ---- commands
-- a text's bytes, where its letters are of ASCII
abbrev pub bytes : String → List ℕ
bytes ε = []
bytes (c ∷ᵗ cs) = char.code c ∷ bytes cs

-- a command's name, and how many decimals of 32 bits, decimals of 64 bits and other words stand behind it
pub record Command : Type 0 where
  pub name : List ℕ
  pub narrow : ℕ
  pub wide : ℕ
  pub others : ℕ

abbrev pub command : String → (narrow wide others : ℕ) → Command
command name narrow wide others = record { name = bytes name; narrow = narrow; wide = wide; others = others }

-- the commands, in the order of their codes from 1 on
abbrev pub commands : List Command
commands =
    command "script" 0 1 0 ∷
    command "restore" 0 1 0 ∷
    command "rawrestore" 0 1 1 ∷
    command "lend" 0 6 0 ∷
    command "open" 0 1 0 ∷
    command "cover" 2 0 0 ∷
    command "contains" 1 0 0 ∷
    command "covers" 2 0 0 ∷
    command "take" 0 0 0 ∷
    command "statement" 0 0 0 ∷
    command "write" 0 0 0 ∷
    command "veil" 2 1 1 ∷
    command "read" 2 0 2 ∷
    command "state" 0 0 0 ∷
    []

-- their codes, and 0, which is none
abbrev pub UNKNOWN : ℕ
UNKNOWN = 0

abbrev pub SCRIPT : ℕ
SCRIPT = 1

abbrev pub RESTORE : ℕ
RESTORE = 2

abbrev pub RAWRESTORE : ℕ
RAWRESTORE = 3

abbrev pub LEND : ℕ
LEND = 4

abbrev pub OPEN : ℕ
OPEN = 5

abbrev pub COVER : ℕ
COVER = 6

abbrev pub CONTAINS : ℕ
CONTAINS = 7

abbrev pub COVERS : ℕ
COVERS = 8

abbrev pub TAKE : ℕ
TAKE = 9

abbrev pub STATEMENT : ℕ
STATEMENT = 10

abbrev pub WRITE : ℕ
WRITE = 11

abbrev pub VEIL : ℕ
VEIL = 12

abbrev pub READ : ℕ
READ = 13

abbrev pub STATE : ℕ
STATE = 14

-- the code of a command of the code
abbrev pub number_of : declared.Command → ℕ
number_of code.Script = SCRIPT
number_of code.Restore = RESTORE
number_of code.RawRestore = RAWRESTORE
number_of code.Lend = LEND
number_of code.Open = OPEN
number_of code.Cover = COVER
number_of code.Contains = CONTAINS
number_of code.Covers = COVERS
number_of code.Take = TAKE
number_of code.Statement = STATEMENT
number_of code.Write = WRITE
number_of code.Veil = VEIL
number_of code.Read = READ
number_of code.State = STATE

-- what code answers, which hands no command on where a line is none
abbrev pub command_says : answer.Option declared.Command → ℕ
command_says answer.None = UNKNOWN
command_says (answer.Some c) = number_of c

-- what has the code 0: nothing stands behind it
abbrev pub unknown : Command
unknown = command "" 0 0 0

abbrev pub with_unknown : List Command
with_unknown = unknown ∷ commands

abbrev pub of_code : (code : ℕ) → Command
of_code code = get_or with_unknown code unknown

abbrev pub narrow_of : (code : ℕ) → ℕ
narrow_of code = (of_code code).narrow

abbrev pub wide_of : (code : ℕ) → ℕ
wide_of code = (of_code code).wide

abbrev pub others_of : (code : ℕ) → ℕ
others_of code = (of_code code).others

-- the same bytes
unfoldable pub same : List ℕ → List ℕ → Bool
same [] [] = true
same [] (c ∷ cs) = false
same (b ∷ bs) [] = false
same (b ∷ bs) (c ∷ cs) = eqb b c && same bs cs

-- the code of the first of these commands that has this name, where the codes start at k
unfoldable pub code_from : (k : ℕ) → List Command → (word : List ℕ) → ℕ
code_from k [] word = UNKNOWN
code_from k (c ∷ cs) word = cond (same word c.name) k (code_from (suc k) cs word)

abbrev pub code_of : List ℕ → ℕ
code_of word = code_from 1 commands word

-- ---- a line
abbrev pub is_some : Option ℕ → Bool
is_some none = false
is_some (some n) = true

-- the highest number that the i-th word, counted from the name, may be
abbrev pub highest_at : (narrow i : ℕ) → ℕ
highest_at narrow i = cond (leb i narrow) U32 U64

abbrev pub is_decimal_at : (highest i : ℕ) → List (List ℕ) → Bool
is_decimal_at highest i words = is_some (decimal_in highest (get_or words i []))

-- whether the words from the i-th on, so many, are decimals
unfoldable pub decimals_from : (narrow i count : ℕ) → List (List ℕ) → Bool
decimals_from narrow i zero words = true
decimals_from narrow i (suc count) words = is_decimal_at (highest_at narrow i) i words && decimals_from narrow (suc i) count words

-- the command with this code, if the line has its words
abbrev pub command_as : (code : ℕ) → (words : List (List ℕ)) → ℕ
command_as code words =
    cond (eqb (length words) (suc (narrow_of code + wide_of code + others_of code)) && decimals_from (narrow_of code) 1 (narrow_of code + wide_of code) words)
    code
    UNKNOWN

abbrev pub command_of : List ℕ → ℕ
command_of line = command_as (code_of (word_at SPACE 0 line)) (parted SPACE line)

-- ---- other lines and words
-- whether the words from the i-th on are decimals, each up to its number
abbrev pub up_to_from : (i : ℕ) → (highest : List ℕ) → List (List ℕ) → Bool
up_to_from i [] words = true
up_to_from i (h ∷ hs) words = is_decimal_at h i words && up_to_from (suc i) hs words

-- whether there are as many words as numbers, each a decimal up to its number
abbrev pub decimals_up_to : (highest : List ℕ) → List (List ℕ) → Bool
decimals_up_to highest words = eqb (length words) (length highest) && up_to_from 0 highest words

-- an entry behind `rawrestore`: kind, id, msgno, version, start, length
abbrev pub is_entry : List ℕ → Bool
is_entry line = decimals_up_to (U32 ∷ U64 ∷ U32 ∷ U32 ∷ U64 ∷ U64 ∷ []) (parted SPACE line)

-- the lengths of chains, skipped keys, pairs above, unacked numbers and expired pairs, in a `read`
abbrev pub are_lengths : List ℕ → Bool
are_lengths word = decimals_up_to (U64 ∷ U64 ∷ U64 ∷ U64 ∷ U64 ∷ []) (parted COMMA word)

-- the lent lengths of a `read` of this kind: of a contact five, of another row `-`
abbrev pub lengths_for : (kind : ℕ) → (word : List ℕ) → Bool
lengths_for kind word = cond (eqb kind CONTACT) (are_lengths word) (leb kind COURIER && dash_of word)
