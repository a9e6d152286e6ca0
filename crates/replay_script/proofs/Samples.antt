-- Lines of scripts, by computation: each command, and lines at the edges of what is one.
-- Assumes nothing.
use mathlib.Core.Bool.{true, false}
use mathlib.Core.Path.{◌≡◌, refl}
use Rattle.ascii.specs.Decimal as decimals
use Rattle.ascii.specs.Words as words
use Rattle.store.specs.Kinds.{DEVICE, CONTACT}
use Rattle.replay_script.specs.Script as script
use Rattle.replay_script.specs.Script.{UNKNOWN, SCRIPT, RESTORE, RAWRESTORE, LEND, OPEN, COVER, CONTAINS, COVERS, TAKE, STATEMENT, WRITE, VEIL, READ, STATE, bytes, command_of, is_entry, lengths_for}

-- ---- commands
a-script : command_of (bytes "script 1") ≡ SCRIPT
unfolding words.parted decimals.decimal_in script.same script.code_from script.decimals_from
a-script = refl

a-restore : command_of (bytes "restore 4") ≡ RESTORE
unfolding words.parted decimals.decimal_in script.same script.code_from script.decimals_from
a-restore = refl

a-raw-restore : command_of (bytes "rawrestore 0 -") ≡ RAWRESTORE
unfolding words.parted decimals.decimal_in script.same script.code_from script.decimals_from
a-raw-restore = refl

a_lend : command_of (bytes "lend 0 0 1 1 1 100") ≡ LEND
unfolding words.parted decimals.decimal_in script.same script.code_from script.decimals_from
a_lend = refl

an-open : command_of (bytes "open 18446744073709551615") ≡ OPEN
unfolding words.parted decimals.decimal_in script.same script.code_from script.decimals_from
an-open = refl

a-cover : command_of (bytes "cover 6 9") ≡ COVER
unfolding words.parted decimals.decimal_in script.same script.code_from script.decimals_from
a-cover = refl

a-contains : command_of (bytes "contains 4294967295") ≡ CONTAINS
unfolding words.parted decimals.decimal_in script.same script.code_from script.decimals_from
a-contains = refl

a-covers : command_of (bytes "covers 1 2") ≡ COVERS
unfolding words.parted decimals.decimal_in script.same script.code_from script.decimals_from
a-covers = refl

a_take : command_of (bytes "take") ≡ TAKE
unfolding words.parted decimals.decimal_in script.same script.code_from script.decimals_from
a_take = refl

a-statement : command_of (bytes "statement") ≡ STATEMENT
unfolding words.parted decimals.decimal_in script.same script.code_from script.decimals_from
a-statement = refl

a_write : command_of (bytes "write") ≡ WRITE
unfolding words.parted decimals.decimal_in script.same script.code_from script.decimals_from
a_write = refl

a-veil : command_of (bytes "veil 0 3 100 0a") ≡ VEIL
unfolding words.parted decimals.decimal_in script.same script.code_from script.decimals_from
a-veil = refl

a_read : command_of (bytes "read 1 3 0,0,1,1,1 -") ≡ READ
unfolding words.parted decimals.decimal_in script.same script.code_from script.decimals_from
a_read = refl

a-state : command_of (bytes "state") ≡ STATE
unfolding words.parted decimals.decimal_in script.same script.code_from script.decimals_from
a-state = refl

-- ---- no commands
no-command : command_of (bytes "fly") ≡ UNKNOWN
unfolding words.parted decimals.decimal_in script.same script.code_from script.decimals_from
no-command = refl

nothing : command_of (bytes "") ≡ UNKNOWN
unfolding words.parted decimals.decimal_in script.same script.code_from script.decimals_from
nothing = refl

capital : command_of (bytes "Take") ≡ UNKNOWN
unfolding words.parted decimals.decimal_in script.same script.code_from script.decimals_from
capital = refl

no_number : command_of (bytes "open") ≡ UNKNOWN
unfolding words.parted decimals.decimal_in script.same script.code_from script.decimals_from
no_number = refl

one_more : command_of (bytes "open 1 2") ≡ UNKNOWN
unfolding words.parted decimals.decimal_in script.same script.code_from script.decimals_from
one_more = refl

one_less : command_of (bytes "cover 1") ≡ UNKNOWN
unfolding words.parted decimals.decimal_in script.same script.code_from script.decimals_from
one_less = refl

five-lengths : command_of (bytes "lend 1 2 3 4 5") ≡ UNKNOWN
unfolding words.parted decimals.decimal_in script.same script.code_from script.decimals_from
five-lengths = refl

leading-zero : command_of (bytes "open 01") ≡ UNKNOWN
unfolding words.parted decimals.decimal_in script.same script.code_from script.decimals_from
leading-zero = refl

no_digit : command_of (bytes "open x") ≡ UNKNOWN
unfolding words.parted decimals.decimal_in script.same script.code_from script.decimals_from
no_digit = refl

wide : command_of (bytes "open 18446744073709551616") ≡ UNKNOWN
unfolding words.parted decimals.decimal_in script.same script.code_from script.decimals_from
wide = refl

wide-msgno : command_of (bytes "contains 4294967296") ≡ UNKNOWN
unfolding words.parted decimals.decimal_in script.same script.code_from script.decimals_from
wide-msgno = refl

a-word-more : command_of (bytes "take 1") ≡ UNKNOWN
unfolding words.parted decimals.decimal_in script.same script.code_from script.decimals_from
a-word-more = refl

space-behind : command_of (bytes "take ") ≡ UNKNOWN
unfolding words.parted decimals.decimal_in script.same script.code_from script.decimals_from
space-behind = refl

space-before : command_of (bytes " take") ≡ UNKNOWN
unfolding words.parted decimals.decimal_in script.same script.code_from script.decimals_from
space-before = refl

two-spaces : command_of (bytes "open  1") ≡ UNKNOWN
unfolding words.parted decimals.decimal_in script.same script.code_from script.decimals_from
two-spaces = refl

-- ---- entries, and lent lengths
an-entry : is_entry (bytes "0 0 0 3 0 49") ≡ true
unfolding words.parted decimals.decimal_in
an-entry = refl

five-numbers : is_entry (bytes "0 0 0 3 0") ≡ false
unfolding words.parted decimals.decimal_in
five-numbers = refl

entry-wide-msgno : is_entry (bytes "0 0 4294967296 3 0 49") ≡ false
unfolding words.parted decimals.decimal_in
entry-wide-msgno = refl

entry-wide-id : is_entry (bytes "0 4294967296 0 3 0 49") ≡ true
unfolding words.parted decimals.decimal_in
entry-wide-id = refl

lengths-of-a-contact : lengths_for CONTACT (bytes "1,2,3,4,5") ≡ true
unfolding words.parted decimals.decimal_in
lengths-of-a-contact = refl

lengths-of-a-device : lengths_for DEVICE (bytes "1,2,3,4,5") ≡ false
unfolding words.parted decimals.decimal_in
lengths-of-a-device = refl

no_lengths : lengths_for DEVICE (bytes "-") ≡ true
unfolding words.parted decimals.decimal_in
no_lengths = refl

no-lengths-of-a-contact : lengths_for CONTACT (bytes "-") ≡ false
unfolding words.parted decimals.decimal_in
no-lengths-of-a-contact = refl

unknown-kind : lengths_for 4 (bytes "-") ≡ false
unfolding words.parted decimals.decimal_in
unknown-kind = refl
