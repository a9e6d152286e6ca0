-- Eight chains, document 02's A10, by the ledger alone: what the limit is for. A list with eight places for chains always does, so handsets can lend one of fixed length.
-- N is the highest message number. Assumes nothing.
use Rattle.std.specs.Prelude.{ℕ, ◌*◌, ◌/◌, ◌≤◌, true, ◌≡◌, length, leb}
use Rattle.layout.specs.RowLaws.{Bytes, Valid}
use Rattle.rows.specs.Values.{Contact}
use Rattle.rows.specs.Rows as rows
use Rattle.numbers.specs.Lists.{CHAIN_PLACE}
use Rattle.ledger.specs.Call.{Call, restore, opens, cover, contains, covers, take, statement, write, Lent}
use Rattle.ledger.specs.Ledger.{Ledger, nothing, restored, opened, ledger}

-- the bytes of eight places
abbrev pub EIGHT_PLACES : ℕ
EIGHT_PLACES = 8 * CHAIN_PLACE

-- n bytes are lent for chains, and of all else as much as in `lent`
abbrev pub with_chains : (n : ℕ) → Lent → Lent
with_chains n lent = record { chains = n; skipped = lent.skipped; above = lent.above; unacked = lent.unacked; expired = lent.expired; out = lent.out }

-- a call whose run, if it has one, is of bytes, as its type says
abbrev pub OfBytes : Call → Type 0
OfBytes (restore run es) = Bytes run
OfBytes (opens k) = Unit {0}
OfBytes (cover f t) = Unit {0}
OfBytes (contains m) = Unit {0}
OfBytes (covers f t) = Unit {0}
OfBytes take = Unit {0}
OfBytes statement = Unit {0}
OfBytes write = Unit {0}

-- a state that such calls come to: an open contact has at most eight chains
abbrev pub FewChains : Ledger → Type 0
FewChains nothing = Unit {0}
FewChains (restored run es) = Bytes run
FewChains (opened run es o) = Bytes run × (length o.fields.chains ≤ 8)

-- ---- what is proved (proofs/Chains.antt)
pub record ChainLaws (N : ℕ) : Type 0 where
  -- what 36 and 34 ask of the chains of a valid row is a yes
  pub in-eight : (v : Contact) → Valid (rows.contact 3) v → (n : ℕ) → EIGHT_PLACES ≤ n → leb (length v.chains) (n / CHAIN_PLACE) ≡ true
  -- so a longer list changes nothing that the ledger says of a call: answer, next state, freed places, output
  pub eight-enough : (c : Call) (lent : Lent) (n : ℕ) → EIGHT_PLACES ≤ n → (l : Ledger) → FewChains l → ledger N c (with_chains n lent) l ≡ ledger N c (with_chains EIGHT_PLACES lent) l
  -- and calls come from such states to such states; they begin with `nothing`, which is one
  pub few-kept : (c : Call) → OfBytes c → (lent : Lent) (l : Ledger) → FewChains l → FewChains (ledger N c lent l).state
