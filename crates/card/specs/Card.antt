-- What the answers about a card say, what a reader leaves in the struct, and which row a struct stands for.
-- Assumes nothing.
use Rattle.std.specs.Prelude.{ℕ, ◌+◌, ◌-◌, ◌≤◌, ◌<◌, List, [], ◌∷◌, ◌++◌, Bool, true, false, cond, ◌&&◌, ◌≡◌, Result, Ok, Err, length, take, drop, leb}
use Rattle.std.proofs.Math.Option.{Option, none, some}
use Rattle.layout.specs.declared.question.Question.{Question}
use Rattle.layout.specs.Questions.{number_of}
use Rattle.layout.specs.Veil.{zeros}
use Rattle.layout.specs.Field.{Field, takes, refuses}
use Rattle.layout.specs.Layout.{accepted, print, read_row}
use Rattle.layout.specs.Says.{made, leaves}
use Rattle.layout.specs.RowLaws.{Bytes}
use Rattle.layout.specs.Write.{stored, writes}
use Rattle.rows.specs.Values as value
use Rattle.rows.specs.Checks.{kci, name_short}
use Rattle.rows.specs.Rows.{card_row}
use Rattle.card.specs.declared.Card.{Card}
use Rattle.card.specs.declared.CardAt.{CardAt}

-- ---- checking
-- the key that KCI calls for, at a place, of which the next position is answered
abbrev pub key_says : ℕ → List ℕ → ℕ → Result ℕ Question → Field (Option (List ℕ))
key_says caps input at (Ok next) = takes (cond (kci caps) (some (take 1184 (drop at input))) none) next
key_says caps input at (Err q) = refuses (number_of q)

abbrev pub KeyEnds : ℕ → ℕ → Result ℕ Question → Type 0
KeyEnds caps at (Ok next) = kci caps ≡ true → next ≡ at + 1184
KeyEnds caps at (Err q) = Unit {0}

-- the card of these numbers: its runs stand at 5, at 38 and behind the name
abbrev pub card_from : List ℕ → CardAt → value.Card
card_from input n = record {
  caps = n.caps;
  beacon_day = n.beacon_day;
  beacon_key = take 32 (drop 5 input);
  name = take n.name_len (drop 38 input);
  static_ek = cond (kci n.caps) (some (take 1184 (drop (38 + n.name_len) input))) none;
}

-- the runs lie in the input
pub record Offsets (input : List ℕ) (n : CardAt) : Type 0 where
  pub name_len : n.name_len ≤ 48
  pub name : 38 + n.name_len ≤ length input
  pub static_ek : kci n.caps ≡ true → 38 + n.name_len + 1184 ≤ length input

abbrev pub Placed : List ℕ → Result CardAt Question → Type 0
Placed input (Ok n) = Offsets input n
Placed input (Err q) = Unit {0}

-- ---- decoding: 0 stands where the name length or KCI leaves something out
abbrev pub or_zeros : ℕ → Option (List ℕ) → List ℕ
or_zeros n none = zeros n
or_zeros n (some bs) = bs

abbrev pub card_of : value.Card → Card
card_of c = record {
  beacon_day = c.beacon_day;
  caps = c.caps;
  name_len = length c.name;
  beacon_key = c.beacon_key;
  name = c.name ++ zeros (48 - length c.name);
  static_ek = or_zeros 1184 c.static_ek;
}

abbrev pub zero_card : Card
zero_card = record { beacon_day = 0; caps = 0; name_len = 0; beacon_key = zeros 32; name = zeros 48; static_ek = zeros 1184 }

-- how long a card with these caps and a name of this length is, and whether it fits into so many bytes: one with too long a name fits nowhere
abbrev pub length_of : (caps name_len : ℕ) → ℕ
length_of caps n = 38 + n + cond (kci caps) 1184 0

abbrev pub card_fits : (caps name_len room : ℕ) → Bool
card_fits caps n room = name_short n && leb (length_of caps n) room

-- the card of these numbers; zeros where its runs do not lie in the input
abbrev pub card_at : List ℕ → CardAt → Card
card_at input n = cond (card_fits n.caps n.name_len (length input)) (card_of (card_from input n)) zero_card

-- ---- encoding: the value that a struct stands for, and the row that would be written
-- (a name length above 48 takes bytes that are not there; question 8 is then the answer, whatever they are)
abbrev pub value_of : Card → value.Card
value_of c = record {
  caps = c.caps;
  beacon_day = c.beacon_day;
  beacon_key = c.beacon_key;
  name = take c.name_len (c.name ++ zeros 207);
  static_ek = cond (kci c.caps) (some c.static_ek) none;
}

unfoldable pub image : Card → List ℕ
image c = print card_row (value_of c)

-- what is stored where there are so many bytes: nothing where the name is too long, or the row does not fit
abbrev pub storable : Card → (room : ℕ) → List ℕ
storable c room = cond (name_short c.name_len && leb (length (image c)) room) (image c) []

-- its part from the name's length on, where the name is not too long
unfoldable pub name_part : Card → List ℕ
name_part c = (c.name_len ∷ []) ++ (take c.name_len c.name ++ cond (kci c.caps) c.static_ek [])

-- what the struct's type says
pub record CardTyped (c : Card) : Type 0 where
  pub caps : c.caps < 256
  pub beacon_day : c.beacon_day < 4294967296
  pub beacon_key : length c.beacon_key ≡ 32
  pub name_len : c.name_len < 256
  pub name : length c.name ≡ 48
  pub static_ek : length c.static_ek ≡ 1184

-- where the name's length or KCI leaves something out, 0 stands in the struct
pub record LeftOutZero (c : Card) : Type 0 where
  pub name : drop c.name_len c.name ≡ zeros (48 - c.name_len)
  pub static_ek : kci c.caps ≡ false → c.static_ek ≡ zeros 1184

-- ---- what is proved of both (proofs/RoundTrip.antt)
-- `leaves (Ok n) left ≡ writes ..` is what `encode` ensures where it answers n and leaves the output as `left`; `made card_of (read_row ..)` is what `decode` answers
pub record CardLaws : Type 0 where
  -- encode, then decode: the same struct, with 0 for what the name's length and KCI leave out
  pub write_read : (c : Card) → CardTyped c → (out left : List ℕ) (n : ℕ) → leaves (Ok n) left ≡ writes card_row (image c) out
      → made card_of (read_row card_row (take n left)) ≡ accepted (card_of (value_of c))
  -- ... so wholly the same, where 0 stands there
  pub write_same : (c : Card) → CardTyped c → LeftOutZero c → (out left : List ℕ) (n : ℕ) → leaves (Ok n) left ≡ writes card_row (image c) out
      → made card_of (read_row card_row (take n left)) ≡ accepted c
  -- ... as it does after every decode
  pub read-zero : (input : List ℕ) → Bytes input → (read : Card) → accepted read ≡ made card_of (read_row card_row input) → LeftOutZero read
  -- decode, then encode: the same bytes
  pub read-write : (input : List ℕ) → Bytes input → (read : Card) → accepted read ≡ made card_of (read_row card_row input)
      → (out : List ℕ) → writes card_row (image read) out ≡ stored input out
  -- the same of the row that would be written, whether or not there is room for it
  pub read-image : (row : List ℕ) → Bytes row → (v : value.Card) → read_row card_row row ≡ accepted v → image (card_of v) ≡ row
  pub image-read : (c : Card) → CardTyped c → (v : value.Card) → read_row card_row (image c) ≡ accepted v → v ≡ value_of c
