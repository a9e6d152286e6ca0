-- Contact rows at the edges of questions 4 to 10, 54 and 17 to 24, and the bytes that they veil: what the definitions answer. By computation.
-- Assumes nothing.
use Prim.Native.Nat.{ℕ, zero, suc}
use mathlib.Core.List.{List, [], ◌∷◌, ◌++◌}
use mathlib.Core.Option.{Option, none, some}
use mathlib.Core.Path.{◌≡◌, refl}
use lib.ListN.{replicate, take}
use Rattle.layout.specs.Questions.{ABOVE, CAPS, CODE, EXPIRED, FIELD, FLAG, UNACKED, CARD_END, CHAINS_COUNT, CHAINS_CURRENT, CHAINS_GENS, NAME_LENGTH, PEER_ACKED, ROW_END, SKIPPED_KEYS}
use Rattle.layout.specs.Veil.{zeros, veil}
use Rattle.layout.specs.Form as form
use Rattle.layout.specs.Form.{bytes_of}
use Rattle.layout.specs.Layout.{accepted, refused_by, read_row, print, hidden_row, mask_of}
use Rattle.layout.specs.Layout as layout
use Rattle.rows.specs.Utf8 as utf
use Rattle.rows.specs.Values.{Contact, Chain, Skipped, Range, Card}
use Rattle.rows.specs.Rows.{contact}
use Rattle.rows.specs.declared.PairingRole.TheVariants.{A}
use Rattle.rows.specs.declared.Verification.TheVariants.{Verified}
use Rattle.rows.specs.declared.Dir.{Dir}
use Rattle.rows.specs.declared.Dir.TheVariants.{I, R}

abbrev key : ℕ → List ℕ
key n = replicate 32 n

abbrev a_card : Card
a_card = record { caps = 1; beacon_day = 7; beacon_key = key 4; name = []; static_ek = none }

-- sent, chains, skipped, acked, contiguous, above, unacked, expired
row_of : ℕ → List Chain → List Skipped → ℕ → ℕ → List Range → List ℕ → List Range → List ℕ
row_of sent chains skipped acked cont above unacked expired = print (contact 3) (record {
  role = A;
  verification = Verified;
  pair_id = replicate 16 1;
  th = replicate 48 2;
  nonce_b = replicate 16 3;
  card = a_card;
  door_a_to_b = key 5;
  door_b_to_a = key 6;
  route_key = key 7;
  resume_index = 9;
  chain_key = key 8;
  sent_msgno = sent;
  pending = none;
  send = none;
  chains = chains;
  skipped = skipped;
  peer_acked = acked;
  peer_read = 99;
  read_marked = 99;
  contiguous = cont;
  above = above;
  unacked = unacked;
  expired = expired;
})

-- the question that refused, or none
abbrev answered : List ℕ → Option ℕ
answered row = go (read_row (contact 3) row)
  where
    go : layout.Answer Contact → Option ℕ
    go (accepted v) = none
    go (refused_by n) = some n

abbrev a_chain : ℕ → Dir → Option ℕ → Chain
a_chain g d s = record { gen = g; dir = d; next = 0; key = key 1; superseded_s = s }

abbrev a_key : ℕ → Dir → ℕ → Skipped
a_key g d i = record { gen = g; dir = d; idx = i; key = key 1; created_s = 0 }

abbrev a_range : ℕ → ℕ → Range
a_range a b = record { from = a; to = b }

plain-yes : answered (row_of 3 [] [] 3 2 [] [] []) ≡ none
unfolding row_of layout.parse layout.print form.big_endian form.bytes_of form.read_many form.print_many utf.completes utf.following
plain-yes = refl

consistent :
    (answered (row_of 3 (a_chain 1 I none ∷ a_chain 1 I none ∷ []) [] 9 2 [] [] []) ≡ some CHAINS_CURRENT)
    × (answered (row_of 3 (a_chain 1 I none ∷ a_chain 1 R (some 1) ∷ []) [] 9 2 [] [] []) ≡ some CHAINS_GENS)
    × (answered (row_of 3 (a_chain 1 I none ∷ a_chain 2 R (some 1) ∷ []) (a_key 1 I 5 ∷ a_key 1 R 5 ∷ []) 9 2 [] [] []) ≡ some SKIPPED_KEYS)
    × (answered (row_of 3 [] (a_key 1 I 5 ∷ a_key 2 I 5 ∷ []) 4 2 [] [] []) ≡ some PEER_ACKED)
    × (answered (row_of 3 [] [] 3 2 [] (0 ∷ []) []) ≡ some UNACKED)
    × (answered (row_of 3 [] [] 3 2 [] (3 ∷ 3 ∷ []) []) ≡ some UNACKED)
    × (answered (row_of 3 [] [] 3 2 [] (4 ∷ []) []) ≡ some UNACKED)
    × (answered (row_of 3 [] [] 3 2 [] (1 ∷ 3 ∷ []) []) ≡ none)
    × (answered (row_of 0 [] [] 0 2 [] [] []) ≡ none)
    × (answered (row_of 3 [] [] 3 4294967294 (a_range 4294967295 4294967295 ∷ []) [] []) ≡ some ABOVE)
    × (answered (row_of 3 [] [] 3 2 (a_range 3 3 ∷ []) [] []) ≡ some ABOVE)
    × (answered (row_of 3 [] [] 3 2 (a_range 4 4 ∷ a_range 6 9 ∷ []) [] []) ≡ none)
    × (answered (row_of 3 [] [] 3 2 (a_range 4 4 ∷ a_range 5 9 ∷ []) [] []) ≡ some ABOVE)
    × (answered (row_of 3 [] [] 3 2 (a_range 5 4 ∷ []) [] []) ≡ some ABOVE)
    × (answered (row_of 3 [] [] 3 2 (a_range 4 4294967295 ∷ a_range 6 9 ∷ []) [] []) ≡ some ABOVE)
    × (answered (row_of 3 [] [] 3 2 [] [] (a_range 1 1 ∷ a_range 2 2 ∷ [])) ≡ some EXPIRED)
    × (answered (row_of 3 [] [] 3 2 [] [] (a_range 0 1 ∷ [])) ≡ some EXPIRED)
    × (answered (row_of 3 [] [] 3 2 [] [] (a_range 1 1 ∷ a_range 3 4 ∷ [])) ≡ some EXPIRED)
    × (answered (row_of 3 [] [] 3 2 [] [] (a_range 1 1 ∷ a_range 3 3 ∷ [])) ≡ none)
unfolding row_of layout.parse layout.print form.big_endian form.bytes_of form.read_many form.print_many utf.completes utf.following
consistent = (refl, refl, refl, refl, refl, refl, refl, refl, refl, refl, refl, refl, refl, refl, refl, refl, refl, refl, refl)

-- 54, by the row alone: n superseded chains, and then others
abbrev superseded : ℕ → List Chain → List Chain
superseded zero chains = chains
superseded (suc n) chains = a_chain n I (some 1) ∷ superseded n chains

chains_row : List Chain → List ℕ
chains_row chains = row_of 3 chains [] 3 2 [] [] []

eight-chains :
    (answered (chains_row (superseded 8 [])) ≡ none)
    × (answered (chains_row (superseded 7 (a_chain 255 R none ∷ []))) ≡ none)
    × (answered (chains_row (superseded 9 [])) ≡ some CHAINS_COUNT)
    × (answered (chains_row (superseded 8 (a_chain 255 R none ∷ []))) ≡ some CHAINS_COUNT)
    -- before 17, and so before 18 to 24; eight such chains are 17 and 18
    × (answered (chains_row (superseded 7 (a_chain 254 I none ∷ a_chain 255 R none ∷ []))) ≡ some CHAINS_COUNT)
    × (answered (chains_row (superseded 6 (a_chain 254 I none ∷ a_chain 255 R none ∷ []))) ≡ some CHAINS_CURRENT)
    × (answered (chains_row (superseded 8 (superseded 1 []))) ≡ some CHAINS_COUNT)
    × (answered (chains_row (superseded 7 (superseded 1 []))) ≡ some CHAINS_GENS)
    -- after 4 and 16: nine chains in a row that is a byte short, or has one over
    × (answered (take 749 (chains_row (superseded 9 []))) ≡ some FIELD)
    × (answered (chains_row (superseded 9 []) ++ 0 ∷ []) ≡ some ROW_END)
unfolding chains_row row_of layout.parse layout.print form.big_endian form.bytes_of form.read_many form.print_many utf.completes utf.following
eight-chains = (refl, refl, refl, refl, refl, refl, refl, refl, refl, refl)

-- ---- cards within the row
abbrev front : List ℕ
front = 0 ∷ 3 ∷ 1 ∷ replicate 80 9

card-in :
    (answered (front ++ 0 ∷ 1 ∷ 0 ∷ zeros 500) ≡ some FIELD)
    × (answered (front ++ 0 ∷ 0 ∷ zeros 500) ≡ some FIELD)
    × (answered (front ++ 0 ∷ 3 ∷ 4 ∷ 0 ∷ []) ≡ some FIELD)
    × (answered (front ++ 0 ∷ 2 ∷ 4 ∷ 0 ∷ []) ≡ some CAPS)
    × (answered (front ++ 0 ∷ 39 ∷ zeros 39) ≡ some CARD_END)
    × (answered (front ++ 0 ∷ 38 ∷ zeros 38) ≡ some FIELD)
    × (answered (front ++ 0 ∷ 39 ∷ zeros 37 ++ 2 ∷ 65 ∷ 66 ∷ zeros 300) ≡ some FIELD)
    × (answered (front ++ 0 ∷ 38 ∷ zeros 37 ++ 49 ∷ []) ≡ some NAME_LENGTH)
unfolding layout.parse form.big_endian form.read_many utf.completes utf.following
card-in = (refl, refl, refl, refl, refl, refl, refl, refl)

-- masks: a card refused in its middle, the key veiled at its place in the row
card-masks :
    (hidden_row (contact 3) veil (front ++ 0 ∷ 39 ∷ 0 ∷ replicate 36 7 ++ 2 ∷ 65 ∷ replicate 50 7) ≡ front ++ 0 ∷ 39 ∷ 0 ∷ replicate 4 7 ++ (zeros 32 ++ 2 ∷ 65 ∷ replicate 50 7))
    × (hidden_row (contact 3) veil (front ++ 0 ∷ 40 ∷ 0 ∷ replicate 36 7 ++ 1 ∷ 65 ∷ 66 ∷ replicate 50 7) ≡ front ++ 0 ∷ 40 ∷ 0 ∷ replicate 4 7 ++ (zeros 32 ++ 1 ∷ 65 ∷ 66 ∷ replicate 50 7))
    × (hidden_row (contact 3) veil (front ++ 0 ∷ 39 ∷ 0 ∷ replicate 36 7 ++ 1 ∷ 65 ∷ []) ≡ front ++ 0 ∷ 39 ∷ 0 ∷ replicate 4 7 ++ (zeros 32 ++ 1 ∷ 65 ∷ []))
    × (hidden_row (contact 3) veil (front ++ 0 ∷ 39 ∷ 0 ∷ replicate 36 7 ++ 1 ∷ []) ≡ front ++ 0 ∷ 39 ∷ 0 ∷ replicate 36 7 ++ 1 ∷ [])
    × (hidden_row (contact 3) veil (front ++ 0 ∷ 36 ∷ 0 ∷ replicate 36 7) ≡ front ++ 0 ∷ 36 ∷ 0 ∷ replicate 36 7)
    × (hidden_row (contact 3) veil (front ++ 0 ∷ 37 ∷ 0 ∷ replicate 36 7) ≡ front ++ 0 ∷ 37 ∷ 0 ∷ replicate 4 7 ++ zeros 32)
    × (hidden_row (contact 3) veil (front ++ 0 ∷ 38 ∷ 0 ∷ replicate 36 7 ++ 0 ∷ replicate 64 7) ≡ front ++ 0 ∷ 38 ∷ 0 ∷ replicate 4 7 ++ (zeros 32 ++ 0 ∷ zeros 64))
    × (hidden_row (contact 3) veil (front ++ 0 ∷ 38 ∷ 0 ∷ replicate 36 7 ++ 0 ∷ replicate 95 7) ≡ front ++ 0 ∷ 38 ∷ 0 ∷ replicate 4 7 ++ (zeros 32 ++ 0 ∷ zeros 64 ++ replicate 31 7))
unfolding layout.parse layout.mask_of form.big_endian form.read_many form.mask_many utf.completes utf.following
card-masks = (refl, refl, refl, refl, refl, refl, refl, refl)

-- counts: 65,535 with one item present
abbrev upto : List ℕ
upto = front ++ 0 ∷ 38 ∷ 0 ∷ replicate 36 7 ++ 0 ∷ replicate 96 7 ++ (zeros 8 ++ replicate 32 7 ++ zeros 4 ++ 0 ∷ 0 ∷ [])

counts :
    (answered (upto ++ 255 ∷ 255 ∷ 1 ∷ 0x49 ∷ zeros 8 ++ replicate 32 7 ++ 2 ∷ []) ≡ some FLAG)
    × (answered (upto ++ 255 ∷ 255 ∷ 1 ∷ 0x48 ∷ []) ≡ some CODE)
    × (answered (upto ++ 255 ∷ 255 ∷ 1 ∷ 0x49 ∷ zeros 8 ++ replicate 32 7 ++ 0 ∷ []) ≡ some FIELD)
    × (answered (upto ++ 255 ∷ []) ≡ some FIELD)
unfolding layout.parse form.big_endian form.read_many utf.completes utf.following
counts = (refl, refl, refl, refl)

-- a veiled key in the second chain, cut in its flag
chain-masks :
    hidden_row (contact 3) veil (upto ++ 0 ∷ 2 ∷ 1 ∷ 0x49 ∷ zeros 8 ++ replicate 32 7 ++ 1 ∷ replicate 8 5 ++ 2 ∷ 0x52 ∷ replicate 8 5 ++ replicate 32 7)
    ≡ front ++ 0 ∷ 38 ∷ 0 ∷ replicate 4 7 ++ (zeros 32 ++ 0 ∷ zeros 96 ++ (zeros 8 ++ zeros 32 ++ zeros 4 ++ 0 ∷ 0 ∷ [])) ++ 0 ∷ 2 ∷ 1 ∷ 0x49 ∷ zeros 8 ++ zeros 32 ++ 1 ∷ replicate 8 5 ++ 2 ∷ 0x52 ∷ replicate 8 5 ++ zeros 32
unfolding layout.parse layout.mask_of form.big_endian form.read_many form.mask_many utf.completes utf.following
chain-masks = refl
