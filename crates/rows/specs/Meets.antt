-- What the values of a row have to meet, as statements in which no question comes first: 7 to 9, 11, 13 to 15 and 17 to 24 of document 01, with 54 of document 02 before 17. They stand in the
-- order of the questions and have their numbers: hold them beside the documents. (3 is the version's; the others are asked of bytes, and the bytes of a printed value pass them.)
-- They are proved to be the questions that a layout asks one after the other, which code is held to (`MeetsLaws`, both directions). Assumes nothing.
use Rattle.std.specs.Prelude.{ℕ, suc, ◌+◌, ◌≤◌, ◌<◌, List, [], true, ◌&&◌, ◌↔◌, ◌≡◌, length, get_or}
use Rattle.std.proofs.Math.Option.{none}
use Rattle.std.proofs.Common.{inl, inr}
use Rattle.layout.specs.Layout.{refusal_of}
use Rattle.rows.specs.Utf8.{utf8}
use Rattle.rows.specs.Values.{Device, Card, Chain, Skipped, Range, Contact, Queued, Carried, Courier}
use Rattle.rows.specs.Checks.{sealed_queued, sealed_carried, few_chains, one_chain_at_most, gens_distinct, keys_distinct, few_skipped, acked_sent, rising, canonical, none_above}
use Rattle.rows.specs.Rows.{device, card_row, contact, queued, courier}
use Rattle.rows.specs.declared.Dir.TheVariants.{I}

-- ---- an item by its place; what stands past the end, no statement looks at
abbrev pub chain_at : List Chain → ℕ → Chain
chain_at chains i = get_or chains i (record { gen = 0; dir = I; next = 0; key = []; superseded_s = none })

abbrev pub skipped_at : List Skipped → ℕ → Skipped
skipped_at skipped i = get_or skipped i (record { gen = 0; dir = I; idx = 0; key = []; created_s = 0 })

abbrev pub msgno_at : List ℕ → ℕ → ℕ
msgno_at msgnos i = get_or msgnos i 0

abbrev pub range_at : List Range → ℕ → Range
range_at ranges i = get_or ranges i (record { from = 0; to = 0 })

-- ---- a card
pub record MeetsCard (c : Card) : Type 0 where
  -- 7. Caps bits 2 to 7 clear?
  pub caps : c.caps < 4
  -- 8. Name length at most 48?
  pub name_len : length c.name ≤ 48
  -- 9. Name UTF-8? (Scalars.antt: a concatenation of encodings of scalar values)
  pub name : utf8 c.name ≡ true

-- ---- a device
pub record MeetsDevice (d : Device) : Type 0 where
  -- 11. Copies 1 to 16 and lifetime 60 to 10,080?
  pub copies : (1 ≤ d.copies) × (d.copies ≤ 16)
  pub lifetime_min : (60 ≤ d.lifetime_min) × (d.lifetime_min ≤ 10080)

-- ---- a queued row
pub record MeetsQueued (q : Queued) : Type 0 where
  -- 13. Sealed length allowed?
  pub sealed : sealed_queued (length q.sealed) ≡ true

-- ---- a courier row; a tombstone is asked nothing
pub record MeetsCarried (c : Carried) : Type 0 where
  -- 13. Sealed length allowed?
  pub sealed : sealed_carried (length c.sealed) ≡ true
  -- 14. Carried copies not 0?
  pub copies : 1 ≤ c.copies
  -- 15. Carried expiry not 0?
  pub expiry_min : 1 ≤ c.expiry_min

abbrev pub MeetsCourier : Courier → Type 0
MeetsCourier (inl c) = MeetsCarried c
MeetsCourier (inr t) = Unit {0}

-- ---- a contact
-- 17. At most one chain not superseded?
abbrev pub OneChainAtMost : List Chain → Type 0
OneChainAtMost chains =
    (i j : ℕ) → i < j → j < length chains → (chain_at chains i).superseded_s ≡ none → (chain_at chains j).superseded_s ≡ none → ⊥

-- 18. Chain gens distinct?
abbrev pub GensDistinct : List Chain → Type 0
GensDistinct chains = (i j : ℕ) → i < j → j < length chains → (chain_at chains i).gen ≡ (chain_at chains j).gen → ⊥

-- 19. Skipped (gen, idx) distinct?
abbrev pub KeysDistinct : List Skipped → Type 0
KeysDistinct skipped =
    (i j : ℕ) → i < j → j < length skipped → (skipped_at skipped i).gen ≡ (skipped_at skipped j).gen → (skipped_at skipped i).idx ≡ (skipped_at skipped j).idx → ⊥

-- 22. Strictly rising, from lo to hi?
pub record Rising (lo hi : ℕ) (msgnos : List ℕ) : Type 0 where
  pub rises : (i : ℕ) → suc i < length msgnos → msgno_at msgnos i < msgno_at msgnos (suc i)
  pub from : (i : ℕ) → i < length msgnos → lo ≤ msgno_at msgnos i
  pub to : (i : ℕ) → i < length msgnos → msgno_at msgnos i ≤ hi

-- 23, 24. Canonical from f: each from is at most its to, the first from is at least f, each next at least the previous to + 2, in exact numbers
pub record Canonical (f : ℕ) (ranges : List Range) : Type 0 where
  pub each : (i : ℕ) → i < length ranges → (range_at ranges i).from ≤ (range_at ranges i).to
  pub first : 0 < length ranges → f ≤ (range_at ranges 0).from
  pub next : (i : ℕ) → suc i < length ranges → (range_at ranges i).to + 2 ≤ (range_at ranges (suc i)).from

-- 24. None above n?
abbrev pub NoneAbove : ℕ → List Range → Type 0
NoneAbove n ranges = (i : ℕ) → i < length ranges → (range_at ranges i).to ≤ n

pub record Consistent (c : Contact) : Type 0 where
  -- 54. At most eight chains?
  pub chains-count : length c.chains ≤ 8
  -- 17
  pub chains-current : OneChainAtMost c.chains
  -- 18
  pub chains-gens : GensDistinct c.chains
  -- 19
  pub skipped-keys : KeysDistinct c.skipped
  -- 20. At most 500 skipped?
  pub skipped-count : length c.skipped ≤ 500
  -- 21. peer_acked at most sent_msgno?
  pub peer-acked : c.peer_acked ≤ c.sent_msgno
  -- 22. unacked strictly rising, from 1 to sent_msgno?
  pub unacked : Rising 1 c.sent_msgno c.unacked
  -- 23. `above` canonical from contiguous + 2?
  pub above : Canonical (c.contiguous + 2) c.above
  -- 24. expired canonical from 1, none above sent_msgno?
  pub expired : Canonical 1 c.expired × NoneAbove c.sent_msgno c.expired

pub record MeetsContact (c : Contact) : Type 0 where
  pub card : MeetsCard c.card
  pub consistent : Consistent c

-- ---- what is proved of them (proofs/Meets.antt)
pub record MeetsLaws : Type 0 where
  -- each statement is the question of Checks.antt that has its number
  -- 54
  pub chains-count : (chains : List Chain) → (few_chains chains ≡ true) ↔ (length chains ≤ 8)
  -- 17
  pub chains-current : (chains : List Chain) → (one_chain_at_most chains ≡ true) ↔ OneChainAtMost chains
  -- 18
  pub chains-gens : (chains : List Chain) → (gens_distinct chains ≡ true) ↔ GensDistinct chains
  -- 19
  pub skipped-keys : (skipped : List Skipped) → (keys_distinct skipped ≡ true) ↔ KeysDistinct skipped
  -- 20
  pub skipped-count : (skipped : List Skipped) → (few_skipped skipped ≡ true) ↔ (length skipped ≤ 500)
  -- 21
  pub peer-acked : (acked sent : ℕ) → (acked_sent acked sent ≡ true) ↔ (acked ≤ sent)
  -- 22
  pub unacked : (lo hi : ℕ) (msgnos : List ℕ) → (rising lo hi msgnos ≡ true) ↔ Rising lo hi msgnos
  -- 23
  pub above : (f : ℕ) (ranges : List Range) → (canonical f ranges ≡ true) ↔ Canonical f ranges
  -- 24
  pub expired : (n : ℕ) (ranges : List Range) → (canonical 1 ranges && none_above n ranges ≡ true) ↔ (Canonical 1 ranges × NoneAbove n ranges)
  -- and a row's layout refuses a value exactly if its version is not 3 or it does not meet them all
  pub device : (version : ℕ) (d : Device) → (refusal_of (device version) d ≡ none) ↔ ((version ≡ 3) × MeetsDevice d)
  pub card : (c : Card) → (refusal_of card_row c ≡ none) ↔ MeetsCard c
  pub contact : (version : ℕ) (c : Contact) → (refusal_of (contact version) c ≡ none) ↔ ((version ≡ 3) × MeetsContact c)
  pub queued : (version : ℕ) (q : Queued) → (refusal_of (queued version) q ≡ none) ↔ ((version ≡ 3) × MeetsQueued q)
  pub courier : (version : ℕ) (h : Courier) → (refusal_of (courier version) h ≡ none) ↔ ((version ≡ 3) × MeetsCourier h)
