-- What stands after the turns of the entries below the i-th: the answers are those of document 01's rounds, and what is kept is so.
-- Assumes nothing.
use Rattle.std.specs.Prelude.{ℕ, ◌<◌, List, [], ◌∷◌, ◌≡◌, length}
use Rattle.store.specs.declared.Entry.{Entry}
use Rattle.store.specs.Omitted.{Omitted, is_omitted, omitted_seen, read_omitted, seen_omitted, across_omitted}
use Rattle.store.specs.Rounds.{Asked, turns, rounds}
use Rattle.store.specs.Rounds as so
use Rattle.store.specs.Kinds.{CONTACT, Seen}
use Rattle.store.specs.Store.{entry_at, part_of, store_of, next_in, slots_below, order, bounds, begun}
use Rattle.restore_across.specs.declared.Progress.{Progress}
use Rattle.restore_across.specs.Across.{Across, Going, Refused}
use Rattle.restore_across.specs.Owner.{owner_seen, OwnerStands}

-- how the rounds before have ended
abbrev pub read_so : (run : List ℕ) → List Entry → Omitted → Asked
read_so run es omitted = let s = store_of run es in rounds (order s ∷ bounds s ∷ read_omitted run es (is_omitted omitted) ∷ []) (length es) (begun s)

-- what is seen of an entry
abbrev pub sight : (run : List ℕ) → List Entry → Omitted → Entry → Seen
sight run es omitted = seen_omitted run es (is_omitted omitted) (omitted_seen omitted)

abbrev pub asked_of : Across → Asked
asked_of (Going w) = so.Going
asked_of (Refused number place) = so.Refused number place

pub record Kept (run : List ℕ) (es : List Entry) (omitted : Omitted) (i : ℕ) (w : Progress) : Type 0 where
  pub next : 0 < i → w.next_contact ≡ next_in (sight run es omitted) es
  pub slots : w.slots ≡ slots_below es i
  pub owner : (entry_at es w.latest).kind ≡ CONTACT → OwnerStands (owner_seen run omitted (entry_at es w.latest)) (part_of run (entry_at es w.latest)) w.owner

abbrev pub KeptIn : (run : List ℕ) → List Entry → Omitted → (i : ℕ) → Across → Type 0
KeptIn run es omitted i (Going w) = Kept run es omitted i w
KeptIn run es omitted i (Refused number place) = Unit {0}

pub record At (run : List ℕ) (es : List Entry) (omitted : Omitted) (i : ℕ) (state : Across) : Type 0 where
  pub asked : asked_of state ≡ turns (across_omitted run es (is_omitted omitted) (omitted_seen omitted)) 0 i (read_so run es omitted)
  pub so-kept : KeptIn run es omitted i state
