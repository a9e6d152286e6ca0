-- What is looked for among entries: a contact's entry, and its queued ones.
-- Assumes nothing.
use Rattle.std.specs.Prelude.{ℕ, zero, suc, ◌+◌, ◌-◌, ◌/◌, List, Bool, true, false, cond, ◌&&◌, ◌||◌, length, get_or, eqb, ltb, Some, None}
use Rattle.std.specs.Prelude as code
use Rattle.std.proofs.Math.Option.{Option, none, some}
use Rattle.rows.specs.Checks.{any}
use Rattle.store.specs.declared.Entry.{Entry}
use Rattle.store.specs.Kinds.{QUEUED}
use Rattle.store.specs.Store.{is_of, contact_in}

-- an entry, or that there is none, in code
abbrev pub sought_of : Option Entry → code.Option Entry
sought_of none = None
sought_of (some e) = Some e

-- the contact's first entry
abbrev pub sought_in : List Entry → (contact : ℕ) → code.Option Entry
sought_in es k = sought_of (contact_in es k)

-- whether a queued entry of this contact has a msgno among these numbers
abbrev pub is_among : (contact : ℕ) → (numbers : List ℕ) → Entry → Bool
is_among k numbers e = is_of QUEUED k e && any (eqb e.msgno) numbers

abbrev pub queued_among : (contact : ℕ) → (numbers : List ℕ) → List Entry → Bool
queued_among k numbers = any (is_among k numbers)

-- what a search by halves finds of the numbers from low on and below high: it looks at the middle one, then in one half. The fuel is how often it may look
unfoldable pub found_in : (fuel : ℕ) → (numbers : List ℕ) → (msgno low high : ℕ) → Bool
found_in zero numbers m low high = false
found_in (suc fuel) numbers m low high =
    let mid = low + (high - low) / 2 in
    cond (ltb low high)
    (cond (eqb (get_or numbers mid 0) m) true
    (cond (ltb (get_or numbers mid 0) m) (found_in fuel numbers m (mid + 1) high) (found_in fuel numbers m low mid)))
    false

-- ... of all of them: once for each is often enough
abbrev pub is_found : (numbers : List ℕ) → (msgno : ℕ) → Bool
is_found numbers m = found_in (length numbers) numbers m 0 (length numbers)

-- whether a queued entry of this contact has a msgno that the search finds. Where the numbers rise this is `queued_among`: proofs/Laws.antt
abbrev pub is_queued_found : (contact : ℕ) → (numbers : List ℕ) → Entry → Bool
is_queued_found k numbers e = is_of QUEUED k e && is_found numbers e.msgno

abbrev pub queued_found : (contact : ℕ) → (numbers : List ℕ) → List Entry → Bool
queued_found k numbers = any (is_queued_found k numbers)

-- ---- on the way, with one entry more
abbrev pub queued_next : (contact : ℕ) → ℕ → Entry → ℕ
queued_next k n e = cond (is_of QUEUED k e) (n + 1) n

abbrev pub next_among : (contact : ℕ) → (numbers : List ℕ) → Bool → Entry → Bool
next_among k numbers b e = b || is_queued_found k numbers e
