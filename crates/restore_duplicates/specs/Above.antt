-- Keys, and whether an entry's is above that of the one before it: by the kind, the contact or slot, and the message of a queued row.
-- Assumes nothing.
use Rattle.std.specs.Prelude.{ℕ, ◌-◌, Bool, true, false, cond, not, List, ◌==◌, nat_lt}
use Rattle.store.specs.declared.Entry.{Entry}
use Rattle.store.specs.Kinds.{QUEUED}
use Rattle.store.specs.Store.{entry_at}

-- a queued row's message; a row of another kind has none
abbrev pub msgno_of : Entry → ℕ
msgno_of e = cond (e.kind == QUEUED) e.msgno 0

abbrev pub is_above : (b e : Entry) → Bool
is_above b e =
    cond (nat_lt b.kind e.kind) true
    (cond (b.kind == e.kind) (cond (nat_lt b.id e.id) true (cond (b.id == e.id) (nat_lt (msgno_of b) (msgno_of e)) false)) false)

-- the i-th, e, is not above the one before it, b; the first has none before it
abbrev pub stops : (b e : Entry) → ℕ → Bool
stops b e i = cond (i == 0) false (not (is_above b e))

abbrev pub is_stop_at : List Entry → ℕ → Bool
is_stop_at es i = stops (entry_at es (i - 1)) (entry_at es i) i
