-- The first entry that is looked for.
-- Assumes nothing.
use Rattle.std.specs.Prelude.{ℕ, zero, suc, List, Bool, cond, ◌&&◌, ◌||◌, not, eqb}
use Rattle.store.specs.declared.Entry.{Entry}
use Rattle.store.specs.Kinds.{QUEUED}
use Rattle.store.specs.Store.{entry_at, is_of}
use Rattle.store.specs.declared.Wanted.{Wanted}

-- of this kind, and this contact or slot; a queued one of this message too
abbrev pub is_wanted : Wanted → Entry → Bool
is_wanted w e = is_of w.kind w.id e && (not (eqb w.kind QUEUED) || eqb e.msgno w.msgno)

-- the first of n indices from the j-th on that p holds of, or the one behind them
abbrev pub first_where : (ℕ → Bool) → (j n : ℕ) → ℕ
first_where p j zero = j
first_where p j (suc n) = cond (p j) j (first_where p (suc j) n)

-- the first of n entries from the j-th on that is wanted, or the place behind them
abbrev pub first_of : List Entry → Wanted → (j n : ℕ) → ℕ
first_of es w = first_where (λ i. is_wanted w (entry_at es i))
