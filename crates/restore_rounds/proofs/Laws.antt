-- A round asks of an entry, and of the one before it, what it asks of the store at that index.
-- Assumes nothing.
use Prim.Native.Nat.{ℕ, zero, suc, ◌-◌}
use mathlib.Core.List.{List, [], ◌∷◌}
use mathlib.Core.Bool.{Bool}
use mathlib.Core.Path.{◌≡◌, refl, ap}
use native.Mathlib.Numerals.{unary_clauses}
use Rattle.layout.specs.Questions.{ORDER}
use Rattle.store.specs.declared.Entry.{Entry}
use Rattle.store.specs.Omitted.{Omitted}
use Rattle.store.specs.Rounds.{ask, first_no}
use Rattle.store.specs.Store.{entry_at, in_order}
use Rattle.restore_rounds.specs.declared.Round.{Round}
use Rattle.restore_rounds.specs.declared.Round.TheVariants.{Order, Bounds, Rows}
use Rattle.restore_rounds.specs.Rounds.{follows, round_of, round_asks}

follows_is : (es : List Entry) (i : ℕ) → follows i (entry_at es (i - 1)).kind (entry_at es i).kind ≡ in_order es i
follows_is es zero = refl
follows_is es (suc i) = simp unary_clauses refl

pub asks-is : (run : List ℕ) (es : List Entry) (omitted : Omitted) (round : Round) (i : ℕ) → round_asks run omitted (entry_at es (i - 1)) (entry_at es i) round i ≡ round_of round run es omitted i
asks-is run es omitted Order i = ap (λ (t : Bool). first_no (ask ORDER t ∷ [])) (follows_is es i)
asks-is run es omitted Bounds i = refl
asks-is run es omitted Rows i = refl
