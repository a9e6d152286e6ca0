-- The rounds that ask each entry by itself: one turn more.
-- Assumes nothing.
use Rattle.std.proofs.Common.{◌≡◌, ℕ, suc, ◌+◌, ◌-◌, ◌<◌, List, refl, sym, ap, ◌∙◌, arith, add-one}
use Rattle.store.specs.declared.Entry.{Entry}
use Rattle.store.specs.Omitted.{Omitted}
use Rattle.store.specs.Rounds as so
use Rattle.store.specs.Rounds.{Asked, Going, Refused, turn, turns}
use Rattle.store.proofs.Rounds.{turns-refused}
use Rattle.restore_rounds.specs.declared.Round.{Round}
use Rattle.store.specs.Store.{entry_at}
use Rattle.restore_rounds.specs.Rounds.{round_of, round_asks}
use Rattle.restore_rounds.proofs.Laws.{asks-is}

-- what is asked of the entry is what the round asks
pub turn_is : (run : List ℕ) (es : List Entry) (omitted : Omitted) (round : Round) (i j : ℕ) {r : Asked} → j ≡ i - 1
    → r ≡ turn (round_asks run omitted (entry_at es j) (entry_at es i) round i) i Going → r ≡ turn (round_of round run es omitted i) i Going
turn_is run es omitted round i j is-j is-r =
    is-r ∙ ap (λ o. turn o i Going) (ap (λ m. round_asks run omitted (entry_at es m) (entry_at es i) round i) is-j ∙ asks-is run es omitted round i)

-- what is left of the round makes of the i-th answer what, with the i-th turn, it makes of the one before
pub goes_on : (round : so.Round) (upto i : ℕ) (a : Asked) {next : Asked} → i < upto → next ≡ turn (round i) i a → turns round (i + 1) (upto - (i + 1)) next ≡ turns round i (upto - i) a
goes_on round upto i a l e = let left : upto - i ≡ suc (upto - (i + 1)) = omega arith in rw (e, left, add-one) refl

-- a refusal is the round's
pub ends_with : (round : so.Round) (upto i : ℕ) {q p : ℕ} → i < upto → Refused q p ≡ turn (round i) i Going → Refused q p ≡ turns round i (upto - i) Going
ends_with round upto i {q} {p} l e = sym (turns-refused round (i + 1) (upto - (i + 1)) q p) ∙ goes_on round upto i Going l e
