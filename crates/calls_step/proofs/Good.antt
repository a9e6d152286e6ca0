-- What is to be shown of one call: it agrees with the ledger, and leaves what the ledger's next state says. Refusals, and restore.
-- Assumes nothing.
use Prim.Native.Nat.{ℕ}
use mathlib.Core.List.{List, ◌++◌}
use mathlib.Core.Bool.{Bool, true, false}
use mathlib.Core.Path.{◌≡◌, refl, sym, ap}
use lib.ListN.{length, drop}
use Rattle.layout.specs.RowLaws.{Bytes}
use Rattle.store.specs.declared.Entry.{Entry}
use Rattle.store.specs.Rounds.{Asked}
use Rattle.store.specs.Rounds as asks
use Rattle.store.specs.Store as store
use Rattle.store.specs.Store.{store_of, asked, found, outcome}
use Rattle.ledger.specs.Call.{Answer, is_granted, refused, refused_at}
use Rattle.calls_step.specs.Input.{Input, Left, leaves, no}
use Rattle.calls_step.specs.Step.{restoring}
use Rattle.ledger.specs.Ledger.{Ledger, nothing, restored, opened, Account, plain, refuse, restores}
use Rattle.calls_step.specs.Agree.{standing, shown}
use Rattle.calls_step.specs.Stands.{SoundLedger, StandsFor, LastLeft}

module _ (N : ℕ) where
  abbrev pub after : Account → Input → Input
  after a h = standing N a.state a.freed (a.output ++ drop (length a.output) h.out) h

  -- the output then: what is written, and behind it what stood there
  pub shown-out : (a : Account) (h : Input) → (shown N a h).after.out ≡ a.output ++ drop (length a.output) h.out
  shown-out a h = go a.state
    where
      go : (l : Ledger) → (standing N l a.freed (a.output ++ drop (length a.output) h.out) h).out ≡ a.output ++ drop (length a.output) h.out
      go nothing = refl
      go (restored run es) = refl
      go (opened run es o) = refl

  -- granted: the state is sound, and what is left is its. Refused: the state stays
  abbrev pub Next : Bool → Ledger → Input → Account → Type 0
  Next true l h a = SoundLedger N a.state × LastLeft N a.state (after a h)
  Next false l h a = a.state ≡ l

  pub record Good (l : Ledger) (h : Input) (s : Left) (a : Account) : Type 0 where
    pub agrees : s ≡ shown N a h
    pub next : Next (is_granted a.answer) l h a

  module _ (l : Ledger) (h : Input) (stands : StandsFor N l h) where
    -- the state, and all that is handed in, stay
    stays : (a : Answer) → leaves a h ≡ shown N (plain a l) h
    stays a = ap (leaves a) (sym stands.stands)

    pub refuse-good : (q : ℕ) → Good l h (no q h) (refuse q l)
    refuse-good q = record { agrees = stays (refused q); next = refl }

    pub restore-good : (run : List ℕ) (es : List Entry) → Bytes run
        → Good l h (restoring run es h (store.restore (store_of run es))) (restores run es l (store.restore (store_of run es)))
    restore-good run es by = go (asked (store_of run es)) refl
      where
        go : (x : Asked) → asked (store_of run es) ≡ x → Good l h (restoring run es h (outcome x (found (store_of run es)))) (restores run es l (outcome x (found (store_of run es))))
        go asks.Going e = record { agrees = refl; next = (record { bytes = by; going = e }, (refl, record { run = refl; entries = refl })) }
        go (asks.Refused q i) e = record { agrees = stays (refused_at q i); next = refl }
