-- The same call on ledgers that are alike: the accounts are alike.
-- Assumes nothing.
use Prim.Native.Nat.{ℕ, ◌+◌, ◌^◌}
use mathlib.Core.List.{List}
use mathlib.Core.Path.{◌≡◌, refl, sym, subst}
use native.Mathlib.Omega.{arith}
use Rattle.rows.specs.Values.{Contact}
use Rattle.store.specs.declared.Entry.{Entry}
use Rattle.store.specs.Veiled.{VeilEqual, ContactAlike}
use Rattle.ledger.specs.Call.{Call, restore, opens, cover, contains, covers, take, statement, write, Lent}
use Rattle.numbers.specs.Ranges.{is_range}
use Rattle.ledger.specs.Ledger.{Open, Ledger, nothing, restored, opened, current, ledger}
use Rattle.ledger.specs.Ledger as ledgers
use Rattle.calls_step.specs.Two.{CallsAlike, stores, same, OpenAlike, LedgersAlike, nothings, restoreds, openeds}
use Rattle.calls_step.proofs.Accounts.{AccountsAlike, plain-alike, cond-alike}
use Rattle.calls_step.specs.Stands.{Sound, SoundLedger}
use Rattle.calls_step.proofs.AlikeStores.{veil-same, restore-alike, open-alike}
use Rattle.calls_step.proofs.AlikeCalls.{other, stay, asked-alike, cover-alike, take-alike, statement-alike, write-alike}

module _ (N : ℕ) (wide : N + 1 ≡ 256 ^ 4) where
  abbrev Accounts : Call → Lent → Ledger → Ledger → Type 0
  Accounts c lent l l' = AccountsAlike N (ledger N c lent l) (ledger N c lent l')

  -- ---- the same call, on states that are alike
  on-nothing : (c : Call) (lent : Lent) → Accounts c lent nothing nothing
  unfolding ledgers.ledger
  on-nothing (restore run es) lent = restore-alike N run run es (veil-same run es) nothings
  on-nothing (opens k) lent = plain-alike N refl refl nothings
  on-nothing (cover f t) lent = plain-alike N refl refl nothings
  on-nothing (contains m) lent = plain-alike N refl refl nothings
  on-nothing (covers f t) lent = plain-alike N refl refl nothings
  on-nothing take lent = plain-alike N refl refl nothings
  on-nothing statement lent = plain-alike N refl refl nothings
  on-nothing write lent = plain-alike N refl refl nothings

  module _ (run run' : List ℕ) (es : List Entry) (v : VeilEqual run run' es) where
    on-restored : SoundLedger N (restored run es) → SoundLedger N (restored run' es) → (c : Call) (lent : Lent) → Accounts c lent (restored run es) (restored run' es)
    unfolding ledgers.ledger
    on-restored s s' (restore run₁ es₁) lent = restore-alike N run₁ run₁ es₁ (veil-same run₁ es₁) (restoreds run run' es v)
    on-restored s s' (opens k) lent = open-alike N (omega arith) run run' es v s s' k lent (restoreds run run' es v)
    on-restored s s' (cover f t) lent = plain-alike N refl refl (restoreds run run' es v)
    on-restored s s' (contains m) lent = plain-alike N refl refl (restoreds run run' es v)
    on-restored s s' (covers f t) lent = plain-alike N refl refl (restoreds run run' es v)
    on-restored s s' take lent = plain-alike N refl refl (restoreds run run' es v)
    on-restored s s' statement lent = plain-alike N refl refl (restoreds run run' es v)
    on-restored s s' write lent = plain-alike N refl refl (restoreds run run' es v)

    on-other : (o : Open) (fields : Contact) → Sound N run es o → Sound N run' es (other o fields) → ContactAlike (current N o) (current N (other o fields))
        → (c : Call) (lent : Lent) → Accounts c lent (opened run es o) (opened run' es (other o fields))
    unfolding ledgers.ledger
    on-other o fields s s' a (restore run₁ es₁) lent = restore-alike N run₁ run₁ es₁ (veil-same run₁ es₁) (stay N run run' es v o fields s s' a lent)
    on-other o fields s s' a (opens k) lent = open-alike N (omega arith) run run' es v s.store s'.store k lent (stay N run run' es v o fields s s' a lent)
    on-other o fields s s' a (cover f t) lent =
        asked-alike N run run' es v o fields s s' a lent
        (cond-alike N (is_range f t) (cover-alike N run run' es v o fields s s' a lent f t) (plain-alike N refl refl (stay N run run' es v o fields s s' a lent)))
    on-other o fields s s' a (contains m) lent = asked-alike N run run' es v o fields s s' a lent (plain-alike N refl refl (stay N run run' es v o fields s s' a lent))
    on-other o fields s s' a (covers f t) lent =
        asked-alike N run run' es v o fields s s' a lent
        (cond-alike N (is_range f t) (plain-alike N refl refl (stay N run run' es v o fields s s' a lent)) (plain-alike N refl refl (stay N run run' es v o fields s s' a lent)))
    on-other o fields s s' a take lent = asked-alike N run run' es v o fields s s' a lent (take-alike N run run' es v o fields s s' a lent)
    on-other o fields s s' a statement lent = asked-alike N run run' es v o fields s s' a lent (statement-alike N run run' es v o fields s s' a lent)
    on-other o fields s s' a write lent = asked-alike N run run' es v o fields s s' a lent (write-alike N run run' es v o fields s s' a lent)

    on-opened : (o o' : Open) → OpenAlike N o o' → Sound N run es o → Sound N run' es o' → (c : Call) (lent : Lent) → Accounts c lent (opened run es o) (opened run' es o')
    on-opened o o' a s s' c lent =
        let e : o' ≡ other o o'.fields = λ i. record { id = sym a.id i; fields = o'.fields; n = sym a.n i; S = sym a.S i } in
        subst (λ (x : Open). Accounts c lent (opened run es o) (opened run' es x)) (sym e)
        (on-other o o'.fields s (subst (λ (x : Open). Sound N run' es x) e s') (subst (λ (x : Open). ContactAlike (current N o) (current N x)) e a.fields) c lent)

  same_alike : (c : Call) (lent : Lent) (l l' : Ledger) → LedgersAlike N l l' → SoundLedger N l → SoundLedger N l' → Accounts c lent l l'
  same_alike c lent l l' nothings s s' = on-nothing c lent
  same_alike c lent l l' (restoreds run run' es v) s s' = on-restored run run' es v s s' c lent
  same_alike c lent l l' (openeds run run' es o o' v a) s s' = on-opened run run' es v o o' a s s' c lent

  pub ledger-alike : (c c' : Call) → CallsAlike c c' → (lent : Lent) (l l' : Ledger) → LedgersAlike N l l' → SoundLedger N l → SoundLedger N l'
      → AccountsAlike N (ledger N c lent l) (ledger N c' lent l')
  unfolding ledgers.ledger
  ledger-alike c c' (stores run run' es v) lent l l' a s s' = restore-alike N run run' es v a
  ledger-alike c c' (same c'') lent l l' a s s' = same_alike c lent l l' a s s'
