-- restore and open of stores that differ only in veiled bytes: the ledgers' accounts are alike.
-- Assumes nothing.
use Prim.Native.Nat.{ℕ, ◌+◌, ◌^◌, ◌≤◌}
use mathlib.Core.List.{List}
use mathlib.Core.Bool.{Bool, cond}
use mathlib.Core.Option.{Option, none, some}
use mathlib.Core.Path.{◌≡◌, refl, sym, ap, subst, subst₂}
use Rattle.layout.specs.Questions.{LISTS}
use Rattle.layout.specs.Veil.{veil, Outside}
use Rattle.layout.specs.Layout.{Answer, accepted, refused_by, read_row, veiled_bytes}
use Rattle.layout.specs.RowLaws.{Alike}
use Rattle.rows.specs.Values.{Contact}
use Rattle.rows.specs.Rows.{contact}
use Rattle.rows.proofs.Proved.{proved}
use Rattle.store.specs.declared.Entry.{Entry}
use Rattle.store.specs.Kinds.{CONTACT, kind_of, layout_of}
use Rattle.store.specs.Store as store
use Rattle.store.specs.Store.{store_of, part_of, Outcome, contact_in}
use Rattle.store.specs.Veiled.{VeilEqual, ContactAlike, OutcomesAlike, veiled_in}
use Rattle.store.proofs.Tests.{is-of}
use Rattle.store.proofs.Parts.{part-long}
use Rattle.store.proofs.Proved.{store-laws}
use Rattle.ledger.specs.Call.{restore, granted, refused, refused_at, Lent}
use Rattle.ledger.specs.Ledger.{Ledger, opened, plain, refuse, enough, restores, open_of, fills, finds, open_in, covered}
use Rattle.calls_step.specs.Two.{LedgersAlike, restoreds, openeds}
use Rattle.calls_step.proofs.Accounts.{AccountsAlike, plain-alike, cond-alike}
use Rattle.calls_step.specs.Stands.{SoundStore}
use Rattle.calls_step.proofs.Opening.{found_at, is-three, now}
use Rattle.calls_step.proofs.Alike.{sent-alike, covered-alike, enough-alike}

-- a store differs from itself in nothing
pub veil-same : (run : List ℕ) (es : List Entry) → VeilEqual run run es
veil-same run es = record { long = refl; each = λ i b j e. refl }

module _ (N : ℕ) where
  -- ---- restore
  pub restore-alike : (run run' : List ℕ) (es : List Entry) → VeilEqual run run' es → {l l' : Ledger} → LedgersAlike N l l'
      → AccountsAlike N (restores run es l (store.restore (store_of run es))) (restores run' es l' (store.restore (store_of run' es)))
  restore-alike run run' es v {l} {l'} s = go (store.restore (store_of run es)) (store.restore (store_of run' es)) (store-laws.veiled.blind run run' es v)
    where
      go : (x y : Outcome) → OutcomesAlike x y → AccountsAlike N (restores run es l x) (restores run' es l' y)
      go (store.granted f) (store.granted f') e = plain-alike N refl refl (restoreds run run' es v)
      go (store.refused n i) (store.refused n' i') e = plain-alike N (λ j. refused_at (e.0 j) (e.1 j)) refl s
      go (store.granted f) (store.refused n i) e = absurd e
      go (store.refused n i) (store.granted f) e = absurd e

  -- ---- open
  module _ (wide : 256 ^ 4 ≤ N + 1) (run run' : List ℕ) (es : List Entry) (v : VeilEqual run run' es) (sound : SoundStore run es) (sound' : SoundStore run' es) (k : ℕ) (lent : Lent) {l l' : Ledger}
      (s : LedgersAlike N l l')
    where
      row-outside : (e : Entry) → contact_in es k ≡ some e → Outside (veiled_bytes (contact e.version) (part_of run e)) (part_of run e) (part_of run' e)
      row-outside e at =
          let f = found_at es k e at in
          let here : Outside (veiled_in e (part_of run e)) (part_of run e) (part_of run' e) =
          subst (λ (x : Entry). Outside (veiled_in x (part_of run x)) (part_of run x) (part_of run' x)) f.is-there (v.each f.place f.below) in
          subst (λ (n : ℕ). Outside (veiled_bytes (layout_of (kind_of n) e.version) (part_of run e)) (part_of run e) (part_of run' e)) (is-of CONTACT k e f.of-it).0 here

      opened-alike : (e : Entry) → contact_in es k ≡ some e → (c c' : Contact) → read_row (contact e.version) (part_of run e) ≡ accepted c
          → read_row (contact e.version) (part_of run' e) ≡ accepted c' → ContactAlike c c' → AccountsAlike N (fills k lent run es l (accepted c)) (fills k lent run' es l' (accepted c'))
      opened-alike e at c c' r r' a =
          subst (λ (b : Bool). AccountsAlike N (fills k lent run es l (accepted c)) (cond b (plain granted (opened run' es (open_of k c'))) (refuse LISTS l'))) (enough-alike c c' a lent)
          (cond-alike N (enough c lent)
          (plain-alike N refl refl (openeds run run' es (open_of k c) (open_of k c') v (record {
            id = refl;
            n = sent-alike c c' a;
            S = covered-alike c c' a;
            fields = subst₂ (λ (x y : Contact). ContactAlike x y) (sym (now N wide run es sound k e at c r)) (sym (now N wide run' es sound' k e at c' r')) a;
          })))
          (plain-alike N refl refl s))

      pub open-alike : AccountsAlike N (open_in k lent run es l) (open_in k lent run' es l')
      open-alike = rw (sound.going, sound'.going) (finding (contact_in es k) refl)
        where
          reading : (e : Entry) → contact_in es k ≡ some e → (y y' : Answer Contact) → read_row (contact e.version) (part_of run e) ≡ y → read_row (contact e.version) (part_of run' e) ≡ y'
              → Alike (contact e.version) veil y y' → AccountsAlike N (fills k lent run es l y) (fills k lent run' es l' y')
          reading e at (accepted c) (accepted c') r r' a =
              opened-alike e at c c' r r' (subst (λ (n : ℕ). Alike (contact n) veil (accepted c) (accepted c')) (is-three N wide run es sound k e at c r) a)
          reading e at (refused_by q) (refused_by q') r r' a = plain-alike N (ap refused a) refl s
          reading e at (accepted c) (refused_by q) r r' a = absurd a
          reading e at (refused_by q) (accepted c) r r' a = absurd a

          finding : (x : Option Entry) → contact_in es k ≡ x → AccountsAlike N (finds k lent run es l x) (finds k lent run' es l' x)
          finding none at = plain-alike N refl refl s
          finding (some e) at =
              reading e at _ _ refl refl ((proved.contact e.version).veil.blind (part_of run e) (part_of run' e) (part-long run run' e v.long) (row-outside e at))
