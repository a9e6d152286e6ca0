-- next_slot is above every slot, and one above some slot, or 0.
-- Assumes nothing.
use Prim.Native.Nat.{ℕ, zero, suc, ◌+◌, ◌≤◌, ◌<◌}
use mathlib.Core.List.{List}
use mathlib.Core.Bool.{Bool, true, false, cond, ◌&&◌}
use mathlib.Core.Logic.{◌⊎◌, inl, inr}
use mathlib.Core.Path.{◌≡◌, refl, ap, subst}
use native.Mathlib.Omega.{arith}
use native.Mathlib.Decide.{dec_le}
use lib.Dec.{leb, eqb, T_not, eqb→eq, leb→le, nleb→lt}
use Rattle.store.specs.declared.Entry.{Entry}
use Rattle.store.specs.Kinds.{COURIER}
use Rattle.store.specs.Store.{entry_at, slots_below}
use Rattle.store.specs.Proved.{LastSlot}
use Rattle.store.proofs.Tests.{truth, false-not, eq→eqb}

module _ (es : List Entry) where
  -- ---- above every slot
  pub slots-above : (n i : ℕ) → i < n → (entry_at es i).kind ≡ COURIER → (entry_at es i).id < slots_below es n
  slots-above zero i h k = absurd (omega arith)
  slots-above (suc n) i h k = go (eqb (entry_at es n).kind COURIER) (leb (slots_below es n) (entry_at es n).id) refl refl (dec_le n i) (slots-above n i)
    where
      go : (s t : Bool) → eqb (entry_at es n).kind COURIER ≡ s → leb (slots_below es n) (entry_at es n).id ≡ t → Dec (n ≤ i)
          → (i < n → (entry_at es i).kind ≡ COURIER → (entry_at es i).id < slots_below es n) → (entry_at es i).id < cond (s && t) ((entry_at es n).id + 1) (slots_below es n)
      go true true u v (yes a) ih = let x : i ≡ n = omega arith in omega (arith, ap (λ (m : ℕ). (entry_at es m).id) x)
      go true true u v (no a) ih = let l = ih (omega arith) k in let m = leb→le (slots_below es n) (entry_at es n).id (truth (leb (slots_below es n) (entry_at es n).id) v) in omega arith
      go true false u v (yes a) ih =
          let x : i ≡ n = omega arith in
          let m = nleb→lt (slots_below es n) (entry_at es n).id (false-not (leb (slots_below es n) (entry_at es n).id) v) in
          omega (arith, ap (λ (m : ℕ). (entry_at es m).id) x)
      go true false u v (no a) ih = ih (omega arith) k
      go false t u v (yes a) ih =
          let x : i ≡ n = omega arith in
          absurd (T_not (eqb (entry_at es n).kind COURIER) (false-not (eqb (entry_at es n).kind COURIER) u) (eq→eqb (entry_at es n).kind COURIER (subst (λ (m : ℕ). (entry_at es m).kind ≡ COURIER) x k)))
      go false t u v (no a) ih = ih (omega arith) k

  -- ---- one above some slot, or 0
  pub slots-one : (n : ℕ) → (slots_below es n ≡ 0) ⊎ LastSlot es n (slots_below es n)
  slots-one zero = inl refl
  slots-one (suc n) = go (eqb (entry_at es n).kind COURIER) (leb (slots_below es n) (entry_at es n).id) refl (slots-one n)
    where
      later : (slots_below es n ≡ 0) ⊎ LastSlot es n (slots_below es n) → (slots_below es n ≡ 0) ⊎ LastSlot es (suc n) (slots_below es n)
      later (inl z) = inl z
      later (inr r) = inr (record { place = r.place; below = omega (arith, r.below); «is» = r.«is»; last = r.last })

      go : (s t : Bool) → eqb (entry_at es n).kind COURIER ≡ s → (slots_below es n ≡ 0) ⊎ LastSlot es n (slots_below es n)
          → (cond (s && t) ((entry_at es n).id + 1) (slots_below es n) ≡ 0) ⊎ LastSlot es (suc n) (cond (s && t) ((entry_at es n).id + 1) (slots_below es n))
      go true true u ih = inr (record { place = n; below = omega arith; «is» = eqb→eq (entry_at es n).kind COURIER (truth (eqb (entry_at es n).kind COURIER) u); last = refl })
      go true false u ih = later ih
      go false t u ih = later ih
