-- The run with 0 for its veiled bytes: restore answers the same.
-- Assumes nothing.
use Prim.Native.Nat.{ℕ, zero, suc, ◌-◌, ◌<◌}
use mathlib.Core.List.{List, [], ◌∷◌}
use mathlib.Core.Bool.{Bool, true, false, ◌&&◌, not}
use mathlib.Core.Path.{◌≡◌, refl, sym, ap, subst}
use lib.ListN.{length, get_or}
use lib.Dec.{T, T_not}
use Rattle.store.specs.declared.Entry.{Entry}
use Rattle.store.specs.Store.{entry_at, within, part_of, any_below}
use Rattle.store.specs.Veiled.{veiled_in, VeilEqual, covers, veils, zero_if, blanked, Apart, Disjoint}
use Rattle.store.proofs.Tests.{truth, both, any_found}
use Rattle.store.proofs.Bytes.{agree-equal}

pub disjoint-apart : (run : List ℕ) (es : List Entry) → Disjoint es → Apart run es
disjoint-apart run es h i j p a b v w c =
    let e = entry_at es j in
    let x = both (within (length run) e && covers e p) (get_or (veiled_in e (part_of run e)) (p - e.start) false) v in
    let y = both (within (length run) e) (covers e p) x.0 in
    subst (λ (m : ℕ). T (veils run (entry_at es m) p)) (sym (h i j p a b c y.1)) v

zero-long : (f : ℕ → Bool) (bs : List ℕ) → length (zero_if f bs) ≡ length bs
zero-long f [] = refl
zero-long f (b ∷ bs) = ap suc (zero-long (λ p. f (suc p)) bs)

zero-at : (f : ℕ → Bool) (bs : List ℕ) (p : ℕ) → f p ≡ false → get_or (zero_if f bs) p 0 ≡ get_or bs p 0
zero-at f [] p h = refl
zero-at f (b ∷ bs) zero h = rw h
zero-at f (b ∷ bs) (suc p) h = zero-at (λ q. f (suc q)) bs p h

module _ (run : List ℕ) (es : List Entry) (apart : Apart run es) where
  abbrev hidden : ℕ → Bool
  hidden p = any_below (length es) (λ j. veils run (entry_at es j) p)

  -- a byte that is open in row i is kept
  kept : (i p : ℕ) → i < length es → T (within (length run) (entry_at es i)) → T (covers (entry_at es i) p) → T (not (veils run (entry_at es i) p)) → hidden p ≡ false
  kept i p b w c o = go (hidden p) refl
    where
      go : (t : Bool) → hidden p ≡ t → t ≡ false
      go false h = refl
      go true h =
          let r = any_found (length es) (λ j. veils run (entry_at es j) p) (truth (hidden p) h) in
          absurd (T_not (veils run (entry_at es i) p) o (apart i r.0 p b r.1 r.2 w c))

  pub blanked-equal : VeilEqual run (blanked run es) es
  blanked-equal = agree-equal run (blanked run es) es (record { long = sym (zero-long hidden run); each = λ i p b w c o. sym (zero-at hidden run p (kept i p b w c o)) })
