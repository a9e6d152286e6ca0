-- Steps for a walk in which a `&mut [T]` that a local holds is lent again as `&mut` for one call, and comes back with what the callee left in it.
-- The local keeps the pointer and the count that it came with, so the list that the slice holds meanwhile is as long as the first one.
--     at-list          a slice while it holds the list ys, which may not be the one that it came with
--     lent_at          the same under the name δ, as a callee has it
--     lends_again      for a lifetime that was made for the call: what the slice lent owns, under a new name, and what the lender keeps
--     comes_back       once that lifetime is over, from what was kept and what says the last list: what the slice owns at that list, and its token
-- Assumes `Logic`.
use mathlib.Core.Path.{◌≡◌, sym, ap}
use Prim.Native.Nat.{ℕ}
use mathlib.Core.List.{List, [], ◌∷◌}
use lib.ListN.{length}
use seplogic.Ra.Ura.{Ura}
use mir.Syntax.{Lifetime}
use mir.Val.{Val}
use base.Fml.{Lft, GName, Share, flft, fdead}
use types.Logic.{Logic}
use types.Kit.{Item, ‵, ◌⊛◌, some, later, given, Goal, Soaks, Seq, Step, step, ◌$◌, drop, use2, use3, split, pick, learn, fsplit, fjoin, feq_i, await}
use denote.RattleType.{RattleType}
use denote.Ref.{MutBor}
use denote.Slice.{slice_val, MutSlice, mut_slice_vals, finally}
use borrow.Table.Owned as owned
use borrow.Rule.Slice.Lend.{kept_f, sl_relend, sl_relent_backˡ}

abbrev pub lent_at : {X : Type 0} → GName → MutBor X → X → MutBor X
lent_at δ a ys = record { ref_ptr = a.ref_ptr; ghost_name = δ; now = ys }

abbrev pub at-list : {X : Type 0} → MutBor X → X → MutBor X
at-list a ys = lent_at a.ghost_name a ys

abbrev pub Kept : {M : Type 1} {𝓤 : Ura M} (𝓛 : Logic 𝓤) (R : RattleType) → Lft → Share → ℕ → MutBor (List R.Denot) → List R.Denot → GName → Item 𝓤
Kept 𝓛 R κ q ν a ys δ = kept_f 𝓛 R κ q (ν ∷ []) a.ghost_name δ ys a.ref_ptr.0 a.ref_ptr.1

module _ {M : Type 1} {𝓤 : Ura M} {𝓛 : Logic 𝓤} {K : Type 0} {Γ : List (Item 𝓤)} {G : Goal 𝓤 𝓛.H} where
  -- the machine's value of a slice is the one that it came with
  spelt : K → (R : RattleType) (ℓ : Lifetime) (κ : Lft) (γ : GName) (a : MutBor (List R.Denot)) (ys : List R.Denot) → length ys ≡ length a.now
      → Step K 𝓛 (‵ ((MutSlice ℓ κ R).own_val (lent_at γ a ys) (mut_slice_vals a)) ∷ Γ) G (‵ ((owned.MutSlice ℓ κ R).own_val (lent_at γ a ys)) ∷ Γ) G
  spelt t R ℓ κ γ a ys long = step (λ s.
      fsplit t $ feq_i t (List Val) (mut_slice_vals a) (mut_slice_vals (lent_at γ a ys)) (ap (λ (n : ℕ). slice_val a.ref_ptr n ∷ []) (sym long)) $ fjoin t $ fjoin t $ s)

module _ {M : Type 1} {𝓤 : Ura M} {𝓛 : Logic 𝓤} {K : Type 0} {Γ : List (Item 𝓤)} {G : Goal 𝓤 𝓛.H} where
  pub lends_again : K → Soaks G → (R : RattleType) (ℓ : Lifetime) (κ : Lft) (q : Share) (ν : ℕ) (a : MutBor (List R.Denot)) (ys : List R.Denot) → length ys ≡ length a.now
      → ((δ : GName) → Seq K 𝓛 (‵ ((MutSlice ℓ (ν ∷ []) R).own_val (lent_at δ a ys) (mut_slice_vals a)) ∷ Kept 𝓛 R κ q ν a ys δ ∷ Γ) G)
      → Seq K 𝓛 (‵ ((MutSlice ℓ κ R).own_val (at-list a ys) (mut_slice_vals a)) ∷ ‵ (flft κ q) ∷ Γ) G
  lends_again t z R ℓ κ q ν a ys long k =
      fsplit t $ fsplit t $ drop t $ fjoin t $
      use2 𝓛 (later (some (λ (δ : GName). ‵ ((owned.MutSlice ℓ (ν ∷ []) R).own_val (lent_at δ a ys)) ⊛ Kept 𝓛 R κ q ν a ys δ)))
      (sl_relend 𝓛 R κ q (ν ∷ []) a.ref_ptr.0 a.ref_ptr.1 a.ghost_name ys) $
      await t z $ pick t (λ δ. split t $ spelt t R ℓ (ν ∷ []) δ a ys long $ k δ)

  pub comes_back : K → Soaks G → (R : RattleType) (ℓ : Lifetime) (κ : Lft) (q : Share) (ν : ℕ) (a : MutBor (List R.Denot)) (ys zs : List R.Denot) (δ : GName) → length zs ≡ length a.now
      → Step K 𝓛 (‵ ((MutSlice ℓ κ R).own_val (at-list a zs) (mut_slice_vals a)) ∷ ‵ (flft κ q) ∷ Γ) G (‵ (fdead (ν ∷ [])) ∷ Kept 𝓛 R κ q ν a ys δ ∷ ‵ (finally R δ zs) ∷ Γ) G
  comes_back t z R ℓ κ q ν a ys zs δ long = step (λ s.
      use3 𝓛 (later (given (length zs ≡ length ys) (‵ ((owned.MutSlice ℓ κ R).own_val (at-list a zs)) ⊛ ‵ (flft κ q))))
      (sl_relent_backˡ 𝓛 R κ q (ν ∷ []) a.ref_ptr.0 a.ref_ptr.1 a.ghost_name δ ys zs) $
      await t z $ learn t (λ _. split t $ spelt t R ℓ κ a.ghost_name a zs long $ s))
