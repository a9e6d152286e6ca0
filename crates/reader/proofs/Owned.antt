-- What a `Reader` owns is what its row owns: two steps for the walks of functions over one.
--     Cursor, vals     the struct's type at a lifetime, and its machine values
--     typed, tells     these are of the struct's type, wherever a local has it; and it has no others
--     opens            what a Reader owns gives what its row owns
--     shuts            what a row owns gives what a Reader of it owns, at any position
--     lends-at         the same where the row is lent and stays: one more of a callee's parameters (Held.antt's `lends`)
--     known, known_is  a Reader of which the row and the position are known is that one; and so is a number
-- Assumes `Logic`.
use mathlib.Core.Path.{◌≡◌, refl, sym, subst}
use Prim.Native.Nat.{ℕ, ◌<◌, ◌^◌}
use mathlib.Core.List.{List, [], ◌∷◌}
use lib.Dec.{T as Holds}
use seplogic.Ra.Ura.{Ura}
use mir.Syntax.{Lifetime, named, w8, w64}
use mir.Val.{Val, WT, has_ty}
use base.Fml.{Lft, Fml, fsep}
use types.Logic.{Logic}
use types.Kit.{Item, ‵, ◌⊛◌, given, Goal, Step, step, ◌$◌, move, drop, use1, split, learn, nth, fsplit, fjoin}
use denote.RattleType.{RattleType}
use denote.Laws.{Is, Tells}
use denote.Builtin.{u8}
use denote.Plain.{uint_row_laws}
use denote.Ref.{Bor, NamedLft}
use denote.Slice.{ShrSlice, shr_slice_vals}
use denote.Steps.{nothing}
use denote.Struct.Laws as struct_laws
use denote.Struct.Rest.{all_own, field_own, rest, own_open, own_out, own_shut}
use Rattle.walks.proofs.Held.{number, plus, lends}
use Rattle.reader.specs.declared.Reader.{Reader}
use Rattle.reader.specs.contracts.Reader as reader
use Rattle.reader.proofs.Reader.TheLaws as laws

-- the lifetime κ, as a signature or a body writes it
abbrev at-lft : Lifetime → Lft → NamedLft
at-lft ℓ κ = record { mir = ℓ; lft = κ }

abbrev pub Cursor : Lft → RattleType
Cursor κ = reader.the_row (at-lft (named 0) κ)

abbrev pub vals : Reader → List Val
vals r = laws.lowered r ∷ []

abbrev pub reader_at : Bor (List ℕ) → ℕ → Reader
reader_at row at = record { row = row; at = at }

pub known : (row : Bor (List ℕ)) (at : ℕ) (P : Reader → Type 1) → P (reader_at row at) → (r : Reader) → (r.row ≡ row) × (r.at ≡ at) → P r
known row at P is r e = subst P (λ i. reader_at (sym e.0 i) (sym e.1 i)) is

pub known_is : (n : ℕ) (P : ℕ → Type 1) → P n → (m : ℕ) → m ≡ n → P m
known_is n P is m e = subst P (sym e) is

pub typed : {M : Type 1} {𝓤 : Ura M} → (𝓛 : Logic 𝓤) → (ℓ : Lifetime) (κ : Lft) (r : Reader) → Is (Cursor κ) r (vals r) → Holds (has_ty (laws.mir ℓ) (laws.lowered r)) × WT (laws.lowered r)
typed {𝓤 = 𝓤} 𝓛 ℓ κ r is = ((struct_laws.lawful (reader.the_type (at-lft ℓ κ)) (laws.the_laws (at-lft ℓ κ)) 𝓛).typed r (vals r) is).0

pub tells : (κ : Lft) → Tells (Cursor κ) (Is (Cursor κ)) vals
tells κ = struct_laws.tells (reader.the_type (at-lft (named 0) κ)) (laws.the_laws (at-lft (named 0) κ))

module _ {M : Type 1} {𝓤 : Ura M} {𝓛 : Logic 𝓤} {K : Type 0} {Γ : List (Item 𝓤)} {G : Goal 𝓤 𝓛.H} where
  pub opens : K → (κ : Lft) (r : Reader) → Step K 𝓛 (‵ ((ShrSlice (named 0) κ u8).own_val r.row (shr_slice_vals r.row)) ∷ Γ) G (‵ ((Cursor κ).own_val r (vals r)) ∷ Γ) G
  opens t κ r = step (λ s.
      let T = reader.the_type (at-lft (named 0) κ) in
      let L = laws.the_laws (at-lft (named 0) κ) in
      use1 𝓛 (given (vals r ≡ vals r) (‵ (all_own T.parts L (r.row, (r.at, tt))))) (own_open 𝓛 T L (r.row, (r.at, tt)) (laws.lowered r)) $ learn t (λ _.
      use1 𝓛 (‵ (field_own T.parts L 0 r.row) ⊛ ‵ (rest T.parts L 0 (r.row, (r.at, tt)))) (own_out 𝓛 T.parts L 0 (r.row, (r.at, tt))) $ split t $ move t (1 ∷ []) $ drop t $ s))

  pub shuts : K → (κ : Lft) (row : Bor (List ℕ)) (at : ℕ) → at < 2 ^ 64 → Step K 𝓛 (‵ ((Cursor κ).own_val (reader_at row at) (vals (reader_at row at))) ∷ Γ) G (‵ ((ShrSlice (named 0) κ u8).own_val row (shr_slice_vals row)) ∷ Γ) G
  shuts t κ row at fits = step (λ s.
      nothing t $ plus t (number 𝓛 w64) at (refl, fits) $ move t (1 ∷ 0 ∷ []) $ fjoin t $
      use1 𝓛 (‵ ((Cursor κ).own_val (reader_at row at) (vals (reader_at row at)))) (own_shut 𝓛 (reader.the_type (at-lft (named 0) κ)) (laws.the_laws (at-lft (named 0) κ)) (row, (at, tt))) $ s)

module _ {M : Type 1} {𝓤 : Ura M} {𝓛 : Logic 𝓤} {K : Type 0} {Γ : List (Item 𝓤)} {G : Goal 𝓤 𝓛.H} where
  -- the entry n of the context is what the row owns
  pub lends-at : K → (n : ℕ) (κ : Lft) (row : Bor (List ℕ)) (at : ℕ) → at < 2 ^ 64 → nth 𝓛 n Γ ≡ ‵ ((ShrSlice (named 0) κ u8).own_val row (shr_slice_vals row)) → {P : Fml}
      → Step K 𝓛 (‵ (fsep ((Cursor κ).own_val (reader_at row at) (vals (reader_at row at))) P) ∷ Γ) G (‵ P ∷ Γ) G
  lends-at t n κ row at fits e = step (λ s. lends t n (named 0) κ u8 (uint_row_laws w8) row e $ fsplit t $ shuts t κ row at fits $ fjoin t $ s)
