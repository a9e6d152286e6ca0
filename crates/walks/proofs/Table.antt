-- Steps for a walk in which a local array of plain values is lent: whole, as a `&mut` slice, and its first elements, as a `&` slice, each for one call. They say
-- nothing of the crate.
--     of_array         how an array of plain values lies in a local
--     big-lit          a literal above 1023, which MIR writes apart
--     repeated         n times a value is an array
--     Cells            the elements of an array in the local at l, side by side in memory
--     in_cells         the local that holds an array, as its elements
--     whole_of         the `&mut` slice on all elements
--     lends-whole      for a lifetime that was made for the call: what that slice owns, under a new name, and what the lender keeps
--     whole_back       once that lifetime is over, from what was kept and what says the last list: that many elements again
--     cells-back       the elements, as the local that holds an array again
--     first_of         the `&` slice on the first k elements
--     lends_first      for a lifetime that was made for the call: what that slice owns, and what the lender keeps. With tokens whose meet is within it, which come back
--     table-back       once that lifetime is over, from what was kept: the local holds an array again
-- Assumes `Logic`.
use mathlib.Core.Path.{◌≡◌, refl, sym, subst}
use Prim.Native.Nat.{ℕ, zero, suc, ◌+◌}
use mathlib.Core.List.{List, [], ◌∷◌}
use lib.ListN.{length, take, replicate, length-replicate}
use seplogic.Ra.Ura.{Ura}
use base.Fraction.{full_share}
use mir.Syntax.{Lifetime, Width, ty_array, int_big}
use mir.Val.{Val, vint, Fits}
use base.Logic.{ent, sep, emp, via, mono_r, assoc∗, assoc', emp∗, snd∗, guard_i}
use base.Fml.{Lft, GName, Share, Fml, Incl, ftrue, fsep, fat, flent, fdead}
use prog.Wp.{Env}
use ghost.Rules.{Toks, span}
use types.Logic.{Logic, sem, lfts}
use types.Kit.{Item, ‵, raw, ◌⊛◌, some, later, Goal, Soaks, Seq, Step, step, ◌$◌, ◌∵◌, !, qed, move, drop, use1, use2, use3, split, pick, rewrite, fsplit, fjoin, fpick, fpack, feq_l, feq_i, await, done}
use types.Run.{Opd}
use types.SemTy.{SemTy, Arr}
use types.Share.{Parts, parts, arr_parts}
use types.Tokens.{lent_back}
use denote.RattleType.{RattleType}
use denote.Laws.{Is, Makes}
use denote.Memory.{cell_at, lone, part_at, mem, shares, part_of, shared_of}
use denote.Shadow.{shadow}
use denote.Array.{each, array_val, array_vals, Array, Array-Makes, Array-Tells, Array-Lawful}
use denote.ArrayMemory.{Single, Array-apart, Array-whole}
use denote.Lend as Lends
use denote.Ref.{Bor, MutBor}
use denote.Shares.{SharesAsFrom}
use denote.Slice.{ShrSlice, MutSlice, Room, shr_slice_vals, mut_slice_vals, finally}
use denote.Steps.{only, owned}
use borrow.Rule.Array.Share.{Room-take}
use borrow.Rule.Slice.Shared.{parts-cells}
use Rattle.walks.proofs.Held.{Held, vals}

abbrev pub of_array : {M : Type 1} {𝓤 : Ura M} (𝓛 : Logic 𝓤) {R : RattleType} → Held 𝓛 R → (n : ℕ) → Held 𝓛 (Array R n)
of_array {𝓤 = 𝓤} 𝓛 {R} h n = record {
  val = λ xs. only (array_vals (vals h) xs);
  tells = Array-Tells R (vals h) h.tells n;
  makes = Array-Makes 𝓛 R h.makes n;
  lawful = Array-Lawful 𝓛 R h.lawful n;
}

each-repeated : (R : RattleType) (n : ℕ) (x : R.Denot) (u : Val) → Is R x (u ∷ []) → shadow (each R.Denot R.own_val (replicate n x) (replicate n u))
each-repeated R zero x u is = tt
each-repeated R (suc n) x u is = (is, each-repeated R n x u is)

pub repeated : (R : RattleType) (n : ℕ) (x : R.Denot) (u : Val) → Is R x (u ∷ []) → Is (Array R n) (replicate n x) (array_val (replicate n u) ∷ [])
repeated R n x u is = (replicate n u, ((refl, length-replicate n x), each-repeated R n x u is))

-- ---- the first k elements, and the others
module _ {T : SemTy} (σ : Parts T) (q : Share) where
  abbrev others : List T.rep → (k b o : ℕ) → Fml
  others [] k b o = ftrue
  others (x ∷ xs) zero b o = parts T σ q (x ∷ xs) b o
  others (x ∷ xs) (suc k) b o = others xs k b (o + T.size)

  module _ {M : Type 1} {𝓤 : Ura M} (𝓛 : Logic 𝓤) where
    front : (xs : List T.rep) (k b o : ℕ) → ent 𝓤 (sem 𝓛 (parts T σ q xs b o)) (sep 𝓤 (sem 𝓛 (parts T σ q (take k xs) b o)) (sem 𝓛 (others xs k b o)))
    front [] zero b o = emp∗ 𝓤 (emp 𝓤)
    front [] (suc k) b o = emp∗ 𝓤 (emp 𝓤)
    front (x ∷ xs) zero b o = emp∗ 𝓤 (sem 𝓛 (parts T σ q (x ∷ xs) b o))
    front (x ∷ xs) (suc k) b o =
        via 𝓤 (sep 𝓤 (sem 𝓛 (σ.part q x b o)) (sep 𝓤 (sem 𝓛 (parts T σ q (take k xs) b (o + T.size))) (sem 𝓛 (others xs k b (o + T.size)))))
        (mono_r 𝓤 (sem 𝓛 (σ.part q x b o)) (front xs k b (o + T.size)))
        (assoc' 𝓤 (sem 𝓛 (σ.part q x b o)) (sem 𝓛 (parts T σ q (take k xs) b (o + T.size))) (sem 𝓛 (others xs k b (o + T.size))))

    glue : (xs : List T.rep) (k b o : ℕ) → ent 𝓤 (sep 𝓤 (sem 𝓛 (parts T σ q (take k xs) b o)) (sem 𝓛 (others xs k b o))) (sem 𝓛 (parts T σ q xs b o))
    glue [] zero b o = snd∗ 𝓤 (emp 𝓤) (emp 𝓤)
    glue [] (suc k) b o = snd∗ 𝓤 (emp 𝓤) (emp 𝓤)
    glue (x ∷ xs) zero b o = snd∗ 𝓤 (emp 𝓤) (sem 𝓛 (parts T σ q (x ∷ xs) b o))
    glue (x ∷ xs) (suc k) b o =
        via 𝓤 (sep 𝓤 (sem 𝓛 (σ.part q x b o)) (sep 𝓤 (sem 𝓛 (parts T σ q (take k xs) b (o + T.size))) (sem 𝓛 (others xs k b (o + T.size)))))
        (assoc∗ 𝓤 (sem 𝓛 (σ.part q x b o)) (sem 𝓛 (parts T σ q (take k xs) b (o + T.size))) (sem 𝓛 (others xs k b (o + T.size))))
        (mono_r 𝓤 (sem 𝓛 (σ.part q x b o)) (glue xs k b (o + T.size)))

-- ---- an array's cell is its elements, side by side
abbrev pub Cells : (R : RattleType) → List R.Denot → ℕ → Fml
Cells R xs l = parts (mem R) (shares R) full_share xs l 0

module _ {M : Type 1} {𝓤 : Ura M} (𝓛 : Logic 𝓤) (R : RattleType) (n : ℕ) where
  table-in : Single R.mir → Makes 𝓛 R (Is R) → (xs : List R.Denot) (v : Val) (l : ℕ) → Is (Array R n) xs (v ∷ [])
      → ent 𝓤 (sem 𝓛 (fat full_share (ty_array (lone R.mir) n) l 0 v)) (sem 𝓛 (Cells R xs l))
  unfolding part_of
  table-in s mk xs v l is =
      qed 𝓛 (‵ (fat full_share (ty_array (lone R.mir) n) l 0 v) ∷ []) ∵
      use1 𝓛 (‵ (cell_at full_share (Array R n).mir (v ∷ []) l 0)) (𝓛.laws.at_raw full_share (ty_array (lone R.mir) n) l 0 v) $
      owned ! (Array R n) (Is (Array R n)) (Array-Makes 𝓛 R mk n) xs (v ∷ []) is $ move ! (1 ∷ 0 ∷ []) $ fjoin ! $
      fpack ! (List Val) (λ vs. fsep (cell_at full_share (Array R n).mir vs l 0) ((Array R n).own_val xs vs)) (v ∷ []) $
      use1 𝓛 (‵ ((arr_parts (shares R) n).part full_share xs l 0)) (Array-apart 𝓛 R full_share s n xs l 0) $ fsplit ! $ drop ! $ done !

-- ---- the steps
-- a literal above 1023
module _ {M : Type 1} {𝓤 : Ura M} {𝓛 : Logic 𝓤} {K : Type 0} {Γ : List (Item 𝓤)} {E : Env 𝓤 𝓛.H} where
  pub big-lit : K → {w : Width} {n : ℕ} → Fits w n → Opd K 𝓛 Γ E (int_big w n) (vint w n)
  big-lit t {w} {n} fits = record { go = λ Kt h. via 𝓤 (Kt (vint w n)) h (guard_i 𝓤 (Fits w n) (Kt (vint w n)) fits) }

abbrev pub whole_of : {X : Type 0} → List X → (l : ℕ) → GName → MutBor (List X)
whole_of xs l γ = record { ref_ptr = (l, 0); ghost_name = γ; now = xs }

abbrev pub first_of : {X : Type 0} → List X → (k l : ℕ) → Bor (List X)
first_of xs k l = record { ref_ptr = (l, 0); now = take k xs }

abbrev Fronts : (R : RattleType) → List R.Denot → (k l : ℕ) → Fml
Fronts R xs k l = (arr_parts (shares R) (length (take k xs))).part full_share (take k xs) l 0

abbrev pub Kept : (R : RattleType) → (ν : ℕ) → List R.Denot → (k l : ℕ) → Fml
Kept R ν xs k l = fsep (flent (ν ∷ []) (Fronts R xs k l)) (others (shares R) full_share xs k l 0)

module _ {M : Type 1} {𝓤 : Ura M} {𝓛 : Logic 𝓤} {K : Type 0} {Γ : List (Item 𝓤)} {G : Goal 𝓤 𝓛.H} where
  pub in_cells : K → {R : RattleType} → Single R.mir → (h : Held 𝓛 R) (n : ℕ) (xs : List R.Denot) (v : Val) (l : ℕ) → Is (Array R n) xs (v ∷ [])
      → Step K 𝓛 (‵ (Cells R xs l) ∷ Γ) G (‵ (fat full_share (ty_array (lone R.mir) n) l 0 v) ∷ Γ) G
  in_cells t {R} s h n xs v l is = step (λ c. use1 𝓛 (‵ (Cells R xs l)) (table-in 𝓛 R n s h.makes xs v l is) $ c)

  pub lends-whole : K → Soaks G → (R : RattleType) (ℓ : Lifetime) (n : ℕ) → Room R n → (ν : ℕ) (xs : List R.Denot) (l : ℕ) → length xs ≡ n
      → ((γ : GName) → Seq K 𝓛 (‵ ((MutSlice ℓ (ν ∷ []) R).own_val (whole_of xs l γ) (mut_slice_vals (whole_of xs l γ))) ∷ ‵ (flent (ν ∷ []) (Lends.Held R n l 0 γ)) ∷ Γ) G)
      → Seq K 𝓛 (‵ (Cells R xs l) ∷ Γ) G
  lends-whole t z R ℓ n room ν xs l e c =
      rewrite t 0 (λ (F : Fml). ‵ F) (parts-cells R full_share xs l 0) refl $
      use1 𝓛 (later (some (λ (γ : GName). ‵ ((MutSlice ℓ (ν ∷ []) R).own_val (whole_of xs l γ) (mut_slice_vals (whole_of xs l γ))) ⊛ ‵ (flent (ν ∷ []) (Lends.Held R (length xs) l 0 γ)))))
      (Lends.lends_slice 𝓛 R ℓ (ν ∷ []) xs l 0 (subst (Room R) (sym e) room)) $
      await t z $ pick t (λ γ. split t $ rewrite t 1 (λ (m : ℕ). ‵ (flent (ν ∷ []) (Lends.Held R m l 0 γ))) e refl $ c γ)

  pub whole_back : K → Soaks G → (R : RattleType) (n ν : ℕ) (ys : List R.Denot) (l : ℕ) (γ : GName)
      → (length ys ≡ n → Seq K 𝓛 (‵ (Cells R ys l) ∷ Γ) G)
      → Seq K 𝓛 (‵ (fdead (ν ∷ [])) ∷ ‵ (flent (ν ∷ []) (Lends.Held R n l 0 γ)) ∷ ‵ (finally R γ ys) ∷ Γ) G
  whole_back t z R n ν ys l γ c =
      use3 𝓛 (later (‵ ((Arr (mem R) n).own_at ys l 0))) (Lends.slice_back 𝓛 R (ν ∷ []) γ ys n l 0) $
      await t z $ fsplit t $ feq_l t (λ e. rewrite t 0 (λ (F : Fml). ‵ F) (sym (parts-cells R full_share ys l 0)) refl $ c e)

  pub lends_first : K → Soaks G → (R : RattleType) (ℓ : Lifetime) (n : ℕ) → Room R n → (ν : ℕ) (xs : List R.Denot) (k l : ℕ) → length xs ≡ n
      → (m : Lft) → SharesAsFrom 𝓛 full_share R (shared_of R) m → (ts : Toks) → Incl (span ts) m → Incl (span ts) (ν ∷ [])
      → Seq K 𝓛 (‵ ((ShrSlice ℓ (ν ∷ []) R).own_val (first_of xs k l) (shr_slice_vals (first_of xs k l))) ∷ ‵ (Kept R ν xs k l) ∷ raw (lfts 𝓛 ts) ∷ Γ) G
      → Seq K 𝓛 (‵ (Cells R xs l) ∷ raw (lfts 𝓛 ts) ∷ Γ) G
  lends_first t z R ℓ n room ν xs k l e m sh ts inc sp c =
      use1 𝓛 (‵ (parts (mem R) (shares R) full_share (take k xs) l 0) ⊛ ‵ (others (shares R) full_share xs k l 0)) (front (shares R) full_share 𝓛 xs k l 0) $ split t $
      feq_i t ℕ (length (take k xs)) (length (take k xs)) refl $ fjoin t $ move t (0 ∷ 2 ∷ []) $
      use2 𝓛 (later ((‵ ((ShrSlice ℓ (ν ∷ []) R).own_val (first_of xs k l) (shr_slice_vals (first_of xs k l))) ⊛ ‵ (flent (ν ∷ []) (Fronts R xs k l))) ⊛ raw (lfts 𝓛 ts)))
      (Lends.lends_shr_slice 𝓛 R ℓ (ν ∷ []) full_share (take k xs) l 0 (Room-take R n k xs e room) m sh ts inc sp) $
      await t z $ split t $ split t $ move t (1 ∷ 3 ∷ []) $ fjoin t $ move t (1 ∷ []) $ c

  pub cells-back : K → (R : RattleType) (n : ℕ) (xs : List R.Denot) (l : ℕ) → length xs ≡ n → ((v : Val) → Seq K 𝓛 (‵ (fat full_share (ty_array (lone R.mir) n) l 0 v) ∷ Γ) G) → Seq K 𝓛 (‵ (Cells R xs l) ∷ Γ) G
  unfolding part_of
  cells-back t R n xs l e c =
      feq_i t ℕ (length xs) n e $ fjoin t $ use1 𝓛 (‵ (part_at (Array R n) full_share xs l 0)) (Array-whole 𝓛 R full_share n xs l 0) $
      fpick t (λ vs. fsplit t $ move t (1 ∷ []) $ fpick t (λ us. fsplit t $ fsplit t $ feq_l t (λ p. drop t $ move t (1 ∷ []) $
      rewrite t 0 (λ (ws : List Val). ‵ (cell_at full_share (ty_array (lone R.mir) n ∷ []) ws l 0)) p refl $
      use1 𝓛 (‵ (fat full_share (ty_array (lone R.mir) n) l 0 (array_val us))) (𝓛.laws.raw_at full_share (ty_array (lone R.mir) n) l 0 (array_val us)) $ move t (1 ∷ []) $ drop t $ c (array_val us))))

  pub table-back : K → Soaks G → (R : RattleType) (n ν : ℕ) (xs : List R.Denot) (k l : ℕ) → length xs ≡ n
      → ((v : Val) → Seq K 𝓛 (‵ (fat full_share (ty_array (lone R.mir) n) l 0 v) ∷ Γ) G)
      → Seq K 𝓛 (‵ (fdead (ν ∷ [])) ∷ ‵ (Kept R ν xs k l) ∷ Γ) G
  table-back t z R n ν xs k l e c =
      move t (1 ∷ []) $ fsplit t $ move t (2 ∷ 0 ∷ []) $ lent_back t z $ fsplit t $ drop t $
      use2 𝓛 (‵ (parts (mem R) (shares R) full_share xs l 0)) (glue (shares R) full_share 𝓛 xs k l 0) $
      cells-back t R n xs l e c
