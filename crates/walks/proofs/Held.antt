-- Steps for a walk by hand whose locals hold lent slices and plain values.
--     Held R           how a plain value of the type R lies in a local: its machine value, and R's laws
--     number, of_struct, of-enum    for a number, a declared struct and a declared enum that own nothing
--     vals, Lies       its machine values, and that it lies so
--     plus, lends      what a callee's parameters own, from the last to the first: one more that is plain, or a lent slice, which stays lent
--     none             one more of which nothing is had, at the exit
--     calls-held, calls-lent        a call whose result is plain, of a function that has no `&mut`, or has some
--     holds, empty     a local in the context: it holds a value, or nothing
--     local, into      a local as an operand, and as the place of a result
-- Assumes `Logic`.
use mathlib.Core.Path.{◌≡◌, subst}
use Prim.Native.Nat.{ℕ}
use mathlib.Core.List.{List, [], ◌∷◌}
use seplogic.Ra.Ura.{Ura}
use base.Fraction.{full_share}
use mir.Syntax.{Callee, Ty, Place, Opd as Operand, Body, Lifetime, Width, place, copy, seq, call}
use mir.Val.{Val, vint}
use base.Logic.{SProp, ent, sep, emp, via, comm∗, mono_l, mono_r, assoc∗, assoc'}
use base.Fml.{Lft, Fml, ftrue, fsep, fat, froom, fdies}
use prog.Wp.{Env, Calls, Loops, spot_of}
use types.Logic.{Logic, sem}
use contract.Monad.{fact}
use sound.WpLaws.{FmC}
use types.Kit.{Item, ‵, raw, mean, ⋆, nth, del, pull, unpull, push, pop, Goal, Post, runs, lands, Seq, Step, step, ◌$◌, fjoin}
use types.Run.{Opd, Opds, Reads, Finds, load, from, stop}
use denote.RattleType.{RattleType, RowLaws, owns}
use denote.Laws.{Is, Tells, Makes, Lawful}
use denote.Plain.{UInt, uint_Tells, uint_Makes, uint_Lawful}
use denote.Ref.{Bor}
use denote.Signature.{type_at, types_at}
use denote.Slice.{ShrSlice, shr_slice_vals, shr_slice_copy}
use denote.Steps.{owned, nothing}
use denote.Struct.Struct.{Plains}
use denote.Struct.Declared as struct
use denote.Struct.Laws as struct_laws
use denote.Enum.Enum.{Plainss, Few}
use denote.Enum.Declared as enum
use denote.Enum.Laws as enum_laws
use denote.Triple.Statement.{Triple}
use denote.Triple.Entry.{Res}
use denote.Triple.Spec.{triple_of}
use denote.Triple.Clauses.{Ended, Clauses, Lasts, at_exit, lasts, closing}
use Rattle.walks.proofs.Walk.{tokens, asked, calls-fn, calls-mut}

module _ {M : Type 1} {𝓤 : Ura M} (𝓛 : Logic 𝓤) where
  pub record Held (R : RattleType) : Type 1 where
    pub val : R.Denot → Val
    pub tells : Tells R (Is R) (λ x. val x ∷ [])
    pub makes : Makes 𝓛 R (Is R)
    pub lawful : Lawful 𝓛 R

  abbrev pub number : (w : Width) → Held (UInt w)
  number w = record { val = vint w; tells = uint_Tells w; makes = uint_Makes 𝓛 w; lawful = uint_Lawful 𝓛 w }

  abbrev pub of_struct : (T : struct.Declared) → struct_laws.Laws T → Plains (struct.fields T) → Held (struct.row T)
  of_struct T L P = record { val = struct_laws.val T L; tells = struct_laws.tells T L; makes = struct_laws.makes T P 𝓛; lawful = struct_laws.lawful T L 𝓛 }

  abbrev pub of-enum : (T : enum.Declared) → enum_laws.Laws T → Plainss (enum.variants T) → Few (enum.shape T) → Held (enum.row T)
  of-enum T L P few = record { val = enum_laws.val T L; tells = enum_laws.tells T L; makes = enum_laws.makes T P 𝓛; lawful = enum_laws.lawful T L 𝓛 few }

module _ {M : Type 1} {𝓤 : Ura M} {𝓛 : Logic 𝓤} {R : RattleType} where
  abbrev pub vals : Held 𝓛 R → R.Denot → List Val
  vals h x = h.val x ∷ []

  abbrev pub Lies : Held 𝓛 R → R.Denot → Type 0
  Lies h x = Is R x (vals h x)

-- a local in the context
module _ {M : Type 1} {𝓤 : Ura M} where
  abbrev pub holds : Ty → ℕ → Val → List (Item 𝓤) → List (Item 𝓤)
  holds τ l v Γ = ‵ (fat full_share τ l 0 v) ∷ ‵ (fdies τ l) ∷ Γ

  abbrev pub empty : Ty → ℕ → List (Item 𝓤) → List (Item 𝓤)
  empty τ l Γ = ‵ (froom τ l 0) ∷ ‵ (fdies τ l) ∷ Γ

module _ {M : Type 1} {𝓤 : Ura M} {𝓛 : Logic 𝓤} {K : Type 0} {Γ : List (Item 𝓤)} {G : Goal 𝓤 𝓛.H} where
  pub plus : K → {R : RattleType} (h : Held 𝓛 R) (x : R.Denot) → Lies h x → {P : Fml} → Step K 𝓛 (‵ (fsep (R.own_val x (vals h x)) P) ∷ Γ) G (‵ P ∷ Γ) G
  plus t {R} h x is = step (λ s. owned t R (Is R) h.makes x (vals h x) is $ fjoin t $ s)

  pub none : K → {P : Fml} → Step K 𝓛 (‵ (fsep ftrue P) ∷ Γ) G (‵ P ∷ Γ) G
  none t = step (λ s. nothing t $ fjoin t $ s)

  -- the entry n of the context is what the slice owns
  pub lends : K → (n : ℕ) (ℓ : Lifetime) (κ : Lft) (R : RattleType) → RowLaws R → (a : Bor (List R.Denot)) → nth 𝓛 n Γ ≡ ‵ ((ShrSlice ℓ κ R).own_val a (shr_slice_vals a)) → {P : Fml}
      → Step K 𝓛 (‵ (fsep ((ShrSlice ℓ κ R).own_val a (shr_slice_vals a)) P) ∷ Γ) G (‵ P ∷ Γ) G
  lends t n ℓ κ R L a e {P} = step (λ s.
      let O : SProp 𝓤 = sem 𝓛 ((ShrSlice ℓ κ R).own_val a (shr_slice_vals a)) in
      let Δ : List (Item 𝓤) = del 𝓛 n Γ in
      let twice : ent 𝓤 (⋆ 𝓛 Γ) (sep 𝓤 O (⋆ 𝓛 Γ)) =
      via 𝓤 (sep 𝓤 O (⋆ 𝓛 Δ)) (subst (λ (j : Item 𝓤). ent 𝓤 (⋆ 𝓛 Γ) (sep 𝓤 (mean 𝓛 j) (⋆ 𝓛 Δ))) e (pull 𝓛 n Γ))
      (via 𝓤 (sep 𝓤 (sep 𝓤 O O) (⋆ 𝓛 Δ)) (mono_l 𝓤 (⋆ 𝓛 Δ) ((shr_slice_copy 𝓛 ℓ κ R L).twice a (shr_slice_vals a)))
      (via 𝓤 (sep 𝓤 O (sep 𝓤 O (⋆ 𝓛 Δ))) (assoc∗ 𝓤 O O (⋆ 𝓛 Δ))
      (mono_r 𝓤 O (subst (λ (j : Item 𝓤). ent 𝓤 (sep 𝓤 (mean 𝓛 j) (⋆ 𝓛 Δ)) (⋆ 𝓛 Γ)) e (unpull 𝓛 n Γ))))) in
      record {
        prf =
            via 𝓤 (sep 𝓤 (sem 𝓛 P) (⋆ 𝓛 Γ)) (pop 𝓛 (‵ P) Γ)
            (via 𝓤 (sep 𝓤 (sem 𝓛 P) (sep 𝓤 O (⋆ 𝓛 Γ))) (mono_r 𝓤 (sem 𝓛 P) twice)
            (via 𝓤 (sep 𝓤 (sep 𝓤 (sem 𝓛 P) O) (⋆ 𝓛 Γ)) (assoc' 𝓤 (sem 𝓛 P) O (⋆ 𝓛 Γ))
            (via 𝓤 (sep 𝓤 (sep 𝓤 O (sem 𝓛 P)) (⋆ 𝓛 Γ)) (mono_l 𝓤 (⋆ 𝓛 Γ) (comm∗ 𝓤 (sem 𝓛 P) O))
            (via 𝓤 (⋆ 𝓛 (‵ (fsep ((ShrSlice ℓ κ R).own_val a (shr_slice_vals a)) P) ∷ Γ)) (push 𝓛 (‵ (fsep ((ShrSlice ℓ κ R).own_val a (shr_slice_vals a)) P)) Γ) s.prf))));
      })

module _ {M : Type 1} {𝓤 : Ura M} {𝓛 : Logic 𝓤} {K : Type 0} {Γ : List (Item 𝓤)} {E : Env 𝓤 𝓛.H} where
  open 𝓛 use {H}

  abbrev pub local : K → {i : ℕ} {v : Val} → Reads K 𝓛 Γ (spot_of 𝓤 H E i).0 (spot_of 𝓤 H E i).1 (spot_of 𝓤 H E i).2 v → Opd K 𝓛 Γ E (copy (place i [])) v
  local t r = load t (from t (stop t)) r

  abbrev pub into : K → {i : ℕ} → Finds K 𝓛 Γ E (place i []) (spot_of 𝓤 H E i)
  into t = from t (stop t)

  pub calls-held : K → {C : Calls 𝓤 H} {Λ : Loops 𝓤 H} {q : Post 𝓤 H} {d : Place} {f : Callee} {xs : List Operand} → FmC 𝓤 H 𝓛.laws C → {rest : Body} (T : Ended) (c : Clauses 𝓤 T)
      → Triple 𝓤 (C f) (triple_of 𝓛 T.signature (closing 𝓛 T c)) → (y : (triple_of 𝓛 T.signature (closing 𝓛 T c)).Ghost) → ent 𝓤 (emp 𝓤) ((c y.0.0 y.0.3).requires y.1)
      → (h : Held 𝓛 (type_at T.signature.result y.0.0)) {φ : Res T.signature y.0.0 → Type 0}
      → ((r : Res T.signature y.0.0) (ws : Lasts T y.0.0 y.0.3) → ent 𝓤 ((c y.0.0 y.0.3).ensures y.1 r (at_exit T y.0.0 y.0.3 ws)) (fact 𝓤 (φ r)))
      → Opds K 𝓛 (raw ((triple_of 𝓛 T.signature (closing 𝓛 T c)).pre y) ∷ Γ) E xs ((triple_of 𝓛 T.signature (closing 𝓛 T c)).args y)
      → ((r : Res T.signature y.0.0) → φ r → Lies h r → Seq K 𝓛 (tokens 𝓤 T.signature.lifetimes y.0.0 y.0.1 Γ) (lands C Λ E d (h.val r) rest q))
      → Seq K 𝓛 (tokens 𝓤 T.signature.lifetimes y.0.0 y.0.1 (‵ (owns (types_at T.signature.params y.0.0) y.0.3 y.0.4) ∷ Γ)) (runs C Λ E (seq (call f xs d) rest) q)
  calls-held t fm T c known y rq h {φ} sh os k = asked t T c y rq $ calls-fn t fm T c known y h.val h.tells φ sh os k

  -- of a function that has `&mut`s: the caller has what says their last values too
  pub calls-lent : K → {C : Calls 𝓤 H} {Λ : Loops 𝓤 H} {q : Post 𝓤 H} {d : Place} {f : Callee} {xs : List Operand} → FmC 𝓤 H 𝓛.laws C → {rest : Body} (T : Ended) (c : Clauses 𝓤 T)
      → Triple 𝓤 (C f) (triple_of 𝓛 T.signature (closing 𝓛 T c)) → (y : (triple_of 𝓛 T.signature (closing 𝓛 T c)).Ghost) → ent 𝓤 (emp 𝓤) ((c y.0.0 y.0.3).requires y.1)
      → (h : Held 𝓛 (type_at T.signature.result y.0.0)) {φ : Res T.signature y.0.0 → Lasts T y.0.0 y.0.3 → Type 0}
      → ((r : Res T.signature y.0.0) (ws : Lasts T y.0.0 y.0.3) → ent 𝓤 ((c y.0.0 y.0.3).ensures y.1 r (at_exit T y.0.0 y.0.3 ws)) (fact 𝓤 (φ r ws)))
      → Opds K 𝓛 (raw ((triple_of 𝓛 T.signature (closing 𝓛 T c)).pre y) ∷ Γ) E xs ((triple_of 𝓛 T.signature (closing 𝓛 T c)).args y)
      → ((r : Res T.signature y.0.0) (ws : Lasts T y.0.0 y.0.3) → φ r ws → Lies h r
      → Seq K 𝓛 (tokens 𝓤 T.signature.lifetimes y.0.0 y.0.1 (‵ (lasts T y.0.0 y.0.3 ws) ∷ Γ)) (lands C Λ E d (h.val r) rest q))
      → Seq K 𝓛 (tokens 𝓤 T.signature.lifetimes y.0.0 y.0.1 (‵ (owns (types_at T.signature.params y.0.0) y.0.3 y.0.4) ∷ Γ)) (runs C Λ E (seq (call f xs d) rest) q)
  calls-lent t fm T c known y rq h {φ} sh os k = asked t T c y rq $ calls-mut t fm T c known y h.val h.tells φ sh os k
