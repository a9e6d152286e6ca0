-- A thin function over a `Reader`: it takes the struct apart and calls a reader of a field on the slice and the number. A walk of such a function's MIR, by hand, for any reader: all that it knows of the reader is its contract.
-- What the `Reader` owns is what its row owns (Owned.antt), which is lent to the callee beside the position.
-- Assumes nothing.
use mathlib.Core.Path.{◌≡◌, refl}
use Prim.Native.Nat.{ℕ}
use mathlib.Core.List.{List, [], ◌∷◌}
use seplogic.Ra.Ura.{Ura}
use mir.Syntax.{Callee, Ty, Fn, named, erased, imm, w8, w64, ty_int, ty_ref, local as localᴹ, value_local, seq, assign, call, return, place, field, copy, rv_opd}
use mir.Val.{vint}
use base.Logic.{ent, emp, id⊢, via, fst∗}
use base.Fml.{Lft, Share, ftrue, flft}
use prog.Model.{Model}
use prog.Routine.{Routine, Env}
use prog.Wp.{Calls, Loops, WpFn, Tables, Closed}
use types.Logic.{Logic}
use contract.Monad.{fact}
use contract.Running.{Running, tables, tables_of}
use types.Kit.{‵, ◌⊛◌, ⋆, ◌$◌, ◌∵◌, !, qed, by, move, keep, split, join, drop, fsplit, suffices, frame, done}
use types.Part.{whole, sub, look_in}
use types.Run.{look, init, stop, fld, from, load, of_opd, and_then, no_more, assigns, land, returns, enter, alloc1, alloc0, params1, pass1, pass0, free0}
use sound.WpLaws.{FmC, fm_of, WpFn-mono}
use denote.RattleType.{RattleType, owns}
use denote.Laws.{Is}
use denote.Builtin.{u8, usize, SliceRefOf}
use denote.Plain.{uint_row_laws}
use denote.Signature.{plain, named_lft}
use denote.Slice.{slice_ty, ShrSlice, shr_slice_vals}
use denote.Steps.{owned, nothing}
use denote.Exit.{yes}
use denote.Enum.Enum.{Plainss, Few, form_of}
use denote.Enum.Declared as enum
use denote.Enum.Laws as enum_laws
use denote.Triple.Clauses.{Ended, Clauses, closing}
use denote.Triple.Entry.{on_entry}
use denote.Triple.Spec.{Meets, triple_of}
use denote.Triple.Statement.{Contract, Triple}
use denote.Triple.Table.{entered, cited}
use denote.Triple.Walked.{says, Stays, walk_of, Walks, ends_at, walked, walk_Meets}
use Rattle.walks.proofs.Walk.{gone, drops, drops-go}
use Rattle.walks.proofs.Held.{Held, Lies, number, of-enum, plus, none, lends, local, into, calls-held}
use Rattle.reader.specs.declared.Reader.{Reader}
use Rattle.reader.specs.contracts.Reader as reader
use Rattle.reader.proofs.Reader.TheLaws as laws
use Rattle.reader.proofs.Owned.{Cursor, vals, tells, typed, opens}

-- ---- the function's code: f called on the struct's two fields
abbrev pub thin : Callee → Ty → Fn
thin f τ = record {
  lifetimes = 1;
  outlives = [];
  ty_params = [];
  givens = 0;
  params = 1;
  locals = localᴹ τ value_local ∷ localᴹ (laws.mir (named 0)) value_local ∷ localᴹ (slice_ty (ty_ref erased imm (ty_int w8))) value_local ∷ localᴹ (ty_int w64) value_local ∷ [];
  body =
      seq (assign (place 2 []) (rv_opd (copy (place 1 (field 0 ∷ [])))))
      (seq (assign (place 3 []) (rv_opd (copy (place 1 (field 1 ∷ [])))))
      (seq (call f (copy (place 2 []) ∷ copy (place 3 []) ∷ []) (place 0 [])) return));
}

-- ---- its signature and the callee's; each says the same of the row, the position and the answer
module _ (R : RattleType) where
  abbrev pub method : Ended
  method = record { signature = record { lifetimes = 1; outlives = []; params = plain (λ κs. reader.the_row (named_lft 1 0 tt κs)) ∷ []; result = plain (λ _. R) }; kept = (yes, tt) }

  abbrev pub callee : Ended
  callee = record {
    signature = record { lifetimes = 1; outlives = []; params = SliceRefOf (0 ∷ []) tt (plain (λ _. u8)) (λ _. tt) ∷ plain (λ _. usize) ∷ []; result = plain (λ _. R) };
    kept = (yes, (yes, tt));
  }

  module _ (Says : List ℕ → ℕ → R.Denot → Type 0) {M : Type 1} (𝓤 : Ura M) where
    abbrev pub method-clauses : Clauses 𝓤 method
    method-clauses κs a = record { ghost = Unit {0}; requires = λ _. emp 𝓤; ensures = λ _ r _. fact 𝓤 (Says a.0.row.now a.0.at r) }

    abbrev pub callee-clauses : Clauses 𝓤 callee
    callee-clauses κs a = record { ghost = Unit {0}; requires = λ _. emp 𝓤; ensures = λ _ r _. fact 𝓤 (Says a.0.now a.1.0 r) }

  abbrev stayed : Stays method.signature.params method.kept
  stayed = drops method.signature.params method.kept

-- ---- the walk, for an answer that is a declared enum and owns nothing
module _ (T : enum.Declared) (L : enum_laws.Laws T) (P : Plainss (enum.variants T)) (few : Few (enum.shape T)) (f : Callee) (Says : List ℕ → ℕ → T.D → Type 0) where
  abbrev R : RattleType
  R = enum.row T

  abbrev code : Fn
  code = thin f (form_of (enum.shape T)).ty

  module _ {M : Type 1} {𝓤 : Ura M} (𝓛 : Logic 𝓤) where
    open 𝓛 use {H}

    abbrev held : Held 𝓛 R
    held = of-enum 𝓛 T L P few

    abbrev Its : Contract 𝓤
    Its = triple_of 𝓛 (callee R).signature (closing 𝓛 (callee R) (callee-clauses R Says 𝓤))

    abbrev This : Contract 𝓤
    This = walk_of 𝓛 (method R) (stayed R) (method-clauses R Says 𝓤)

    module _ (κ : Lft) (q : Share) (d : Reader) (in-reader : Is (Cursor κ) d (vals d)) where
      abbrev bound : This.Ghost
      bound = (((κ, tt), (q, tt), tt, (d, tt), (vals d, tt)), tt)

      abbrev to : Its.Ghost
      to = (((κ, tt), (q, tt), tt, (d.row, (d.at, tt)), (shr_slice_vals d.row, (vint w64 d.at ∷ [], tt))), tt)

      -- what the callee says of its answer
      abbrev Said : R.Denot → Type 0
      Said r = Says d.row.now d.at r

      exits : (r : R.Denot) → Lies held r → Said r → ent 𝓤 (⋆ 𝓛 (‵ (flft κ q) ∷ ‵ ((ShrSlice (named 0) κ u8).own_val d.row (shr_slice_vals d.row)) ∷ [])) (This.post bound (held.val r))
      exits r lies e =
          qed 𝓛 (‵ (flft κ q) ∷ ‵ ((ShrSlice (named 0) κ u8).own_val d.row (shr_slice_vals d.row)) ∷ []) ∵
          suffices ! _ (ends_at 𝓛 (method R) (stayed R) (method-clauses R Says 𝓤) bound (held.val r) r (tt, tt) (tt, tt)) $ says ! e $
          nothing ! $ move ! (1 ∷ 0 ∷ []) $ join ! $ frame ! $ drop ! $ nothing ! $ none ! $ frame ! $ owned ! R (Is R) held.makes r _ lies $ done !

      walk : (C : Calls 𝓤 H) (Λ : Loops 𝓤 H) → FmC 𝓤 H 𝓛.laws C → Triple 𝓤 (C f) Its
          → ent 𝓤 (on_entry 𝓛 (method R).signature (κ, tt) (q, tt) (d, tt) (vals d, tt)) (WpFn 𝓤 H C Λ code (vals d) (This.post bound))
      walk C Λ fm cites =
          let reader-typed = typed 𝓛 (named 0) κ d in-reader in
          qed 𝓛 ((‵ (flft κ q) ⊛ ‵ ftrue) ∷ ‵ (owns (Cursor κ ∷ []) (d, tt) (vals d, tt)) ∷ []) ∵ split ! $ move ! (2 ∷ []) $ fsplit ! $ keep ! (2 ∷ 0 ∷ []) $
          enter ! C Λ code (vals d) _ $ alloc1 ! (λ l₀. alloc1 ! (λ l₁. alloc1 ! (λ l₂. alloc1 ! (λ l₃. alloc0 ! $ params1 ! $ pass1 ! (init ! 4 refl reader-typed) $ pass0 ! $
          -- _2 = _1.row; _3 = _1.at
          assigns ! (of_opd ! (load ! (from ! (fld ! refl (stop !))) (look_in ! 4 (sub ! 0 refl (whole !))))) (into !) (init ! 2 refl (tt, reader-typed.1.0)) $
          assigns ! (of_opd ! (load ! (from ! (fld ! refl (stop !))) (look_in ! 4 (sub ! 1 refl (whole !))))) (into !) (init ! 0 refl (tt, reader-typed.1.1.0)) $
          -- [token; what the row owns; _3; …; _0; …]: _0 = f(_2, _3)
          move ! (8 ∷ 9 ∷ []) $ move ! (1 ∷ []) $ opens ! κ d $ move ! (1 ∷ []) $ nothing ! $ plus ! (number 𝓛 w64) d.at (refl, reader-typed.1.1.0.fits) $ lends ! 1 (named 0) κ u8 (uint_row_laws w8) d.row refl $ move ! (1 ∷ 0 ∷ []) $
          calls-held ! fm (callee R) (callee-clauses R Says 𝓤) cites to (id⊢ 𝓤 _) held {φ = Said} (λ r ws. id⊢ 𝓤 _) (and_then ! (local ! (look ! 4 refl)) (and_then ! (local ! (look ! 2 refl)) (no_more !))) (λ r e lies.
          land ! (into !) (init ! 8 refl (held.lawful.typed r _ lies).0) $
          returns ! (look ! 8 refl) $ gone ! 8 refl refl $ gone ! 6 refl refl $ gone ! 4 refl refl $ gone ! 2 refl refl $ free0 ! $ by ! (exits r lies e))))))

    thin-walks : (C : Calls 𝓤 H) (Λ : Loops 𝓤 H) → FmC 𝓤 H 𝓛.laws C → Triple 𝓤 (C f) Its → Walks 𝓛 (method R) (stayed R) (WpFn 𝓤 H C Λ code) (method-clauses R Says 𝓤)
    thin-walks C Λ fm cites = walked 𝓛 (method R) (stayed R) (method-clauses R Says 𝓤) (WpFn 𝓤 H C Λ code) (λ κs. (vals, tt)) (λ κs. (tells κs.0, tt))
        (λ κs qs bounds a g are. via 𝓤 _ (fst∗ 𝓤 _ (emp 𝓤)) (walk κs.0 qs.0 a.0 are.0 C Λ fm cites))

    thin-meets : (𝓣 : Tables 𝓤 H) → Triple 𝓤 (𝓣.C f) Its → Meets 𝓛 (method R).signature (WpFn 𝓤 H 𝓣.C 𝓣.Λ code) (closing 𝓛 (method R) (method-clauses R Says 𝓤))
    thin-meets 𝓣 cites = walk_Meets 𝓛 (method R) (stayed R) (drops-go 𝓛 1 (method R).signature.params (method R).kept (λ κs x f. refl, tt))
        (method-clauses R Says 𝓤) (WpFn 𝓤 H 𝓣.C 𝓣.Λ code) (WpFn-mono 𝓤 H 𝓛.laws 𝓣 code)
        (thin-walks 𝓣.C 𝓣.Λ (fm_of 𝓤 H 𝓛.laws 𝓣) cites)

  -- the function's routine, where its own name means it, and f a routine that meets the callee's contract
  module _ {M : Type 1} {𝓤 : Ura M} (𝓛 : Logic 𝓤) (𝓜 : Model 𝓤 𝓛.H) (𝓡 : Running 𝓤 𝓛.H 𝓜) (γ : Env) where
    open 𝓛 use {H}

    pub thin-spec : (own : Callee) → Closed 𝓤 H (tables 𝓤 H 𝓜 𝓡 γ).C (tables 𝓤 H 𝓜 𝓡 γ).Λ own code → {r : Routine} → γ f ≡ r
        → Meets 𝓛 (callee R).signature (𝓡.run r) (closing 𝓛 (callee R) (callee-clauses R Says 𝓤))
        → Meets 𝓛 (method R).signature (𝓡.run (γ own)) (closing 𝓛 (method R) (method-clauses R Says 𝓤))
    unfolding tables_of
    thin-spec own closed {r} means met =
        let c = triple_of 𝓛 (method R).signature (closing 𝓛 (method R) (method-clauses R Says 𝓤)) in
        entered 𝓤 H c (tables 𝓤 H 𝓜 𝓡 γ).C (tables 𝓤 H 𝓜 𝓡 γ).Λ own code closed
        (thin-meets 𝓛 (tables_of 𝓤 H 𝓜 (tables 𝓤 H 𝓜 𝓡 γ)) (cited 𝓤 H (Its 𝓛) 𝓜 𝓡 γ f r means met))
