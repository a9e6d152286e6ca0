-- Chains in a row and in lent keys: how wide each is, and what it shows of its bytes.
-- Assumes nothing.
use Prim.Native.Nat.{ℕ, ◌+◌, ◌≤◌}
use mathlib.Core.List.{List, [], ◌∷◌}
use mathlib.Core.Bool.{Bool, true, false, cond, ◌||◌}
use mathlib.Core.Option.{Option, none, some}
use mathlib.Core.Path.{◌≡◌, refl, sym, ap, ap₂, ◌∙◌}
use native.Mathlib.Omega.{arith}
use native.Mathlib.Nat.{add-zero, zero-add}
use lib.ListN.{get_or, take, drop}
use lib.Seq.{get_or-take, get_or-drop}
use lib.Dec.{eqb}
use borrow.Author.Tests.{eqb-true, eq-eqb, ne_eqb}
use Rattle.layout.specs.Questions.{FLAG}
use Rattle.layout.specs.Veil.{veiled}
use Rattle.layout.specs.Read.{value}
use Rattle.layout.specs.Form.{u64, one, flag_of, flag_byte, only_if}
use Rattle.layout.specs.Layout.{group, present, optional}
use Rattle.layout.proofs.Front.{none≢some}
use Rattle.layout.proofs.Wrapped.{inner}
use Rattle.rows.specs.Values.{Chain}
use Rattle.rows.specs.Checks.{distinct}
use Rattle.rows.specs.Rows.{chain}
use Rattle.contact_lists.specs.Lists.{items, Stands}
use Rattle.contact_lists.specs.Places.{places_of}
use Rattle.contact_checks.specs.Asked.{Placed, chains_asked}
use Rattle.contact_checks.specs.Cells.{gen_at, superseded_at, chain_width, gens, supersededs, one_current}
use Rattle.contact_checks.proofs.Cells.{Many, standing, lying}
use Rattle.contact_checks.proofs.Fields.{Cut, cut-more, coded, number_cut, byte-is, bytes_cut, dir-cut, first, at-end}

-- ---- widths
or-true : (b : Bool) → b || true ≡ true
or-true true = refl
or-true false = refl

pub gen-at : (bytes : List ℕ) (at : ℕ) → gen_at (drop at bytes) ≡ get_or bytes at 0
gen-at bytes at = rw (get_or-drop at bytes 0 0, add-zero at)

module _ (bytes : List ℕ) (at : ℕ) where
  pub superseded-at : get_or bytes (at + 42) 0 ≡ 1 → superseded_at (drop at bytes) ≡ true
  superseded-at e = eq-eqb (get_or (drop at bytes) 42 0) 1 (get_or-drop at bytes 42 0 ∙ e)

  pub current-at : (get_or bytes (at + 42) 0 ≡ 1 → ⊥) → superseded_at (drop at bytes) ≡ false
  current-at h = ne_eqb (get_or (drop at bytes) 42 0) 1 (λ e. h (sym (get_or-drop at bytes 42 0) ∙ e))

  module _ (padded : Bool) where
    pub width-padded : padded ≡ true → chain_width padded (drop at bytes) ≡ 51
    width-padded e = rw e

    pub width-superseded : get_or bytes (at + 42) 0 ≡ 1 → chain_width padded (drop at bytes) ≡ 51
    width-superseded e = rw (superseded-at e, or-true padded)

    pub width-current : padded ≡ false → (get_or bytes (at + 42) 0 ≡ 1 → ⊥) → chain_width padded (drop at bytes) ≡ 43
    width-current e h = rw (e, current-at h)

    pub width-least : 43 ≤ chain_width padded (drop at bytes)
    width-least = go (padded || superseded_at (drop at bytes))
      where
        go : (t : Bool) → 43 ≤ cond t 51 43
        go true = omega arith
        go false = omega arith

-- ---- what a chain that was read shows
flag_is : (x : ℕ) (t : Bool) → flag_of x ≡ some t → eqb x 1 ≡ t
flag_is x t = go (eqb x 0) (eqb x 1) refl refl
  where
    go : (a b : Bool) → eqb x 0 ≡ a → eqb x 1 ≡ b → cond a (some false) (cond b (some true) none) ≡ some t → b ≡ t
    go true b p q e = let f : t ≡ false = cc in rw f (sym q ∙ ap (λ (y : ℕ). eqb y 1) (eqb-true x 0 p))
    go false true p q e = cc
    go false false p q e = absurd (none≢some e)

record Optional (l : List ℕ) (o : Option ℕ) (rest : List ℕ) : Type 0 where
  pub is : present o ≡ eqb (get_or l 0 0) 1
  pub cut : Cut (cond (eqb (get_or l 0 0) 1) 9 1) l rest

optional-at : (l : List ℕ) (o : Option ℕ) (rest : List ℕ) → (optional u64).read l ≡ value o rest → Optional l o rest
optional-at l o rest e =
    let f1 = first (record { so = e }) in
    let f2 = first f1.then in
    let end = at-end f2.then in
    let c = coded 1 FLAG (one flag_of) (λ t. flag_byte t ∷ []) (λ t. flag_of (flag_byte t) ≡ some t) l f1.got f1.mid f1.reads in
    let is : eqb (get_or l 0 0) 1 ≡ f1.got = flag_is (get_or l 0 0) f1.got (ap flag_of (sym (get_or-take 1 l 0 0 (omega arith))) ∙ c.is) in
    behind f1.got f1.mid c.cut is (f2.reads ∙ ap₂ value end.same end.left)
  where
    behind : (t : Bool) (mid : List ℕ) → Cut 1 l mid → eqb (get_or l 0 0) 1 ≡ t → (only_if u64 t).read mid ≡ value o rest → Optional l o rest
    behind true mid c is e =
        let i = inner some (u64.read mid) o rest e in
        record { is = sym (ap present i.wraps) ∙ sym is; cut = rw is (cut-more 1 8 c (number_cut 8 mid i.got rest i.read)) }
    behind false mid c is e =
        let none_here : none ≡ o = cc in
        let same : mid ≡ rest = cc in
        record { is = sym (ap present none_here) ∙ sym is; cut = rw (is, ← same) c }

pub record ChainAt (l : List ℕ) (c : Chain) (rest : List ℕ) : Type 0 where
  pub gen : c.gen ≡ gen_at l
  pub superseded : present c.superseded_s ≡ superseded_at l
  pub cut : Cut (chain_width false l) l rest

pub chain-at : (l : List ℕ) (c : Chain) (rest : List ℕ) → (group chain).read l ≡ value c rest → ChainAt l c rest
chain-at l c rest e =
    let f1 = first (record { so = e }) in
    let f2 = first f1.then in
    let f3 = first f2.then in
    let f4 = first f3.then in
    let f5 = first f4.then in
    let end = at-end f5.then in
    let c2 = cut-more 1 1 (number_cut 1 l f1.got f1.mid f1.reads) (dir-cut f1.mid f2.got f2.mid f2.reads) in
    let c3 = cut-more 2 8 c2 (number_cut 8 f2.mid f3.got f3.mid f3.reads) in
    let c4 = cut-more 10 32 c3 (bytes_cut veiled 32 f3.mid f4.got f4.mid f4.reads) in
    let o = optional-at f4.mid f5.got f5.mid f5.reads in
    let flag : get_or f4.mid 0 0 ≡ get_or l 42 0 = ap (λ (m : List ℕ). get_or m 0 0) (sym c4.left) ∙ get_or-drop 42 l 0 0 in
    record {
      gen = ap (λ (c : Chain). c.gen) (sym end.same) ∙ byte-is l f1.got f1.mid f1.reads;
      superseded = ap (λ (c : Chain). present c.superseded_s) (sym end.same) ∙ o.is ∙ ap (λ (x : ℕ). eqb x 1) flag;
      cut = rw (← end.left) (wide f4.mid f5.mid c4 (superseded_at l) (rw flag at o.cut));
    }
  where
    wide : (mid rest : List ℕ) → Cut 42 l mid → (t : Bool) → Cut (cond t 9 1) mid rest → Cut (cond t 51 43) l rest
    wide mid rest c true d = cut-more 42 9 c d
    wide mid rest c false d = cut-more 42 1 c d

-- ---- what chains show that were read: in a row, or in places of 51 bytes
module _ (padded : Bool) (n : ℕ) (l : List ℕ) (cs : List Chain) where
  pub record Chains : Type 0 where
    pub all-gens : Many (chain_width padded) gen_at (λ c. c.gen) n l cs
    pub all-supersededs : Many (chain_width padded) superseded_at (λ c. present c.superseded_s) n l cs

  pub asked_of : Chains → {a b : Bool} → a ≡ one_current 0 (supersededs padded n l) → b ≡ distinct eqb (gens padded n l) → record { one_current = a; gens_distinct = b } ≡ chains_asked cs
  asked_of s p q =
      ap₂ (λ (a b : Bool). record { one_current = a; gens_distinct = b })
      (p ∙ rw (zero-add, ← s.all-supersededs.are))
      (q ∙ rw (← s.all-gens.are))

pub chains-stand : (row : List ℕ) (first count : ℕ) → Stands (group chain) row first count → Chains false count (drop first row) (items (group chain) count (drop first row))
chains-stand row first count s = record {
  all-gens = standing (chain_width false) gen_at (λ c. c.gen) (group chain) (λ l c rest e. let t = chain-at l c rest e in record { room = t.cut.room; left = t.cut.left; is = t.gen }) row first count s;
  all-supersededs = standing (chain_width false) superseded_at (λ c. present c.superseded_s) (group chain) (λ l c rest e. let t = chain-at l c rest e in record { room = t.cut.room; left = t.cut.left; is = t.superseded }) row first count s;
}

pub chains-lie : (lent : List ℕ) (count : ℕ) → Placed 51 (group chain) lent count → Chains true count lent (places_of 51 (group chain) count lent)
chains-lie lent count p = record {
  all-gens = lying 51 gen_at (λ c. c.gen) (group chain) (λ l c rest e. (chain-at (take 51 l) c rest e).gen ∙ get_or-take 51 l 0 0 (omega arith)) lent count p;
  all-supersededs = lying 51 superseded_at (λ c. present c.superseded_s) (group chain) (λ l c rest e. (chain-at (take 51 l) c rest e).superseded ∙ ap (λ (x : ℕ). eqb x 1) (get_or-take 51 l 42 0 (omega arith))) lent count p;
}
