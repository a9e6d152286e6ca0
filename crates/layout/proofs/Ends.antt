-- What stands at a row's end is lawful: all that is left, and nothing.
-- Assumes nothing.
use Prim.Native.Nat.{ℕ, ◌≤◌}
use mathlib.Core.List.{List, [], ◌∷◌, ◌++◌, append-nil}
use mathlib.Core.Bool.{Bool, true, false, cond, true≢false}
use mathlib.Core.Option.{none, some}
use mathlib.Core.Path.{◌≡◌, refl, sym, ap, ◌∙◌}
use native.Mathlib.Omega.{arith}
use lib.ListN.{length, replicate, length-replicate}
use lib.Seq.{take_all}
use Rattle.layout.specs.Read.{Read, value, refused, after, said}
use Rattle.layout.specs.Veil.{Sensitivity, hides, hide, zeros}
use Rattle.layout.specs.Form.{to_end, nothing, no_more}
use Rattle.layout.proofs.Hide.{as_long, hide-false, hide-true, cut}
use Rattle.layout.proofs.Lawful.{Same, same, Lawful, value≢refused, passed}
use Rattle.layout.proofs.Front.{got, left}

-- ---- all that is left
record Ended (t : Bool) (row b rest : List ℕ) : Type 0 where
  pub yes : t ≡ true
  pub all : row ≡ b
  pub none_left : [] ≡ rest

module _ (m : Sensitivity) (q : ℕ) (allowed : ℕ → Bool) where
  ended : (row b rest : List ℕ) → cond (allowed (length row)) (value row []) (refused q) ≡ value b rest → Ended (allowed (length row)) row b rest
  ended row b rest e =
      let p = passed (allowed (length row)) (value row []) q b rest e in
      record { yes = p.test; all = ap (λ (r : Read _). got [] r) p.then; none_left = ap (λ (r : Read _). left r) p.then }

  pub to_end-lawful : Lawful (to_end m q allowed)
  to_end-lawful = record {
    printed = λ b post h. rw (h, append-nil b) (asked b (allowed (length b)));
    joins = λ row b rest by e. let p = ended row b rest e in rw (← p.all, ← p.none_left) (append-nil row);
    fitted = λ row b rest by e. sym (ended row b rest e).none_left;
    granted = λ row b rest by e. let p = ended row b rest e in rw (← p.all) (ap (λ (t : Bool). cond t none (some q)) p.yes);
    short = λ lv row. short (hides lv m) row (allowed (length row));
    long = λ lv row b rest e. let p = ended row b rest e in rw (p.yes, ← p.none_left, length-replicate) (omega arith);
    blind = λ lv row row' k e.
        let len = as_long ((to_end m q allowed).mask lv row ++ after ((to_end m q allowed).read row) k) row row' e in
        same (go (hides lv m) row row' k len (allowed (length row)) (allowed (length row')) (ap allowed (sym len)) e);
    bare = λ lv row b rest by e h. let p = ended row b rest e in rw (← p.all) (zeroed (hides lv m) row (rw p.yes at h));
  }
    where
      asked : (b : List ℕ) (t : Bool) → cond t (value b []) (refused q) ≡ said (cond t none (some q)) b []
      asked b true = refl
      asked b false = refl

      short : (h : Bool) (row : List ℕ) (t : Bool) → length (cond t (replicate (length row) h) []) ≤ length row
      short h row true = omega (arith, length-replicate (length row) h)
      short h row false = omega arith

      hidden : (h : Bool) (k : List Bool) (row row' : List ℕ) → length row ≡ length row' → hide (replicate (length row) h ++ k) row ≡ hide (replicate (length row) h ++ k) row'
          → cond h (zeros (length row)) row ≡ cond h (zeros (length row')) row'
      hidden true k row row' l e = ap zeros l
      hidden false k row row' l e =
          let c = cut (length row) (replicate (length row) false) k row row' (length-replicate (length row) false) (omega arith) e in
          sym (hide-false (length row) row) ∙ rw (take_all (length row) row (omega arith), take_all (length row) row' (omega arith)) at c.front ∙ hide-false (length row) row'

      zeroed : (h : Bool) (row : List ℕ) → hide (replicate (length row) h) row ≡ row → cond h (zeros (length row)) row ≡ row
      zeroed true row e = sym (hide-true (length row) row refl) ∙ e
      zeroed false row e = refl

      go : (h : Bool) (row row' : List ℕ) (k : List ℕ → List ℕ → List Bool) → length row ≡ length row' → (t t' : Bool) → t' ≡ t
          → hide (cond t (replicate (length row) h) [] ++ after (cond t (value row []) (refused q)) k) row ≡ hide (cond t (replicate (length row) h) [] ++ after (cond t (value row []) (refused q)) k) row'
          → Same (λ b b'. cond h (zeros (length b)) b ≡ cond h (zeros (length b')) b') k (cond t (value row []) (refused q)) (cond t' (value row' []) (refused q))
          (cond t (replicate (length row) h) []) (cond t' (replicate (length row') h) [])
      go h row row' k l true true p e = record { alike = (hidden h (k row []) row row' l e, refl); masks = ap (λ (n : ℕ). replicate n h) (sym l) }
      go h row row' k l false false p e = record { alike = refl; masks = refl }
      go h row row' k l true false p e = absurd (true≢false (sym p))
      go h row row' k l false true p e = absurd (true≢false p)

-- ---- nothing left
record Stopped (row rest : List ℕ) : Type 0 where
  pub row_ends : row ≡ []
  pub rest-ends : rest ≡ []

stopped : (q : ℕ) (row : List ℕ) (u : Unit {0}) (rest : List ℕ) → nothing q row ≡ value u rest → Stopped row rest
stopped q [] u rest e = record { row_ends = refl; rest-ends = sym (ap (λ (r : Read (Unit {0})). left r) e) }
stopped q (x ∷ xs) u rest e = absurd (value≢refused (sym e))

pub no_more-lawful : (q : ℕ) → Lawful (no_more q)
no_more-lawful q = record {
  printed = λ u post h. rw h;
  joins = λ row u rest by e. let s = stopped q row u rest e in s.rest-ends ∙ sym s.row_ends;
  fitted = λ row u rest by e. (stopped q row u rest e).rest-ends;
  granted = λ row u rest by e. refl;
  short = λ lv row. omega arith;
  long = λ lv row u rest e. let s = stopped q row u rest e in rw (s.rest-ends, s.row_ends) (omega arith);
  blind = λ lv row row' k e. same (go row row' k e);
  bare = λ lv row u rest by e h. refl;
}
  where
    go : (row row' : List ℕ) (k : Unit {0} → List ℕ → List Bool) → hide (after (nothing q row) k) row ≡ hide (after (nothing q row) k) row' → Same (λ (u u' : Unit {0}). u ≡ u') k (nothing q row) (nothing q row') [] []
    go [] [] k e = record { alike = (refl, e); masks = refl }
    go (x ∷ xs) (y ∷ ys) k e = record { alike = refl; masks = refl }
    go [] (y ∷ ys) k e = let l = as_long (k tt []) [] (y ∷ ys) e in absurd (omega arith)
    go (x ∷ xs) [] k e = let l = as_long [] (x ∷ xs) [] e in absurd (omega arith)
