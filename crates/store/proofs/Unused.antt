-- What a row's kind has no use for isn't read.
-- Assumes nothing.
use Prim.Native.Nat.{ℕ, zero, suc}
use mathlib.Core.List.{List, [], ◌∷◌, map}
use mathlib.Core.Bool.{Bool, true, false, cond, ◌&&◌}
use mathlib.Core.Path.{◌≡◌, refl, sym, ap, ap₂, ◌∙◌}
use native.Mathlib.Omega.{arith}
use lib.ListN.{length, length-map}
use lib.Dec.{eqb, eqb→eq, eqb-suc-zero}
use Rattle.layout.specs.Layout.{read_row}
use Rattle.rows.specs.Rows as rows
use Rattle.store.specs.declared.Entry.{Entry}
use Rattle.store.specs.Rounds.{Asked}
use Rattle.store.specs.Kinds.{DEVICE, CONTACT, QUEUED, kind_of, layout_of, seen_of, refusal_in}
use Rattle.store.specs.Store.{Store, entry_at, within, part_of, store_of, is_of, before, asked, restore, going, replaced_in, replaced_passes}
use Rattle.store.specs.Used.{used}
use Rattle.store.proofs.Tests.{truth}
use Rattle.store.proofs.Same.{SameUse, before_same, SameAt, same_asked, same-restore}

used-at : (es : List Entry) (i : ℕ) → entry_at (map used es) i ≡ used (entry_at es i)
used-at [] i = refl
used-at (e ∷ es) zero = refl
used-at (e ∷ es) (suc i) = used-at es i

used-is : (k id : ℕ) (e : Entry) → is_of (suc k) id (used e) ≡ is_of (suc k) id e
used-is k id e = go (eqb e.kind (suc k)) refl
  where
    go : (t : Bool) → eqb e.kind (suc k) ≡ t → (t && eqb (cond (eqb e.kind DEVICE) 0 e.id) id) ≡ (t && eqb e.id id)
    go true h = let z : eqb e.kind DEVICE ≡ false = ap (λ (x : ℕ). eqb x 0) (eqb→eq e.kind (suc k) (truth (eqb e.kind (suc k)) h)) ∙ eqb-suc-zero k in rw z
    go false h = refl

pub used-id : (e : Entry) → (e.kind ≡ DEVICE → ⊥) → (used e).id ≡ e.id
used-id e other = go (eqb e.kind DEVICE) refl
  where
    go : (t : Bool) → eqb e.kind DEVICE ≡ t → cond t 0 e.id ≡ e.id
    go true h = absurd (other (eqb→eq e.kind DEVICE (truth (eqb e.kind DEVICE) h)))
    go false h = refl

pub used-msgno : (e : Entry) → e.kind ≡ QUEUED → (used e).msgno ≡ e.msgno
used-msgno e is = ap (λ (n : ℕ). cond (eqb n QUEUED) e.msgno 0) is

-- entries that agree in what is used
uses : (e e' : Entry) → used e ≡ used e' → SameUse e e'
uses e e' u =
    let k : e.kind ≡ e'.kind = ap (λ (x : Entry). x.kind) u in
    record {
      kind = k;
      id = λ other. sym (used-id e other) ∙ ap (λ (x : Entry). x.id) u ∙ used-id e' (λ d. other (k ∙ d));
      msgno = λ is. sym (used-msgno e is) ∙ ap (λ (x : Entry). x.msgno) u ∙ used-msgno e' (sym k ∙ is);
    }

module _ (es es' : List Entry) (h : map used es ≡ map used es') where
  many : length es ≡ length es'
  many = sym (length-map es used) ∙ ap (λ (l : List Entry). length l) h ∙ length-map es' used

  at : (i : ℕ) → used (entry_at es i) ≡ used (entry_at es' i)
  at i = sym (used-at es i) ∙ ap (λ (l : List Entry). entry_at l i) h ∙ used-at es' i

  -- ---- of a store whose rows are taken by what is used
  module _ (size : ℕ) (row_of : Entry → List ℕ) (same : (e : Entry) → row_of (used e) ≡ row_of e) where
    abbrev one : Store
    one = record { size = size; entries = es; row_of = row_of }

    abbrev other : Store
    other = record { size = size; entries = es'; row_of = row_of }

    row_same : (i : ℕ) → row_of (entry_at es i) ≡ row_of (entry_at es' i)
    row_same i = sym (same (entry_at es i)) ∙ ap row_of (at i) ∙ same (entry_at es' i)

    each : (i : ℕ) → SameAt one other (entry_at es i) (entry_at es' i)
    each i = record {
      uses = uses (entry_at es i) (entry_at es' i) (at i);
      bounds = ap (λ (x : Entry). within size x) (at i);
      refusals = ap₂ (λ (x : Entry) (r : List ℕ). refusal_in (read_row (layout_of (kind_of x.kind) x.version) r)) (at i) (row_same i);
      sights = ap₂ (λ (x : Entry) (r : List ℕ). seen_of (kind_of x.kind) (read_row (layout_of (kind_of x.kind) x.version) r)) (at i) (row_same i);
    }

    pub unused-asked : asked one ≡ asked other
    unused-asked = same_asked one other many (λ i b. each i)

    pub unused-whole : restore one ≡ restore other
    unused-whole = same-restore one other many (λ i b. each i) (λ i b is. ap₂ (λ (x : Entry) (r : List ℕ). read_row (rows.contact x.version) r) (at i) (row_same i))

pub unused-restore : (run : List ℕ) (es es' : List Entry) → map used es ≡ map used es' → restore (store_of run es) ≡ restore (store_of run es')
unused-restore run es es' h = unused-whole es es' h (length run) (part_of run) (λ e. refl)

pub unused-passes : (run : List ℕ) (es es' : List Entry) (k : ℕ) (row : List ℕ) → map used es ≡ map used es' → replaced_passes run es k row ≡ replaced_passes run es' k row
unused-passes run es es' k row h =
    let row_of = (replaced_in run es k row).row_of in
    let same : (e : Entry) → row_of (used e) ≡ row_of e = λ e. ap (λ (t : Bool). cond t row (part_of run e)) (used-is 0 k e) in
    let b : before es (length es) CONTACT k ≡ before es' (length es') CONTACT k =
    before_same es es' (many es es' h) (λ i b. uses (entry_at es i) (entry_at es' i) (at es es' h i)) (length es) 0 k (omega arith) ∙ ap (λ (n : ℕ). before es' n CONTACT k) (many es es' h) in
    ap₂ (λ (t : Bool) (a : Asked). t && going a) b (unused-asked es es' h (length run) row_of same)
