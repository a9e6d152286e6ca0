-- What passes goes on passing: opened fields that change as the calls change them, more sent and the same unacked.
-- Assumes nothing.
use Prim.Native.Nat.{ℕ, ◌≤◌, ◌<◌}
use mathlib.Core.List.{List, [], ◌∷◌}
use mathlib.Core.Bool.{Bool, true, false, cond}
use mathlib.Core.Option.{none}
use mathlib.Core.Path.{◌≡◌, refl, sym, ap, ◌∙◌, subst}
use native.Mathlib.Omega.{arith}
use lib.ListN.{length}
use lib.Dec.{eqb, T, eqb→eq}
use Rattle.layout.specs.Questions.{BOUNDS}
use Rattle.layout.specs.Layout.{print, read_row}
use Rattle.layout.specs.RowLaws.{Valid}
use Rattle.rows.specs.Values.{Contact}
use Rattle.rows.specs.Rows as rows
use Rattle.store.specs.declared.Entry.{Entry}
use Rattle.store.specs.Rounds.{Going, ask}
use Rattle.store.specs.Kinds.{CONTACT, kind_of, layout_of, seen_of, refusal_in}
use Rattle.store.specs.Store.{Store, entry_at, is_of, within, part_of, opened_in, answer_of, seen, read, asked}
use Rattle.store.proofs.Rounds.{some≢none}
use Rattle.store.proofs.Tests.{truth, all_yes, is-of}
use Rattle.store.proofs.Same.{own-use, relaid}
use Rattle.store.proofs.Accepted.{going-quiet}
use Rattle.store.proofs.ByIndex.{More, more_same, passes-alike}
use Rattle.store.proofs.Opened.{opened-read, other-version}

-- ---- rows go on passing, and more is seen of them
record Lasts (s : Store) (from : Entry → List ℕ) (e : Entry) : Type 0 where
  passes : refusal_in (answer_of (relaid s from) e) ≡ none
  more : More (seen s e) (seen (relaid s from) e)

lasts : (s : Store) (from : Entry → List ℕ) → ((i : ℕ) → i < length s.entries → read s i ≡ none → Lasts s from (entry_at s.entries i)) → asked s ≡ Going → asked (relaid s from) ≡ Going
lasts s from each e =
    passes-alike s (relaid s from) refl (λ i b. own-use (entry_at s.entries i))
    (λ i b. (all_yes (ask BOUNDS (within s.size (entry_at s.entries i)) ∷ []) ((going-quiet s e).1.0 i (omega arith) b)).0)
    (λ i b h. let l = each i b h in record { passes = l.passes; more = l.more }) e

-- ---- the opened contact
module _ (c c' : Contact) (v : Valid (rows.contact 3) c) (v' : Valid (rows.contact 3) c') (sent : c.sent_msgno ≤ c'.sent_msgno) (unacked : c.unacked ≡ c'.unacked) where
  abbrev row_in : Contact → Bool → List ℕ → List ℕ
  row_in d t r = cond t (print (rows.contact 3) d) r

  abbrev Passes : (kind version : ℕ) → List ℕ → Type 0
  Passes kind version row = refusal_in (read_row (layout_of (kind_of kind) version) row) ≡ none

  record LastsAt (kind version : ℕ) (t : Bool) (r : List ℕ) : Type 0 where
    passes : Passes kind version (row_in c' t r)
    more : More (seen_of (kind_of kind) (read_row (layout_of (kind_of kind) version) (row_in c t r))) (seen_of (kind_of kind) (read_row (layout_of (kind_of kind) version) (row_in c' t r)))

  is-three : (version : ℕ) (row : List ℕ) → Passes CONTACT version row → version ≡ 3
  is-three version row h = go (eqb version 3) refl
    where
      go : (t : Bool) → eqb version 3 ≡ t → version ≡ 3
      go true e = eqb→eq version 3 (truth (eqb version 3) e)
      go false e = absurd (some≢none (sym (ap refusal_in (other-version version row e)) ∙ h))

  last-three : (r : List ℕ) → LastsAt CONTACT 3 true r
  last-three r = record {
    passes = ap refusal_in (opened-read c' v');
    more = rw (opened-read c v, opened-read c' v') (record { next = refl; sent = sent; unacked = unacked; depositor = refl });
  }

  last-at : (kind version : ℕ) (t : Bool) (r : List ℕ) → (T t → kind ≡ CONTACT) → Passes kind version (row_in c t r) → LastsAt kind version t r
  last-at kind version false r k h = record { passes = h; more = more_same (seen_of (kind_of kind) (read_row (layout_of (kind_of kind) version) r)) }
  last-at kind version true r k h =
      let g : Passes CONTACT version (row_in c true r) = subst (λ (n : ℕ). Passes n version (row_in c true r)) (k tt) h in
      subst (λ (n : ℕ). LastsAt n version true r) (sym (k tt)) (subst (λ (n : ℕ). LastsAt CONTACT n true r) (sym (is-three version (row_in c true r) g)) (last-three r))

  pub opened-lasts : (run : List ℕ) (es : List Entry) (k : ℕ) → asked (opened_in run es k c) ≡ Going → asked (opened_in run es k c') ≡ Going
  opened-lasts run es k g =
      lasts (opened_in run es k c) (opened_in run es k c').row_of
      (λ i b h. let e = entry_at es i in
      let l = last-at e.kind e.version (is_of CONTACT k e) (part_of run e) (λ t. (is-of CONTACT k e t).0) h in
      record { passes = l.passes; more = l.more }) g
