-- Restore grants exactly the accepted stores.
-- Assumes nothing.
use Prim.Native.Nat.{ℕ, zero, suc, ◌+◌, ◌-◌, ◌≤◌, ◌<◌}
use mathlib.Core.List.{List, [], ◌∷◌}
use mathlib.Core.Bool.{cond, ◌&&◌}
use mathlib.Core.Option.{none}
use mathlib.Core.Path.{◌≡◌, refl, sym, ap, ◌∙◌}
use native.Mathlib.Omega.{arith}
use native.Mathlib.Decide.{dec_le}
use lib.ListN.{length}
use lib.Dec.{leb, eqb, T, leb→le, le→leb, eqb→eq, eqb-suc-zero}
use Rattle.layout.specs.Questions.{ORDER, BOUNDS}
use Rattle.layout.specs.Layout.{Answer, accepted, refused_by, read_row}
use Rattle.layout.specs.RowLaws.{Bytes}
use Rattle.store.specs.declared.Entry.{Entry}
use Rattle.store.specs.Rounds.{Going, Refused, ask, first_no, Quiet}
use Rattle.store.specs.Kinds.{DEVICE, CONTACT, COURIER, Kind, kind_of, ValueOf, layout_of, Seen, seen_of, refusal_in}
use Rattle.store.specs.Store.{Store, entry_at, within, answer_of, seen, in_order, across_as, across, all_rounds, begun, asked}
use Rattle.store.specs.Accepted.{Across, Follows, Shows, Accepted}
use Rattle.store.proofs.Rounds.{Going≢, some≢none, AllQuiet, rounds-going, rounds-quiet, quiet-granted}
use Rattle.store.proofs.Tests.{both, pair, all_yes, yes-all, eq→eqb}
use Rattle.store.proofs.ByKind.{row-of, meets-of}
use Rattle.store.proofs.Same.{own-use, across-same}
use Rattle.store.proofs.Across.{yes-across, Sorted, across-yes}

-- ---- 1
ordered : (es : List Entry) (i : ℕ) → T (in_order es (suc i)) → Follows (entry_at es (suc i)).kind (entry_at es i).kind
ordered es i h =
    let k = (entry_at es (suc i)).kind in
    let j = (entry_at es i).kind in
    let p = both (leb CONTACT k && leb k COURIER) (leb j k) h in
    let r = both (leb CONTACT k) (leb k COURIER) p.0 in
    record { from = leb→le CONTACT k r.0; to = leb→le k COURIER r.1; rises = leb→le j k p.1 }

in_order_lem : (es : List Entry) (i : ℕ) → Follows (entry_at es (suc i)).kind (entry_at es i).kind → T (in_order es (suc i))
in_order_lem es i f =
    let k = (entry_at es (suc i)).kind in
    let j = (entry_at es i).kind in
    pair (leb CONTACT k && leb k COURIER) (leb j k) (pair (leb CONTACT k) (leb k COURIER) (le→leb CONTACT k f.from) (le→leb k COURIER f.to)) (le→leb j k f.rises)

-- kinds rise, so contacts come before queued rows
module _ (es : List Entry) (kinds : (i : ℕ) → suc i < length es → Follows (entry_at es (suc i)).kind (entry_at es i).kind) where
  rises : (i n : ℕ) → i + n < length es → (entry_at es i).kind ≤ (entry_at es (i + n)).kind
  rises i zero h = let x : i + 0 ≡ i = omega arith in rw x (omega arith)
  rises i (suc n) h =
      let x : i + suc n ≡ suc (i + n) = omega arith in
      let l = rises i n (omega arith) in
      rw x (omega (arith, l, (kinds (i + n) (omega arith)).rises))

  pub sorted : Sorted es
  sorted j i b c kj ki = go (dec_le i j)
    where
      go : Dec (i ≤ j) → j < i
      go (yes a) =
          let x : i + (j - i) ≡ j = omega arith in
          let l = rises i (j - i) (omega arith) in
          absurd (omega (arith, l, ki, kj, ap (λ (m : ℕ). (entry_at es m).kind) x))
      go (no a) = omega arith

-- ---- 3 to 24 and 54
read-value : (k : Kind) (a : Answer (ValueOf k)) → refusal_in a ≡ none → (v : ValueOf k) × (a ≡ accepted v)
read-value k (accepted v) e = (v, refl)
read-value k (refused_by q) e = absurd (some≢none e)

read-shows : (s : Store) (e : Entry) → Bytes (s.row_of e) → refusal_in (answer_of s e) ≡ none → Shows s e (seen s e)
read-shows s e by h =
    let k = kind_of e.kind in
    let r = read-value k (answer_of s e) h in
    let laws = (row-of k e.version).laws in
    let valid = laws.read-valid (s.row_of e) by r.0 r.1 in
    let m = (meets-of k e.version r.0).0 valid.granted in
    record {
      value = r.0;
      version = m.0;
      fits = valid.fits;
      prints = laws.read-print (s.row_of e) by r.0 r.1;
      meets = m.1;
      seen = sym (ap (seen_of k) r.1);
    }

-- what is shown is read, and seen
pub record Reads (s : Store) (e : Entry) (x : Seen) : Type 0 where
  pub passes : refusal_in (answer_of s e) ≡ none
  pub sight : seen s e ≡ x

shows-read : (s : Store) (e : Entry) (x : Seen) → Shows s e x → Reads s e x
shows-read s e x h =
    let k = kind_of e.kind in
    let l = layout_of k e.version in
    let granted = (meets-of k e.version h.value).1 (h.version, h.meets) in
    let r : answer_of s e ≡ accepted h.value =
    sym (ap (read_row l) h.prints) ∙ (row-of k e.version).laws.print-read h.value (record { fits = h.fits; granted = granted }) in
    record { passes = ap refusal_in r; sight = ap (seen_of k) r ∙ h.seen }

-- ---- some entry
begun-going : (s : Store) → begun s ≡ Going → 0 < length s.entries
begun-going s e = go (length s.entries) e
  where
    go : (n : ℕ) → cond (eqb n 0) (Refused ORDER 0) Going ≡ Going → 0 < n
    go zero h = absurd (Going≢ (sym h))
    go (suc n) h = omega arith

going-begun : (s : Store) → 0 < length s.entries → begun s ≡ Going
going-begun s h = go (length s.entries) h
  where
    go : (n : ℕ) → 0 < n → cond (eqb n 0) (Refused ORDER 0) Going ≡ Going
    go zero h = absurd (omega arith)
    go (suc n) h = rw (eqb-suc-zero n)

pub asked-begun : (s : Store) → asked s ≡ Going → begun s ≡ Going
asked-begun s e = rounds-going (all_rounds s) (length s.entries) (begun s) e

-- ---- granted exactly if accepted
pub going-quiet : (s : Store) → asked s ≡ Going → AllQuiet (all_rounds s) (length s.entries)
going-quiet s e = rounds-quiet (all_rounds s) (length s.entries) (begun s) e

pub quiet-kinds : (s : Store) → AllQuiet (all_rounds s) (length s.entries) → (i : ℕ) → suc i < length s.entries → Follows (entry_at s.entries (suc i)).kind (entry_at s.entries i).kind
quiet-kinds s q i h = ordered s.entries i (all_yes (ask ORDER (in_order s.entries (suc i)) ∷ []) (q.0 (suc i) (omega arith) h)).0

pub going-across : (s : Store) → asked s ≡ Going → Across s.entries (seen s)
going-across s e =
    let es = s.entries in
    let q = going-quiet s e in
    yes-across es (seen s) (λ i h. all_yes (across_as es (seen s) (kind_of (entry_at es i).kind) (entry_at es i) i) (q.1.1.1.0 i (omega arith) h))

pub granted-accepted : (s : Store) → ((e : Entry) → Bytes (s.row_of e)) → asked s ≡ Going → Accepted s
granted-accepted s by e =
    let es = s.entries in
    let q = going-quiet s e in
    let many = begun-going s (asked-begun s e) in
    record {
      look = seen s;
      some-entry = many;
      device = eqb→eq (entry_at es 0).kind DEVICE (all_yes (ask ORDER (in_order es 0) ∷ []) (q.0 0 (omega arith) many)).0;
      kinds = quiet-kinds s q;
      bounds = λ i h. leb→le ((entry_at es i).start + (entry_at es i).len) s.size (all_yes (ask BOUNDS (within s.size (entry_at es i)) ∷ []) (q.1.0 i (omega arith) h)).0;
      rows = λ i h. read-shows s (entry_at es i) (by (entry_at es i)) (q.1.1.0 i (omega arith) h);
      across = going-across s e;
    }

module _ (s : Store) (a : Accepted s) where
  abbrev es : List Entry
  es = s.entries

  order-yes : (i : ℕ) → i < length es → T (in_order es i)
  order-yes zero h = eq→eqb (entry_at es 0).kind DEVICE a.device
  order-yes (suc i) h = in_order_lem es i (a.kinds i h)

  shown : (i : ℕ) → i < length es → Reads s (entry_at es i) (a.look (entry_at es i))
  shown i h = shows-read s (entry_at es i) (a.look (entry_at es i)) (a.rows i h)

  across-quiet : Quiet (across s) 0 (length es)
  across-quiet i x h =
      ap first_no (across-same es es refl (λ j b. own-use (entry_at es j)) (seen s) a.look (λ j b. (shown j b).sight) i h)
      ∙ yes-all (across_as es a.look (kind_of (entry_at es i).kind) (entry_at es i) i) (across-yes es a.look (sorted es a.kinds) a.across i h)

  pub accepted-granted : asked s ≡ Going
  accepted-granted =
      rw (going-begun s a.some-entry)
      (quiet-granted (all_rounds s) (length es) (
        (λ i x h. yes-all (ask ORDER (in_order es i) ∷ []) (order-yes i h, tt)),
        (
          (λ i x h. yes-all (ask BOUNDS (within s.size (entry_at es i)) ∷ []) (le→leb ((entry_at es i).start + (entry_at es i).len) s.size (a.bounds i h), tt)),
          ((λ i x h. (shown i h).passes), (across-quiet, tt)),
        ),
      ))
