-- Stores that differ only in veiled bytes: restore answers the same, and finds values alike outside veiled fields.
-- Assumes nothing.
use Prim.Native.Nat.{ℕ, suc, ◌<◌}
use mathlib.Core.List.{List, [], ◌∷◌}
use mathlib.Core.Bool.{Bool, false}
use mathlib.Core.Path.{◌≡◌, refl, sym, ap, ◌∙◌}
use native.Mathlib.Omega.{arith}
use lib.ListN.{length, get_or}
use Rattle.layout.specs.Veil.{veil, hide, Outside}
use Rattle.layout.specs.Layout.{Answer, accepted, refused_by}
use Rattle.layout.specs.Layout as layout
use Rattle.layout.specs.RowLaws.{Alike}
use Rattle.layout.proofs.Hide.{length-hide, hide-hide, hide-outside}
use Rattle.store.specs.declared.Entry.{Entry}
use Rattle.store.specs.Rounds.{Asked, Going, Refused}
use Rattle.store.specs.Kinds.{Kind, device, contact, queued, courier, unknown, kind_of, ValueOf, layout_of}
use Rattle.store.specs.Store.{Store, entry_at, part_of, store_of, answer_of, seen, asked, ContactRow, contacts_as, contacts_in, found, outcome, restore}
use Rattle.store.specs.Veiled.{veiled_in, VeilEqual, ContactsAlike, FoundAlike, OutcomesAlike, copied}
use Rattle.store.proofs.Rounds.{Going≢}
use Rattle.store.proofs.Parts.{part-long}
use Rattle.store.proofs.ByKind.{row-of, same-sight}
use Rattle.store.proofs.Same.{own-use, relaid, Agree, agree-asked, next-same}

-- ---- rows from elsewhere, each as long, and alike outside its veiled bytes
pub record RowVeilEqual (e : Entry) (row row' : List ℕ) : Type 0 where
  pub long : length row ≡ length row'
  pub outside : Outside (veiled_in e row) row row'

contact-alike : (k : Kind) (version id : ℕ) (a a' : Answer (ValueOf k)) (rs rs' : List ContactRow) → Alike (layout_of k version) veil a a' → ContactsAlike rs rs'
    → ContactsAlike (contacts_as k id a rs) (contacts_as k id a' rs')
unfolding layout.blank_of
contact-alike contact version id (accepted v) (accepted v') rs rs' h t = (refl, h, t)
contact-alike contact version id (refused_by p) (refused_by q) rs rs' h t = t
contact-alike contact version id (accepted v) (refused_by q) rs rs' h t = absurd h
contact-alike contact version id (refused_by p) (accepted v) rs rs' h t = absurd h
contact-alike device version id a a' rs rs' h t = t
contact-alike queued version id a a' rs rs' h t = t
contact-alike courier version id a a' rs rs' h t = t
contact-alike unknown version id a a' rs rs' h t = t

module _ (s : Store) (from : Entry → List ℕ) where
  abbrev AnswersAlike : Entry → Type 0
  AnswersAlike e = Alike (layout_of (kind_of e.kind) e.version) veil (answer_of s e) (answer_of (relaid s from) e)

  contacts-alike : (es : List Entry) → ((i : ℕ) → i < length es → AnswersAlike (entry_at es i)) → ContactsAlike (contacts_in s es) (contacts_in (relaid s from) es)
  contacts-alike [] h = tt
  contacts-alike (e ∷ es) h =
      contact-alike (kind_of e.kind) e.version e.id (answer_of s e) (answer_of (relaid s from) e) (contacts_in s es) (contacts_in (relaid s from) es) (h 0 (omega arith))
      (contacts-alike es (λ i b. h (suc i) (omega arith)))

  module _ (h : (i : ℕ) → i < length s.entries → RowVeilEqual (entry_at s.entries i) (s.row_of (entry_at s.entries i)) (from (entry_at s.entries i))) where
    alike-rows : (i : ℕ) → i < length s.entries → AnswersAlike (entry_at s.entries i)
    alike-rows i b = let e = entry_at s.entries i in (row-of (kind_of e.kind) e.version).veil.blind (s.row_of e) (from e) (h i b).long (h i b).outside

    alike-agree : Agree s from
    alike-agree i b = let e = entry_at s.entries i in same-sight (kind_of e.kind) e.version (answer_of s e) (answer_of (relaid s from) e) (alike-rows i b)

    pub alike-restore : OutcomesAlike (restore s) (restore (relaid s from))
    alike-restore =
        go (asked s) (asked (relaid s from)) (agree-asked s from alike-agree)
        (record { contacts = contacts-alike s.entries alike-rows; nexts = next-same s.entries s.entries refl (λ i b. own-use (entry_at s.entries i)) (seen s) (seen (relaid s from)) (λ i b. (alike-agree i b).sights); slots = refl })
      where
        go : (a a' : Asked) → a ≡ a' → FoundAlike (found s) (found (relaid s from)) → OutcomesAlike (outcome a (found s)) (outcome a' (found (relaid s from)))
        go Going Going e f = f
        go (Refused n i) (Refused n' i') e f = (cc, cc)
        go Going (Refused n i) e f = absurd (Going≢ e)
        go (Refused n i) Going e f = absurd (Going≢ (sym e))

-- ---- two runs
pub blind-restore : (run run' : List ℕ) (es : List Entry) → VeilEqual run run' es → OutcomesAlike (restore (store_of run es)) (restore (store_of run' es))
blind-restore run run' es v =
    rw (← v.long) (alike-restore (store_of run es) (part_of run') (λ i b. record { long = part-long run run' (entry_at es i) v.long; outside = v.each i b }))

pub veil-symmetric : (run run' : List ℕ) (es : List Entry) → VeilEqual run run' es → VeilEqual run' run es
veil-symmetric run run' es v = record { long = sym v.long; each = λ i b q o. sym (v.each i b q (sym (ap (λ (m : List Bool). get_or m q false) (masks i b)) ∙ o)) }
  where
    masks : (i : ℕ) → i < length es → veiled_in (entry_at es i) (part_of run' (entry_at es i)) ≡ veiled_in (entry_at es i) (part_of run (entry_at es i))
    masks i b = let e = entry_at es i in (row-of (kind_of e.kind) e.version).veil.same-veiled (part_of run e) (part_of run' e) (part-long run run' e v.long) (v.each i b)

-- ---- rows replaced by their veiled copies
pub copied-restore : (s : Store) → OutcomesAlike (restore s) (restore (copied s))
copied-restore s = alike-restore s (copied s).row_of (λ i b. let e = entry_at s.entries i in copy-alike (veiled_in e (s.row_of e)) e (s.row_of e) refl)
  where
    copy-alike : (m : List Bool) (e : Entry) (row : List ℕ) → veiled_in e row ≡ m → RowVeilEqual e row (hide m row)
    copy-alike m e row h = record { long = sym (length-hide m row); outside = rw h (hide-outside m row (hide m row) (sym (hide-hide m row))) }
