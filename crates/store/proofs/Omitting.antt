-- Which entries are left out, and what is seen of them.
-- Assumes nothing.
use Prim.Native.Nat.{ℕ}
use mathlib.Core.List.{List}
use mathlib.Core.Bool.{Bool, false, cond, ◌&&◌}
use mathlib.Core.Path.{◌≡◌, refl, ap, ◌∙◌}
use lib.Dec.{eqb}
use Rattle.layout.specs.Layout.{read_row}
use Rattle.store.specs.declared.Entry.{Entry}
use Rattle.store.specs.Omitted.{Omitted, is_omitted, omitted_seen, seen_omitted}
use Rattle.std.specs.Prelude.{None, Some}
use Rattle.store.specs.Kinds.{CONTACT, Kind, contact, kind_of, layout_of, Seen, seen_of}
use Rattle.store.specs.Store.{store_of, part_of, seen}

-- only a contact is left out
pub not-omitted : (omitted : Omitted) (e : Entry) (k : ℕ) → e.kind ≡ k → eqb k CONTACT ≡ false → is_omitted omitted e ≡ false
not-omitted None e k is other = refl
not-omitted (Some o) e k is other = ap (λ (n : ℕ). eqb n CONTACT && eqb e.id o.contact.0) is ∙ ap (λ (t : Bool). t && eqb e.id o.contact.0) other

-- ---- what is seen of an entry, by its kind
module _ (run : List ℕ) (es : List Entry) (omitted : Omitted) (e : Entry) where
  seen_as : (k : Kind) → kind_of e.kind ≡ k → seen (store_of run es) e ≡ seen_of k (read_row (layout_of k e.version) (part_of run e))
  seen_as k p = ap (λ (x : Kind). seen_of x (read_row (layout_of x e.version) (part_of run e))) p

  abbrev sight : Seen
  sight = seen_omitted run es (is_omitted omitted) (omitted_seen omitted) e

  pub other-seen : (n : ℕ) → e.kind ≡ n → eqb n CONTACT ≡ false → sight ≡ seen_of (kind_of n) (read_row (layout_of (kind_of n) e.version) (part_of run e))
  other-seen n is other = ap (λ (t : Bool). cond t (omitted_seen omitted) (seen (store_of run es) e)) (not-omitted omitted e n is other) ∙ seen_as (kind_of n) (ap kind_of is)

  pub contact-seen : e.kind ≡ CONTACT → sight ≡ cond (is_omitted omitted e) (omitted_seen omitted) (seen_of contact (read_row (layout_of contact e.version) (part_of run e)))
  contact-seen is = ap (λ (x : Seen). cond (is_omitted omitted e) (omitted_seen omitted) x) (seen_as contact (ap kind_of is))
