-- What `Proved` says, all of it.
-- Assumes nothing.
use Prim.Native.Nat.{ℕ}
use mathlib.Core.Logic.{◌↔◌}
use mathlib.Core.Path.{◌≡◌, refl, ap}
use native.Mathlib.Omega.{arith}
use lib.ListN.{length}
use Rattle.layout.specs.RowLaws.{Bytes}
use Rattle.rows.specs.Rows as rows
use Rattle.rows.proofs.Proved.{proved}
use Rattle.store.specs.declared.Entry.{Entry}
use Rattle.store.specs.Rounds.{Asked, Going, Refused}
use Rattle.store.specs.Kinds.{CONTACT, COURIER}
use Rattle.store.specs.Store.{Store, asked, seen, Found, found, granted, refused, outcome, restore}
use Rattle.store.specs.Accepted.{Accepted, FirstNo}
use Rattle.store.specs.Veiled.{blanked}
use Rattle.store.specs.Proved.{StoreLaws}
use Rattle.store.proofs.Parts.{bytes-part}
use Rattle.store.proofs.Bytes.{equal-agree, agree-equal}
use Rattle.store.proofs.Accepted.{granted-accepted, accepted-granted}
use Rattle.store.proofs.First as first
use Rattle.store.proofs.Blind.{blind-restore, veil-symmetric, copied-restore}
use Rattle.store.proofs.Blanked.{disjoint-apart, blanked-equal}
use Rattle.store.proofs.Unused.{unused-restore, unused-passes}
use Rattle.store.proofs.Opened.{just-opened, opened-alike}
use Rattle.store.proofs.Lasting.{opened-lasts}
use Rattle.store.proofs.Written.{alike-long, alike-outside}
use Rattle.store.proofs.Slots.{slots-above, slots-one}
use Rattle.store.proofs.Duplicates.{kind-new, queued-new}

-- ---- an outcome says what was asked
granted-going : (a : Asked) (f : Found) → outcome a f ≡ granted f → a ≡ Going
granted-going Going f e = refl
granted-going (Refused n i) f e = let z : ◌≡◌ {A = ℕ} 0 1 = cc in absurd (omega arith)

refused-asked : (a : Asked) (f : Found) (q p : ℕ) → outcome a f ≡ refused q p → a ≡ Refused q p
refused-asked Going f q p e = let z : ◌≡◌ {A = ℕ} 0 1 = cc in absurd (omega arith)
refused-asked (Refused n i) f q p e = let x : n ≡ q = cc in let y : i ≡ p = cc in rw (x, y)

granted-exactly : (s : Store) → ((e : Entry) → Bytes (s.row_of e)) → (restore s ≡ granted (found s)) ↔ Accepted s
granted-exactly s by =
    ((λ e. granted-accepted s by (granted-going (asked s) (found s) e)), (λ a. ap (λ (x : Asked). outcome x (found s)) (accepted-granted s a)))

refused-exactly : (s : Store) (q p : ℕ) → (restore s ≡ refused q p) ↔ FirstNo s q p
refused-exactly s q p =
    let f = first.refused-exactly s q p in
    ((λ e. f.0 (refused-asked (asked s) (found s) q p e)), (λ h. ap (λ (x : Asked). outcome x (found s)) (f.1 h)))

pub store-laws : StoreLaws
store-laws = record {
  answers = record {
    granted-exactly = granted-exactly;
    run-bytes = λ run es. bytes-part run;
    refused-exactly = refused-exactly;
    first-in = first.first-in;
    unused = unused-restore;
    unused-opened = unused-passes;
  };
  slots = record { above = λ s i b k. slots-above s.entries (length s.entries) i b k; least = λ s. slots-one s.entries (length s.entries) };
  veiled = record {
    blind = blind-restore;
    symmetric = veil-symmetric;
    byte-by-byte = λ run run' es. (equal-agree run run' es, agree-equal run run' es);
    copied-rows = copied-restore;
    blanked-equal = blanked-equal;
    blanked-run = λ run es a. blind-restore run (blanked run es) es (blanked-equal run es a);
    disjoint-apart = disjoint-apart;
  };
  opened = record {
    just-opened = λ run es k j c by g b t r. just-opened run es k c by g j b t r;
    opened-lasts = λ run es k c c' v v' sent unacked g. opened-lasts c c' v v' sent unacked run es k g;
    opened-alike = λ run run' es k c c' v a. opened-alike c c' a run run' es k v;
    written-long = λ c c' a by by'. alike-long (rows.contact 3) (proved.contact 3) c c' a.valid a.valid' by by' a.alike;
    written-alike = λ c c' a by by'. alike-outside (rows.contact 3) (proved.contact 3) c c' a.valid a.valid' by by' a.alike;
  };
  duplicates = record {
    contact-new = λ s i b quiet is. kind-new s.entries (seen s) i b quiet CONTACT is refl refl;
    queued-new = λ s i b quiet is. queued-new s.entries (seen s) i b quiet is;
    slot-new = λ s i b quiet is. kind-new s.entries (seen s) i b quiet COURIER is refl refl;
  };
}
