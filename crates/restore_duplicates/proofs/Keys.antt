-- Keys: an entry and its duplicate have the same one, and so the same hash.
-- Assumes nothing.
use Rattle.std.proofs.Common.{◌≡◌, ℕ, Bool, true, false, cond, not, ◌||◌, T, eqb, refl, ap, ◌∙◌, eqb→eq}
use Rattle.store.specs.declared.Entry.{Entry}
use Rattle.store.specs.Kinds.{QUEUED}
use Rattle.store.specs.Store.{is_of}
use Rattle.store.specs.Find.{is_wanted}
use Rattle.store.specs.Duplicates.{duplicate_of}
use Rattle.store.proofs.Tests.{both, is-of}
use Rattle.restore_duplicates.specs.Above.{msgno_of}
use Rattle.restore_duplicates.specs.Keys.{key_hash, hash_of}

pub record SameKey (e x : Entry) : Type 0 where
  pub kind : x.kind ≡ e.kind
  pub id : x.id ≡ e.id
  pub msgno : msgno_of x ≡ msgno_of e

pub duplicate-key : (e x : Entry) → T (is_wanted (duplicate_of e) x) → SameKey e x
duplicate-key e x t = record { kind = of.0; id = of.1; msgno = ap (λ (k : ℕ). cond (eqb k QUEUED) x.msgno 0) of.0 ∙ same (eqb e.kind QUEUED) parts.1 }
  where
    parts : T (is_of e.kind e.id x) × T (not (eqb e.kind QUEUED) || eqb x.msgno e.msgno)
    parts = both (is_of e.kind e.id x) (not (eqb e.kind QUEUED) || eqb x.msgno e.msgno) t

    of : (x.kind ≡ e.kind) × (x.id ≡ e.id)
    of = is-of e.kind e.id x parts.0

    same : (queued : Bool) → T (not queued || eqb x.msgno e.msgno) → cond queued x.msgno 0 ≡ cond queued e.msgno 0
    same true u = eqb→eq x.msgno e.msgno u
    same false u = refl

pub same-hash : (e x : Entry) → SameKey e x → hash_of x ≡ hash_of e
same-hash e x k = λ j. key_hash (k.kind j) (k.id j) (k.msgno j)
