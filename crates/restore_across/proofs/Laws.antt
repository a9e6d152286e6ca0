-- What a caller of `entry_turn` needs, turn by turn: from what stands before an entry's turn, what the turn may take over and what stands after it.
-- Assumes nothing.
use Prim.Native.Nat.{ℕ, zero, suc, ◌+◌, ◌<◌}
use mathlib.Core.List.{List}
use mathlib.Core.Bool.{Bool, cond}
use mathlib.Core.Path.{◌≡◌, refl, sym, ap, ◌∙◌, subst}
use native.Mathlib.Omega.{arith}
use native.Mathlib.Numerals.{add-one}
use lib.ListN.{length}
use borrow.Author.Tests.{lt-ltb}
use Rattle.store.specs.declared.Entry.{Entry}
use Rattle.store.specs.Omitted.{Omitted}
use Rattle.store.specs.Rounds.{Round, turn, turns}
use Rattle.store.specs.Rounds as so
use Rattle.store.specs.Kinds.{DEVICE, CONTACT, kind_of, nothing}
use Rattle.store.specs.Store.{entry_at, part_of}
use Rattle.store.specs.Duplicates.{first_duplicate}
use Rattle.store.proofs.Duplicates.{across_by}
use Rattle.restore_across.specs.declared.Owner.{Owner}
use Rattle.restore_across.specs.declared.Progress.{Progress}
use Rattle.restore_across.specs.Across.{Going, Refused, fresh, OwnerAt, owner_limit, Reusable, entry_turn}
use Rattle.restore_across.specs.Owner.{owner_seen, owner_found, OwnerStands, Known}
use Rattle.restore_across.specs.At.{read_so, sight, At}
use Rattle.restore_across.proofs.Steps.{turns-last, first-device}
use Rattle.restore_across.proofs.ByKind.{turn-as, owner-again, owner-known}

module _ (run : List ℕ) (es : List Entry) (omitted : Omitted) (i : ℕ) (w : Progress) (b : i < length es) (at : At run es omitted i (Going w)) (p : ℕ) (found : OwnerAt es (entry_at es i) (owner_limit (entry_at es i) i) p) where
  abbrev e : Entry
  e = entry_at es i

  abbrev c : Entry
  c = entry_at es p

  abbrev limit : ℕ
  limit = owner_limit e i

  pub reusable : Reusable run omitted c p limit (Going w)
  reusable = owner-again run es omitted i w b at.asked at.so-kept p found

  pub known : p < limit → Known run omitted c
  known = owner-known run es omitted i w b at.asked at.so-kept p found

  pub turned : (o : Owner) → OwnerStands (owner_found run omitted c p limit) (part_of run c) o → At run es omitted (i + 1) (entry_turn run e c i p (first_duplicate es) o (Going w))
  turned o stands =
      rw (add-one i)
      (turn-as run es omitted i w b at.asked at.so-kept p found (kind_of e.kind) refl o
      (λ l. subst (λ (f : Bool). OwnerStands (cond f (owner_seen run omitted c) nothing) (part_of run c) o) (lt-ltb p limit l) stands))

-- where the rounds before have found no no
pub begins : (run : List ℕ) (es : List Entry) (omitted : Omitted) → read_so run es omitted ≡ so.Going → At run es omitted 0 (Going fresh)
begins run es omitted read = record {
  asked = sym read;
  so-kept = record { next = λ z. absurd (omega arith); slots = refl; owner = λ k. let z : DEVICE ≡ CONTACT = sym (first-device run es omitted read) ∙ k in absurd (omega arith) };
}

-- after a no the turns that are left change nothing
pub stopped : (run : List ℕ) (es : List Entry) (omitted : Omitted) (i left m : ℕ) {q p : ℕ} → i + left ≡ m → At run es omitted i (Refused q p) → At run es omitted m (Refused q p)
stopped run es omitted i left m {q} {p} is at = record { asked = go left m is; so-kept = tt }
  where
    round : Round
    round = across_by es (sight run es omitted)

    go : (left m : ℕ) → i + left ≡ m → so.Refused q p ≡ turns round 0 m (read_so run es omitted)
    go zero m e = let same : i ≡ m = omega arith in subst (λ (n : ℕ). so.Refused q p ≡ turns round 0 n (read_so run es omitted)) same at.asked
    go (suc left) m e =
        let last : suc (i + left) ≡ m = omega arith in
        subst (λ (n : ℕ). so.Refused q p ≡ turns round 0 n (read_so run es omitted)) last
        (ap (turn (round (i + left)) (i + left)) (go left (i + left) refl) ∙ sym (turns-last round 0 (i + left) (i + left) (read_so run es omitted) (omega arith)))
