-- A row's kind says which of the four is meant.
-- Assumes nothing.
use Prim.Native.Nat.{ℕ}
use mathlib.Core.List.{List}
use mathlib.Core.Path.{◌≡◌}
use borrow.Author.Tests.{ne_eqb}
use Rattle.layout.specs.Questions.{CODE}
use Rattle.layout.specs.Write.{refuses}
use Rattle.rows.specs.Rows.{device, contact, queued, courier}
use Rattle.veil.specs.Veil as spec
use Rattle.veil.specs.Veil.{veils, veil_of}

module _ (version : ℕ) (row out : List ℕ) {kind : ℕ} where
  pub of-device : kind ≡ 0 → veil_of kind version row out ≡ veils (device version) row out
  unfolding spec.veil_of
  of-device e = rw e

  pub of-contact : kind ≡ 1 → veil_of kind version row out ≡ veils (contact version) row out
  unfolding spec.veil_of
  of-contact e = rw e

  pub of-queued : kind ≡ 2 → veil_of kind version row out ≡ veils (queued version) row out
  unfolding spec.veil_of
  of-queued e = rw e

  pub of-courier : kind ≡ 3 → veil_of kind version row out ≡ veils (courier version) row out
  unfolding spec.veil_of
  of-courier e = rw e

  pub of_none : (kind ≡ 0 → ⊥) → (kind ≡ 1 → ⊥) → (kind ≡ 2 → ⊥) → (kind ≡ 3 → ⊥) → veil_of kind version row out ≡ record { answer = refuses CODE; out = out }
  unfolding spec.veil_of
  of_none a b c d = rw (ne_eqb kind 0 a, ne_eqb kind 1 b, ne_eqb kind 2 c, ne_eqb kind 3 d)
