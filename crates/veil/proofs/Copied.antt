-- Any row: writing the value that was read, with 0 for what is veiled, leaves the veiled copy.
-- Assumes nothing.
use Prim.Native.Nat.{ℕ, ◌≤◌, ◌<◌}
use mathlib.Core.List.{List, ◌++◌}
use mathlib.Core.Path.{◌≡◌, refl, sym, ap, subst, ◌∙◌}
use native.Mathlib.Omega.{arith}
use lib.ListN.{length, drop}
use Rattle.layout.specs.Questions.{OUTPUT}
use Rattle.layout.specs.Veil.{veil}
use Rattle.layout.specs.Layout.{Layout, Answer, accepted, refused_by, read_row, hidden_row, mask_of, print, blank_of}
use Rattle.layout.specs.RowLaws.{Bytes, Alike}
use Rattle.layout.specs.Says.{made}
use Rattle.layout.specs.Write.{Left, wrote, refuses, stored, judged, writes}
use Rattle.layout.specs.Write as write
use Rattle.layout.proofs.Hide.{length-hide}
use Rattle.layout.proofs.Theorems.{accepted≢}
use Rattle.layout.proofs.Write.{stored_short, stored_row}
use Rattle.rows.specs.Proved.{Row}
use Rattle.sealed.proofs.Made.{judged-no}
use Rattle.put.specs.Put.{Wrote}
use Rattle.put.proofs.Put.{put_front}
use Rattle.veil.specs.Veil.{veils}

-- what a reader accepted, and what it made of it
pub record Granted {A B : Type 0} (f : A → B) (a : Answer A) (b : B) : Type 0 where
  pub value : A
  pub is : a ≡ accepted value
  pub made-is : b ≡ f value

-- ---- a reader's answer
module _ {A B : Type 0} (f : A → B) (l : Layout A) (row : List ℕ) where
  pub granted : {b : B} → accepted b ≡ made f (read_row l row) → Granted f (read_row l row) b
  granted {b} told = go (read_row l row) told
    where
      go : (a : Answer A) → accepted b ≡ made f a → Granted f a b
      go (accepted v) e = record { value = v; is = refl; made-is = cc }
      go (refused_by q) e = absurd (accepted≢ e)

  -- the row's own refusal
  pub not-copied : {q : ℕ} → refused_by q ≡ made f (read_row l row) → (out : List ℕ) → ◌≡◌ {A = Left} (record { answer = refuses q; out = out }) (veils l row out)
  unfolding veils
  not-copied told out = judged-no f (read_row l row) told (hidden_row l veil row) out

-- ---- the copy
module _ {A : Type 0} (l : Layout A) (row out : List ℕ) where
  -- the copy is accepted as the row is
  pub copied : Row l → Bytes row → {v : A} → read_row l row ≡ accepted v → writes l (print l (blank_of l veil v)) out ≡ veils l row out
  unfolding veils write.writes
  copied proved by {v} e =
      ap (λ (x : List ℕ). judged (read_row l x) x out) (proved.laws.hidden-prints veil row (λ q r. refl) by v e)
      ∙ go (read_row l copy) (subst (λ (a : Answer A). Alike l veil a (read_row l copy)) e (proved.veil.copy-alike row))
      ∙ ap (λ (a : Answer A). judged a copy out) (sym e)
    where
      copy : List ℕ
      copy = hidden_row l veil row

      go : (a : Answer A) → Alike l veil (accepted v) a → judged a copy out ≡ stored copy out
      go (accepted u) alike = refl
      go (refused_by q) alike = absurd alike

-- ---- a copy that is stored as it is made
module _ {A : Type 0} (l : Layout A) (row out : List ℕ) where
  module _ {v : A} (e : read_row l row ≡ accepted v) where
    long : length (hidden_row l veil row) ≡ length row
    long = length-hide (mask_of l veil row) row

    pub copy-short : length out < length row → ◌≡◌ {A = Left} (record { answer = refuses OUTPUT; out = out }) (veils l row out)
    unfolding veils
    copy-short h = rw e (sym (stored_short (hidden_row l veil row) out (omega (arith, long))))

    pub copy_stored : {m : List ℕ} {p : ℕ} → length row ≤ length out → Wrote out 0 (hidden_row l veil row) m p → ◌≡◌ {A = Left} (record { answer = wrote (length row); out = m }) (veils l row out)
    unfolding veils
    copy_stored {m} h w =
        let room : length (hidden_row l veil row) ≤ length out = omega (arith, long) in
        let is : m ≡ hidden_row l veil row ++ drop (length (hidden_row l veil row)) out = w.now-is ∙ put_front out (hidden_row l veil row) room in
        rw (e, is) (sym (stored_row (hidden_row l veil row) out room ∙ ap (λ (n : ℕ). record { answer = wrote n; out = hidden_row l veil row ++ drop (length (hidden_row l veil row)) out }) long))
