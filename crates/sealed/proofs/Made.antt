-- What a reader makes of a row: another thing is made of the same answer, and a refusal changes nothing.
-- Assumes nothing.
use Prim.Native.Nat.{ℕ}
use mathlib.Core.List.{List}
use mathlib.Core.Path.{◌≡◌, refl, sym, ap}
use Rattle.layout.specs.Layout.{Answer, accepted, refused_by}
use Rattle.layout.specs.Says.{made}
use Rattle.layout.specs.Write.{Left, refuses, judged}
use Rattle.layout.proofs.Theorems.{accepted≢}

module _ {A B C : Type 0} where
  pub made-onto : (f : A → B) (g : B → C) (a : Answer A) {b : B} → accepted b ≡ made f a → accepted (g b) ≡ made (λ v. g (f v)) a
  made-onto f g (accepted v) {b} e = let same : b ≡ f v = cc in ap (λ (x : B). accepted (g x)) same
  made-onto f g (refused_by q) e = absurd (accepted≢ e)

  -- what refuses one refuses the other
  pub made-no : (f : A → B) (g : A → C) (a : Answer A) {q : ℕ} → refused_by q ≡ made f a → refused_by q ≡ made g a
  made-no f g (accepted v) e = absurd (accepted≢ (sym e))
  made-no f g (refused_by p) {q} e = let same : q ≡ p = cc in ap refused_by same

-- what is judged by an answer that refuses stays as it was
pub judged-no : {A B : Type 0} (f : A → B) (a : Answer A) {q : ℕ} → refused_by q ≡ made f a → (row out : List ℕ) → ◌≡◌ {A = Left} (record { answer = refuses q; out = out }) (judged a row out)
judged-no f (accepted v) e row out = absurd (accepted≢ (sym e))
judged-no f (refused_by p) {q} e row out = let same : q ≡ p = cc in rw same refl
