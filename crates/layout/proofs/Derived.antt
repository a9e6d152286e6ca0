-- The forms that are layouts are lawful: a part behind a flag, a counted list, a row within the row behind its length.
-- Assumes nothing.
use Prim.Native.Nat.{ℕ}
use mathlib.Core.List.{List, [], ◌∷◌, map}
use mathlib.Core.Bool.{Bool, true, false}
use mathlib.Core.Option
use mathlib.Core.Option.{Option, none, some}
use mathlib.Core.Path.{◌≡◌, refl, sym, ap, ap₂, ◌∙◌}
use lib.ListN.{length, length-map}
use Rattle.layout.specs.Veil.{Level}
use Rattle.layout.specs.Form.{Form, fits_if}
use Rattle.layout.specs.Layout.{blank_of, present, optional_layout, optional, list_layout, list, sized_layout, sized}
use Rattle.layout.specs.Layout as layout
use Rattle.layout.proofs.Lawful.{Lawful, Blind, b-done, b-field, b-plain, s-any, s-field, s-done, group-lawful}
use Rattle.layout.proofs.Front.{number-lawful, flag-lawful}
use Rattle.layout.proofs.Parts.{only_if-lawful, times-lawful}
use Rattle.layout.proofs.Nested.{inside-lawful}

module _ {B : Type 0} (f : Form B) (law : Lawful f) where
  there : (t : Bool) (o : Option B) (rest : List ℕ) → fits_if f t o rest → present o ≡ t
  there true none rest h = absurd h
  there true (some b) rest h = refl
  there false none rest h = refl
  there false (some b) rest h = absurd h

  optional-blind : (lv : Level) → Blind lv (λ o o'. layout.blank_of (optional_layout f) lv o ≡ layout.blank_of (optional_layout f) lv o') (optional_layout f) (optional_layout f)
  unfolding layout.blank_of
  optional-blind lv = b-plain flag-lawful (λ t. refl) (λ t. b-field (only_if-lawful f law t) (λ o o' e. b-done e))

  pub optional-lawful : Lawful (optional f)
  optional-lawful =
      group-lawful (optional_layout f) (s-any flag-lawful (λ t. s-field (only_if-lawful f law t) (λ o rest h. s-done ((tt, there t o rest h), refl)))) optional-blind

  list-blind : (lv : Level) → Blind lv (λ o o'. layout.blank_of (list_layout f) lv o ≡ layout.blank_of (list_layout f) lv o') (list_layout f) (list_layout f)
  unfolding layout.blank_of
  list-blind lv = b-plain (number-lawful 2) (λ n. refl) (λ n. b-field (times-lawful f law n) (λ bs bs' e. b-done e))

  pub list_lawful : Lawful (list f)
  list_lawful =
      group-lawful (list_layout f) (s-any (number-lawful 2) (λ n. s-field (times-lawful f law n) (λ bs rest h. s-done ((tt, h.0), refl)))) list-blind

  sized-blind : (q : ℕ) (lv : Level) → Blind lv (λ o o'. layout.blank_of (sized_layout f q) lv o ≡ layout.blank_of (sized_layout f q) lv o') (sized_layout f q) (sized_layout f q)
  unfolding layout.blank_of
  sized-blind q lv = b-plain (number-lawful 2) (λ n. refl) (λ n. b-field (inside-lawful n q f law) (λ b b' e. b-done e))

  pub sized-lawful : (q : ℕ) → Lawful (sized f q)
  sized-lawful q =
      group-lawful (sized_layout f q) (s-any (number-lawful 2) (λ n. s-field (inside-lawful n q f law) (λ b rest h. s-done ((tt, h.0), refl)))) (sized-blind q)

-- where nothing of f is hidden, nothing of these is
module _ {B : Type 0} (f : Form B) (lv : Level) (bared : (b : B) → f.blank lv b ≡ b) where
  pub only_if-plain : (o : Option B) → Option.map (f.blank lv) o ≡ o
  only_if-plain none = refl
  only_if-plain (some b) = ap some (bared b)

  pub optional-plain : (o : Option B) → (optional f).blank lv o ≡ o
  unfolding layout.blank_of
  optional-plain = only_if-plain

  map-plain : (bs : List B) → map (f.blank lv) bs ≡ bs
  map-plain [] = refl
  map-plain (b ∷ bs) = ap₂ (λ (x : B) (l : List B). x ∷ l) (bared b) (map-plain bs)

  pub list-plain : (bs : List B) → (list f).blank lv bs ≡ bs
  unfolding layout.blank_of
  list-plain = map-plain

-- what a function sees of a list whose hidden parts differ, if it sees nothing of them
module _ {B C : Type 0} (f : Form B) (lv : Level) (g : B → C) (unseen : (b : B) → g (f.blank lv b) ≡ g b) where
  map-unseen : (bs : List B) → map g (map (f.blank lv) bs) ≡ map g bs
  map-unseen [] = refl
  map-unseen (b ∷ bs) = ap₂ (λ (x : C) (l : List C). x ∷ l) (unseen b) (map-unseen bs)

  pub list-unseen : (bs bs' : List B) → (list f).blank lv bs ≡ (list f).blank lv bs' → map g bs ≡ map g bs'
  unfolding layout.blank_of
  list-unseen bs bs' e = sym (map-unseen bs) ∙ ap (λ (l : List B). map g l) e ∙ map-unseen bs'

module _ {B : Type 0} (f : Form B) (lv : Level) where
  pub list-as-long : (bs bs' : List B) → (list f).blank lv bs ≡ (list f).blank lv bs' → length bs ≡ length bs'
  unfolding layout.blank_of
  list-as-long bs bs' e = sym (length-map bs (f.blank lv)) ∙ ap (λ (l : List B). length l) e ∙ length-map bs' (f.blank lv)
