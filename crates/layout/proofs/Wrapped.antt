-- A value that is wrapped, and a byte in front.
-- Assumes nothing.
use Prim.Native.Nat.{ℕ, suc}
use mathlib.Core.List.{List, ◌∷◌}
use mathlib.Core.Bool.{Bool, false}
use mathlib.Core.Option.{Option, none, some}
use mathlib.Core.Path.{◌≡◌, refl, sym, ap}
use lib.ListN.{get_or, drop}
use Rattle.layout.specs.Read.{Read, value, refused, onto, after, said}
use Rattle.layout.specs.Veil.{Level}
use Rattle.layout.specs.RowLaws.{Bytes}
use Rattle.layout.proofs.Lawful.{ReadAlike, Excused, Outcome, same, excuse, excuse', Blinds, value≢refused}
use Rattle.layout.proofs.Front.{got, left}

-- ---- a value that is wrapped
pub after-onto : {A B : Type 0} (g : B → A) (x : Read B) (k : A → List ℕ → List Bool) → after (onto g x) k ≡ after x (λ b rest. k (g b) rest)
after-onto g (value b rest) k = refl
after-onto g (refused q) k = refl

module _ {A B : Type 0} (lv : Level) (R : B → B → Type 0) (S : A → A → Type 0) (g g' : B → A) (w : (b b' : B) → R b b' → S (g b) (g' b')) (r r' : List ℕ → Read B) (m m' : List ℕ → List Bool) where
  pub onto-blind : Blinds lv R r r' m m' → Blinds lv S (λ row. onto g (r row)) (λ row. onto g' (r' row)) m m'
  onto-blind h row row' k e = go (r row) (r' row') (h row row' (λ b rest. k (g b) rest) (rw (after-onto g (r row) k) at e))
    where
      both : (x x' : Read B) → ReadAlike R (λ b rest. k (g b) rest) x x' → ReadAlike S k (onto g x) (onto g' x')
      both (value b rest) (value b' rest') a = (w b b' a.0, a.1)
      both (refused q) (refused q') a = a
      both (value b rest) (refused q) a = absurd a
      both (refused q) (value b rest) a = absurd a

      stays : (x : Read B) (g : B → A) → Excused lv x → Excused lv (onto g x)
      stays (value b rest) g h = absurd h
      stays (refused q) g h = h

      go : (x x' : Read B) → Outcome lv R (λ b rest. k (g b) rest) x x' (m row) (m' row') → Outcome lv S k (onto g x) (onto g' x') (m row) (m' row')
      go x x' (same s) = same (record { alike = both x x' s.alike; masks = s.masks })
      go x x' (excuse h) = excuse (stays x g h)
      go x x' (excuse' h) = excuse' (stays x' g' h)

-- a byte before it
pub more-mask : {B : Type 0} (lv : Level) (R : B → B → Type 0) (k : B → List ℕ → List Bool) (x x' : Read B) (m m' : List Bool) → Outcome lv R k x x' m m' → Outcome lv R k x x' (false ∷ m) (false ∷ m')
more-mask lv R k x x' m m' (same h) = same (record { alike = h.alike; masks = ap (λ (l : List Bool). false ∷ l) h.masks })
more-mask lv R k x x' m m' (excuse h) = excuse h
more-mask lv R k x x' m m' (excuse' h) = excuse' h

pub onto-said : {A B : Type 0} (g : B → A) (o : Option ℕ) (b : B) (rest : List ℕ) → onto g (said o b rest) ≡ said o (g b) rest
onto-said g none b rest = refl
onto-said g (some q) b rest = refl

pub record Inner {A B : Type 0} (g : B → A) (x : Read B) (a : A) (rest : List ℕ) : Type 0 where
  pub got : B
  pub read : x ≡ value got rest
  pub wraps : g got ≡ a

pub inner : {A B : Type 0} (g : B → A) (x : Read B) (a : A) (rest : List ℕ) → onto g x ≡ value a rest → Inner g x a rest
inner g (value b r) a rest e = let h : r ≡ rest = ap (λ (y : Read _). left y) e in record { got = b; read = ap (λ (l : List ℕ). value b l) h; wraps = ap (λ (y : Read _). got (g b) y) e }
inner g (refused q) a rest e = absurd (value≢refused (sym e))

pub record Cons (x y : ℕ) (xs ys : List ℕ) : Type 0 where
  pub head : x ≡ y
  pub tail : xs ≡ ys

pub cons : (x y : ℕ) (xs ys : List ℕ) → x ∷ xs ≡ y ∷ ys → Cons x y xs ys
cons x y xs ys e = record { head = ap (λ (l : List ℕ). get_or l 0 0) e; tail = ap (λ (l : List ℕ). drop 1 l) e }

pub bytes-tail : (x : ℕ) (row : List ℕ) → Bytes (x ∷ row) → Bytes row
bytes-tail x row by i = by (suc i)
