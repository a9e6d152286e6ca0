-- Bytes parted at a mark: put together again they are the bytes, and no part has the mark in it.
-- Assumes nothing.
use Prim.Native.Nat.{ℕ}
use mathlib.Core.List.{List, [], ◌∷◌, ◌++◌}
use mathlib.Core.Bool.{Bool, true, false, cond}
use mathlib.Core.Path.{◌≡◌, refl, ◌∙◌}
use lib.Dec.{eqb}
use borrow.Author.Tests.{eqb-true}
use Rattle.ascii.specs.Words as words
use Rattle.ascii.specs.Words.{in_front, parted}

-- the parts with the mark between them
unfoldable pub joined : (mark : ℕ) → List (List ℕ) → List ℕ
joined m [] = []
joined m (p ∷ []) = p
joined m (p ∷ q ∷ ps) = p ++ (m ∷ joined m (q ∷ ps))

-- some parts, a first one
pub data Some : List (List ℕ) → Type 0 where
  some-part : {p : List ℕ} {ps : List (List ℕ)} → Some (p ∷ ps)

some-front : (b : ℕ) (ps : List (List ℕ)) → Some ps → Some (in_front b ps)
some-front b (p ∷ ps) some-part = some-part
some-front b [] x' = elim x' [ ]

pub some-parts : (m : ℕ) (bs : List ℕ) → Some (parted m bs)
unfolding words.parted
some-parts m [] = some-part
some-parts m (b ∷ bs) = go (eqb b m) (some-parts m bs)
  where
    go : (t : Bool) → Some (parted m bs) → Some (cond t ([] ∷ parted m bs) (in_front b (parted m bs)))
    go true s = some-part
    go false s = some-front b (parted m bs) s

joined-mark : (m : ℕ) (ps : List (List ℕ)) → Some ps → joined m ([] ∷ ps) ≡ m ∷ joined m ps
unfolding joined
joined-mark m (p ∷ ps) some-part = refl
joined-mark m [] x' = elim x' [ ]

joined-front : (m b : ℕ) (ps : List (List ℕ)) → Some ps → joined m (in_front b ps) ≡ b ∷ joined m ps
unfolding joined
joined-front m b (p ∷ []) some-part = refl
joined-front m b (p ∷ q ∷ ps) some-part = refl
joined-front m b [] x' = elim x' [ ]

pub joined-parts : (m : ℕ) (bs : List ℕ) → joined m (parted m bs) ≡ bs
unfolding words.parted joined
joined-parts m [] = refl
joined-parts m (b ∷ bs) = go (eqb b m) refl (joined-parts m bs)
  where
    go : (t : Bool) → eqb b m ≡ t → joined m (parted m bs) ≡ bs → joined m (cond t ([] ∷ parted m bs) (in_front b (parted m bs))) ≡ b ∷ bs
    go true e ih = joined-mark m (parted m bs) (some-parts m bs) ∙ rw (ih, eqb-true b m e)
    go false e ih = joined-front m b (parted m bs) (some-parts m bs) ∙ rw ih

-- ---- the mark is in no part
pub data Free (m : ℕ) : List ℕ → Type 0 where
  free-nil : Free m []
  free-cons : {b : ℕ} {bs : List ℕ} → eqb b m ≡ false → Free m bs → Free m (b ∷ bs)

pub data AllFree (m : ℕ) : List (List ℕ) → Type 0 where
  frees-nil : AllFree m []
  frees-cons : {p : List ℕ} {ps : List (List ℕ)} → Free m p → AllFree m ps → AllFree m (p ∷ ps)

frees-front : (m b : ℕ) (ps : List (List ℕ)) → eqb b m ≡ false → AllFree m ps → AllFree m (in_front b ps)
frees-front m b [] e frees-nil = frees-nil
frees-front m b (p ∷ ps) e (frees-cons f fs) = frees-cons (free-cons e f) fs

pub free-parts : (m : ℕ) (bs : List ℕ) → AllFree m (parted m bs)
unfolding words.parted
free-parts m [] = frees-cons free-nil frees-nil
free-parts m (b ∷ bs) = go (eqb b m) refl (free-parts m bs)
  where
    go : (t : Bool) → eqb b m ≡ t → AllFree m (parted m bs) → AllFree m (cond t ([] ∷ parted m bs) (in_front b (parted m bs)))
    go true e ih = frees-cons free-nil ih
    go false e ih = frees-front m b (parted m bs) e ih
