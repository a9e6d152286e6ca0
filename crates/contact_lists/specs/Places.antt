-- Lent lists of records: each record stands in a place of w bytes, at its front; a reader fills the rest of the place with 0, and a writer does not look at it.
-- Assumes nothing.
use Rattle.std.specs.Prelude.{ℕ, zero, suc, ◌-◌, List, [], ◌∷◌, ◌++◌, length, take, drop}
use Rattle.layout.specs.Read.{Read, value, and_then, onto}
use Rattle.layout.specs.Veil.{zeros}
use Rattle.layout.specs.Form.{Form}
use Rattle.contact_lists.specs.Lists.{items_of}

module _ {B : Type 0} (w : ℕ) (f : Form B) where
  -- the records of the first n places, or the first refusal
  unfoldable pub read_places : ℕ → List ℕ → Read (List B)
  read_places zero l = value [] l
  read_places (suc n) l = and_then (f.read (take w l)) (λ b rest. onto (λ bs. b ∷ bs) (read_places n (drop w l)))

  -- the same records; none at all where one of them is refused
  unfoldable pub places_of : ℕ → List ℕ → List B
  places_of n l = items_of f (read_places n l)

  -- places filled with these records
  unfoldable pub print_places : List B → List ℕ
  print_places [] = []
  print_places (b ∷ bs) = (f.print b ++ zeros (w - length (f.print b))) ++ print_places bs
