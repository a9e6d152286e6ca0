-- A list as code walks over it: the count, and then item by item, of which only the end is kept.
-- Assumes nothing.
use Rattle.std.specs.Prelude.{ℕ, zero, suc}
use Rattle.layout.specs.Field.{Field, takes, refuses}
use Rattle.layout.specs.Layout.{Answer, accepted, refused_by}
use Rattle.contact_lists.specs.declared.ListAt.{ListAt}

abbrev pub onward : Field (Unit {0}) → (ℕ → Field (Unit {0})) → Field (Unit {0})
onward (takes u next) ends = ends next
onward (refuses q) ends = refuses q

-- where n items end, one behind the other, if an item that starts at a position ends as `ends` says there
unfoldable pub end_of : (ℕ → Field (Unit {0})) → ℕ → ℕ → Field (Unit {0})
end_of ends zero at = takes tt at
end_of ends (suc n) at = onward (ends at) (λ next. end_of ends n next)

-- a list, once its count was read and its end was found
abbrev pub found_at : ℕ → ℕ → Field (Unit {0}) → Answer ListAt
found_at count first (takes u next) = accepted (record { first = first; next = next; count = count })
found_at count first (refuses q) = refused_by q

abbrev pub found : (ℕ → ℕ → Field (Unit {0})) → Field ℕ → Answer ListAt
found ends (takes count first) = found_at count first (ends count first)
found ends (refuses q) = refused_by q
