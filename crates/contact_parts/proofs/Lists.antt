-- Where a counted list stands that `lists` found: behind its count, from the place that was asked for.
-- Assumes nothing.
use Prim.Native.Nat.{ℕ, ◌+◌, ◌≤◌}
use mathlib.Core.List.{List, [], ◌++◌}
use mathlib.Core.Path.{◌≡◌, sym, ap, ◌∙◌}
use native.Mathlib.Omega.{arith}
use lib.ListN.{length, length-append}
use Rattle.layout.specs.Form.{Form, u16, print_many, times}
use Rattle.layout.specs.Field.{read_at, takes}
use Rattle.layout.specs.Layout.{print, list, list_layout}
use Rattle.layout.specs.Layout as layout
use Rattle.layout.specs.RowLaws.{Bytes}
use Rattle.layout.proofs.Lawful.{Lawful}
use Rattle.layout.proofs.Parts.{times-lawful}
use Rattle.layout.proofs.Derived.{list_lawful}
use Rattle.layout.proofs.At.{Took, took, took-next}
use Rattle.contact_lists.specs.declared.ListAt.{ListAt}
use Rattle.contact_lists.proofs.Ends.{items_at, listed-fits}
use Rattle.offsets.specs.Offset.{offset}
use Rattle.contact_parts.specs.Offsets.{list_at, list_in, ListIn}

pub list-long : {B : Type 0} (f : Form B) (bs : List B) → length ((list f).print bs) ≡ offset (list_layout f) 2 bs
unfolding layout.print
list-long f bs = length-append (u16.print (length bs)) (print_many f bs ++ []) ∙ ap (λ (n : ℕ). length (u16.print (length bs)) + n) (length-append (print_many f bs) [])

module _ {B : Type 0} (f : Form B) (law : Lawful f) (row : List ℕ) (by : Bytes row) (at : ℕ) (l : ListAt) (said : takes (list_in f row l) l.next ≡ read_at (list f) row at) where
  pub list-took : Took (list f) row at (list_in f row l) l.next
  list-took = took row at (list f) (list_lawful f law) by (sym said)

  module _ (inside : at ≤ length row) where
    pub list-next : l.next ≡ at + length ((list f).print (list_in f row l))
    list-next = took-next row at (list f) (list_lawful f law) by (sym said) inside

    pub list-starts : ListIn f row l → l ≡ list_at f at (list_in f row l)
    list-starts stands =
        let bs = list_in f row l in
        let count : length bs ≡ l.count = (listed-fits f law by stands).0 in
        let its-end = took-next row l.first (times f l.count) (times-lawful f law l.count) by (items_at f row l.count l.first stands.ends) stands.starts in
        let first : l.first ≡ at + offset (list_layout f) 1 bs = omega (arith, list-next, list-long f bs, its-end) in
        let next : l.next ≡ at + offset (list_layout f) 2 bs = omega (arith, list-next, list-long f bs) in
        λ i. record { first = first i; count = sym count i; next = next i }
