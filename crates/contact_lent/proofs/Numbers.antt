-- Numbers and ranges in flat lists: how they are written, and that ranges are written and read as their numbers are.
-- Assumes nothing.
use Prim.Native.Nat.{ℕ, zero, suc, ◌+◌, ◌*◌, ◌≤◌, ◌<◌}
use mathlib.Core.List.{List, [], ◌∷◌, ◌++◌, append-nil, append_assoc}
use mathlib.Core.Path.{◌≡◌, refl, ap, ◌∙◌}
use native.Mathlib.Omega.{arith}
use native.Mathlib.Numerals.{add-one}
use lib.ListN.{length, get_or, take, drop, drop_of_length-le}
use lib.Seq.{drop-cons}
use Rattle.layout.specs.Read.{Read, value, refused, and_then, onto}
use Rattle.layout.specs.Form.{u32, read_many, print_many}
use Rattle.layout.specs.Form as form
use Rattle.layout.specs.Layout.{group}
use Rattle.layout.specs.Layout as layout
use Rattle.layout.specs.Field.{takes, placed}
use Rattle.layout.specs.Field as field
use Rattle.rows.specs.Values.{Range}
use Rattle.rows.specs.Rows.{range}
use Rattle.reader.specs.Reader.{ended}
use Rattle.contact_lists.specs.Lists.{items, items_of, Stands}
use Rattle.contact_lists.specs.Lists as lists
use Rattle.numbers.specs.Ranges as received
use Rattle.received.specs.Lent.{pairs, flat}
use Rattle.received.proofs.Pairs.{flat-pairs}

-- ---- numbers of which i are written
module _ (ns : List ℕ) (i : ℕ) where
  pub numbers-turn : i < length ns → print_many u32 (drop i ns) ≡ form.bytes_of 4 (get_or ns i 0) ++ print_many u32 (drop (i + 1) ns)
  unfolding form.print_many
  numbers-turn h = let e : drop i ns ≡ get_or ns i 0 ∷ drop (i + 1) ns = rw (add-one, drop-cons ns i 0 h) in rw e

  pub numbers-end : length ns ≤ i → print_many u32 (drop i ns) ≡ []
  unfolding form.print_many
  numbers-end h = rw (drop_of_length-le ns {i = i} h)

-- ---- ranges are written as their numbers are
ranges-print : (rs : List Range) → print_many (group range) rs ≡ print_many u32 (flat rs)
unfolding form.print_many layout.print
ranges-print [] = refl
ranges-print (r ∷ rs) = rw (ranges-print rs) (simp (append_assoc, append-nil))

pub pairs-print : (n : ℕ) (l : List ℕ) → 2 * n ≤ length l → print_many (group range) (pairs n l) ≡ print_many u32 (take (2 * n) l)
pairs-print n l h = ranges-print (pairs n l) ∙ ap (λ (ns : List ℕ). print_many u32 ns) (flat-pairs n l h)

-- ---- and read as their numbers are
two : (n : ℕ) → 2 * suc n ≡ suc (suc (2 * n))
two n = omega arith

-- one range, and the others
module _ (n : ℕ) (others : (l : List ℕ) → read_many u32 (2 * n) l ≡ onto flat (read_many (group range) n l)) where
  last : (a b : ℕ) (x : Read (List Range)) → onto (λ ns. a ∷ ns) (onto (λ ns. b ∷ ns) (onto flat x)) ≡ onto flat (onto (λ rs. received.range a b ∷ rs) x)
  last a b (value rs rest) = refl
  last a b (refused q) = refl

  to : (a : ℕ) (x : Read ℕ) → onto (λ ns. a ∷ ns) (and_then x (λ b mid. onto (λ ns. b ∷ ns) (read_many u32 (2 * n) mid)))
      ≡ onto flat (and_then (and_then x (λ b mid. value (received.range a b) mid)) (λ r mid. onto (λ rs. r ∷ rs) (read_many (group range) n mid)))
  to a (value b mid) = rw (others mid) (last a b (read_many (group range) n mid))
  to a (refused q) = refl

  from : (x : Read ℕ) → and_then x (λ a mid. onto (λ ns. a ∷ ns) (and_then (u32.read mid) (λ b mid. onto (λ ns. b ∷ ns) (read_many u32 (2 * n) mid))))
      ≡ onto flat (and_then (and_then x (λ a mid. and_then (u32.read mid) (λ b mid. value (received.range a b) mid))) (λ r mid. onto (λ rs. r ∷ rs) (read_many (group range) n mid)))
  from (value a mid) = to a (u32.read mid)
  from (refused q) = refl

read-ranges : (n : ℕ) (l : List ℕ) → read_many u32 (2 * n) l ≡ onto flat (read_many (group range) n l)
unfolding form.read_many layout.parse
read-ranges zero l = refl
read-ranges (suc n) l = rw (two n) (from n (read-ranges n) (u32.read l))

pub items-ranges : (n : ℕ) (l : List ℕ) → items u32 (2 * n) l ≡ flat (items (group range) n l)
unfolding lists.items
items-ranges n l = rw (read-ranges n l) (go (read_many (group range) n l))
  where
    go : (x : Read (List Range)) → items_of u32 (onto flat x) ≡ flat (items_of (group range) x)
    go (value rs rest) = refl
    go (refused q) = refl

pub listed-ranges : (n first : ℕ) (row : List ℕ) → Stands (group range) row first n → Stands u32 row first (2 * n)
unfolding field.read_at
listed-ranges n first row l = record {
  next = l.next;
  so = record { starts = l.so.starts; ends = rw (read-ranges n (drop first row)) (go (read_many (group range) n (drop first row)) l.so.ends) };
}
  where
    go : (x : Read (List Range)) → ended (placed row x) ≡ takes tt l.next → ended (placed row (onto flat x)) ≡ takes tt l.next
    go (value rs rest) e = e
    go (refused q) e = e
