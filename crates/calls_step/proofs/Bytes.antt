-- The row that a contact is written as is of bytes, also with other numbers.
-- Assumes nothing.
use Prim.Native.Nat.{ℕ, zero, suc, ◌/◌, ◌%◌, ◌<◌}
use mathlib.Core.List.{List, [], ◌∷◌, ◌++◌}
use mathlib.Core.Bool.{true}
use mathlib.Core.Path.{◌≡◌, sym, subst}
use native.Mathlib.Omega.{arith}
use lib.ListN.{length}
use lib.Dec.{ltb}
use borrow.Author.Tests.{ltb-true}
use Rattle.layout.specs.Form.{bytes_of, print_many}
use Rattle.layout.specs.Form as form
use Rattle.layout.specs.Layout.{print, group, list}
use Rattle.layout.specs.Layout as layout
use Rattle.layout.specs.RowLaws.{Bytes}
use Rattle.rows.specs.Values.{Range, Contact}
use Rattle.rows.specs.Checks.{all}
use Rattle.rows.specs.Rows.{range, contact}
use Rattle.contact_parts.specs.Parts.{paired, keys, chained, numbers}
use Rattle.contact_parts.specs.Parts as parts
use Rattle.contact_parts.proofs.Parts.{print-in-parts}
use Rattle.numbers.specs.Ranges.{Received}
use Rattle.rows.proofs.Tests.{and_both}
use Rattle.ledger.specs.Ledger.{with_numbers}

data AllBytes : List ℕ → Type 0 where
  none : AllBytes []
  one : {b : ℕ} {bs : List ℕ} → b < 256 → AllBytes bs → AllBytes (b ∷ bs)

all-bytes : (l : List ℕ) → Bytes l → AllBytes l
all-bytes [] h = none
all-bytes (b ∷ bs) h = one (h 0) (all-bytes bs (λ i. h (suc i)))

bytes-all : (l : List ℕ) → AllBytes l → Bytes l
bytes-all [] none i = omega arith
bytes-all (b ∷ bs) (one p h) zero = p
bytes-all (b ∷ bs) (one p h) (suc i) = bytes-all bs h i

join : (a b : List ℕ) → AllBytes a → AllBytes b → AllBytes (a ++ b)
join [] b none h = h
join (x ∷ a) b (one p g) h = one p (join a b g h)

left : (a b : List ℕ) → AllBytes (a ++ b) → AllBytes a
left [] b h = none
left (x ∷ a) b (one p h) = one p (left a b h)

right : (a b : List ℕ) → AllBytes (a ++ b) → AllBytes b
right [] b h = h
right (x ∷ a) b (one p h) = right a b h

-- by a test
pub bytes-tested : (l : List ℕ) → all (λ b. ltb b 256) l ≡ true → Bytes l
bytes-tested [] e i = omega arith
bytes-tested (b ∷ bs) e zero = ltb-true b 256 (and_both (ltb b 256) (all (λ b. ltb b 256) bs) e).0
bytes-tested (b ∷ bs) e (suc i) = bytes-tested bs (and_both (ltb b 256) (all (λ b. ltb b 256) bs) e).1 i

-- another part at the end of each of two rows that start alike
swap-right : (a b c : List ℕ) → (AllBytes b → AllBytes c) → AllBytes (a ++ b) → AllBytes (a ++ c)
swap-right a b c f h = join a c (left a b h) (f (right a b h))

number-bytes : (w n : ℕ) → AllBytes (bytes_of w n)
unfolding form.bytes_of
number-bytes zero n = none
number-bytes (suc w) n = join (bytes_of w (n / 256)) (n % 256 ∷ []) (number-bytes w (n / 256)) (one (omega arith) none)

range-bytes : (r : Range) → AllBytes (print range r)
unfolding layout.print
range-bytes r = join (bytes_of 4 r.from) (bytes_of 4 r.to ++ []) (number-bytes 4 r.from) (join (bytes_of 4 r.to) [] (number-bytes 4 r.to) none)

many-bytes : (rs : List Range) → AllBytes (print_many (group range) rs)
unfolding form.print_many
many-bytes [] = none
many-bytes (r ∷ rs) = join (print range r) (print_many (group range) rs) (range-bytes r) (many-bytes rs)

ranges-bytes : (rs : List Range) → AllBytes ((list (group range)).print rs)
unfolding layout.print
ranges-bytes rs = join (bytes_of 2 (length rs)) (print_many (group range) rs ++ []) (number-bytes 2 (length rs)) (join (print_many (group range) rs) [] (many-bytes rs) none)

module _ (v : Contact) (n : ℕ) (r : Received) where
  keys-bytes : AllBytes (print keys (parts.keys_of v)) → AllBytes (print keys (parts.keys_of (with_numbers n r v)))
  unfolding layout.print
  keys-bytes =
      swap-right v.door_a_to_b _ _ (swap-right v.door_b_to_a _ _ (swap-right v.route_key _ _ (swap-right (bytes_of 8 v.resume_index) _ _ (swap-right v.chain_key _ _
      (λ h. join (bytes_of 4 n) [] (number-bytes 4 n) none)))))

  numbers-bytes : AllBytes (print numbers (parts.numbers_of v)) → AllBytes (print numbers (parts.numbers_of (with_numbers n r v)))
  unfolding layout.print
  numbers-bytes =
      swap-right (bytes_of 4 v.peer_acked) _ _ (swap-right (bytes_of 4 v.peer_read) _ _ (swap-right (bytes_of 4 v.read_marked) _ _
      (λ h. join (bytes_of 4 r.contiguous) _ (number-bytes 4 r.contiguous)
      (join ((list (group range)).print r.above) _ (ranges-bytes r.above) (right ((list (group range)).print v.above) _ (right (bytes_of 4 v.contiguous) _ h))))))

  pub bytes-with : Bytes (print (contact 3) v) → Bytes (print (contact 3) (with_numbers n r v))
  bytes-with h =
      let all = all-bytes _ (subst Bytes (print-in-parts 3 v) h) in
      subst Bytes (sym (print-in-parts 3 (with_numbers n r v)))
      (bytes-all _ (swap-right (print paired (parts.paired_of v)) _ _
      (λ g. join (print keys (parts.keys_of (with_numbers n r v))) _ (keys-bytes (left (print keys (parts.keys_of v)) _ g))
      (swap-right (print chained (parts.chained_of v)) _ _ numbers-bytes (right (print keys (parts.keys_of v)) _ g))) all))
