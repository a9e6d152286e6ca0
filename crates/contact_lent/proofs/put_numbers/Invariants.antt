-- `contact_lent::put_numbers`: the numbers before the index are written, and what is left of them is to come.
use Prim.Native.Nat.{◌+◌, ◌*◌}
use mathlib.Core.Path.{◌≡◌}
use lib.ListN.{drop, take}
use Rattle.layout.specs.Form.{print_many, u32}
use Rattle.put.proofs.Put.{Writing}
use Rattle.contact_lent.proofs.put_numbers.Given as goal

abbrev pub invariant-loop-n : goal.invariant-loop-n
invariant-loop-n l = (l.p ≡ l.at + 4 * l.n-index) × Writing l.initial.out l.at (print_many u32 (take l.count l.list)) l.out l.p (print_many u32 (drop l.n-index (take l.count l.list)))
