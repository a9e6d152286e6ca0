-- `fields::be32` meets its contract.
use Prim.Native.Nat.{ℕ, ◌+◌, ◌*◌}
use mathlib.Core.List.{List}
use mathlib.Core.Path.{◌≡◌}
use native.Mathlib.Omega.{arith}
use native.Mathlib.Nat.{add-zero}
use lib.ListN.{get_or, drop}
use Rattle.layout.specs.Form.{big_endian}
use lib.Seq.{get_or-drop}
use Rattle.layout.specs.Form as form
use borrow.Author.Rules.{rules}
use Rattle.fields.proofs.be32.Goals as goal

-- the four bytes of a number
four : (l : List ℕ) (at a b c d : ℕ) → a ≡ get_or l at 0 → b ≡ get_or l (at + 1) 0 → c ≡ get_or l (at + 2) 0 → d ≡ get_or l (at + 3) 0 → (a * 256 + b) * 65536 + (c * 256 + d) ≡ big_endian 4 (drop at l)
unfolding form.big_endian
four l at a b c d ea eb ec ed = simp (get_or-drop, add-zero) (omega arith)

pub returns : goal.returns
returns c =
    (four c.args.bytes.now c.args.at _ _ _ _ c.from.ensures c.from-2.ensures c.from-3.ensures c.from-4.ensures, search rules)
