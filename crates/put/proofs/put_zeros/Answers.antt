-- `put_zeros` meets its contract: the zeros fill a part of the buffer (`wrote_part`).
use mathlib.Core.Path.{refl}
use borrow.Author.Rules.{rules}
use lib.ListN.{length-replicate}
use Rattle.layout.specs.Veil.{zeros}
use Rattle.put.proofs.Put.{wrote_part}
use Rattle.put.proofs.put_zeros.Goals as goal

pub returns : goal.returns
returns c =
    let a = c.args in
    (refl, wrote_part _ _ (zeros a.n) a.at a.n c.requires (length-replicate _ _) (search rules))
