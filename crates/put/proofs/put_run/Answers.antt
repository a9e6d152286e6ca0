-- `put_run` meets its contract: its copy fills a part of the buffer (`wrote_part`).
use mathlib.Core.Path.{refl}
use lib.ListN.{take, drop}
use borrow.Author.Rules.{rules}
use Rattle.put.proofs.Put.{wrote_part, length_run}
use Rattle.put.proofs.put_run.Goals as goal

pub returns : goal.returns
returns c =
    let a = c.args in
    (refl, wrote_part _ _ (take a.n (drop a.from a.src.now)) a.at a.n c.requires.0 (length_run _ _ _ c.requires.1) (search rules))
