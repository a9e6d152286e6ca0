-- `contact_lent::put_chains` meets its contract. The invariant: what a row has for i places is written, and the rest is to come.
use Rattle.put.proofs.Put.{Writing}
use Rattle.contact_lent.specs.Lent.{chain_size, chains_bytes}
use Rattle.contact_lent.proofs.Offsets.{bytes_left}
use Rattle.contact_lent.proofs.put_chains.Given as goal

abbrev pub invariant-loop-i : goal.invariant-loop-i
invariant-loop-i l = Writing l.initial.out l.at (chains_bytes l.count l.lent) l.out l.p (bytes_left 51 chain_size l.lent l.count l.i)
