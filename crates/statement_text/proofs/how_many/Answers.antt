-- `statement_text::how_many` meets its contract. The invariant: what is found, and what is among the entries from the i-th on, is what is among all.
-- Assumes nothing.
use Prim.Native.Nat.{ℕ}
use mathlib.Core.Bool.{cond}
use mathlib.Core.Path.{ap}
use native.Mathlib.Omega.{arith}
use native.Mathlib.Nat.{sub-zero}
use lib.Dec.{eqb}
use Rattle.store.specs.declared.Entry.{Entry}
use Rattle.statement_text.proofs.Lines.{kinds, one_or_none, sum-turn, sum-end}
use Rattle.statement_text.proofs.how_many.Goals as goal

pub loop-i-init : goal.loop-i-init
loop-i-init c = rw sub-zero (omega arith, omega arith)

pub loop-i-preserved : goal.loop-i-preserved
loop-i-preserved c =
    let a = c.args in
    let x = ap {B = ℕ} (λ (e : Entry). cond (eqb e.kind a.kind) 1 0) c.entry_from-e.ensures in
    let o = one_or_none (eqb c.entry_from-e.result.kind a.kind) in
    (omega (arith, o.1), omega (arith, o.0, sum-turn (kinds a.kind) a.records.now a.n c.loop-i.i c.loop-i.found c.loop-i.invariant.1 c.loop-i-test.true x))

pub returns : goal.returns
returns c =
    let a = c.args in
    sum-end (kinds a.kind) a.records.now a.n c.loop-i.i c.loop-i.found c.loop-i.invariant.1 c.loop-i-test.false
