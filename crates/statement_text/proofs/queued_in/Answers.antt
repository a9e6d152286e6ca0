-- `statement_text::queued_in` meets its contract. The invariant: what is found, and what is among the entries from the i-th on, is what is among all.
-- Assumes nothing.
use Prim.Native.Nat.{ℕ}
use mathlib.Core.Bool.{Bool, cond}
use mathlib.Core.Path.{ap, ◌∙◌}
use native.Mathlib.Omega.{arith}
use native.Mathlib.Nat.{sub-zero}
use Rattle.store.specs.declared.Entry.{Entry}
use Rattle.store.specs.Kinds.{QUEUED}
use Rattle.store.specs.Store.{is_of}
use Rattle.statement_text.proofs.Lines.{queued-rows, one_or_none, sum-turn, sum-end}
use Rattle.statement_text.proofs.queued_in.Goals as goal

pub loop-i-init : goal.loop-i-init
loop-i-init c = rw sub-zero (omega arith, omega arith)

pub loop-i-preserved : goal.loop-i-preserved
loop-i-preserved c =
    let a = c.args in
    let x = ap {B = ℕ} (λ (t : Bool). cond t 1 0) (c.is_queued.ensures ∙ ap (λ (e : Entry). is_of QUEUED a.id.0 e) c.entry_from-e.ensures) in
    let o = one_or_none c.is_queued.result in
    (omega (arith, o.1), omega (arith, o.0, sum-turn (queued-rows a.id.0) a.records.now a.n c.loop-i.i c.loop-i.found c.loop-i.invariant.1 c.loop-i-test.true x))

pub returns : goal.returns
returns c =
    let a = c.args in
    sum-end (queued-rows a.id.0) a.records.now a.n c.loop-i.i c.loop-i.found c.loop-i.invariant.1 c.loop-i-test.false
