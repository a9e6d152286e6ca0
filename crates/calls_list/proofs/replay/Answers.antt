-- `calls_list::replay` meets its contract. The invariant: the calls from the i-th on, made on what stands now, leave and answer what all do (`ToCome`).
-- Assumes nothing.
use Prim.Native.Nat.{◌*◌}
use mathlib.Core.Path.{◌≡◌, refl, ◌∙◌}
use Rattle.std.proofs.Common.{rules, None}
use native.Mathlib.Omega.{arith}
use lib.ListN.{length}
use Rattle.layout.specs.RowLaws.{Bytes}
use Rattle.layout.proofs.At.{typed}
use Rattle.contact.specs.Contact.{SameLists}
use Rattle.contact.specs.declared.ListsMut.{ListsMut}
use Rattle.calls_session.proofs.Store.{whole-behind}
use Rattle.calls_list.proofs.Turns.{begin, turn, stop, end, replayed}
use Rattle.calls_list.proofs.replay.Goals as goal

-- the lists that are lent on are the same ones
still : (l m n : ListsMut) → SameLists l m → SameLists m n → SameLists l n
still l m n p q = (q.0 ∙ p.0, q.1 ∙ p.1, q.2 ∙ p.2, q.3 ∙ p.3, q.4 ∙ p.4)

pub loop-i-init : goal.loop-i-init
loop-i-init c = (c.most_calls-most.ensures.1, c.most_calls-most.ensures.2, begin _ _ _ _ _ _ _, (refl, refl, refl, refl, refl), refl, refl)

pub returns-in_default : goal.returns-in_default
returns-in_default c =
    let a = c.args in
    let bytes : Bytes a.run.now = typed a.run.now c.type_inv.run in
    let none : c.one-left.result.answer ≡ None = search rules in (
      replayed a.run.now a.records.now a.calls.now (length a.answers.now) c.most_calls-most.ensures.0 bytes
          (stop a.run.now a.records.now a.calls.now c.most_calls-most.result _ _ _ c.loop-i.i c.loop-i-test.true none
          (whole-behind a.calls.now (6 * c.loop-i.i)) c.one-left.ensures.0 c.loop-i.invariant.2),
      still c.args.lists.now c.loop-i.lists c.one-left.new.lists c.loop-i.invariant.3 c.one-left.ensures.1,
    )

pub put_answer-requires : goal.put_answer-requires
put_answer-requires c = omega arith

pub loop-i-preserved : goal.loop-i-preserved
loop-i-preserved c =
    let a = c.args in (
      c.loop-i.invariant.0,
      c.loop-i.invariant.1,
      turn a.run.now a.records.now a.calls.now c.most_calls-most.result _ _ _ c.loop-i.i c.loop-i-test.true c.in-Some.is
          (whole-behind a.calls.now (6 * c.loop-i.i)) c.one-left.ensures.0 c.put_answer.ensures c.loop-i.invariant.2,
      still c.args.lists.now c.loop-i.lists c.one-left.new.lists c.loop-i.invariant.3 c.one-left.ensures.1,
      omega arith,
      omega arith,
    )

pub returns : goal.returns
returns c =
    let a = c.args in
    let bytes : Bytes a.run.now = typed a.run.now c.type_inv.run in (
      replayed a.run.now a.records.now a.calls.now (length a.answers.now) c.most_calls-most.ensures.0 bytes
          (end a.run.now a.records.now a.calls.now c.most_calls-most.result _ _ _ c.loop-i.i c.loop-i-test.false c.loop-i.invariant.2),
      c.loop-i.invariant.3,
    )
