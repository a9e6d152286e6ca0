-- `calls_list::replay` meets its contract. The invariant: the calls from the i-th on, made on what stands now, leave and answer what all do (`ToCome`).
-- Assumes nothing.
use Prim.Native.Nat.{◌*◌, ◌≤◌}
use mathlib.Core.Path.{◌≡◌}
use lib.ListN.{length}
use Rattle.contact.specs.Contact.{held_in, SameLists}
use Rattle.calls_session.specs.Session.{input_in, store_at}
use Rattle.calls_list.proofs.Turns.{rest, ToCome}
use Rattle.calls_list.proofs.replay.Given as goal

abbrev pub invariant-loop-i : goal.invariant-loop-i
invariant-loop-i l = (6 * l.most ≤ length l.calls)
    × (6 * l.most ≤ length l.initial.answers)
    × ToCome l.run l.records l.calls l.most (input_in l.initial.current l.run l.records (held_in l.initial.lists) l.initial.out) (store_at l.initial.current) l.initial.answers
    (rest l.run l.records l.calls l.most l.i) l.i (input_in l.current l.run l.records (held_in l.lists) l.out) (store_at l.current) l.answers
    × SameLists l.initial.lists l.lists
    × (length l.out ≡ length l.initial.out)
    × (length l.answers ≡ length l.initial.answers)
