-- `restore::across_at` meets its contract: one turn of the questions across the rows, of what is found where the definitions look.
use Rattle.store.specs.Store.{entry_at, part_of}
use Rattle.restore_across.specs.Across.{OwnerAt, owner_limit}
use Rattle.restore_across.specs.Owner.{owner_found, OwnerStands}
use Rattle.restore_across.proofs.Laws.{reusable, known, turned}
use Rattle.restore.proofs.across_at.Goals as goal
use Rattle.restore.proofs.across_at.Goals.{After-going_owner-owner}

found : (c : After-going_owner-owner) → let a = c.args in let e = entry_at a.read.store.entries.now a.i in OwnerAt a.read.store.entries.now e (owner_limit e a.i) c.owner_at-p.result
found c = rw c.owner_limit-limit.ensures at c.owner_at-p.ensures

stands : (c : After-going_owner-owner) → let a = c.args in let e = entry_at a.read.store.entries.now a.i in let p = c.owner_at-p.result in let its = entry_at a.read.store.entries.now p in
    OwnerStands (owner_found a.read.store.run.now a.read.omitted its p (owner_limit e a.i)) (part_of a.read.store.run.now its) c.going_owner-owner.result
stands c =
    let a = c.args in
    let p = c.owner_at-p.result in
    let asked = rw (c.owner_limit-limit.ensures, c.entry_at-c.ensures) at c.going_owner-owner.ensures in
    let its-known = known a.read.store.run.now a.read.store.entries.now a.read.omitted a.i a.w c.requires.1 c.requires.2 p (found c) in
    (asked its-known).1 (reusable a.read.store.run.now a.read.store.entries.now a.read.omitted a.i a.w c.requires.1 c.requires.2 p (found c))

pub going_turn-requires : goal.going_turn-requires
going_turn-requires c = rw c.entry_at-c.ensures (stands (goal.at.going_turn-requires c).After-going_owner-owner).1

pub returns : goal.returns
returns c =
    let a = c.args in
    let before = (goal.at.returns c).After-going_owner-owner in
    rw (c.going_turn.ensures, c.entry_at-c.ensures, c.requires.0)
    (turned a.read.store.run.now a.read.store.entries.now a.read.omitted a.i a.w c.requires.1 c.requires.2 c.owner_at-p.result (found before) c.going_owner-owner.result (stands before))
