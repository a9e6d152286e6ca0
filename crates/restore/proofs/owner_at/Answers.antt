-- `restore::owner_at` meets its contract: what is compared and what the searches answer, together.
use Rattle.restore.proofs.Owner.{owner-is}
use Rattle.restore.proofs.owner_at.Goals as goal

pub returns : goal.returns
returns c =
    let a = c.args in
    owner-is a.entries.now a.e a.upto a.latest c.hint_of-hint.result c.entry_at-a.result c.entry_at-b.result c.tried-p.result c.near_limit-near.result c.find-q.result
    c.far_limit-far.result c.find-o.result c.chosen.result c.contact_of-wanted.result
    c.contact_of-wanted.ensures c.entry_at-a.ensures c.entry_at-b.ensures c.tried-p.ensures c.near_limit-near.ensures c.find-q.ensures
    c.far_limit-far.ensures c.find-o.ensures c.chosen.ensures
