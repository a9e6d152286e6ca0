-- `contact::Contact::zero` meets its contract.
use Rattle.contact.proofs.Contact.zero.Goals as goal

pub returns : goal.returns
returns c = rw c.zero-peer.ensures
