-- `contact_image::typed` meets its contract: what the type of each field says.
use mathlib.Core.Path.{refl}
use borrow.Author.Rules.{rules}
use Rattle.contact_image.proofs.typed.Goals as goal

pub returns : goal.returns
returns c =
    -- from `peer` on, which lies too deep for the search
    let later = c.well_formed.0.1.1.1.1.1.1.1.1.1.1.1.1.1.1.1.1.1 in (
      refl,
      record {
        resume_index = search rules;
        sent_msgno = search rules;
        peer_acked = search rules;
        peer_read = search rules;
        read_marked = search rules;
        contiguous = search rules;
        send = c.send_typed.ensures;
        peer = record { caps = search rules; beacon_day = search rules; beacon_key = search rules; name_len = search rules; name = search rules; static_ek = search rules };
        pair_id = search rules;
        th = search rules;
        nonce_b = search rules;
        door_a_to_b = search rules;
        door_b_to_a = search rules;
        route_key = search rules;
        chain_key = search rules;
        pending_chain_key = search rules;
        pending_msg_seed = search rules;
        send_key = search rules;
      },
    )
