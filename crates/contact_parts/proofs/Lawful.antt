-- The parts are lawful: each is sound (every field has its place in the value), and blind (nothing hidden steers it).
-- Assumes nothing.
use mathlib.Core.Path.{refl}
use Rattle.layout.specs.Questions.{CARD_END}
use Rattle.layout.specs.Veil.{Level, plain, veiled}
use Rattle.layout.specs.Form.{u32}
use Rattle.layout.specs.Layout.{group, list}
use Rattle.layout.specs.Layout as layout
use Rattle.layout.proofs.Lawful.{Lawful, s-any, s-done, Blind, b-done, b-field, b-plain, group-lawful}
use Rattle.layout.proofs.Front.{bytes-lawful, number-lawful}
use Rattle.layout.proofs.Derived.{optional-lawful, list_lawful, sized-lawful, list-plain}
use Rattle.rows.specs.Rows.{card, pending, send, chain, skipped, range}
use Rattle.rows.proofs.Lawful.{Like, num, run, role-lawful, mode-lawful, verification-lawful, card-lawful, pending-lawful, send-lawful, chain-lawful, skipped-lawful, range-lawful, ranges-plain}
use Rattle.contact_parts.specs.Parts.{paired, keys, chained, numbers}

-- ---- paired
paired-blind : (lv : Level) → Blind lv (Like paired lv) paired paired
unfolding layout.blank_of
paired-blind lv =
    b-plain role-lawful (λ r. refl) (λ r. b-field mode-lawful (λ u u' _. b-plain verification-lawful (λ v. refl) (λ v. run 16 (λ pair. run 48 (λ th. run 16 (λ nonce.
    b-field (sized-lawful (group card) card-lawful CARD_END) (λ its its' e.
    b-done (λ i. record { role = r; verification = v; pair_id = pair; th = th; nonce_b = nonce; card = e i }))))))))

pub paired-lawful : Lawful (group paired)
paired-lawful =
    group-lawful paired
    (s-any role-lawful (λ r. s-any mode-lawful (λ u. s-any verification-lawful (λ v.
    s-any (bytes-lawful plain 16) (λ pair. s-any (bytes-lawful plain 48) (λ th. s-any (bytes-lawful plain 16) (λ nonce.
    s-any (sized-lawful (group card) card-lawful CARD_END) (λ its. s-done (((((((tt, refl), refl), refl), refl), refl), refl), refl)))))))))
    paired-blind

-- ---- keys
keys-blind : (lv : Level) → Blind lv (Like keys lv) keys keys
unfolding layout.blank_of
keys-blind lv =
    b-field (bytes-lawful veiled 32) (λ ab ab' e1. b-field (bytes-lawful veiled 32) (λ ba ba' e2. b-field (bytes-lawful veiled 32) (λ rk rk' e3. num 8 (λ resume.
    b-field (bytes-lawful veiled 32) (λ ck ck' e4. num 4 (λ sent. b-done
    (λ i. record { door_a_to_b = e1 i; door_b_to_a = e2 i; route_key = e3 i; resume_index = resume; chain_key = e4 i; sent_msgno = sent })))))))

pub keys-lawful : Lawful (group keys)
keys-lawful =
    group-lawful keys
    (s-any (bytes-lawful veiled 32) (λ ab. s-any (bytes-lawful veiled 32) (λ ba. s-any (bytes-lawful veiled 32) (λ rk. s-any (number-lawful 8) (λ resume.
    s-any (bytes-lawful veiled 32) (λ ck. s-any (number-lawful 4) (λ sent. s-done ((((((tt, refl), refl), refl), refl), refl), refl))))))))
    keys-blind

-- ---- chained
chained-blind : (lv : Level) → Blind lv (Like chained lv) chained chained
unfolding layout.blank_of
chained-blind lv =
    b-field (optional-lawful (group pending) pending-lawful) (λ ps ps' e1. b-field (optional-lawful (group send) send-lawful) (λ ss ss' e2.
    b-field (list_lawful (group chain) chain-lawful) (λ cs cs' e3. b-field (list_lawful (group skipped) skipped-lawful) (λ ks ks' e4.
    b-done (λ i. record { pending = e1 i; send = e2 i; chains = e3 i; skipped = e4 i })))))

pub chained-lawful : Lawful (group chained)
chained-lawful =
    group-lawful chained
    (s-any (optional-lawful (group pending) pending-lawful) (λ ps. s-any (optional-lawful (group send) send-lawful) (λ ss.
    s-any (list_lawful (group chain) chain-lawful) (λ cs. s-any (list_lawful (group skipped) skipped-lawful) (λ ks. s-done ((((tt, refl), refl), refl), refl))))))
    chained-blind

-- ---- numbers
numbers-blind : (lv : Level) → Blind lv (Like numbers lv) numbers numbers
unfolding layout.blank_of
numbers-blind lv =
    num 4 (λ acked. num 4 (λ read. num 4 (λ marked. num 4 (λ contiguous.
    b-plain (list_lawful (group range) range-lawful) (ranges-plain lv) (λ above.
    b-plain (list_lawful u32 (number-lawful 4)) (list-plain u32 lv (λ n. refl)) (λ unacked.
    b-plain (list_lawful (group range) range-lawful) (ranges-plain lv) (λ expired. b-done refl)))))))

pub numbers-lawful : Lawful (group numbers)
numbers-lawful =
    group-lawful numbers
    (s-any (number-lawful 4) (λ acked. s-any (number-lawful 4) (λ read. s-any (number-lawful 4) (λ marked. s-any (number-lawful 4) (λ contiguous.
    s-any (list_lawful (group range) range-lawful) (λ above. s-any (list_lawful u32 (number-lawful 4)) (λ unacked. s-any (list_lawful (group range) range-lawful) (λ expired.
    s-done (((((((tt, refl), refl), refl), refl), refl), refl), refl)))))))))
    numbers-blind
