-- The rows are lawful. Of each: its layout is sound (every field has its place in the value), and blind (nothing hidden steers it).
-- Assumes nothing.
use Prim.Native.Nat.{ℕ}
use mathlib.Core.List.{List}
use mathlib.Core.Bool.{Bool, true, false, cond, not}
use mathlib.Core.Option.{Option, none, some, map}
use mathlib.Core.Path.{◌≡◌, refl, sym, ap}
use lib.Dec.{leb, eqb}
use borrow.Author.Tests.{eqb-true}
use Rattle.layout.specs.Questions.{CODE, CARD_END, SEALED_LENGTH, ROW_END}
use Rattle.layout.specs.Veil.{Level, plain, veiled}
use Rattle.layout.specs.Form.{bytes, number, flag, either, u32, u64}
use Rattle.layout.specs.Layout.{Layout, field, end, group, list, optional, sized, present}
use Rattle.layout.specs.Layout as layout
use Rattle.layout.proofs.Lawful.{Lawful, s-any, s-field, s-ask, s-done, Blind, b-done, b-field, b-plain, b-ask, group-lawful}
use Rattle.layout.proofs.Front.{bytes-lawful, number-lawful, letter-lawful, flag-lawful, none≢some}
use Rattle.layout.proofs.Ends.{to_end-lawful, no_more-lawful}
use Rattle.layout.proofs.Parts.{only_if-lawful}
use Rattle.layout.proofs.Nested.{either_lawful}
use Rattle.layout.proofs.Leb.{leb128-lawful}
use Rattle.layout.proofs.Derived.{optional-lawful, list_lawful, sized-lawful, only_if-plain, optional-plain, list-plain, list-unseen, list-as-long}
use Rattle.rows.specs.Values.{Range}
use Rattle.rows.specs.Checks.{kci, key_of, sealed_queued, sealed_carried, count, distinct, same_key}
use Rattle.rows.specs.Rows.{role_of, role_byte, mode_of, mode_byte, verification_of, verification_byte, dir_of, dir_byte, role, mode, verification, dir}
use Rattle.rows.specs.Rows.{device, card, card_row, pending, send, chain, skipped, range, contact, own_envelope, queued, carried, tombstone, courier}
use Rattle.rows.specs.declared.PairingRole.{PairingRole}
use Rattle.rows.specs.declared.PairingRole.TheVariants.{A, B}
use Rattle.rows.specs.declared.Verification.{Verification}
use Rattle.rows.specs.declared.Verification.TheVariants.{Unverified, Verified, Compromised}
use Rattle.rows.specs.declared.Dir.{Dir}
use Rattle.rows.specs.declared.Dir.TheVariants.{I, R}

-- two values are alike to whom lv hides from
module _ {X : Type 0} (l : Layout X) (lv : Level) where
  abbrev pub Like : X → X → Type 0
  Like v v' = layout.blank_of l lv v ≡ layout.blank_of l lv v'

-- ---- fields of which nothing is hidden
module _ {X : Type 0} {lv : Level} {S : X → X → Type 0} where
  pub num : (w : ℕ) {get : X → ℕ} {k k' : ℕ → Layout X} → ((n : ℕ) → Blind lv S (k n) (k' n)) → Blind lv S (field (number w) get k) (field (number w) get k')
  num w c = b-plain (number-lawful w) (λ n. refl) c

  pub run : (n : ℕ) {get : X → List ℕ} {k k' : List ℕ → Layout X} → ((bs : List ℕ) → Blind lv S (k bs) (k' bs)) → Blind lv S (field (bytes plain n) get k) (field (bytes plain n) get k')
  run n c = b-plain (bytes-lawful plain n) (λ n. refl) c

  flg : {get : X → Bool} {k k' : Bool → Layout X} → ((t : Bool) → Blind lv S (k t) (k' t)) → Blind lv S (field flag get k) (field flag get k')
  flg c = b-plain flag-lawful (λ t. refl) c

  fin : (q : ℕ) {k k' : Layout X} → Blind lv S k k' → Blind lv S (end q k) (end q k')
  fin q c = b-field (no_more-lawful q) (λ u u' e. c)

-- ---- codes: the byte can be told from what it stands for
role-tells : (x : ℕ) (r : PairingRole) → role_of x ≡ some r → role_byte r ≡ x
role-tells x r = go (eqb x 0) (eqb x 1) refl refl
  where
    go : (s t : Bool) → eqb x 0 ≡ s → eqb x 1 ≡ t → cond s (some A) (cond t (some B) none) ≡ some r → role_byte r ≡ x
    go true t p q e = let f : r ≡ A = cc in rw f (sym (eqb-true x 0 p))
    go false true p q e = let f : r ≡ B = cc in rw f (sym (eqb-true x 1 q))
    go false false p q e = absurd (none≢some e)

mode-tells : (x : ℕ) (u : Unit {0}) → mode_of x ≡ some u → mode_byte u ≡ x
mode-tells x u = go (eqb x 3) refl
  where
    go : (t : Bool) → eqb x 3 ≡ t → cond t (some tt) none ≡ some u → mode_byte u ≡ x
    go true p e = sym (eqb-true x 3 p)
    go false p e = absurd (none≢some e)

verification-tells : (x : ℕ) (v : Verification) → verification_of x ≡ some v → verification_byte v ≡ x
verification-tells x v = go (eqb x 0) (eqb x 1) (eqb x 2) refl refl refl
  where
    go : (s t u : Bool) → eqb x 0 ≡ s → eqb x 1 ≡ t → eqb x 2 ≡ u → cond s (some Unverified) (cond t (some Verified) (cond u (some Compromised) none)) ≡ some v → verification_byte v ≡ x
    go true t u p q r e = let f : v ≡ Unverified = cc in rw f (sym (eqb-true x 0 p))
    go false true u p q r e = let f : v ≡ Verified = cc in rw f (sym (eqb-true x 1 q))
    go false false true p q r e = let f : v ≡ Compromised = cc in rw f (sym (eqb-true x 2 r))
    go false false false p q r e = absurd (none≢some e)

dir-tells : (x : ℕ) (d : Dir) → dir_of x ≡ some d → dir_byte d ≡ x
dir-tells x d = go (eqb x 0x49) (eqb x 0x52) refl refl
  where
    go : (s t : Bool) → eqb x 0x49 ≡ s → eqb x 0x52 ≡ t → cond s (some I) (cond t (some R) none) ≡ some d → dir_byte d ≡ x
    go true t p q e = let f : d ≡ I = cc in rw f (sym (eqb-true x 0x49 p))
    go false true p q e = let f : d ≡ R = cc in rw f (sym (eqb-true x 0x52 q))
    go false false p q e = absurd (none≢some e)

pub role-lawful : Lawful role
role-lawful = letter-lawful CODE role_of role_byte role-tells

pub mode-lawful : Lawful mode
mode-lawful = letter-lawful CODE mode_of mode_byte mode-tells

pub verification-lawful : Lawful verification
verification-lawful = letter-lawful CODE verification_of verification_byte verification-tells

pub dir-lawful : Lawful dir
dir-lawful = letter-lawful CODE dir_of dir_byte dir-tells

-- ---- device
device-blind : (version : ℕ) (lv : Level) → Blind lv (Like (device version) lv) (device version) (device version)
unfolding layout.blank_of
device-blind version lv =
    b-ask refl (num 4 (λ day. b-field (bytes-lawful veiled 32) (λ key key' e. num 8 (λ next. flg (λ receipts. flg (λ on. num 1 (λ copies. num 2 (λ life. b-ask refl (fin ROW_END
    (b-done (λ i. record { beacon_day = day; beacon_key = e i; next_contact = next; read_receipts = receipts; enabled = on; copies = copies; lifetime_min = life })))))))))))

pub device-lawful : (version : ℕ) → Lawful (group (device version))
device-lawful version =
    group-lawful (device version)
    (s-ask (s-any (number-lawful 4) (λ day. s-any (bytes-lawful veiled 32) (λ key. s-any (number-lawful 8) (λ next. s-any flag-lawful (λ receipts. s-any flag-lawful (λ on.
    s-any (number-lawful 1) (λ copies. s-any (number-lawful 2) (λ life. s-ask (s-any (no_more-lawful ROW_END) (λ u.
    s-done ((((((((tt, refl), refl), refl), refl), refl), refl), refl), refl))))))))))))
    (device-blind version)

-- ---- card
card-blind : (lv : Level) → Blind lv (Like card lv) card card
unfolding layout.blank_of
card-blind lv =
    num 1 (λ caps. b-ask refl (num 4 (λ day. b-field (bytes-lawful veiled 32) (λ key key' e. num 1 (λ len. b-ask refl (run len (λ name. b-ask refl
    (b-plain (only_if-lawful (bytes plain 1184) (bytes-lawful plain 1184) (kci caps)) (only_if-plain (bytes plain 1184) lv (λ bs. refl)) (λ ek. b-done
    (λ i. record { caps = caps; beacon_day = day; beacon_key = e i; name = name; static_ek = map (λ bs. bs) ek }))))))))))

pub card-lawful : Lawful (group card)
card-lawful =
    group-lawful card
    (s-any (number-lawful 1) (λ caps. s-ask (s-any (number-lawful 4) (λ day. s-any (bytes-lawful veiled 32) (λ key. s-any (number-lawful 1) (λ len. s-ask
    (s-field (bytes-lawful plain len) (λ name _ long. s-ask (s-any (only_if-lawful (bytes plain 1184) (bytes-lawful plain 1184) (kci caps)) (λ ek.
    s-done ((((((tt, refl), refl), refl), long), refl), refl)))))))))))
    card-blind

card_row-blind : (lv : Level) → Blind lv (Like card_row lv) card_row card_row
unfolding layout.blank_of
card_row-blind lv = b-field card-lawful (λ c c' e. fin CARD_END (b-done e))

pub card_row-lawful : Lawful (group card_row)
card_row-lawful = group-lawful card_row (s-any card-lawful (λ c. s-any (no_more-lawful CARD_END) (λ u. s-done ((tt, refl), refl)))) card_row-blind

-- ---- the parts of a contact
pending-blind : (lv : Level) → Blind lv (Like pending lv) pending pending
unfolding layout.blank_of
pending-blind lv = b-field (bytes-lawful veiled 32) (λ key key' e. b-field (bytes-lawful veiled 32) (λ seed seed' f. b-done (λ i. record { chain_key = e i; msg_seed = f i })))

pub pending-lawful : Lawful (group pending)
pending-lawful = group-lawful pending (s-any (bytes-lawful veiled 32) (λ key. s-any (bytes-lawful veiled 32) (λ seed. s-done ((tt, refl), refl)))) pending-blind

send-blind : (lv : Level) → Blind lv (Like send lv) send send
unfolding layout.blank_of
send-blind lv =
    num 1 (λ gen. b-plain dir-lawful (λ d. refl) (λ d. num 4 (λ idx. b-field (bytes-lawful veiled 32) (λ key key' e. b-done (λ i. record { gen = gen; dir = d; idx = idx; key = e i })))))

pub send-lawful : Lawful (group send)
send-lawful =
    group-lawful send
    (s-any (number-lawful 1) (λ gen. s-any dir-lawful (λ d. s-any (number-lawful 4) (λ idx. s-any (bytes-lawful veiled 32) (λ key. s-done ((((tt, refl), refl), refl), refl))))))
    send-blind

chain-blind : (lv : Level) → Blind lv (Like chain lv) chain chain
unfolding layout.blank_of
chain-blind lv =
    num 1 (λ gen. b-plain dir-lawful (λ d. refl) (λ d. num 8 (λ next. b-field (bytes-lawful veiled 32) (λ key key' e.
    b-plain (optional-lawful u64 (number-lawful 8)) (optional-plain u64 lv (λ n. refl)) (λ superseded. b-done (rw e))))))

pub chain-lawful : Lawful (group chain)
chain-lawful =
    group-lawful chain
    (s-any (number-lawful 1) (λ gen. s-any dir-lawful (λ d. s-any (number-lawful 8) (λ next. s-any (bytes-lawful veiled 32) (λ key.
    s-any (optional-lawful u64 (number-lawful 8)) (λ superseded. s-done (((((tt, refl), refl), refl), refl), refl)))))))
    chain-blind

skipped-blind : (lv : Level) → Blind lv (Like skipped lv) skipped skipped
unfolding layout.blank_of
skipped-blind lv =
    num 1 (λ gen. b-plain dir-lawful (λ d. refl) (λ d. num 4 (λ idx. b-field (bytes-lawful veiled 32) (λ key key' e. num 8 (λ created. b-done (rw e))))))

pub skipped-lawful : Lawful (group skipped)
skipped-lawful =
    group-lawful skipped
    (s-any (number-lawful 1) (λ gen. s-any dir-lawful (λ d. s-any (number-lawful 4) (λ idx. s-any (bytes-lawful veiled 32) (λ key. s-any (number-lawful 8) (λ created.
    s-done (((((tt, refl), refl), refl), refl), refl)))))))
    skipped-blind

range-blind : (lv : Level) → Blind lv (Like range lv) range range
range-blind lv = num 4 (λ from. num 4 (λ to. b-done refl))

pub range-lawful : Lawful (group range)
range-lawful = group-lawful range (s-any (number-lawful 4) (λ from. s-any (number-lawful 4) (λ to. s-done ((tt, refl), refl)))) range-blind

-- ---- contact
present-map : {X : Type 0} (f : X → X) (o : Option X) → present (map f o) ≡ present o
present-map f none = refl
present-map f (some x) = refl

range-plain : (lv : Level) (r : Range) → layout.blank_of range lv r ≡ r
unfolding layout.blank_of
range-plain lv r = refl

pub ranges-plain : (lv : Level) (rs : List Range) → (list (group range)).blank lv rs ≡ rs
ranges-plain lv = list-plain (group range) lv (range-plain lv)

contact-blind : (version : ℕ) (lv : Level) → Blind lv (Like (contact version) lv) (contact version) (contact version)
unfolding layout.blank_of
contact-blind version lv =
    b-ask refl (b-plain role-lawful (λ r. refl) (λ r. b-field mode-lawful (λ u u' _. b-plain verification-lawful (λ v. refl) (λ v. run 16 (λ pair. run 48 (λ th. run 16 (λ nonce.
    b-field (sized-lawful (group card) card-lawful CARD_END) (λ its its' e1.
    b-field (bytes-lawful veiled 32) (λ ab ab' e2. b-field (bytes-lawful veiled 32) (λ ba ba' e3. b-field (bytes-lawful veiled 32) (λ rk rk' e4. num 8 (λ resume.
    b-field (bytes-lawful veiled 32) (λ ck ck' e5. num 4 (λ sent.
    b-field (optional-lawful (group pending) pending-lawful) (λ ps ps' e6. b-field (optional-lawful (group send) send-lawful) (λ ss ss' e7.
    b-field (list_lawful (group chain) chain-lawful) (λ cs cs' e8. b-field (list_lawful (group skipped) skipped-lawful) (λ ks ks' e9.
    num 4 (λ acked. num 4 (λ read. num 4 (λ marked. num 4 (λ contiguous.
    b-plain (list_lawful (group range) range-lawful) (ranges-plain lv) (λ above.
    b-plain (list_lawful u32 (number-lawful 4)) (list-plain u32 lv (λ n. refl)) (λ unacked.
    b-plain (list_lawful (group range) range-lawful) (ranges-plain lv) (λ expired.
    fin ROW_END
    (b-ask (ap (λ (n : ℕ). leb n 8) (list-as-long (group chain) lv cs cs' e8))
    (b-ask (ap (λ l. leb (count not l) 1) (list-unseen (group chain) lv (λ c. present c.superseded_s) (λ c. present-map (λ n. n) c.superseded_s) cs cs' e8))
    (b-ask (ap (distinct eqb) (list-unseen (group chain) lv (λ c. c.gen) (λ c. refl) cs cs' e8))
    (b-ask (ap (distinct same_key) (list-unseen (group skipped) lv key_of (λ k. refl) ks ks' e9))
    (b-ask (ap (λ (n : ℕ). leb n 500) (list-as-long (group skipped) lv ks ks' e9))
    (b-ask refl (b-ask refl (b-ask refl (b-ask refl (b-done (λ i. record {
      role = r;
      verification = v;
      pair_id = pair;
      th = th;
      nonce_b = nonce;
      card = e1 i;
      door_a_to_b = e2 i;
      door_b_to_a = e3 i;
      route_key = e4 i;
      resume_index = resume;
      chain_key = e5 i;
      sent_msgno = sent;
      pending = e6 i;
      send = e7 i;
      chains = e8 i;
      skipped = e9 i;
      peer_acked = acked;
      peer_read = read;
      read_marked = marked;
      contiguous = contiguous;
      above = (list (group range)).blank lv above;
      unacked = (list u32).blank lv unacked;
      expired = (list (group range)).blank lv expired;
    }))))))))))))))))))))))))))))))))))))

pub contact-lawful : (version : ℕ) → Lawful (group (contact version))
contact-lawful version =
    group-lawful (contact version)
    (s-ask (s-any role-lawful (λ r. s-any mode-lawful (λ u. s-any verification-lawful (λ v.
    s-any (bytes-lawful plain 16) (λ pair. s-any (bytes-lawful plain 48) (λ th. s-any (bytes-lawful plain 16) (λ nonce.
    s-any (sized-lawful (group card) card-lawful CARD_END) (λ its.
    s-any (bytes-lawful veiled 32) (λ ab. s-any (bytes-lawful veiled 32) (λ ba. s-any (bytes-lawful veiled 32) (λ rk. s-any (number-lawful 8) (λ resume.
    s-any (bytes-lawful veiled 32) (λ ck. s-any (number-lawful 4) (λ sent.
    s-any (optional-lawful (group pending) pending-lawful) (λ ps. s-any (optional-lawful (group send) send-lawful) (λ ss.
    s-any (list_lawful (group chain) chain-lawful) (λ cs. s-any (list_lawful (group skipped) skipped-lawful) (λ ks.
    s-any (number-lawful 4) (λ acked. s-any (number-lawful 4) (λ read. s-any (number-lawful 4) (λ marked. s-any (number-lawful 4) (λ contiguous.
    s-any (list_lawful (group range) range-lawful) (λ above. s-any (list_lawful u32 (number-lawful 4)) (λ unacked. s-any (list_lawful (group range) range-lawful) (λ expired.
    s-any (no_more-lawful ROW_END) (λ end. s-ask (s-ask (s-ask (s-ask (s-ask (s-ask (s-ask (s-ask (s-ask (s-done
    (((((((((((((((((((((((((tt, refl), refl), refl), refl), refl), refl), refl), refl), refl), refl), refl), refl), refl), refl), refl), refl), refl), refl), refl), refl), refl), refl), refl), refl), refl)
    ))))))))))))))))))))))))))))))))))))
    (contact-blind version)

-- ---- queued
own_envelope-blind : (lv : Level) → Blind lv (Like own_envelope lv) own_envelope own_envelope
unfolding layout.blank_of
own_envelope-blind lv =
    run 16 (λ tag. b-field (bytes-lawful veiled 16) (λ s s' e. num 4 (λ expiry. num 1 (λ copies. flg (λ renewed.
    b-done (λ i. record { tag = tag; s = e i; expiry_min = expiry; copies = copies; renewed = renewed }))))))

pub own_envelope-lawful : Lawful (group own_envelope)
own_envelope-lawful =
    group-lawful own_envelope
    (s-any (bytes-lawful plain 16) (λ tag. s-any (bytes-lawful veiled 16) (λ s. s-any (number-lawful 4) (λ expiry. s-any (number-lawful 1) (λ copies. s-any flag-lawful (λ renewed.
    s-done (((((tt, refl), refl), refl), refl), refl)))))))
    own_envelope-blind

queued-blind : (version : ℕ) (lv : Level) → Blind lv (Like (queued version) lv) (queued version) (queued version)
unfolding layout.blank_of
queued-blind version lv =
    b-ask refl (num 8 (λ created. b-field (optional-lawful (group own_envelope) own_envelope-lawful) (λ env env' e. num 1 (λ gen. b-plain leb128-lawful (λ n. refl) (λ idx.
    b-field (to_end-lawful veiled SEALED_LENGTH sealed_queued) (λ t t' f. fin ROW_END (b-done (λ i. record { created_s = created; envelope = e i; gen = gen; idx = idx; sealed = f i }))))))))

pub queued-lawful : (version : ℕ) → Lawful (group (queued version))
queued-lawful version =
    group-lawful (queued version)
    (s-ask (s-any (number-lawful 8) (λ created. s-any (optional-lawful (group own_envelope) own_envelope-lawful) (λ env. s-any (number-lawful 1) (λ gen. s-any leb128-lawful (λ idx.
    s-any (to_end-lawful veiled SEALED_LENGTH sealed_queued) (λ t. s-any (no_more-lawful ROW_END) (λ u. s-done ((((((tt, refl), refl), refl), refl), refl), refl)))))))))
    (queued-blind version)

-- ---- courier
carried-blind : (lv : Level) → Blind lv (Like carried lv) carried carried
unfolding layout.blank_of
carried-blind lv =
    num 8 (λ depositor. run 16 (λ tag. run 16 (λ c. num 4 (λ expiry. b-ask refl (num 1 (λ copies. b-ask refl
    (b-field (to_end-lawful veiled SEALED_LENGTH sealed_carried) (λ t t' e. b-done
    (λ i. record { depositor = depositor; tag = tag; c = c; expiry_min = expiry; copies = copies; sealed = e i })))))))))

pub carried-lawful : Lawful (group carried)
carried-lawful =
    group-lawful carried
    (s-any (number-lawful 8) (λ depositor. s-any (bytes-lawful plain 16) (λ tag. s-any (bytes-lawful plain 16) (λ c. s-any (number-lawful 4) (λ expiry. s-ask
    (s-any (number-lawful 1) (λ copies. s-ask (s-any (to_end-lawful veiled SEALED_LENGTH sealed_carried) (λ t. s-done ((((((tt, refl), refl), refl), refl), refl), refl))))))))))
    carried-blind

tombstone-blind : (lv : Level) → Blind lv (Like tombstone lv) tombstone tombstone
unfolding layout.blank_of
tombstone-blind lv = run 16 (λ tag. b-field (bytes-lawful veiled 16) (λ s s' e. num 4 (λ expiry. b-done (λ i. record { tag = tag; s = e i; expiry_min = expiry }))))

pub tombstone-lawful : Lawful (group tombstone)
tombstone-lawful =
    group-lawful tombstone
    (s-any (bytes-lawful plain 16) (λ tag. s-any (bytes-lawful veiled 16) (λ s. s-any (number-lawful 4) (λ expiry. s-done (((tt, refl), refl), refl)))))
    tombstone-blind

pub held-lawful : Lawful (either CODE (group carried) (group tombstone))
held-lawful = either_lawful CODE (group carried) (group tombstone) carried-lawful tombstone-lawful

courier-blind : (version : ℕ) (lv : Level) → Blind lv (Like (courier version) lv) (courier version) (courier version)
unfolding layout.blank_of
courier-blind version lv = b-ask refl (b-field held-lawful (λ h h' e. fin ROW_END (b-done e)))

pub courier-lawful : (version : ℕ) → Lawful (group (courier version))
courier-lawful version =
    group-lawful (courier version) (s-ask (s-any held-lawful (λ h. s-any (no_more-lawful ROW_END) (λ u. s-done ((tt, refl), refl))))) (courier-blind version)
