-- The calls on a store that restore grants say the line of each contact.
-- Assumes nothing.
use Prim.Native.Nat.{ℕ, ◌+◌, ◌-◌, ◌/◌, ◌^◌, ◌≤◌, ◌<◌}
use mathlib.Core.List.{List, [], ◌∷◌}
use mathlib.Core.Bool.{Bool, true, cond, ◌&&◌}
use mathlib.Core.Path.{◌≡◌, refl, sym, ap, ◌∙◌, subst}
use native.Mathlib.Omega.{arith}
use lib.ListN.{length}
use lib.Dec.{leb}
use borrow.Author.Tests.{le-leb}
use Rattle.layout.specs.Questions.{STORE, OUTPUT}
use Rattle.layout.specs.RowLaws.{Bytes, Valid}
use Rattle.rows.specs.Values.{Contact}
use Rattle.rows.specs.Rows as rows
use Rattle.numbers.specs.Ranges.{Received}
use Rattle.numbers.specs.Sets.{size, size_from}
use Rattle.rows.proofs.Tests.{either}
use Rattle.received.proofs.Proved as numbers
use Rattle.numbers.specs.Lists.{within}
use Rattle.contact_laws.proofs.Back.{fits-of}
use Rattle.store.specs.declared.Entry.{Entry}
use Rattle.store.specs.Rounds.{Asked}
use Rattle.store.specs.Rounds as asks
use Rattle.store.specs.Store as store
use Rattle.store.specs.Store.{store_of, entry_at, ContactRow, Found, asked, found, outcome}
use Rattle.calls_step.specs.declared.Mark.TheVariants.{Fresh, Restored}
use Rattle.ledger.specs.Call.{restore, opens, statement, Answer, is_granted, granted, said, Lent}
use Rattle.calls_step.specs.Input.{Input, lent_of}
use Rattle.ledger.specs.Ledger.{Open, Ledger, nothing, restored, opened, Account, plain, refuse, enough, fitting, open_of, open_in, passes_now, covered, current, line_now, write_now, ledger}
use Rattle.ledger.specs.Ledger as ledgers
use Rattle.calls_step.specs.Replay.{answers, ledger_answers, AllTyped}
use Rattle.calls_step.specs.Proved.{HIGHEST}
use Rattle.calls_step.proofs.Numbers.{known}
use Rattle.calls_step.specs.Stands.{SoundStore, Sound}
use Rattle.calls_step.proofs.Stands.{open-covered, records-open}
use Rattle.calls_step.proofs.Good.{Next}
use Rattle.calls_step.proofs.Opening.{valid, now, open-good}
use Rattle.calls_step.proofs.Asking.{passes-now}
use Rattle.calls_step.proofs.Proved.{proved}
use Rattle.store.specs.Line.{line_of, queued_of}
use Rattle.statement_text.specs.Text.{contact_line}
use Rattle.statement_laws.specs.Proved.{calls_on, lines_of, LentEnough}
use Rattle.statement_laws.proofs.Rows.{FromEntry, AllFrom, all_from, opens-it}

wide : 256 ^ 4 ≤ HIGHEST + 1
wide = omega arith

-- no count of a valid contact is above 65,535
few-enough : (n items : ℕ) → n < 256 ^ 2 → within n items ≡ leb n items
few-enough n items few = either (leb n items) (λ b. b && leb n 65535 ≡ b) (λ t. le-leb n 65535 (omega arith)) (λ t. refl)

fits-lent : (v : Contact) → Valid (rows.contact 3) v → (lent : Lent) → enough v lent ≡ true → fitting v lent ≡ true
fits-lent v valid lent e =
    let k = fits-of 3 v valid.fits in
    rw (
      few-enough (length v.chains) (lent.chains / 51) k.chains.few,
      few-enough (length v.skipped) (lent.skipped / 46) k.skipped.few,
      few-enough (length v.above) (lent.above / 2) k.above.few,
      few-enough (length v.unacked) lent.unacked k.unacked.few,
      few-enough (length v.expired) (lent.expired / 2) k.expired.few,
    )
    e

module _ (run : List ℕ) (es : List Entry) (by : Bytes run) (going : asked (store_of run es) ≡ asks.Going) (h : Input) where
  stored : SoundStore run es
  stored = record { bytes = by; going = going }

  -- ---- one contact
  module _ (c : ContactRow) (from : FromEntry run es c) (long : enough c.fields (lent_of h) ≡ true) where
    abbrev k : ℕ
    k = c.id

    abbrev v : Contact
    v = c.fields

    opening-it : (l : Ledger) → open_in k (lent_of h) run es l ≡ plain granted (opened run es (open_of k v))
    opening-it l = rw (going, opens-it run es c by going from, from.read, long)

    is-valid : Valid (rows.contact 3) v
    is-valid = valid HIGHEST wide run es stored k (entry_at es from.place) (opens-it run es c by going from) v from.read

    now-is : current HIGHEST (open_of k v) ≡ v
    now-is = now HIGHEST wide run es stored k (entry_at es from.place) (opens-it run es c by going from) v from.read

    sound : Sound HIGHEST run es (open_of k v)
    sound =
        let given : Input = record { mark = Restored; run = run; entries = es; contact = h.contact; lists = h.lists; out = h.out } in
        let good = open-good HIGHEST wide run es stored k Restored h.contact h.lists h.out (restored run es) (record { stands = refl }) in
        (subst (λ (a : Account). Next HIGHEST (is_granted a.answer) (restored run es) given a) (opening-it (restored run es)) good.next).0

    passing : passes_now HIGHEST (lent_of h) run es (open_of k v) ≡ true
    passing =
        passes-now HIGHEST run es (open_of k v) sound (lent_of h)
        ∙ ap (λ (x : Contact). fitting x (lent_of h)) now-is
        ∙ fits-lent v is-valid (lent_of h) long

    -- the ledger counts what the text sums up
    line-is : line_now HIGHEST es (open_of k v) ≡ contact_line es c
    line-is =
        let r : Received = covered HIGHEST (open_of k v) in
        let d = known HIGHEST v wide is-valid in
        let b = sym ((numbers.proved).records (records-open HIGHEST k v wide is-valid)).beyond in
        let acked : ℕ = v.peer_acked in
        let x = sym ((numbers.proved).ranges.counted HIGHEST (acked + 1) (HIGHEST - acked) v.expired d.expired-canon d.expired (omega arith)) in
        (λ i. line_of k v.sent_msgno acked r.contiguous (b i) (queued_of k es) (x i))
        ∙ ap (λ (r : Received). line_of k v.sent_msgno acked r.contiguous (size r.above) (queued_of k es) (size_from (acked + 1) v.expired))
        (open-covered HIGHEST k v wide is-valid)

    saying : length (contact_line es c) ≤ length h.out
        → ledger HIGHEST statement (lent_of h) (opened run es (open_of k v))
        ≡ record { answer = said (length (contact_line es c)) (contact_line es c); state = opened run es (open_of k v); freed = 0; output = contact_line es c }
    unfolding ledgers.ledger
    saying room =
        let l : Ledger = opened run es (open_of k v) in
        let now = line_now HIGHEST es (open_of k v) in
        let line = contact_line es c in
        ap (λ (b : Bool). cond b (write_now (said (length now) now) now (lent_of h) l) (refuse STORE l)) passing
        ∙ ap (λ (x : List ℕ). write_now (said (length x) x) x (lent_of h) l) line-is
        ∙ ap (λ (b : Bool). cond b (record { answer = said (length line) line; state = l; freed = 0; output = line }) (refuse OUTPUT l)) (le-leb (length line) (length h.out) room)

  -- ---- contact by contact
  abbrev On : Ledger → Type 0
  On l = (k : ℕ) → ledger HIGHEST (opens k) (lent_of h) l ≡ open_in k (lent_of h) run es l

  on-opened : (o : Open) → On (opened run es o)
  unfolding ledgers.ledger
  on-opened o k = refl

  on-restored : On (restored run es)
  unfolding ledgers.ledger
  on-restored k = refl

  two-calls : (c : ContactRow) (cs : List ContactRow) (l : Ledger) → On l → (from : FromEntry run es c) → enough c.fields (lent_of h) ≡ true
      → length (contact_line es c) ≤ length h.out → ledger_answers HIGHEST (calls_on cs) (lent_of h) (opened run es (open_of c.id c.fields)) ≡ lines_of es cs
      → ledger_answers HIGHEST (calls_on (c ∷ cs)) (lent_of h) l ≡ lines_of es (c ∷ cs)
  two-calls c cs l on from long room rest =
      ap (λ (a : Account). a.answer ∷ ledger_answers HIGHEST (statement ∷ calls_on cs) (lent_of h) a.state) (on c.id ∙ opening-it c from long l)
      ∙ ap (λ (a : Account). granted ∷ a.answer ∷ ledger_answers HIGHEST (calls_on cs) (lent_of h) a.state) (saying c from long room)
      ∙ ap (λ (rest : List Answer). granted ∷ said (length (contact_line es c)) (contact_line es c) ∷ rest) rest

  all-calls : (cs : List ContactRow) (l : Ledger) → On l → AllFrom run es cs → LentEnough es (lent_of h) cs → ledger_answers HIGHEST (calls_on cs) (lent_of h) l ≡ lines_of es cs
  all-calls [] l on from e = refl
  all-calls (c ∷ cs) l on from e =
      two-calls c cs l on from.0 e.0 e.1 (all-calls cs (opened run es (open_of c.id c.fields)) (on-opened (open_of c.id c.fields)) from.1 e.2)

-- ---- restore before them
all_typed : (cs : List ContactRow) → AllTyped HIGHEST (calls_on cs)
all_typed [] = tt
all_typed (c ∷ cs) = (tt, (tt, all_typed cs))

module _ (run : List ℕ) (es : List Entry) (by : Bytes run) (h : Input) where
  ledger-says : (f : Found) → store.restore (store_of run es) ≡ store.granted f → LentEnough es (lent_of h) f.contacts
      → ledger_answers HIGHEST (restore run es ∷ calls_on f.contacts) (lent_of h) nothing ≡ granted ∷ lines_of es f.contacts
  unfolding ledgers.ledger
  ledger-says f e enough = go (asked (store_of run es)) refl e
    where
      go : (a : Asked) → asked (store_of run es) ≡ a → outcome a (found (store_of run es)) ≡ store.granted f
          → ledger_answers HIGHEST (restore run es ∷ calls_on f.contacts) (lent_of h) nothing ≡ granted ∷ lines_of es f.contacts
      go asks.Going g r =
          let same : found (store_of run es) ≡ f = cc in
          rw g (ap (λ (rest : List Answer). granted ∷ rest)
          (all-calls run es by g h f.contacts (restored run es) (on-restored run es by g h)
          (subst (λ (x : Found). AllFrom run es x.contacts) same (all_from run es es)) enough))
      go (asks.Refused n i) g r = absurd (let z : ◌≡◌ {A = ℕ} 0 1 = cc in omega arith)

pub lines-said : (run : List ℕ) (es : List Entry) (f : Found) → Bytes run → store.restore (store_of run es) ≡ store.granted f
    → (h : Input) → h.mark ≡ Fresh → LentEnough es (lent_of h) f.contacts → answers HIGHEST (restore run es ∷ calls_on f.contacts) h ≡ granted ∷ lines_of es f.contacts
lines-said run es f by e h m long =
    proved.lists.answered h m (restore run es ∷ calls_on f.contacts) (by, all_typed f.contacts) ∙ ledger-says run es by h f e long
