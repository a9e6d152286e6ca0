-- Eight places always do for a contact's chains.
-- Assumes nothing.
use Prim.Native.Nat.{ℕ, ◌/◌, ◌≤◌}
use mathlib.Core.List.{List}
use mathlib.Core.Bool.{Bool, true, false, cond}
use mathlib.Core.Option.{Option, none, some}
use mathlib.Core.Path.{◌≡◌, refl, ap}
use native.Mathlib.Omega.{arith}
use lib.ListN.{length}
use lib.Dec.{leb, ltb}
use borrow.Author.Tests.{le-leb}
use Rattle.layout.specs.Questions.{STORE}
use Rattle.layout.specs.Layout.{Answer, accepted, refused_by, read_row}
use Rattle.layout.specs.RowLaws.{Bytes, Valid}
use Rattle.rows.specs.Values.{Contact}
use Rattle.rows.specs.Rows.{contact}
use Rattle.rows.proofs.Proved.{proved}
use Rattle.numbers.specs.Ranges.{is_range}
use Rattle.numbers.specs.Lists.{CHAIN_PLACE, limit_of}
use Rattle.numbers.specs.Sets.{add, record_of}
use Rattle.store.specs.declared.Entry.{Entry}
use Rattle.store.specs.Rounds.{Asked}
use Rattle.store.specs.Rounds as asks
use Rattle.store.specs.Store.{store_of, contact_in, part_of, store_passes, asked, found, outcome}
use Rattle.store.proofs.Parts.{bytes-part}
use Rattle.ledger.specs.Call.{Call, restore, opens, cover, contains, covers, take, statement, write, Lent}
use Rattle.ledger.specs.Ledger as ledgers
use Rattle.ledger.specs.Ledger.{Open, Ledger, nothing, restored, opened, Account, refuse, enough, restores, fills, finds, open_in, passes_now, line_now, row_now, on_open, ledger}
use Rattle.ledger.specs.Chains.{EIGHT_PLACES, with_chains, OfBytes, FewChains, ChainLaws}

-- ---- eight chains or fewer, in eight places or more
in-places : (chains n : ℕ) → chains ≤ 8 → EIGHT_PLACES ≤ n → leb chains (n / CHAIN_PLACE) ≡ true
in-places chains n few long = le-leb chains (n / 51) (omega arith)

valid-few : (version : ℕ) (v : Contact) → Valid (contact version) v → length v.chains ≤ 8
valid-few version v valid = ((proved.meets.contact version v).0 valid.granted).1.consistent.chains-count

-- of a contact that is read from a part of a run
read-few : (run : List ℕ) → Bytes run → (e : Entry) (v : Contact) → read_row (contact e.version) (part_of run e) ≡ accepted v → length v.chains ≤ 8
read-few run bytes e v read = valid-few e.version v ((proved.contact e.version).laws.read-valid (part_of run e) (bytes-part run bytes e) v read)

module _ (N : ℕ) (lent : Lent) (n : ℕ) (long : EIGHT_PLACES ≤ n) where
  -- ---- 36, of the row that open finds
  fills_same : (k : ℕ) (run : List ℕ) (es : List Entry) (l : Ledger) (x : Answer Contact) → ((v : Contact) → x ≡ accepted v → length v.chains ≤ 8)
      → fills k (with_chains n lent) run es l x ≡ fills k (with_chains EIGHT_PLACES lent) run es l x
  fills_same k run es l (accepted v) few = let f = few v refl in rw (in-places (length v.chains) n f long, in-places (length v.chains) EIGHT_PLACES f (omega arith))
  fills_same k run es l (refused_by q) few = refl

  opens-same : (k : ℕ) (run : List ℕ) (es : List Entry) (l : Ledger) → Bytes run → open_in k (with_chains n lent) run es l ≡ open_in k (with_chains EIGHT_PLACES lent) run es l
  opens-same k run es l bytes = ap (λ (a : Account). cond (store_passes run es) a (refuse STORE l)) (go (contact_in es k))
    where
      go : (x : Option Entry) → finds k (with_chains n lent) run es l x ≡ finds k (with_chains EIGHT_PLACES lent) run es l x
      go none = refl
      go (some e) = fills_same k run es l (read_row (contact e.version) (part_of run e)) (read-few run bytes e)

  -- ---- 34, of the open contact; what then comes may not look at the chains' list
  on-open-same : (then then' : (run : List ℕ) → List Entry → Open → Account) → ((run : List ℕ) (es : List Entry) (o : Open) → then run es o ≡ then' run es o) → (l : Ledger) → FewChains l
      → on_open N (with_chains n lent) l then ≡ on_open N (with_chains EIGHT_PLACES lent) l then'
  on-open-same then then' same nothing few = refl
  on-open-same then then' same (restored run es) few = refl
  on-open-same then then' same (opened run es o) few =
      let chains = length o.fields.chains in
      rw (in-places chains n few.1 long, in-places chains EIGHT_PLACES few.1 (omega arith), same run es o)

  same : (c : Call) (l : Ledger) → FewChains l → ledger N c (with_chains n lent) l ≡ ledger N c (with_chains EIGHT_PLACES lent) l
  unfolding ledgers.ledger
  same (restore run es) l few = refl
  same (opens k) nothing few = refl
  same (opens k) (restored run es) few = opens-same k run es (restored run es) few
  same (opens k) (opened run es o) few = opens-same k run es (opened run es o) few.0
  same (cover f t) l few = on-open-same _ _ (λ run es o. refl) l few
  same (contains m) l few = on-open-same _ _ (λ run es o. refl) l few
  same (covers f t) l few = on-open-same _ _ (λ run es o. refl) l few
  same take l few = on-open-same _ _ (λ run es o. refl) l few
  same statement l few = on-open-same _ _ (λ run es o. refl) l few
  same write l few = on-open-same _ _ (λ run es o. refl) l few

-- ---- the next state
record Next (a : Account) : Type 0 where
  few : FewChains a.state

either-next : (b : Bool) (x y : Account) → Next x → Next y → Next (cond b x y)
either-next true x y f g = f
either-next false x y f g = g

module _ (N : ℕ) (lent : Lent) where
  restore-next : (run : List ℕ) (es : List Entry) (l : Ledger) → Bytes run → FewChains l → (x : Asked) → Next (restores run es l (outcome x (found (store_of run es))))
  restore-next run es l bytes few asks.Going = record { few = bytes }
  restore-next run es l bytes few (asks.Refused q i) = record { few = few }

  module _ (k : ℕ) (run : List ℕ) (es : List Entry) (l : Ledger) (bytes : Bytes run) (few : FewChains l) where
    fills-next : (x : Answer Contact) → ((v : Contact) → x ≡ accepted v → length v.chains ≤ 8) → Next (fills k lent run es l x)
    fills-next (accepted v) at_most = either-next (enough v lent) _ _ (record { few = (bytes, at_most v refl) }) (record { few = few })
    fills-next (refused_by q) at_most = record { few = few }

    finds-next : (x : Option Entry) → Next (finds k lent run es l x)
    finds-next none = record { few = few }
    finds-next (some e) = fills-next (read_row (contact e.version) (part_of run e)) (read-few run bytes e)

    opens-next : Next (open_in k lent run es l)
    opens-next = either-next (store_passes run es) _ _ (finds-next (contact_in es k)) (record { few = few })

  on-open-next : (then : (run : List ℕ) → List Entry → Open → Account) → ((run : List ℕ) (es : List Entry) (o : Open) → FewChains (opened run es o) → Next (then run es o)) → (l : Ledger) → FewChains l
      → Next (on_open N lent l then)
  on-open-next then next nothing few = record { few = few }
  on-open-next then next (restored run es) few = record { few = few }
  on-open-next then next (opened run es o) few = either-next (passes_now N lent run es o) _ _ (next run es o few) (record { few = few })

  next : (c : Call) → OfBytes c → (l : Ledger) → FewChains l → Next (ledger N c lent l)
  unfolding ledgers.ledger
  next (restore run es) bytes l few = restore-next run es l bytes few (asked (store_of run es))
  next (opens k) bytes nothing few = record { few = few }
  next (opens k) bytes (restored run es) few = opens-next k run es (restored run es) few few
  next (opens k) bytes (opened run es o) few = opens-next k run es (opened run es o) few.0 few
  next (cover f t) bytes l few =
      on-open-next _ (λ run es o few.
      let fits = leb (length (record_of N (add f t o.S)).above) (limit_of lent.above) in
      either-next (is_range f t) _ _ (either-next fits _ _ (record { few = few }) (record { few = few })) (record { few = few })) l few
  next (contains m) bytes l few = on-open-next _ (λ run es o few. record { few = few }) l few
  next (covers f t) bytes l few = on-open-next _ (λ run es o few. either-next (is_range f t) _ _ (record { few = few }) (record { few = few })) l few
  next take bytes l few = on-open-next _ (λ run es o few. either-next (ltb o.n N) _ _ (record { few = few }) (record { few = few })) l few
  next statement bytes l few = on-open-next _ (λ run es o few. either-next (leb (length (line_now N es o)) lent.out) _ _ (record { few = few }) (record { few = few })) l few
  next write bytes l few = on-open-next _ (λ run es o few. either-next (leb (length (row_now N o)) lent.out) _ _ (record { few = few }) (record { few = few })) l few

pub chain_laws : (N : ℕ) → ChainLaws N
chain_laws N = record {
  in-eight = λ v valid n long. in-places (length v.chains) n (valid-few 3 v valid) long;
  eight-enough = λ c lent n long. same N lent n long c;
  few-kept = λ c bytes lent l few. (next N lent c bytes l few).few;
}
