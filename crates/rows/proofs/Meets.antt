-- What a row's values have to meet, stated of items and neighbours, is what its layout asks.
-- Assumes nothing.
use Prim.Native.Nat.{ℕ, zero, suc, ◌+◌, ◌≤◌, ◌<◌}
use mathlib.Core.List.{List, [], ◌∷◌, map}
use mathlib.Core.Bool.{Bool, true, false, cond, ◌&&◌, ◌||◌, not, true≢false, false≢true}
use mathlib.Core.Option.{Option, none, some}
use mathlib.Core.Logic.{◌↔◌, inl, inr}
use mathlib.Core.Path.{◌≡◌, refl, sym, ap, subst, ◌∙◌}
use native.Mathlib.Omega.{arith}
use lib.ListN.{length, get_or, length-map, get_or-map}
use lib.Dec.{leb, eqb}
use borrow.Author.Tests.{leb-true, le-leb, ltb-true, lt-ltb, eqb-true, eq-eqb, eqb-false, ne_eqb, not-true}
use Rattle.layout.specs.Questions.{VERSION, CAPS, NAME_LENGTH, NAME_UTF8, COURIER_CONFIG, SEALED_LENGTH, CARRIED_COPIES, CARRIED_EXPIRY}
use Rattle.layout.specs.Questions.{CHAINS_COUNT, CHAINS_CURRENT, CHAINS_GENS, SKIPPED_KEYS, SKIPPED_COUNT, PEER_ACKED, UNACKED, ABOVE, EXPIRED}
use Rattle.layout.specs.Read.{first}
use Rattle.layout.specs.Veil.{plain}
use Rattle.layout.specs.Form.{bytes, u32, u64, refusal_if, refusal_many}
use Rattle.layout.specs.Form as form
use Rattle.layout.specs.Layout.{present, refusal_of, group}
use Rattle.layout.specs.Layout as layout
use Rattle.rows.specs.Utf8.{utf8}
use Rattle.rows.specs.Values.{Device, Card, Chain, Skipped, Range, Contact, Queued, Carried, Courier}
use Rattle.rows.specs.Checks.{any, count, distinct, version_known, caps_known, name_short, courier_allowed, sealed_queued, sealed_carried, not_zero}
use Rattle.rows.specs.Checks.{few_chains, one_chain_at_most, gens_distinct, ChainKey, key_of, same_key, keys_distinct, few_skipped, acked_sent, rising, canonical, none_above}
use Rattle.rows.specs.Rows.{device, card, card_row, pending, send, chain, skipped, range, contact, own_envelope, queued, carried, courier}
use Rattle.rows.proofs.Tests.{either, or_left, or_right, and_both, both-and}
use Rattle.rows.specs.Meets.{chain_at, skipped_at, msgno_at, range_at, MeetsCard, MeetsDevice, MeetsQueued, MeetsCarried, MeetsCourier, OneChainAtMost, GensDistinct, KeysDistinct, Rising, Canonical, NoneAbove, Consistent, MeetsContact, MeetsLaws}

-- ---- questions one after the other
some≢none : {q : ℕ} → some q ≡ none → ⊥
some≢none e = let z : ◌≡◌ {A = ℕ} 0 1 = cc in omega arith

-- a question that is a yes, and what is asked behind it
asked-yes : (q : ℕ) (t : Bool) (o : Option ℕ) → cond t o (some q) ≡ none → (t ≡ true) × (o ≡ none)
asked-yes q true o e = (refl, e)
asked-yes q false o e = absurd (some≢none e)

yes-asked : (q : ℕ) (t : Bool) (o : Option ℕ) → t ≡ true → o ≡ none → cond t o (some q) ≡ none
yes-asked q t o e g = rw e g

pub first-none : (a b : Option ℕ) → first a b ≡ none → (a ≡ none) × (b ≡ none)
first-none none b e = (refl, e)
first-none (some q) b e = absurd (some≢none e)

first-last : (o : Option ℕ) → first o none ≡ o
first-last none = refl
first-last (some q) = refl

-- ---- items of any type, by their places
module _ {A : Type 0} (d : A) where
  -- no item passes p
  none_passes : (p : A → Bool) (xs : List A) → any p xs ≡ false → (i : ℕ) → i < length xs → p (get_or xs i d) ≡ true → ⊥
  none_passes p [] e i h t = omega arith
  none_passes p (x ∷ xs) e zero h t = true≢false (sym (or_left (p x) (any p xs) t) ∙ e)
  none_passes p (x ∷ xs) e (suc i) h t =
      none_passes p xs (either (any p xs) (λ b. b ≡ false) (λ q. absurd (true≢false (sym (or_right (p x) (any p xs) q) ∙ e))) (λ q. refl)) i (omega arith) t

  passes_none : (p : A → Bool) (xs : List A) → ((i : ℕ) → i < length xs → p (get_or xs i d) ≡ true → ⊥) → any p xs ≡ false
  passes_none p [] f = refl
  passes_none p (x ∷ xs) f =
      either (p x) (λ b. b || any p xs ≡ false) (λ q. absurd (f 0 (omega arith) q)) (λ q. passes_none p xs (λ i h t. f (suc i) (omega arith) t))

  -- distinct: no two items are the same
  distinct-each : (same : A → A → Bool) (xs : List A) → distinct same xs ≡ true → (i j : ℕ) → i < j → j < length xs → same (get_or xs i d) (get_or xs j d) ≡ true → ⊥
  distinct-each same [] e i j ij h t = omega arith
  distinct-each same (x ∷ xs) e i zero ij h t = omega arith
  distinct-each same (x ∷ xs) e zero (suc j) ij h t =
      none_passes (same x) xs (not-true (any (same x) xs) (and_both (not (any (same x) xs)) (distinct same xs) e).0) j (omega arith) t
  distinct-each same (x ∷ xs) e (suc i) (suc j) ij h t =
      distinct-each same xs (and_both (not (any (same x) xs)) (distinct same xs) e).1 i j (omega arith) (omega arith) t

  each-distinct : (same : A → A → Bool) (xs : List A) → ((i j : ℕ) → i < j → j < length xs → same (get_or xs i d) (get_or xs j d) ≡ true → ⊥) → distinct same xs ≡ true
  each-distinct same [] f = refl
  each-distinct same (x ∷ xs) f =
      both-and (not (any (same x) xs)) (distinct same xs)
      (ap not (passes_none (same x) xs (λ j h t. f 0 (suc j) (omega arith) (omega arith) t)))
      (each-distinct same xs (λ i j ij h t. f (suc i) (suc j) (omega arith) (omega arith) t))

  -- counted: none of them, and one at most
  module _ (p : A → Bool) where
    abbrev more : ℕ → Bool → ℕ
    more n b = cond b (suc n) n

    fewer : (b : Bool) (n : ℕ) → n ≤ more n b
    fewer true n = omega arith
    fewer false n = omega arith

    count_none : (xs : List A) → count p xs ≡ 0 → (i : ℕ) → i < length xs → p (get_or xs i d) ≡ true → ⊥
    count_none [] e i h t = omega arith
    count_none (x ∷ xs) e zero h t = let z : suc (count p xs) ≡ 0 = sym (ap (more (count p xs)) t) ∙ e in omega arith
    count_none (x ∷ xs) e (suc i) h t = count_none xs (omega (arith, fewer (p x) (count p xs))) i (omega arith) t

    none-count : (xs : List A) → ((i : ℕ) → i < length xs → p (get_or xs i d) ≡ true → ⊥) → count p xs ≡ 0
    none-count [] f = refl
    none-count (x ∷ xs) f =
        either (p x) (λ b. more (count p xs) b ≡ 0) (λ q. absurd (f 0 (omega arith) q)) (λ q. none-count xs (λ i h t. f (suc i) (omega arith) t))

    count-one : (xs : List A) → count p xs ≤ 1 → (i j : ℕ) → i < j → j < length xs → p (get_or xs i d) ≡ true → p (get_or xs j d) ≡ true → ⊥
    count-one [] le i j ij h s t = omega arith
    count-one (x ∷ xs) le i zero ij h s t = omega arith
    count-one (x ∷ xs) le zero (suc j) ij h s t =
        let z : suc (count p xs) ≤ 1 = subst (λ (b : Bool). more (count p xs) b ≤ 1) s le in
        count_none xs (omega arith) j (omega arith) t
    count-one (x ∷ xs) le (suc i) (suc j) ij h s t = count-one xs (omega (arith, fewer (p x) (count p xs))) i j (omega arith) (omega arith) s t

    one-count : (xs : List A) → ((i j : ℕ) → i < j → j < length xs → p (get_or xs i d) ≡ true → p (get_or xs j d) ≡ true → ⊥) → count p xs ≤ 1
    one-count [] f = omega arith
    one-count (x ∷ xs) f =
        either (p x) (λ b. more (count p xs) b ≤ 1)
        (λ q. omega (arith, none-count xs (λ j h t. f 0 (suc j) (omega arith) (omega arith) q t)))
        (λ q. one-count xs (λ i j ij h s t. f (suc i) (suc j) (omega arith) (omega arith) s t))

-- ---- 17: the chains that are not superseded, counted
absent : (o : Option ℕ) → not (present o) ≡ true → o ≡ none
absent none e = refl
absent (some n) e = absurd (false≢true e)

module _ (chains : List Chain) where
  abbrev superseded : Chain → Bool
  superseded c = present c.superseded_s

  superseded-at : (i : ℕ) → get_or (map superseded chains) i false ≡ superseded (chain_at chains i)
  superseded-at i = get_or-map superseded chains i _

  chains-current : (one_chain_at_most chains ≡ true) ↔ OneChainAtMost chains
  chains-current = (
    (λ e i j ij h s t. count-one false not (map superseded chains) (leb-true _ 1 e) i j ij (rw length-map h)
        (ap not (superseded-at i ∙ ap present s)) (ap not (superseded-at j ∙ ap present t))),
    (λ f. le-leb _ 1 (one-count false not (map superseded chains) (λ i j ij h s t. f i j ij (rw length-map at h)
        (absent _ (ap not (sym (superseded-at i)) ∙ s)) (absent _ (ap not (sym (superseded-at j)) ∙ t))))),
  )

  -- ---- 18
  gen-at : (i : ℕ) → get_or (map (λ c. c.gen) chains) i 0 ≡ (chain_at chains i).gen
  gen-at i = get_or-map (λ c. c.gen) chains i _

  chains-gens : (gens_distinct chains ≡ true) ↔ GensDistinct chains
  chains-gens = (
    (λ e i j ij h s. distinct-each 0 eqb (map (λ c. c.gen) chains) e i j ij (rw length-map h) (eq-eqb _ _ (gen-at i ∙ s ∙ sym (gen-at j)))),
    (λ f. each-distinct 0 eqb (map (λ c. c.gen) chains) (λ i j ij h t. f i j ij (rw length-map at h) (sym (gen-at i) ∙ eqb-true _ _ t ∙ gen-at j))),
  )

-- ---- 19
same_place : (x y : ChainKey) → (same_key x y ≡ true) ↔ ((x.gen ≡ y.gen) × (x.idx ≡ y.idx))
same_place x y = (
  (λ e. let p = and_both (eqb x.gen y.gen) (eqb x.idx y.idx) e in (eqb-true _ _ p.0, eqb-true _ _ p.1)),
  (λ h. both-and (eqb x.gen y.gen) (eqb x.idx y.idx) (eq-eqb _ _ h.0) (eq-eqb _ _ h.1)),
)

module _ (skipped : List Skipped) where
  abbrev nowhere : ChainKey
  nowhere = record { gen = 0; idx = 0 }

  place_at : (i : ℕ) → get_or (map key_of skipped) i nowhere ≡ key_of (skipped_at skipped i)
  place_at i = get_or-map key_of skipped i _

  skipped-keys : (keys_distinct skipped ≡ true) ↔ KeysDistinct skipped
  skipped-keys = (
    (λ e i j ij h s t. distinct-each nowhere same_key (map key_of skipped) e i j ij (rw length-map h)
        (rw (place_at i, place_at j) ((same_place (key_of (skipped_at skipped i)) (key_of (skipped_at skipped j))).1 (s, t)))),
    (λ f. each-distinct nowhere same_key (map key_of skipped) (λ i j ij h t.
        let p = (same_place (key_of (skipped_at skipped i)) (key_of (skipped_at skipped j))).0 (rw (place_at i, place_at j) at t) in
        f i j ij (rw length-map at h) p.0 p.1)),
  )

-- ---- 20, 21
at_most : (a b : ℕ) → (leb a b ≡ true) ↔ (a ≤ b)
at_most a b = (leb-true a b, le-leb a b)

-- ---- 22
module _ (hi : ℕ) where
  front-rises : (lo n : ℕ) (ns : List ℕ) → rising lo hi (n ∷ ns) ≡ true → (lo ≤ n) × (n ≤ hi) × (rising (n + 1) hi ns ≡ true)
  front-rises lo n ns e =
      let p = and_both (leb lo n && leb n hi) (rising (n + 1) hi ns) e in
      let q = and_both (leb lo n) (leb n hi) p.0 in
      (leb-true lo n q.0, leb-true n hi q.1, p.1)

  rising-from : (lo : ℕ) (ns : List ℕ) → rising lo hi ns ≡ true → (i : ℕ) → i < length ns → lo ≤ msgno_at ns i
  rising-from lo [] e i h = absurd (omega arith)
  rising-from lo (n ∷ ns) e zero h = (front-rises lo n ns e).0
  rising-from lo (n ∷ ns) e (suc i) h = let p = front-rises lo n ns e in omega (arith, p.0, rising-from (n + 1) ns p.2 i (omega arith))

  rising-to : (lo : ℕ) (ns : List ℕ) → rising lo hi ns ≡ true → (i : ℕ) → i < length ns → msgno_at ns i ≤ hi
  rising-to lo [] e i h = absurd (omega arith)
  rising-to lo (n ∷ ns) e zero h = (front-rises lo n ns e).1
  rising-to lo (n ∷ ns) e (suc i) h = rising-to (n + 1) ns (front-rises lo n ns e).2 i (omega arith)

  rising-rises : (lo : ℕ) (ns : List ℕ) → rising lo hi ns ≡ true → (i : ℕ) → suc i < length ns → msgno_at ns i < msgno_at ns (suc i)
  rising-rises lo [] e i h = absurd (omega arith)
  rising-rises lo (n ∷ ns) e zero h = omega (arith, rising-from (n + 1) ns (front-rises lo n ns e).2 0 (omega arith))
  rising-rises lo (n ∷ ns) e (suc i) h = rising-rises (n + 1) ns (front-rises lo n ns e).2 i (omega arith)

  -- what comes behind n is above it
  behind : (lo n : ℕ) (ns : List ℕ) → Rising lo hi (n ∷ ns) → (i : ℕ) → i < length ns → n + 1 ≤ msgno_at ns i
  behind lo n ns r zero h = omega (arith, r.rises 0 (omega arith))
  behind lo n ns r (suc i) h = omega (arith, behind lo n ns r i (omega arith), r.rises (suc i) (omega arith))

  each-rising : (lo : ℕ) (ns : List ℕ) → Rising lo hi ns → rising lo hi ns ≡ true
  each-rising lo [] r = refl
  each-rising lo (n ∷ ns) r =
      rw (le-leb lo n (r.from 0 (omega arith)), le-leb n hi (r.to 0 (omega arith)))
      (each-rising (n + 1) ns (record { rises = λ i h. r.rises (suc i) (omega arith); from = behind lo n ns r; to = λ i h. r.to (suc i) (omega arith) }))

  unacked-rise : (lo : ℕ) (ns : List ℕ) → (rising lo hi ns ≡ true) ↔ Rising lo hi ns
  unacked-rise lo ns = ((λ e. record { rises = rising-rises lo ns e; from = rising-from lo ns e; to = rising-to lo ns e }), each-rising lo ns)

-- ---- 23, 24
front-canonical : (f : ℕ) (r : Range) (rs : List Range) → canonical f (r ∷ rs) ≡ true → (r.from ≤ r.to) × (f ≤ r.from) × (canonical (r.to + 2) rs ≡ true)
front-canonical f r rs e =
    let p = and_both (leb r.from r.to && leb f r.from) (canonical (r.to + 2) rs) e in
    let q = and_both (leb r.from r.to) (leb f r.from) p.0 in
    (leb-true r.from r.to q.0, leb-true f r.from q.1, p.1)

canonical-each : (f : ℕ) (rs : List Range) → canonical f rs ≡ true → (i : ℕ) → i < length rs → (range_at rs i).from ≤ (range_at rs i).to
canonical-each f [] e i h = absurd (omega arith)
canonical-each f (r ∷ rs) e zero h = (front-canonical f r rs e).0
canonical-each f (r ∷ rs) e (suc i) h = canonical-each (r.to + 2) rs (front-canonical f r rs e).2 i (omega arith)

canonical-first : (f : ℕ) (rs : List Range) → canonical f rs ≡ true → 0 < length rs → f ≤ (range_at rs 0).from
canonical-first f [] e h = absurd (omega arith)
canonical-first f (r ∷ rs) e h = (front-canonical f r rs e).1

canonical-next : (f : ℕ) (rs : List Range) → canonical f rs ≡ true → (i : ℕ) → suc i < length rs → (range_at rs i).to + 2 ≤ (range_at rs (suc i)).from
canonical-next f [] e i h = absurd (omega arith)
canonical-next f (r ∷ rs) e zero h = canonical-first (r.to + 2) rs (front-canonical f r rs e).2 (omega arith)
canonical-next f (r ∷ rs) e (suc i) h = canonical-next (r.to + 2) rs (front-canonical f r rs e).2 i (omega arith)

each-canonical : (f : ℕ) (rs : List Range) → Canonical f rs → canonical f rs ≡ true
each-canonical f [] c = refl
each-canonical f (r ∷ rs) c =
    rw (le-leb r.from r.to (c.each 0 (omega arith)), le-leb f r.from (c.first (omega arith)))
    (each-canonical (r.to + 2) rs (record { each = λ i h. c.each (suc i) (omega arith); first = λ h. c.next 0 (omega arith); next = λ i h. c.next (suc i) (omega arith) }))

ranges-canonical : (f : ℕ) (rs : List Range) → (canonical f rs ≡ true) ↔ Canonical f rs
ranges-canonical f rs = ((λ e. record { each = canonical-each f rs e; first = canonical-first f rs e; next = canonical-next f rs e }), each-canonical f rs)

none_above_lem : (n : ℕ) (rs : List Range) → none_above n rs ≡ true → NoneAbove n rs
none_above_lem n [] e i h = absurd (omega arith)
none_above_lem n (r ∷ rs) e zero h = leb-true r.to n (and_both (leb r.to n) (none_above n rs) e).0
none_above_lem n (r ∷ rs) e (suc i) h = none_above_lem n rs (and_both (leb r.to n) (none_above n rs) e).1 i (omega arith)

above-none : (n : ℕ) (rs : List Range) → NoneAbove n rs → none_above n rs ≡ true
above-none n [] f = refl
above-none n (r ∷ rs) f = both-and (leb r.to n) (none_above n rs) (le-leb r.to n (f 0 (omega arith))) (above-none n rs (λ i h. f (suc i) (omega arith)))

expired-canonical : (n : ℕ) (rs : List Range) → (canonical 1 rs && none_above n rs ≡ true) ↔ (Canonical 1 rs × NoneAbove n rs)
expired-canonical n rs = (
  (λ e. let p = and_both (canonical 1 rs) (none_above n rs) e in ((ranges-canonical 1 rs).0 p.0, none_above_lem n rs p.1)),
  (λ h. both-and (canonical 1 rs) (none_above n rs) ((ranges-canonical 1 rs).1 h.0) (above-none n rs h.1)),
)

-- ---- forms that refuse no value
many-free : {B : Type 0} (f : form.Form B) → ((b : B) → f.refusal b ≡ none) → (bs : List B) → refusal_many f bs ≡ none
unfolding form.refusal_many
many-free f free [] = refl
many-free f free (b ∷ bs) = rw (free b) (many-free f free bs)

if-free : {B : Type 0} (f : form.Form B) → ((b : B) → f.refusal b ≡ none) → (o : Option B) → refusal_if f o ≡ none
if-free f free none = refl
if-free f free (some b) = free b

chain-free : (c : Chain) → refusal_of chain c ≡ none
unfolding layout.refusal_of
chain-free c = rw (if-free u64 (λ n. refl) c.superseded_s)

-- ---- rows
not-zero : (n : ℕ) → (not_zero n ≡ true) ↔ (1 ≤ n)
not-zero n = ((λ e. above n (eqb-false n 0 (not-true _ e))), (λ h. ap not (ne_eqb n 0 (λ e. omega arith))))
  where
    above : (n : ℕ) → (n ≡ 0 → ⊥) → 1 ≤ n
    above n h = omega arith

version-three : (version : ℕ) (o : Option ℕ) → (cond (version_known version) o (some VERSION) ≡ none) ↔ ((version ≡ 3) × (o ≡ none))
version-three version o = (
  (λ e. let p = asked-yes VERSION (version_known version) o e in (eqb-true version 3 p.0, p.1)),
  (λ h. yes-asked VERSION (version_known version) o (eq-eqb version 3 h.0) h.1),
)

card-asks : (c : Card) → (refusal_of card c ≡ none) ↔ MeetsCard c
unfolding layout.refusal_of
card-asks c = (
  (λ e.
      let p = asked-yes CAPS (caps_known c.caps) _ e in
      let q = asked-yes NAME_LENGTH (name_short (length c.name)) _ p.1 in
      let r = asked-yes NAME_UTF8 (utf8 c.name) _ q.1 in
      record { caps = ltb-true c.caps 4 p.0; name_len = leb-true (length c.name) 48 q.0; name = r.0 }),
  (λ m. rw (lt-ltb c.caps 4 m.caps, le-leb (length c.name) 48 m.name_len, m.name, if-free (bytes plain 1184) (λ b. refl) c.static_ek)),
)

module _ (version : ℕ) where
  device-asks : (d : Device) → (refusal_of (device version) d ≡ none) ↔ ((version ≡ 3) × MeetsDevice d)
  unfolding layout.refusal_of
  device-asks d = (
    (λ e.
        let v = (version-three version _).0 e in
        let a = (asked-yes COURIER_CONFIG (courier_allowed d.copies d.lifetime_min) _ v.1).0 in
        let p = and_both (leb 1 d.copies && leb d.copies 16 && leb 60 d.lifetime_min) (leb d.lifetime_min 10080) a in
        let q = and_both (leb 1 d.copies && leb d.copies 16) (leb 60 d.lifetime_min) p.0 in
        let r = and_both (leb 1 d.copies) (leb d.copies 16) q.0 in
        (v.0, record { copies = (leb-true 1 _ r.0, leb-true _ 16 r.1); lifetime_min = (leb-true 60 _ q.1, leb-true _ 10080 p.1) })),
    (λ m. (version-three version _).1 (
      m.0,
      rw (
        le-leb 1 d.copies m.1.copies.0,
        le-leb d.copies 16 m.1.copies.1,
        le-leb 60 d.lifetime_min m.1.lifetime_min.0,
        le-leb d.lifetime_min 10080 m.1.lifetime_min.1,
      ),
    )),
  )

  queued-refusal : (q : Queued)
      → refusal_of (queued version) q ≡ cond (version_known version) (cond (sealed_queued (length q.sealed)) none (some SEALED_LENGTH)) (some VERSION)
  unfolding layout.refusal_of
  queued-refusal q = rw (if-free (group own_envelope) (λ e. refl) q.envelope, first-last (cond (sealed_queued (length q.sealed)) none (some SEALED_LENGTH)))

  queued-asks : (q : Queued) → (refusal_of (queued version) q ≡ none) ↔ ((version ≡ 3) × MeetsQueued q)
  queued-asks q = (
    (λ e.
        let v = (version-three version _).0 (sym (queued-refusal q) ∙ e) in
        (v.0, record { sealed = (asked-yes SEALED_LENGTH (sealed_queued (length q.sealed)) none v.1).0 })),
    (λ m. queued-refusal q ∙ (version-three version _).1 (m.0, rw m.1.sealed)),
  )

  carried-asks : (c : Carried) → (refusal_of carried c ≡ none) ↔ MeetsCarried c
  unfolding layout.refusal_of
  carried-asks c = (
    (λ e.
        let p = asked-yes CARRIED_EXPIRY (not_zero c.expiry_min) _ e in
        let q = asked-yes CARRIED_COPIES (not_zero c.copies) _ p.1 in
        let r = asked-yes SEALED_LENGTH (sealed_carried (length c.sealed)) none (first-none _ _ q.1).0 in
        record { sealed = r.0; copies = (not-zero c.copies).0 q.0; expiry_min = (not-zero c.expiry_min).0 p.0 }),
    (λ m. rw ((not-zero c.expiry_min).1 m.expiry_min, (not-zero c.copies).1 m.copies, m.sealed)),
  )

  held_asks : (h : Courier) → (refusal_of (courier version) h ≡ none) ↔ ((version ≡ 3) × MeetsCourier h)
  unfolding layout.refusal_of
  held_asks (inl c) = (
    (λ e. let v = (version-three version _).0 e in (v.0, (carried-asks c).0 (first-none _ _ v.1).0)),
    (λ m. (version-three version _).1 (m.0, rw ((carried-asks c).1 m.1))),
  )
  held_asks (inr t) = ((λ e. (((version-three version _).0 e).0, tt)), (λ m. (version-three version _).1 (m.0, refl)))

  -- a contact: its card's questions, then 54 and 17 to 24
  abbrev asks : Contact → Option ℕ
  asks c =
      cond (few_chains c.chains)
      (cond (one_chain_at_most c.chains)
      (cond (gens_distinct c.chains)
      (cond (keys_distinct c.skipped)
      (cond (few_skipped c.skipped)
      (cond (acked_sent c.peer_acked c.sent_msgno)
      (cond (rising 1 c.sent_msgno c.unacked)
      (cond (canonical (c.contiguous + 2) c.above)
      (cond (canonical 1 c.expired && none_above c.sent_msgno c.expired) none (some EXPIRED))
      (some ABOVE)) (some UNACKED)) (some PEER_ACKED)) (some SKIPPED_COUNT)) (some SKIPPED_KEYS)) (some CHAINS_GENS)) (some CHAINS_CURRENT)) (some CHAINS_COUNT)

  contact-refusal : (c : Contact) → refusal_of (contact version) c ≡ cond (version_known version) (first (refusal_of card c.card) (asks c)) (some VERSION)
  unfolding layout.refusal_of
  contact-refusal c = rw (
    if-free (group pending) (λ p. refl) c.pending,
    if-free (group send) (λ s. refl) c.send,
    many-free (group chain) chain-free c.chains,
    many-free (group skipped) (λ k. refl) c.skipped,
    many-free (group range) (λ r. refl) c.above,
    many-free u32 (λ n. refl) c.unacked,
    many-free (group range) (λ r. refl) c.expired,
    first-last (refusal_of card c.card),
  )

  asks-consistent : (c : Contact) → asks c ≡ none → Consistent c
  asks-consistent c e =
      let eight = asked-yes CHAINS_COUNT (few_chains c.chains) _ e in
      let current = asked-yes CHAINS_CURRENT (one_chain_at_most c.chains) _ eight.1 in
      let gens = asked-yes CHAINS_GENS (gens_distinct c.chains) _ current.1 in
      let keys = asked-yes SKIPPED_KEYS (keys_distinct c.skipped) _ gens.1 in
      let few = asked-yes SKIPPED_COUNT (few_skipped c.skipped) _ keys.1 in
      let acked = asked-yes PEER_ACKED (acked_sent c.peer_acked c.sent_msgno) _ few.1 in
      let rises = asked-yes UNACKED (rising 1 c.sent_msgno c.unacked) _ acked.1 in
      let apart = asked-yes ABOVE (canonical (c.contiguous + 2) c.above) _ rises.1 in
      let within = asked-yes EXPIRED (canonical 1 c.expired && none_above c.sent_msgno c.expired) _ apart.1 in
      record {
        chains-count = leb-true _ 8 eight.0;
        chains-current = (chains-current c.chains).0 current.0;
        chains-gens = (chains-gens c.chains).0 gens.0;
        skipped-keys = (skipped-keys c.skipped).0 keys.0;
        skipped-count = leb-true _ 500 few.0;
        peer-acked = leb-true _ _ acked.0;
        unacked = (unacked-rise c.sent_msgno 1 c.unacked).0 rises.0;
        above = (ranges-canonical (c.contiguous + 2) c.above).0 apart.0;
        expired = (expired-canonical c.sent_msgno c.expired).0 within.0;
      }

  consistent-asks : (c : Contact) → Consistent c → asks c ≡ none
  consistent-asks c m = rw (
    le-leb (length c.chains) 8 m.chains-count,
    (chains-current c.chains).1 m.chains-current,
    (chains-gens c.chains).1 m.chains-gens,
    (skipped-keys c.skipped).1 m.skipped-keys,
    le-leb (length c.skipped) 500 m.skipped-count,
    le-leb c.peer_acked c.sent_msgno m.peer-acked,
    (unacked-rise c.sent_msgno 1 c.unacked).1 m.unacked,
    (ranges-canonical (c.contiguous + 2) c.above).1 m.above,
    (expired-canonical c.sent_msgno c.expired).1 m.expired,
  )

  contact-asks : (c : Contact) → (refusal_of (contact version) c ≡ none) ↔ ((version ≡ 3) × MeetsContact c)
  contact-asks c = (
    (λ e.
        let v = (version-three version _).0 (sym (contact-refusal c) ∙ e) in
        let p = first-none (refusal_of card c.card) (asks c) v.1 in
        (v.0, record { card = (card-asks c.card).0 p.0; consistent = asks-consistent c p.1 })),
    (λ m. contact-refusal c ∙ (version-three version _).1 (m.0, rw ((card-asks c.card).1 m.1.card) (consistent-asks c m.1.consistent))),
  )

card-row-asks : (c : Card) → (refusal_of card_row c ≡ none) ↔ MeetsCard c
unfolding layout.refusal_of
card-row-asks c = ((λ e. (card-asks c).0 (sym (first-last (refusal_of card c)) ∙ e)), (λ m. first-last (refusal_of card c) ∙ (card-asks c).1 m))

pub meets-laws : MeetsLaws
meets-laws = record {
  chains-count = λ chains. at_most (length chains) 8;
  chains-current = chains-current;
  chains-gens = chains-gens;
  skipped-keys = skipped-keys;
  skipped-count = λ skipped. at_most (length skipped) 500;
  peer-acked = at_most;
  unacked = λ lo hi msgnos. unacked-rise hi lo msgnos;
  above = ranges-canonical;
  expired = expired-canonical;
  device = device-asks;
  card = card-row-asks;
  contact = contact-asks;
  queued = queued-asks;
  courier = held_asks;
}
