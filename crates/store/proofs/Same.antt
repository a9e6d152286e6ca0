-- Stores that agree index by index in what their kinds have use for, in refusals and in what is seen of their rows, are answered alike.
-- Assumes nothing.
use Prim.Native.Nat.{ℕ, zero, suc, ◌+◌, ◌≤◌, ◌<◌}
use mathlib.Core.List.{List, [], ◌∷◌}
use mathlib.Core.Bool.{Bool, true, false, cond, ◌&&◌}
use mathlib.Core.Option.{Option, none, some}
use mathlib.Core.Path.{◌≡◌, refl, sym, ap, ap₂, ◌∙◌}
use native.Mathlib.Omega.{arith}
use lib.ListN.{length}
use lib.Dec.{leb, ltb, eqb, eqb→eq}
use Rattle.layout.specs.Questions.{ORDER, BOUNDS}
use Rattle.layout.specs.Layout.{Answer, read_row}
use Rattle.rows.specs.Values.{Contact}
use Rattle.rows.specs.Rows as rows
use Rattle.store.specs.declared.Entry.{Entry}
use Rattle.store.specs.Rounds.{Asked, Going, Refused, ask, first_no, rounds}
use Rattle.store.specs.Kinds.{DEVICE, CONTACT, QUEUED, COURIER, Kind, contact, unknown, kind_of, layout_of, Seen, refusal_in}
use Rattle.store.specs.Store.{Store, entry_at, is_of, within, answer_of, seen, in_order, any_below, before, queued_before, across_as, contact_before, next_in, low_depositor, all_rounds, begun, asked, ContactRow, contacts_as, contacts_in, slots_below, Found, outcome, restore}
use Rattle.store.proofs.Rounds.{rounds-same}
use Rattle.store.proofs.Tests.{truth}
use Rattle.store.proofs.ByKind.{SameSight, Sort, is-device, is-contact, is-queued, is-courier, is-unknown, sort}

-- two entries that agree in what their kind has use for; their versions, starts and lengths may differ
pub record SameUse (e e' : Entry) : Type 0 where
  pub kind : e.kind ≡ e'.kind
  pub id : (e.kind ≡ DEVICE → ⊥) → e.id ≡ e'.id
  pub msgno : e.kind ≡ QUEUED → e.msgno ≡ e'.msgno

pub own-use : (e : Entry) → SameUse e e
own-use e = record { kind = refl; id = λ other. refl; msgno = λ is. refl }

any_same : (i : ℕ) (p p' : ℕ → Bool) → ((j : ℕ) → j < i → p j ≡ p' j) → any_below i p ≡ any_below i p'
any_same zero p p' h = refl
any_same (suc i) p p' h = rw (h i (omega arith), any_same i p p' (λ j b. h j (omega arith)))

-- ---- entries alike
module _ (es es' : List Entry) (long : length es ≡ length es') (uses : (i : ℕ) → i < length es → SameUse (entry_at es i) (entry_at es' i)) where
  pub same_id : (k i : ℕ) → i < length es → (entry_at es i).kind ≡ suc k → (entry_at es i).id ≡ (entry_at es' i).id
  same_id k i b e = (uses i b).id (λ d. omega arith)

  is_same : (k id i : ℕ) → i < length es → is_of (suc k) id (entry_at es i) ≡ is_of (suc k) id (entry_at es' i)
  is_same k id i b = rw (← (uses i b).kind) (go (eqb (entry_at es i).kind (suc k)) refl)
    where
      go : (t : Bool) → eqb (entry_at es i).kind (suc k) ≡ t → (t && eqb (entry_at es i).id id) ≡ (t && eqb (entry_at es' i).id id)
      go true h = ap (λ (n : ℕ). eqb n id) (same_id k i b (eqb→eq (entry_at es i).kind (suc k) (truth (eqb (entry_at es i).kind (suc k)) h)))
      go false h = refl

  pub before_same : (i k id : ℕ) → i ≤ length es → before es i (suc k) id ≡ before es' i (suc k) id
  before_same i k id h = any_same i (λ j. is_of (suc k) id (entry_at es j)) (λ j. is_of (suc k) id (entry_at es' j)) (λ j b. is_same k id j (omega arith))

  queued-same : (i id msgno : ℕ) → i ≤ length es → queued_before es i id msgno ≡ queued_before es' i id msgno
  queued-same i id msgno h =
      any_same i (λ j. is_of QUEUED id (entry_at es j) && eqb (entry_at es j).msgno msgno) (λ j. is_of QUEUED id (entry_at es' j) && eqb (entry_at es' j).msgno msgno)
      (λ j b. rw (← is_same 1 id j (omega arith)) (go j (omega arith) (eqb (entry_at es j).kind QUEUED) refl))
    where
      go : (j : ℕ) → j < length es → (t : Bool) → eqb (entry_at es j).kind QUEUED ≡ t
          → ((t && eqb (entry_at es j).id id) && eqb (entry_at es j).msgno msgno) ≡ ((t && eqb (entry_at es j).id id) && eqb (entry_at es' j).msgno msgno)
      go j b true x = ap (λ (n : ℕ). eqb (entry_at es j).id id && eqb n msgno) ((uses j b).msgno (eqb→eq (entry_at es j).kind QUEUED (truth (eqb (entry_at es j).kind QUEUED) x)))
      go j b false x = refl

  pub order_same : (i : ℕ) → i < length es → in_order es i ≡ in_order es' i
  order_same zero b = rw (uses 0 b).kind
  order_same (suc i) b = rw ((uses (suc i) b).kind, (uses i (omega arith)).kind)

  pub slots_same : (n : ℕ) → n ≤ length es → slots_below es n ≡ slots_below es' n
  slots_same zero b = refl
  slots_same (suc n) b = rw (← slots_same n (omega arith), ← (uses n (omega arith)).kind) (go (eqb (entry_at es n).kind COURIER) refl)
    where
      go : (t : Bool) → eqb (entry_at es n).kind COURIER ≡ t
          → cond (t && leb (slots_below es n) (entry_at es n).id) ((entry_at es n).id + 1) (slots_below es n) ≡ cond (t && leb (slots_below es n) (entry_at es' n).id) ((entry_at es' n).id + 1) (slots_below es n)
      go true h = ap (λ (x : ℕ). cond (leb (slots_below es n) x) (x + 1) (slots_below es n)) (same_id 2 n (omega arith) (eqb→eq (entry_at es n).kind COURIER (truth (eqb (entry_at es n).kind COURIER) h)))
      go false h = refl

  -- ---- and the same seen of each
  module _ (look look' : Entry → Seen) (same : (i : ℕ) → i < length es → look (entry_at es i) ≡ look' (entry_at es' i)) where
    pub next-same : next_in look es ≡ next_in look' es'
    next-same = go es es' long (same 0)
      where
        go : (l l' : List Entry) → length l ≡ length l' → (0 < length l → look (entry_at l 0) ≡ look' (entry_at l' 0)) → next_in look l ≡ next_in look' l'
        go [] [] h x = refl
        go [] (e ∷ l) h x = absurd (omega arith)
        go (e ∷ l) [] h x = absurd (omega arith)
        go (e ∷ l) (e' ∷ l') h x = ap (λ (y : Seen). y.next_contact) (x (omega arith))

    contact-same : (i id : ℕ) → i ≤ length es → contact_before es look i id ≡ contact_before es' look' i id
    contact-same zero id h = refl
    contact-same (suc i) id h = rw (is_same 0 id i (omega arith), same i (omega arith), contact-same i id (omega arith))

    low_same : (o : Option ℕ) → low_depositor es look o ≡ low_depositor es' look' o
    low_same none = refl
    low_same (some d) = ap (λ (n : ℕ). ltb d n) next-same

    module _ (i : ℕ) (h : i < length es) where
      at : (k : ℕ) → (entry_at es i).kind ≡ k → across_as es look (kind_of k) (entry_at es i) i ≡ across_as es' look' (kind_of k) (entry_at es' i) i
          → across_as es look (kind_of (entry_at es i).kind) (entry_at es i) i ≡ across_as es' look' (kind_of (entry_at es' i).kind) (entry_at es' i) i
      at k p x = ap (λ (n : ℕ). across_as es look (kind_of n) (entry_at es i) i) p ∙ x ∙ sym (ap (λ (n : ℕ). across_as es' look' (kind_of n) (entry_at es' i) i) (sym (uses i h).kind ∙ p))

      pub across-same : across_as es look (kind_of (entry_at es i).kind) (entry_at es i) i ≡ across_as es' look' (kind_of (entry_at es' i).kind) (entry_at es' i) i
      across-same = go (sort (entry_at es i).kind)
        where
          go : Sort (entry_at es i).kind → across_as es look (kind_of (entry_at es i).kind) (entry_at es i) i ≡ across_as es' look' (kind_of (entry_at es' i).kind) (entry_at es' i) i
          go (is-device p) = at DEVICE p refl
          go (is-contact p) = at CONTACT p (rw (same_id 0 i h p, next-same, before_same i 0 (entry_at es' i).id (omega arith)))
          go (is-queued p) = at QUEUED p (rw (same_id 1 i h p, (uses i h).msgno p, before_same i 0 (entry_at es' i).id (omega arith), contact-same i (entry_at es' i).id (omega arith), queued-same i (entry_at es' i).id (entry_at es' i).msgno (omega arith)))
          go (is-courier p) = at COURIER p (rw (same i h, same_id 2 i h p, low_same (look' (entry_at es' i)).depositor, before_same i 2 (entry_at es' i).id (omega arith)))
          go (is-unknown p) =
              ap (λ (x : Kind). across_as es look x (entry_at es i) i) p ∙ sym (ap (λ (x : Kind). across_as es' look' x (entry_at es' i) i) (ap kind_of (sym (uses i h).kind) ∙ p))

-- ---- stores
pub record SameAt (s s' : Store) (e e' : Entry) : Type 0 where
  pub uses : SameUse e e'
  pub bounds : within s.size e ≡ within s'.size e'
  pub refusals : refusal_in (answer_of s e) ≡ refusal_in (answer_of s' e')
  pub sights : seen s e ≡ seen s' e'

-- a contact's answer is the same
abbrev pub SameContact : (s s' : Store) → (e e' : Entry) → Type 0
SameContact s s' e e' = e.kind ≡ CONTACT → read_row (rows.contact e.version) (s.row_of e) ≡ read_row (rows.contact e'.version) (s'.row_of e')

abbrev contacts_for : Store → (kind : ℕ) → Entry → List ContactRow → List ContactRow
contacts_for s kind e rest = contacts_as (kind_of kind) e.id (read_row (layout_of (kind_of kind) e.version) (s.row_of e)) rest

pub contacts-same : (s s' : Store) (l l' : List Entry) → length l ≡ length l' → ((i : ℕ) → i < length l → SameUse (entry_at l i) (entry_at l' i) × SameContact s s' (entry_at l i) (entry_at l' i))
    → contacts_in s l ≡ contacts_in s' l'
contacts-same s s' [] [] h each = refl
contacts-same s s' [] (e ∷ l) h each = absurd (omega arith)
contacts-same s s' (e ∷ l) [] h each = absurd (omega arith)
contacts-same s s' (e ∷ l) (e' ∷ l') h each = go (sort e.kind) (contacts-same s s' l l' (omega arith) (λ i b. each (suc i) (omega arith)))
  where
    uses : SameUse e e'
    uses = (each 0 (omega arith)).0

    at : (k : ℕ) → e.kind ≡ k → contacts_for s k e (contacts_in s l) ≡ contacts_for s' k e' (contacts_in s' l') → contacts_in s (e ∷ l) ≡ contacts_in s' (e' ∷ l')
    at k p r = ap (λ (n : ℕ). contacts_for s n e (contacts_in s l)) p ∙ r ∙ sym (ap (λ (n : ℕ). contacts_for s' n e' (contacts_in s' l')) (sym uses.kind ∙ p))

    go : Sort e.kind → contacts_in s l ≡ contacts_in s' l' → contacts_in s (e ∷ l) ≡ contacts_in s' (e' ∷ l')
    go (is-device p) r = at DEVICE p r
    go (is-contact p) r = at CONTACT p (
        ap₂ (λ (n : ℕ) (a : Answer Contact). contacts_as contact n a (contacts_in s l)) (uses.id (λ d. omega arith)) ((each 0 (omega arith)).1 p)
        ∙ ap (λ (x : List ContactRow). contacts_as contact e'.id (read_row (rows.contact e'.version) (s'.row_of e')) x) r)
    go (is-queued p) r = at QUEUED p r
    go (is-courier p) r = at COURIER p r
    go (is-unknown p) r = none_found (kind_of e.kind) p e s (contacts_in s l) ∙ r ∙ sym (none_found (kind_of e'.kind) (ap kind_of (sym uses.kind) ∙ p) e' s' (contacts_in s' l'))
      where
        none_found : (k : Kind) → k ≡ unknown → (f : Entry) (t : Store) (rest : List ContactRow) → contacts_as k f.id (read_row (layout_of k f.version) (t.row_of f)) rest ≡ rest
        none_found k q f t rest = ap (λ (x : Kind). contacts_as x f.id (read_row (layout_of x f.version) (t.row_of f)) rest) q

module _ (s s' : Store) (long : length s.entries ≡ length s'.entries) (each : (i : ℕ) → i < length s.entries → SameAt s s' (entry_at s.entries i) (entry_at s'.entries i)) where
  abbrev es : List Entry
  es = s.entries

  abbrev es' : List Entry
  es' = s'.entries

  pub same_asked : asked s ≡ asked s'
  same_asked =
      rounds-same (all_rounds s) (all_rounds s') (length es) (begun s) (
        (λ j h. ap (λ (t : Bool). first_no (ask ORDER t ∷ [])) (order_same es es' long (λ i b. (each i b).uses) j h)),
        (
          (λ j h. ap (λ (t : Bool). first_no (ask BOUNDS t ∷ [])) (each j h).bounds),
          (
            (λ j h. (each j h).refusals),
            ((λ j h. ap first_no (across-same es es' long (λ i b. (each i b).uses) (seen s) (seen s') (λ i b. (each i b).sights) j h)), tt),
          ),
        ),
      )
      ∙ ap (λ (n : ℕ). rounds (all_rounds s') n (cond (eqb n 0) (Refused ORDER 0) Going)) long

  pub same-restore : ((i : ℕ) → i < length es → SameContact s s' (entry_at es i) (entry_at es' i)) → restore s ≡ restore s'
  same-restore contacts =
      let c = contacts-same s s' es es' long (λ i b. ((each i b).uses, contacts i b)) in
      let n = next-same es es' long (λ i b. (each i b).uses) (seen s) (seen s') (λ i b. (each i b).sights) in
      let w : slots_below es (length es) ≡ slots_below es' (length es') = slots_same es es' long (λ i b. (each i b).uses) (length es) (omega arith) ∙ ap (slots_below es') long in
      ap₂ (λ (a : Asked) (f : Found). outcome a f) same_asked (λ i. record { contacts = c i; next_contact = n i; next_slot = w i })

-- ---- the same entries, with their rows from elsewhere
abbrev pub relaid : Store → (Entry → List ℕ) → Store
relaid s from = record { size = s.size; entries = s.entries; row_of = from }

-- each row is refused alike, and the same is seen of it
abbrev pub SameSightAt : Store → (Entry → List ℕ) → Entry → Type 0
SameSightAt s from e = SameSight (kind_of e.kind) (answer_of s e) (answer_of (relaid s from) e)

abbrev pub Agree : Store → (Entry → List ℕ) → Type 0
Agree s from = (i : ℕ) → i < length s.entries → SameSightAt s from (entry_at s.entries i)

pub agree-asked : (s : Store) (from : Entry → List ℕ) → Agree s from → asked s ≡ asked (relaid s from)
agree-asked s from a = same_asked s (relaid s from) refl (λ i b. record { uses = own-use (entry_at s.entries i); bounds = refl; refusals = (a i b).refusals; sights = (a i b).sights })
