-- Stores that agree index by index in what their kinds have use for, of which at least as much is seen: where the one passes, so does the other.
-- Assumes nothing.
use Prim.Native.Nat.{ℕ, suc, ◌≤◌, ◌<◌}
use mathlib.Core.List.{List, [], ◌∷◌}
use mathlib.Core.Bool.{Bool, cond}
use mathlib.Core.Option.{none}
use mathlib.Core.Path.{◌≡◌, refl, sym, ap, ◌∙◌, subst}
use native.Mathlib.Omega.{arith}
use lib.ListN.{length}
use lib.Dec.{eqb, T}
use Rattle.layout.specs.Questions.{ORDER, BOUNDS}
use Rattle.store.specs.declared.Entry.{Entry}
use Rattle.store.specs.Rounds.{Going, Refused, ask, first_no}
use Rattle.store.specs.Kinds.{QUEUED, kind_of, Seen, refusal_in}
use Rattle.store.specs.Store.{Store, entry_at, within, answer_of, seen, next_in, across_as, read, all_rounds, begun, asked}
use Rattle.store.specs.Accepted.{NotIn, Owner, Twice, Across, Follows}
use Rattle.store.proofs.Rounds.{quiet-granted}
use Rattle.store.proofs.Tests.{yes-all}
use Rattle.store.proofs.Same.{SameUse, same_id, order_same}
use Rattle.store.proofs.Across.{across-yes}
use Rattle.store.proofs.Accepted.{asked-begun, going-quiet, going-across, quiet-kinds, sorted}

-- more may have been sent, and all else that is seen is the same
pub record More (x y : Seen) : Type 0 where
  pub next : x.next_contact ≡ y.next_contact
  pub sent : x.sent_msgno ≤ y.sent_msgno
  pub unacked : x.unacked ≡ y.unacked
  pub depositor : x.depositor ≡ y.depositor

pub more_same : (x : Seen) → More x x
more_same x = record { next = refl; sent = omega arith; unacked = refl; depositor = refl }

-- ---- entries alike
module _ (es es' : List Entry) (long : length es ≡ length es') (uses : (i : ℕ) → i < length es → SameUse (entry_at es i) (entry_at es' i)) where
  kinds-alike : ((i : ℕ) → suc i < length es → Follows (entry_at es (suc i)).kind (entry_at es i).kind) → (i : ℕ) → suc i < length es' → Follows (entry_at es' (suc i)).kind (entry_at es' i).kind
  kinds-alike h i b =
      subst (λ (k : ℕ). Follows k (entry_at es' i).kind) (uses (suc i) (omega arith)).kind
      (subst (λ (k : ℕ). Follows (entry_at es (suc i)).kind k) (uses i (omega arith)).kind (h i (omega arith)))

  -- ---- and more seen of each
  module _ (look look' : Entry → Seen) (more : (i : ℕ) → i < length es → More (look (entry_at es i)) (look' (entry_at es' i))) where
    pub next-alike : next_in look es ≡ next_in look' es'
    next-alike = go es es' long (more 0)
      where
        go : (l l' : List Entry) → length l ≡ length l' → (0 < length l → More (look (entry_at l 0)) (look' (entry_at l' 0))) → next_in look l ≡ next_in look' l'
        go [] [] h m = refl
        go [] (e ∷ l) h m = absurd (omega arith)
        go (e ∷ l) [] h m = absurd (omega arith)
        go (e ∷ l) (e' ∷ l') h m = (m (omega arith)).next

    twice : {k j i : ℕ} → i < length es → j < i → Twice es' (suc k) j i → Twice es (suc k) j i
    twice {k} {j} {i} b c t =
        let one = (uses i b).kind ∙ t.one in
        let other = (uses j (omega arith)).kind ∙ t.other in
        record { one = one; other = other; same = same_id es es' long uses k j (omega arith) other ∙ t.same ∙ sym (same_id es es' long uses k i b one) }

    owner : (i : ℕ) → i < length es → (entry_at es i).kind ≡ QUEUED → Owner es look i → Owner es' look' i
    owner i b k o =
        let m = more o.place o.below in
        let no = (uses i b).msgno k in
        record {
          place = o.place;
          below = omega (arith, o.below);
          «is» = sym (uses o.place o.below).kind ∙ o.«is»;
          id = sym (same_id es es' long uses 0 o.place o.below o.«is») ∙ o.id ∙ same_id es es' long uses 1 i b k;
          from = omega (arith, o.from);
          to = omega (arith, o.to, m.sent);
          unacked = subst (λ (n : ℕ). NotIn n (look' (entry_at es' o.place)).unacked) no (subst (λ (l : List ℕ). NotIn (entry_at es i).msgno l) m.unacked o.unacked);
        }

    pub across-alike : Across es look → Across es' look'
    across-alike a = record {
      below_next = λ i b k. let c : i < length es = omega arith in let x = (uses i c).kind ∙ k in omega (arith, a.below_next i c x, same_id es es' long uses 0 i c x, next-alike);
      contacts-new = λ i j b c t. a.contacts-new i j (omega arith) c (twice (omega arith) c t);
      owners = λ i b k. let c : i < length es = omega arith in let x = (uses i c).kind ∙ k in owner i c x (a.owners i c x);
      queued-new = λ i j b c t m. let d : i < length es = omega arith in
          let t' = twice d c t in
          a.queued-new i j d c t' ((uses j (omega arith)).msgno t'.other ∙ m ∙ sym ((uses i d).msgno t'.one));
      depositors = λ i d b k e. let c : i < length es = omega arith in omega (arith, a.depositors i d c ((uses i c).kind ∙ k) ((more i c).depositor ∙ e), next-alike);
      slots-new = λ i j b c t. a.slots-new i j (omega arith) c (twice (omega arith) c t);
      below_last = λ i b k. let c : i < length es = omega arith in let x = (uses i c).kind ∙ k in omega (arith, a.below_last i c x, same_id es es' long uses 2 i c x);
    }

-- ---- stores
-- what an entry of the one store, whose row is not refused, hands down to that of the other
pub record HandsDown (s s' : Store) (e e' : Entry) : Type 0 where
  pub passes : refusal_in (answer_of s' e') ≡ none
  pub more : More (seen s e) (seen s' e')

module _ (s s' : Store)
    (long : length s.entries ≡ length s'.entries)
    (uses : (i : ℕ) → i < length s.entries → SameUse (entry_at s.entries i) (entry_at s'.entries i))
    (fits : (i : ℕ) → i < length s.entries → T (within s'.size (entry_at s'.entries i))) where
  abbrev es : List Entry
  es = s.entries

  abbrev es' : List Entry
  es' = s'.entries

  pub passes-alike : ((i : ℕ) → i < length es → read s i ≡ none → HandsDown s s' (entry_at es i) (entry_at es' i))
      → asked s ≡ Going → asked s' ≡ Going
  passes-alike each e =
      let q = going-quiet s e in
      let down : (i : ℕ) → i < length es → HandsDown s s' (entry_at es i) (entry_at es' i) = λ i h. each i h (q.1.1.0 i (omega arith) h) in
      let a' : Across es' (seen s') = across-alike es es' long uses (seen s) (seen s') (λ i h. (down i h).more) (going-across s e) in
      let b' : begun s' ≡ Going = ap (λ (n : ℕ). cond (eqb n 0) (Refused ORDER 0) Going) (sym long) ∙ asked-begun s e in
      rw b'
      (quiet-granted (all_rounds s') (length es') (
        (λ i x h. ap (λ (t : Bool). first_no (ask ORDER t ∷ [])) (sym (order_same es es' long uses i (omega arith))) ∙ q.0 i (omega arith) (omega arith)),
        (
          (λ i x h. yes-all (ask BOUNDS (within s'.size (entry_at es' i)) ∷ []) (fits i (omega arith), tt)),
          (
            (λ i x h. (down i (omega arith)).passes),
            (
              (λ i x h. yes-all (across_as es' (seen s') (kind_of (entry_at es' i).kind) (entry_at es' i) i)
                  (across-yes es' (seen s') (sorted es' (kinds-alike es es' long uses (quiet-kinds s q))) a' i h)),
              tt,
            ),
          ),
        ),
      ))
