-- The laws of covered numbers, all of `Proved`. What covers do one after the other is shown from the laws of a record alone.
-- Assumes nothing.
use Prim.Native.Nat.{ℕ, zero, suc, ◌+◌, ◌-◌, ◌*◌, ◌≤◌}
use mathlib.Core.List.{List, [], ◌∷◌}
use mathlib.Core.Bool.{Bool, cond, ◌||◌, not}
use mathlib.Core.Path.{◌≡◌, refl, subst, sym, ap, ◌∙◌}
use native.Mathlib.Omega.{arith}
use lib.ListN.{length}
use lib.Dec.{leb, eqb}
use borrow.Author.Tests.{leb-true, le-leb}
use Rattle.layout.specs.Questions.{RANGES_FIT}
use Rattle.rows.specs.Values.{Range}
use Rattle.rows.specs.Checks.{any}
use Rattle.numbers.specs.Ranges.{Received, received, inside, inserted, added}
use Rattle.received.specs.Change.{change_of}
use Rattle.received.specs.Lent.{pairs, stored, plan_of, list_after}
use Rattle.numbers.specs.Lists.{limit_of}
use Rattle.numbers.specs.Sets.{add, how_many, runs, Records, Coverable, insert_all, added_by_all}
use Rattle.received.specs.Cases.{outcome, gives, refuses}
use Rattle.received.specs.Proved.{ScanLaws, leads_to, RecordLaws, Proved}
use Rattle.rows.proofs.Tests.{either, or-joined}
use Rattle.numbers.proofs.Canon.{to_in, from_in, from-canon}
use Rattle.numbers.proofs.Runs.{runs-canon, runs-from, runs_to, runs-size, all-each, each_all}
use Rattle.received.proofs.Stored.{stored_is, pairs-stored}
use Rattle.numbers.proofs.Sets.{records, contiguous-width, above-width, contiguous-in, contiguous-greatest, runs-above, beyond, covers-all, record_is, size_is, inserts, only-record, insert-is, has-record, canonical-unique}
use Rattle.numbers.proofs.Sizes.{size_counts}
use Rattle.numbers.proofs.Uncovered.{uncovered-most, added-most, zero-never, uncovered-counts, same_count, add-more, added_new, added_more}
use Rattle.received.proofs.Cases.{thirteen, proved-cases}
use Rattle.layout.specs.Layout.{accepted, refused_by}

scan-laws : (S : ℕ → Bool) (n k : ℕ) → ScanLaws S n k
scan-laws S n k = record {
  all-of = (all-each S n k, each_all S n k);
  runs-in = λ m. (λ e. runs-from S n k m (to_in m (runs S n k) e), λ h. from_in m (runs S n k) (runs_to S n k m h.0 h.1 h.2));
  runs-canonical = from-canon n (runs S n k) (runs-canon S n k);
  runs-size = runs-size S n k;
}

-- ---- a cover in a lent list
few-pairs : (k : ℕ) (l : List ℕ) → 2 * length (pairs k l) ≤ length l
unfolding pairs
few-pairs zero l = omega arith
few-pairs (suc k) [] = omega arith
few-pairs (suc k) (a ∷ []) = omega arith
few-pairs (suc k) (a ∷ b ∷ l) = omega (arith, few-pairs k l)

module _ (v : Received) (l : List ℕ) (count : ℕ) (held : pairs count l ≡ v.above) (f t : ℕ) where
  before : 2 * length v.above ≤ length l
  before = subst (λ (rs : List Range). 2 * length rs ≤ length l) held (few-pairs count l)

  module _ (room : length (inserted v f t).above ≤ limit_of (length l)) where
    after : 2 * length (inserted v f t).above ≤ length l
    after = omega arith

    places : list_after v l f t ≡ stored (inserted v f t).above (length v.above) l
    places = rw (le-leb (length (inserted v f t).above) (limit_of (length l)) room)

  leads : outcome (plan_of v (length l) f t) (list_after v l f t) ≡ leads_to v (inserted v f t) (added v f t) l
  unfolding change_of
  leads =
      either (leb (length (inserted v f t).above) (limit_of (length l)))
      (λ b. outcome (cond b (accepted (change_of v f t)) (refused_by RANGES_FIT)) (cond b (stored (inserted v f t).above (length v.above) l) l)
      ≡ cond b (gives (inserted v f t) (not (eqb (inserted v f t).contiguous v.contiguous)) (added v f t)) (refuses RANGES_FIT l))
      (λ e. ap (λ (rs : List Range). gives (received (inserted v f t).contiguous rs) (not (eqb (inserted v f t).contiguous v.contiguous)) (added v f t))
      (pairs-stored (inserted v f t).above (length v.above) l before (after (leb-true _ _ e))))
      (λ e. refl)

-- ---- a record v of S
record-laws : {N : ℕ} {S : ℕ → Bool} {v : Received} → Records N S v → RecordLaws N S v
record-laws {N} {S} {v} p = record {
  only = λ w q. only-record q p;
  scanned = record_is p;
  contiguous-width = contiguous-width p;
  above-width = above-width p;
  contiguous-in = λ n one le. all-each S 1 v.contiguous (contiguous-in p) n one (omega arith);
  contiguous-greatest = λ c h. omega (arith, contiguous-greatest p c (each_all S 1 c (λ n one le. h n one (omega arith))));
  above-runs = runs-above p;
  contains-in = p.same_numbers;
  zero-out = sym (p.same_numbers 0);
  covers-all = covers-all p;
  insert-adds = λ f t one ft t_n. inserts p f t (omega arith) (omega arith) (omega arith);
  added_new = added_new p;
  added_more = added_more p;
  cover-leads = λ l count held f t one ft t_n.
      let more : how_many (add f t S) 1 N - how_many S 1 N ≡ added v f t = omega (arith, added_more p f t one t_n) in
      rw (insert-is p f t one ft t_n, more) (leads v l count held f t);
  cover-places = λ l count held f t one ft t_n w is room.
      let same : inserted v f t ≡ w = sym (insert-is p f t one ft t_n) ∙ is in
      let fits : length (inserted v f t).above ≤ limit_of (length l) = rw same room in
      places v l count held f t fits ∙ stored_is (inserted v f t).above (length v.above) l (before v l count held f t) (after v l count held f t fits) ∙ rw same;
  beyond = beyond p;
  in_all = size_is p;
}

-- ---- covers one after the other
same_set : {N : ℕ} {S S' : ℕ → Bool} {v : Received} → ((n : ℕ) → S n ≡ S' n) → Records N S v → Records N S' v
same_set e p = record { is-canonical = p.is-canonical; in-width = λ n t. p.in-width n (e n ∙ t); same_numbers = λ n. p.same_numbers n ∙ e n }

all-added : {N : ℕ} {S : ℕ → Bool} {v : Received} → Records N S v → (rs : List Range) → Coverable N rs → Records N (λ n. any (inside n n) rs || S n) (insert_all rs v)
all-added p [] h = p
all-added {N} {S} {v} p (r ∷ rs) h =
    same_set (λ n. or-joined (inside n n r) (any (inside n n) rs) (S n)) (all-added {S = add r.from r.to S} {v = inserted v r.from r.to} ((record-laws p).insert-adds r.from r.to h.0 h.1 h.2) rs h.3)

any_order : {N : ℕ} {S : ℕ → Bool} {v : Received} → Records N S v → (rs ss : List Range) → Coverable N rs → Coverable N ss
    → ((n : ℕ) → any (inside n n) rs ≡ any (inside n n) ss) → insert_all rs v ≡ insert_all ss v
any_order {N} {S} {v} p rs ss h k e =
    (record-laws (all-added p ss k)).only (insert_all rs v) (same_set (λ n. ap (λ (b : Bool). b || S n) (e n)) (all-added p rs h))

-- what each adds is what the set has more then
all-counted : {N : ℕ} {S : ℕ → Bool} {v : Received} → Records N S v → (rs : List Range) → Coverable N rs
    → how_many S 1 N + added_by_all rs v ≡ how_many (λ n. any (inside n n) rs || S n) 1 N
all-counted p [] h = omega arith
all-counted {N} {S} {v} p (r ∷ rs) h =
    let laws = record-laws p in
    let rest = all-counted {S = add r.from r.to S} {v = inserted v r.from r.to} (laws.insert-adds r.from r.to h.0 h.1 h.2) rs h.3 in
    let same = same_count _ _ 1 N (λ n one. or-joined (inside n n r) (any (inside n n) rs) (S n)) in
    omega (arith, laws.added_more r.from r.to h.0 h.2, rest, same)

pub proved : Proved
proved = record {
  scans = scan-laws;
  of-canonical = records;
  of-set = has-record;
  records = record-laws;
  all-added = all-added;
  any_order = any_order;
  all-counted = all-counted;
  ranges = record { only = canonical-unique; counted = size_counts };
  new = record {
    add-more = add-more;
    uncovered-counted = uncovered-counts;
    uncovered-most = uncovered-most;
    added-most = added-most;
    zero-never = zero-never;
  };
  table = record { thirteen = thirteen; hold = proved-cases };
}
