-- The questions at the end of a contact row's layout are those of `inconsistency`; and what the code's answers to them say of it.
-- Assumes nothing.
use Prim.Native.Nat.{ℕ, ◌+◌, ◌≤◌, ◌<◌}
use mathlib.Core.List.{List}
use mathlib.Core.Bool.{Bool, true, false, not, ◌&&◌}
use mathlib.Core.Option.{Option, none, some}
use mathlib.Core.Path.{◌≡◌, refl, sym, ap, ◌∙◌}
use lib.ListN.{length, drop}
use borrow.Author.Tests.{le-leb, lt-leb, not-true, not-false}
use Rattle.layout.specs.Questions.{CHAINS_COUNT, CHAINS_CURRENT, CHAINS_GENS, SKIPPED_KEYS, SKIPPED_COUNT, PEER_ACKED, UNACKED, ABOVE, EXPIRED}
use Rattle.layout.specs.Read.{said, first}
use Rattle.layout.specs.Layout.{Layout, done, ask, parse}
use Rattle.layout.specs.Layout as layout
use Rattle.layout.proofs.Steps.{Came, end-yes}
use Rattle.rows.specs.Values.{Chain, Skipped, Contact}
use Rattle.rows.specs.Checks.{few_chains, one_chain_at_most, gens_distinct, keys_distinct, rising, canonical, none_above}
use Rattle.contact_checks.specs.Asked.{chains_asked}
use Rattle.contact_checks.specs.declared.ChainsAsked.{ChainsAsked}
use Rattle.contact_parts.specs.Parts.{Paired, Keys, Chained, Numbers, joined}
use Rattle.contact_parts.proofs.Parts.{consistent}
use Rattle.contact.specs.Consistent.{asks, chains_refusal, numbers_refusal, inconsistency}

-- nine questions, one after the other
nine : (a b c d e f g h i : Bool) (v : Contact) (row : List ℕ)
    → parse (ask CHAINS_COUNT a (ask CHAINS_CURRENT b (ask CHAINS_GENS c (ask SKIPPED_KEYS d (ask SKIPPED_COUNT e (ask PEER_ACKED f (ask UNACKED g (ask ABOVE h (ask EXPIRED i (done v)))))))))) row
    ≡ said (first (asks CHAINS_COUNT a (asks CHAINS_CURRENT b (asks CHAINS_GENS c (asks SKIPPED_KEYS d (asks SKIPPED_COUNT e none))))) (asks PEER_ACKED f (asks UNACKED g (asks ABOVE h (asks EXPIRED i none))))) v row
unfolding layout.parse
nine false b c d e f g h i v row = refl
nine true false c d e f g h i v row = refl
nine true true false d e f g h i v row = refl
nine true true true false e f g h i v row = refl
nine true true true true false f g h i v row = refl
nine true true true true true false g h i v row = refl
nine true true true true true true false h i v row = refl
nine true true true true true true true false i v row = refl
nine true true true true true true true true false v row = refl
nine true true true true true true true true true v row = refl

module _ {l : Layout Contact} {row : List ℕ} {from here : ℕ} (p : Paired) (k : Keys) (c : Chained) (n : Numbers) (so : Came l row from (consistent p k c n) here) (whole : length row ≤ here) where
  pub all_asked : parse l (drop from row) ≡ said (inconsistency (joined p k c n)) (joined p k c n) (drop here row)
  all_asked = (end-yes so whole).so.same ∙ nine _ _ _ _ _ _ _ _ _ (joined p k c n) (drop here row)

-- two groups of questions: the first refusal stands; where there is none, the second group's answer is the answer
pub stands : {a x : Option ℕ} {q : ℕ} (y : Option ℕ) → a ≡ x → x ≡ some q → a ≡ first x y
stands y e p = rw (e, p)

pub goes_on : {a x y : Option ℕ} → a ≡ y → x ≡ none → a ≡ first x y
goes_on e p = rw (e, p)

-- ---- 54 and 17 to 20, as they are asked of n chains and k skipped keys, in a row or in lent places: what each no and the last yes answers
pub record Listing (chains : List Chain) (skipped : List Skipped) (n k : ℕ) : Type 0 where
  pub chains-many : length chains ≡ n
  pub skips-many : length skipped ≡ k

module _ {chains : List Chain} {skipped : List Skipped} {n k : ℕ} (has : Listing chains skipped n k) where
  pub many-chains : 8 < n → some CHAINS_COUNT ≡ chains_refusal chains skipped
  many-chains h = rw (has.chains-many, lt-leb n 8 h)

  module _ (few : n ≤ 8) {asked : ChainsAsked} (is : asked ≡ chains_asked chains) where
    few-chains : few_chains chains ≡ true
    few-chains = rw has.chains-many (le-leb n 8 few)

    current : {t : Bool} → asked.one_current ≡ t → one_chain_at_most chains ≡ t
    current e = sym (ap (λ (a : ChainsAsked). a.one_current) is) ∙ e

    distinct : {t : Bool} → asked.gens_distinct ≡ t → gens_distinct chains ≡ t
    distinct e = sym (ap (λ (a : ChainsAsked). a.gens_distinct) is) ∙ e

    pub two-current : not asked.one_current ≡ true → some CHAINS_CURRENT ≡ chains_refusal chains skipped
    two-current h = rw (few-chains, current (not-true _ h))

    module _ (one : not asked.one_current ≡ false) where
      pub gen-again : not asked.gens_distinct ≡ true → some CHAINS_GENS ≡ chains_refusal chains skipped
      gen-again h = rw (few-chains, current (not-false _ one), distinct (not-true _ h))

      module _ (apart : not asked.gens_distinct ≡ false) {differ : Bool} (keys : differ ≡ keys_distinct skipped) where
        pub key-again : differ ≡ false → some SKIPPED_KEYS ≡ chains_refusal chains skipped
        key-again h = rw (few-chains, current (not-false _ one), distinct (not-false _ apart), ← keys, h)

        module _ (yes : differ ≡ true) where
          pub many-skipped : 500 < k → some SKIPPED_COUNT ≡ chains_refusal chains skipped
          many-skipped h = rw (few-chains, current (not-false _ one), distinct (not-false _ apart), ← keys, yes, has.skips-many, lt-leb k 500 h)

          pub all-yes : k ≤ 500 → none ≡ chains_refusal chains skipped
          all-yes h = rw (few-chains, current (not-false _ one), distinct (not-false _ apart), ← keys, yes, has.skips-many, le-leb k 500 h)

-- ---- 21 to 24, as they are asked of numbers in a row or in lent places: what each no from 22 on and the last yes answers
module _ {sent : ℕ} (n : Numbers) (reached : n.peer_acked ≤ sent) {rises : Bool} (up : rises ≡ rising 1 sent n.unacked) where
  pub unacked-falls : rises ≡ false → some UNACKED ≡ numbers_refusal sent n.peer_acked n.contiguous n.above n.unacked n.expired
  unacked-falls h = rw (le-leb n.peer_acked sent reached, ← up, h)

  module _ (rise : rises ≡ true) {apart : Bool} (gaps : canonical (n.contiguous + 2) n.above ≡ apart) where
    pub above-touch : apart ≡ false → some ABOVE ≡ numbers_refusal sent n.peer_acked n.contiguous n.above n.unacked n.expired
    above-touch h = rw (le-leb n.peer_acked sent reached, ← up, rise, gaps, h)

    module _ (yes : apart ≡ true) {past : Bool} (old : past ≡ canonical 1 n.expired && none_above sent n.expired) where
      pub expired-wrong : past ≡ false → some EXPIRED ≡ numbers_refusal sent n.peer_acked n.contiguous n.above n.unacked n.expired
      expired-wrong h = rw (le-leb n.peer_acked sent reached, ← up, rise, gaps, yes, ← old, h)

      pub all-lawful : past ≡ true → none ≡ numbers_refusal sent n.peer_acked n.contiguous n.above n.unacked n.expired
      all-lawful h = rw (le-leb n.peer_acked sent reached, ← up, rise, gaps, yes, ← old, h)
