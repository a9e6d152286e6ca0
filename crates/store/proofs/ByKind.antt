-- The laws of rows, at every kind; and a kind's number says which it is.
-- Assumes nothing.
use Prim.Native.Nat.{ℕ}
use mathlib.Core.Bool.{Bool, true, false}
use mathlib.Core.Option.{none, some}
use mathlib.Core.Logic.{◌↔◌, inl, inr}
use mathlib.Core.Path.{◌≡◌, refl, sym, ap, ◌∙◌}
use lib.Dec.{eqb, eqb→eq}
use Rattle.layout.specs.Questions.{CODE}
use Rattle.layout.specs.Veil.{veil}
use Rattle.layout.specs.Form.{u32}
use Rattle.layout.specs.Layout.{Layout, done, ask, blank_of, refusal_of, accepted, refused_by, Answer}
use Rattle.layout.specs.Layout as layout
use Rattle.layout.specs.RowLaws.{Alike, RowLaws}
use Rattle.layout.proofs.Theorems.{veil-laws, accepted≢}
use Rattle.layout.proofs.Derived.{list-plain}
use Rattle.rows.specs.Proved.{Row}
use Rattle.rows.proofs.Proved.{proved}
use Rattle.store.specs.Kinds.{DEVICE, CONTACT, QUEUED, COURIER, Kind, device, contact, queued, courier, unknown, kind_of, ValueOf, layout_of, seen_in, seen_of, refusal_in}
use Rattle.store.specs.Accepted.{MeetsOf}
use Rattle.store.proofs.Rounds.{some≢none}
use Rattle.store.proofs.Tests.{truth}

-- ---- the laws of a row of any kind
-- a layout that refuses every row
refuses-all : {A : Type 0} (q : ℕ) (l : Layout A) → RowLaws (ask q false l)
unfolding layout.parse layout.print layout.mask_of layout.blank_of layout.refusal_of
refuses-all q l = record {
  print-read = λ v h. absurd (some≢none h.granted);
  print-refused = λ v n f e. let same : q ≡ n = cc in ap refused_by same;
  read-print = λ row by v e. absurd (accepted≢ (sym e));
  read-valid = λ row by v e. absurd (accepted≢ (sym e));
  one-reading = λ v v' h h' e. absurd (some≢none h.granted);
  blind = λ lv row row' j j' len eqs. refl;
  same-hidden = λ lv row row' j j' len eqs. refl;
  hidden-prints = λ lv row j by v e. absurd (accepted≢ (sym e));
  hidden-twice = λ lv row j j'. refl;
}

pub row-of : (k : Kind) (version : ℕ) → Row (layout_of k version)
row-of device version = proved.device version
row-of contact version = proved.contact version
row-of queued version = proved.queued version
row-of courier version = proved.courier version
row-of unknown version = let laws = refuses-all CODE (done tt) in record { laws = laws; veil = veil-laws (ask CODE false (done tt)) laws }

-- ---- what a layout asks of a value is what it has to meet
pub meets-of : (k : Kind) (version : ℕ) (v : ValueOf k) → (refusal_of (layout_of k version) v ≡ none) ↔ ((version ≡ 3) × MeetsOf k v)
unfolding layout.refusal_of
meets-of device version d = proved.meets.device version d
meets-of contact version c = proved.meets.contact version c
meets-of queued version q = proved.meets.queued version q
meets-of courier version h = proved.meets.courier version h
meets-of unknown version u = ((λ e. absurd (some≢none e)), (λ m. absurd m.1))

-- ---- what is seen of a row is nothing that is veiled
seen-blank : (k : Kind) (version : ℕ) (v : ValueOf k) → seen_in k (blank_of (layout_of k version) veil v) ≡ seen_in k v
unfolding layout.blank_of
seen-blank device version d = refl
seen-blank contact version c = rw (list-plain u32 veil (λ n. refl) c.unacked)
seen-blank queued version q = refl
seen-blank courier version (inl c) = refl
seen-blank courier version (inr t) = refl
seen-blank unknown version v = refl

pub seen_alike : (k : Kind) (version : ℕ) (v v' : ValueOf k) → blank_of (layout_of k version) veil v ≡ blank_of (layout_of k version) veil v' → seen_in k v ≡ seen_in k v'
seen_alike k version v v' e = sym (seen-blank k version v) ∙ ap (seen_in k) e ∙ seen-blank k version v'

-- the same refusal, and the same is seen
pub record SameSight (k : Kind) (a a' : Answer (ValueOf k)) : Type 0 where
  pub refusals : refusal_in a ≡ refusal_in a'
  pub sights : seen_of k a ≡ seen_of k a'

pub same-sight : (k : Kind) (version : ℕ) (a a' : Answer (ValueOf k)) → Alike (layout_of k version) veil a a' → SameSight k a a'
same-sight k version (accepted v) (accepted v') h = record { refusals = refl; sights = seen_alike k version v v' h }
same-sight k version (refused_by p) (refused_by q) h = record { refusals = ap some h; sights = refl }
same-sight k version (accepted v) (refused_by q) h = absurd h
same-sight k version (refused_by p) (accepted v) h = absurd h

-- ---- a kind's number
pub data Sort (k : ℕ) : Type 0 where
  is-device : k ≡ DEVICE → Sort k
  is-contact : k ≡ CONTACT → Sort k
  is-queued : k ≡ QUEUED → Sort k
  is-courier : k ≡ COURIER → Sort k
  is-unknown : kind_of k ≡ unknown → Sort k

pub sort : (k : ℕ) → Sort k
sort k = go (eqb k DEVICE) (eqb k CONTACT) (eqb k QUEUED) (eqb k COURIER) refl refl refl refl
  where
    go : (a b c d : Bool) → eqb k DEVICE ≡ a → eqb k CONTACT ≡ b → eqb k QUEUED ≡ c → eqb k COURIER ≡ d → Sort k
    go true b c d ea eb ec ed = is-device (eqb→eq k DEVICE (truth (eqb k DEVICE) ea))
    go false true c d ea eb ec ed = is-contact (eqb→eq k CONTACT (truth (eqb k CONTACT) eb))
    go false false true d ea eb ec ed = is-queued (eqb→eq k QUEUED (truth (eqb k QUEUED) ec))
    go false false false true ea eb ec ed = is-courier (eqb→eq k COURIER (truth (eqb k COURIER) ed))
    go false false false false ea eb ec ed = is-unknown (rw (ea, eb, ec, ed))
