-- The four parts, one after the other, and then the questions, are the contact row's layout.
-- Assumes nothing.
use Prim.Native.Nat.{ℕ, ◌+◌}
use mathlib.Core.List.{List, ◌++◌, append_assoc, append-nil}
use mathlib.Core.Bool.{true, false, ◌&&◌}
use mathlib.Core.Path.{◌≡◌, refl, sym, ap, ◌∙◌}
use lib.ListN.{drop}
use Rattle.layout.specs.Questions.{VERSION, ROW_END, CHAINS_COUNT, CHAINS_CURRENT, CHAINS_GENS, SKIPPED_KEYS, SKIPPED_COUNT, PEER_ACKED, UNACKED, ABOVE, EXPIRED}
use Rattle.layout.specs.Read.{Read, value, refused, and_then}
use Rattle.layout.specs.Layout.{Layout, done, field, ask, end, parse, print, group, ◌>>=◌, ◌>>◌}
use Rattle.layout.specs.Layout as layout
use Rattle.layout.proofs.At.{Took}
use Rattle.layout.proofs.Steps.{Came, ask-is}
use Rattle.rows.specs.Values.{Contact}
use Rattle.rows.specs.Checks.{version_known, few_chains, one_chain_at_most, gens_distinct, keys_distinct, few_skipped, acked_sent, rising, canonical, none_above}
use Rattle.rows.specs.Rows.{contact}
use Rattle.contact_parts.specs.Parts.{Paired, paired, Keys, keys, Chained, chained, Numbers, numbers, paired_of, keys_of, chained_of, numbers_of, joined}

-- a layout whose values are parts of others, and what follows it
pub embed : {A C : Type 0} → Layout A → (C → A) → (A → Layout C) → Layout C
embed (done a) get k = k a
embed (field f g l) get k = field f (λ c. g (get c)) (λ b. embed (l b) get k)
embed (ask q t l) get k = ask q t (embed l get k)

pub embed-parse : {A C : Type 0} (l : Layout A) (get : C → A) (k : A → Layout C) (row : List ℕ) → parse (embed l get k) row ≡ and_then (parse l row) (λ a rest. parse (k a) rest)
unfolding embed layout.parse
embed-parse (done a) get k row = refl
embed-parse {A} {C} (field {B} f g l) get k row = go (f.read row) (λ b rest. embed-parse (l b) get k rest)
  where
    go : (x : Read B) → ((b : B) (rest : List ℕ) → parse (embed (l b) get k) rest ≡ and_then (parse (l b) rest) (λ a rest. parse (k a) rest))
        → and_then x (λ b rest. parse (embed (l b) get k) rest) ≡ and_then (and_then x (λ b rest. parse (l b) rest)) (λ a rest. parse (k a) rest)
    go (value b rest) ih = ih b rest
    go (refused q) ih = refl
embed-parse (ask q true l) get k row = embed-parse l get k row
embed-parse (ask q false l) get k row = refl

-- ---- the questions 54 and 17 to 24, and the row's end before them
abbrev pub consistent : Paired → Keys → Chained → Numbers → Layout Contact
consistent p k c n = do
  end ROW_END
  ask CHAINS_COUNT (few_chains c.chains)
  ask CHAINS_CURRENT (one_chain_at_most c.chains)
  ask CHAINS_GENS (gens_distinct c.chains)
  ask SKIPPED_KEYS (keys_distinct c.skipped)
  ask SKIPPED_COUNT (few_skipped c.skipped)
  ask PEER_ACKED (acked_sent n.peer_acked k.sent_msgno)
  ask UNACKED (rising 1 k.sent_msgno n.unacked)
  ask ABOVE (canonical (n.contiguous + 2) n.above)
  ask EXPIRED (canonical 1 n.expired && none_above k.sent_msgno n.expired)
  done (joined p k c n)

-- ---- the row, part by part: what follows each
abbrev pub after_chained : Paired → Keys → Chained → Layout Contact
after_chained p k c = embed numbers numbers_of (consistent p k c)

abbrev pub after_keys : Paired → Keys → Layout Contact
after_keys p k = embed chained chained_of (after_chained p k)

abbrev pub after_paired : Paired → Layout Contact
after_paired p = embed keys keys_of (after_keys p)

pub in_parts : (version : ℕ) → contact version ≡ ask VERSION (version_known version) (embed paired paired_of after_paired)
unfolding embed
in_parts version = refl

-- ---- a reader's steps over a part: on, or to the refusal
module _ {C A : Type 0} {l : Layout C} {row : List ℕ} {from here : ℕ} (part : Layout A) (get : C → A) (k : A → Layout C) (so : Came l row from (embed part get k) here) where
  is_read : (x : Read A) → parse part (drop here row) ≡ x → parse l (drop from row) ≡ and_then x (λ b rest. parse (k b) rest)
  is_read x e = so.same ∙ embed-parse part get k (drop here row) ∙ ap (λ (y : Read A). and_then y (λ b rest. parse (k b) rest)) e

  pub part-yes : {a : A} {next : ℕ} → Took (group part) row here a next → Came l row from (k a) next
  part-yes {a} {next} t = record { same = is_read (value a (drop next row)) t.reads }

  pub part_no : {q : ℕ} → parse part (drop here row) ≡ refused q → parse l (drop from row) ≡ refused q
  part_no {q} e = is_read (refused q) e

-- where the parts begin
pub begun : (version : ℕ) (row : List ℕ) → version_known version ≡ true → Came (contact version) row 0 (embed paired paired_of after_paired) 0
begun version row known = record { same = ap (λ (l : Layout Contact). parse l (drop 0 row)) (in_parts version) ∙ ask-is (drop 0 row) VERSION (version_known version) true _ known }

-- ---- printing, part by part
-- what a layout ends in, by the fields of v
pub ends_in : {A : Type 0} → Layout A → A → A
ends_in (done a) v = a
ends_in (field f g l) v = ends_in (l (g v)) v
ends_in (ask q t l) v = ends_in l v

pub embed-print : {A C : Type 0} (l : Layout A) (get : C → A) (k : A → Layout C) (v : C) → print (embed l get k) v ≡ print l (get v) ++ print (k (ends_in l (get v))) v
unfolding embed layout.print ends_in
embed-print (done a) get k v = refl
embed-print (field f g l) get k v =
    ap (λ (bs : List ℕ). f.print (g (get v)) ++ bs) (embed-print (l (g (get v))) get k v)
    ∙ sym (append_assoc (f.print (g (get v))) (print (l (g (get v))) (get v)) (print (k (ends_in (l (g (get v))) (get v))) v))
embed-print (ask q t l) get k v = embed-print l get k v

pub print-in-parts : (version : ℕ) (v : Contact) → print (contact version) v ≡ print paired (paired_of v) ++ (print keys (keys_of v) ++ (print chained (chained_of v) ++ print numbers (numbers_of v)))
unfolding layout.print ends_in
print-in-parts version v =
    ap (λ (l : Layout Contact). print l v) (in_parts version)
    ∙ embed-print paired paired_of after_paired v
    ∙ ap (λ (bs : List ℕ). print paired (paired_of v) ++ bs) (
    embed-print keys keys_of (after_keys (paired_of v)) v
    ∙ ap (λ (bs : List ℕ). print keys (keys_of v) ++ bs) (
    embed-print chained chained_of (after_chained (paired_of v) (keys_of v)) v
    ∙ ap (λ (bs : List ℕ). print chained (chained_of v) ++ bs) (
    embed-print numbers numbers_of (consistent (paired_of v) (keys_of v) (chained_of v)) v ∙ append-nil (print numbers (numbers_of v)))))
