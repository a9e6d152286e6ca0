-- Sizes of lent places: of one, and of n one after the other.
-- Assumes nothing.
use Prim.Native.Nat.{ℕ, zero, suc, ◌+◌, ◌-◌, ◌*◌, ◌≤◌, ◌<◌}
use mathlib.Core.List.{List, ◌∷◌}
use mathlib.Core.Bool.{Bool, true, false, cond}
use mathlib.Core.Option.{Option, none, some}
use mathlib.Core.Path.{◌≡◌, refl, sym, ap, ◌∙◌}
use native.Mathlib.Omega.{arith}
use native.Mathlib.Nat.{mul-zero, mul-suc, sub-zero, add-zero, zero-add}
use native.Mathlib.Numerals.{add-one}
use lib.ListN.{length, get_or, take, drop, length-append}
use lib.Seq.{drop-drop, get_or-drop}
use Rattle.layout.specs.Questions.{FLAG, CODE}
use Rattle.layout.specs.Read.{Read, value, refused, and_then, onto}
use Rattle.layout.specs.Form.{Form, times, letter, flag_of}
use Rattle.layout.specs.Form as form
use Rattle.layout.specs.Layout.{group}
use Rattle.layout.specs.Field.{takes, refuses, read_at}
use Rattle.layout.specs.Write as write
use Rattle.layout.specs.Write.{Written, wrote}
use Rattle.layout.specs.RowLaws.{Bytes}
use Rattle.layout.proofs.At.{letter-in, letter-no}
use Rattle.rows.specs.Rows.{chain, skipped, dir_of}
use Rattle.rows.specs.declared.Dir.{Dir}
use Rattle.contact_lists.specs.Places.{read_places}
use Rattle.contact_lists.specs.Places as places
use Rattle.contact_lent.specs.Lent.{size_of, plus, both, sizes, chain_size}
use Rattle.contact_lent.specs.Lent as lent
use Rattle.contact_lent.proofs.Offsets.{size_as, place-size}
use Rattle.contact_lent.proofs.Records.{key_from, read-skipped, skipped-placed, chain_from, read-chain, chain-placed, flag_one}

-- ---- the k-th byte of a place, once it was read: what it stands for
module _ {B : Type 0} (q : ℕ) (of : ℕ → Option B) (to : B → ℕ) (l : List ℕ) (at k : ℕ) (h : at + k < length l) where
  pub letter-yes : {b : B} {next : ℕ} → read_at (letter q of to) l (at + k) ≡ takes b next → of (get_or (drop at l) k 0) ≡ some b
  letter-yes {b} {next} e = rw (get_or-drop at l k 0) (go (of (get_or l (at + k) 0)) refl)
    where
      go : (o : Option B) → of (get_or l (at + k) 0) ≡ o → o ≡ some b
      go none p = let no = letter-no l (at + k) q of to h p in absurd (let z : ◌≡◌ {A = ℕ} 0 1 = cc in omega arith)
      go (some c) p = let yes = letter-in l (at + k) q of to h p in let same : c ≡ b = cc in rw same

  pub letter-refused : {p : ℕ} → read_at (letter q of to) l (at + k) ≡ refuses p → (of (get_or (drop at l) k 0) ≡ none) × (q ≡ p)
  letter-refused {p} e = rw (get_or-drop at l k 0) (go (of (get_or l (at + k) 0)) refl)
    where
      go : (o : Option B) → of (get_or l (at + k) 0) ≡ o → (o ≡ none) × (q ≡ p)
      go none n = let no = letter-no l (at + k) q of to h n in (refl, cc)
      go (some c) s = let yes = letter-in l (at + k) q of to h s in absurd (let z : ◌≡◌ {A = ℕ} 0 1 = cc in omega arith)

-- ---- one place
module _ (l : List ℕ) (by : Bytes l) where
  module _ (h : 46 ≤ length l) where
    skipped-size : size_of (group skipped) ((group skipped).read (take 46 l)) ≡ size_as (key_from l (dir_of (get_or l 1 0))) 46
    skipped-size = place-size 46 (group skipped) (λ l. 46) skipped-placed l by h ∙ rw (read-skipped l h)

    pub skipped-no-dir : dir_of (get_or l 1 0) ≡ none → size_of (group skipped) ((group skipped).read (take 46 l)) ≡ write.refuses CODE
    skipped-no-dir e = skipped-size ∙ rw e

    pub skipped-sized : {d : Dir} → dir_of (get_or l 1 0) ≡ some d → size_of (group skipped) ((group skipped).read (take 46 l)) ≡ wrote 46
    skipped-sized e = skipped-size ∙ rw e

  module _ (h : 51 ≤ length l) where
    chain-size : size_of (group chain) ((group chain).read (take 51 l)) ≡ size_as (chain_from l (dir_of (get_or l 1 0)) (flag_of (get_or l 42 0))) (chain_size l)
    chain-size = place-size 51 (group chain) chain_size chain-placed l by h ∙ rw (read-chain l h)

    pub chain-no-dir : dir_of (get_or l 1 0) ≡ none → size_of (group chain) ((group chain).read (take 51 l)) ≡ write.refuses CODE
    chain-no-dir e = chain-size ∙ rw e

    pub chain-no-flag : {d : Dir} → dir_of (get_or l 1 0) ≡ some d → flag_of (get_or l 42 0) ≡ none → size_of (group chain) ((group chain).read (take 51 l)) ≡ write.refuses FLAG
    chain-no-flag d e = chain-size ∙ rw (d, e)

    pub chain-sized : {d : Dir} (t : Bool) → dir_of (get_or l 1 0) ≡ some d → flag_of (get_or l 42 0) ≡ some t → size_of (group chain) ((group chain).read (take 51 l)) ≡ wrote (cond t 51 43)
    chain-sized true d e = chain-size ∙ rw (d, e, flag_one (get_or l 42 0) true e)
    chain-sized false d e = chain-size ∙ rw (d, e, flag_one (get_or l 42 0) false e)

-- ---- n places
plus-plus : (n k : ℕ) (s : Written) → plus n (plus k s) ≡ plus (n + k) s
plus-plus n k (wrote m) = ap (λ (x : ℕ). wrote x) (omega arith)
plus-plus n k (write.refuses q) = refl

plus-zero : (s : Written) → plus 0 s ≡ s
plus-zero (wrote k) = rw zero-add
plus-zero (write.refuses q) = refl

module _ {B : Type 0} (w : ℕ) (f : Form B) where
  -- one by one they have the size of what is read of them
  pub sizes_are : (n : ℕ) (l : List ℕ) → sizes w (λ place. size_of f (f.read (take w place))) n l ≡ size_of (times f n) (read_places w f n l)
  unfolding lent.sizes places.read_places form.print_many
  sizes_are zero l = refl
  sizes_are (suc n) l = rw (sizes_are n (drop w l)) (go (f.read (take w l)) (read_places w f n (drop w l)))
    where
      go : (x : Read B) (y : Read (List B)) → both (size_of f x) (size_of (times f n) y) ≡ size_of (times f (suc n)) (and_then x (λ b rest. onto (λ bs. b ∷ bs) y))
      go (value b rest) (value bs rest') = sym (ap (λ (n : ℕ). wrote n) (length-append (f.print b) (form.print_many f bs)))
      go (value b rest) (refused q) = refl
      go (refused q) y = refl

module _ (w : ℕ) (size : List ℕ → Written) (l : List ℕ) (count : ℕ) where
  -- the size of the places from the i-th on
  abbrev left : ℕ → Written
  left i = sizes w size (count - i) (drop (w * i) l)

  -- the i-th, and those behind it
  left_is : (i : ℕ) → i < count → left i ≡ both (size (drop (w * i) l)) (left (i + 1))
  unfolding lent.sizes
  left_is i h =
      let s : count - i ≡ suc (count - (i + 1)) = omega arith in
      let n1 : w * i + w ≡ w * (i + 1) = sym (rw add-one (mul-suc w i)) in
      rw (s, drop-drop w (w * i) l, n1) refl

  -- on the way: i places have n bytes
  pub record Sizing (n i : ℕ) : Type 0 where
    pub few : n ≤ w * i
    pub same : plus n (left i) ≡ sizes w size count l

  pub sizing-start : Sizing 0 0
  sizing-start = record { few = omega arith; same = rw (mul-zero, sub-zero) (plus-zero (sizes w size count l)) }

  pub sizing-turn : {n i k : ℕ} → i < count → Sizing n i → wrote k ≡ size (drop (w * i) l) → k ≤ w → Sizing (n + k) (i + 1)
  sizing-turn {n} {i} {k} h s e most =
      let n1 : w * (i + 1) ≡ w * i + w = rw add-one (mul-suc w i) in
      record {
        few = omega arith;
        same = sym (plus-plus n k (left (i + 1))) ∙ sym (ap (λ (x : Written). plus n x) (left_is i h ∙ ap (λ (x : Written). both x (left (i + 1))) (sym e))) ∙ s.same;
      }

  pub sizing-stop : {n i q : ℕ} → i < count → Sizing n i → write.refuses q ≡ size (drop (w * i) l) → write.refuses q ≡ sizes w size count l
  sizing-stop {n} {i} h s e = sym (ap (λ (x : Written). plus n x) (left_is i h ∙ ap (λ (x : Written). both x (left (i + 1))) (sym e))) ∙ s.same

  pub sizing-end : {n i : ℕ} → count ≤ i → Sizing n i → wrote n ≡ sizes w size count l
  unfolding lent.sizes
  sizing-end {n} {i} h s =
      let z : count - i ≡ 0 = omega arith in
      let none_left : left i ≡ wrote 0 = rw z in
      ap (λ (k : ℕ). wrote k) (sym (add-zero n)) ∙ sym (ap (λ (x : Written). plus n x) none_left) ∙ s.same
