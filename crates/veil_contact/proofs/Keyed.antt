-- Chains and skipped keys are bytes around a key.
-- Assumes nothing.
use Prim.Native.Nat.{ℕ, ◌+◌, ◌≤◌}
use mathlib.Core.List.{List, [], ◌∷◌, ◌++◌, append_assoc, append-nil}
use mathlib.Core.Bool.{Bool, true, false, cond}
use mathlib.Core.Option.{Option, none, some}
use mathlib.Core.Path.{◌≡◌, refl, sym, ap, ◌∙◌}
use native.Mathlib.Omega.{arith}
use lib.ListN.{length, get_or, drop, length-append}
use lib.Seq.{get_or-drop, get_or_at}
use lib.Dec.{eqb}
use Rattle.layout.specs.Veil.{veil, zeros}
use Rattle.layout.specs.Form.{bytes_of, flag_byte, u64, print_if}
use Rattle.layout.specs.Layout.{print, blank_of, group, optional, present}
use Rattle.layout.specs.Layout as layout
use Rattle.layout.proofs.Front.{length-bytes_of}
use Rattle.layout.proofs.Derived.{optional-plain}
use Rattle.rows.specs.Values.{Chain, Skipped}
use Rattle.rows.specs.Rows.{dir_byte, chain, skipped}
use Rattle.veil_contact.specs.Veiled.{Around, AroundKeys, flag_length}

-- ---- chains: the flag of superseded_s stands behind the key
abbrev chain_tail : Chain → ℕ
chain_tail c = cond (present c.superseded_s) 9 1

superseded-long : (s : Option ℕ) → length ((optional u64).print s) ≡ cond (present s) 9 1
unfolding layout.print
superseded-long none = refl
superseded-long (some n) = simp (append-nil, length-bytes_of)

chain-blank : (c : Chain) → length c.key ≡ 32 → blank_of chain veil c ≡ record { gen = c.gen; dir = c.dir; next = c.next; key = zeros 32; superseded_s = c.superseded_s }
unfolding layout.blank_of
chain-blank c h = λ i. record { gen = c.gen; dir = c.dir; next = c.next; key = zeros (h i); superseded_s = optional-plain u64 veil (λ n. refl) c.superseded_s i }

chain-around : (c : Chain) → length c.key ≡ 32 → Around (print chain c) (print chain (blank_of chain veil c)) 10 (chain_tail c)
unfolding layout.print
chain-around c h = record {
  front = bytes_of 1 c.gen ++ (dir_byte c.dir ∷ bytes_of 8 c.next);
  key = c.key;
  back = (optional u64).print c.superseded_s ++ [];
  shown = simp append_assoc;
  veiled = ap (λ (v : Chain). print chain v) (chain-blank c h) ∙ simp append_assoc;
  head-long = simp (length-append, length-bytes_of);
  key-long = h;
  tail-long = ap length (append-nil ((optional u64).print c.superseded_s)) ∙ superseded-long c.superseded_s;
}

-- how many bytes there are from the flag on is what the flag says
flag-says : (t : Bool) → ◌≡◌ {A = ℕ} (cond (eqb (flag_byte t) 1) 9 1) (cond t 9 1)
flag-says true = refl
flag-says false = refl

chain-tail : (c : Chain) (row : List ℕ) (from : ℕ) (rest : List ℕ) → length c.key ≡ 32 → print chain c ++ rest ≡ drop from row → flag_length row (from + 42) ≡ chain_tail c
unfolding layout.print
chain-tail c row from rest h e =
    let front = bytes_of 1 c.gen ++ (dir_byte c.dir ∷ (bytes_of 8 c.next ++ c.key)) in
    let long : length front ≡ 42 = simp (length-append, length-bytes_of) (omega (arith, h)) in
    let back = (optional u64).print c.superseded_s ++ [] in
    let more = ((print_if u64 c.superseded_s ++ []) ++ []) ++ rest in
    let shown : print chain c ≡ front ++ back = simp append_assoc in
    let cut : print chain c ++ rest ≡ front ++ (back ++ rest) = ap (λ (l : List ℕ). l ++ rest) shown ∙ append_assoc front back rest in
    let flag : get_or row (from + 42) 0 ≡ flag_byte (present c.superseded_s) =
    sym (get_or-drop from row 42 0) ∙ ap (λ (l : List ℕ). get_or l 42 0) (sym e ∙ cut) ∙ get_or_at front (flag_byte (present c.superseded_s)) more 0 42 long in
    ap (λ (b : ℕ). cond (eqb b 1) 9 1) flag ∙ flag-says (present c.superseded_s)

tail-some : (t : Bool) → 1 ≤ cond t 9 1
tail-some true = omega arith
tail-some false = omega arith

pub chain-keys : AroundKeys (group chain) 10 (λ row at. flag_length row (at + 42))
chain-keys = record {
  around = λ c row from post h e. rw (chain-tail c row from post h.1.1.1.0 e) (chain-around c h.1.1.1.0);
  some = λ row from. tail-some (eqb (get_or row (from + 42) 0) 1);
}

-- ---- skipped keys
skipped-around : (k : Skipped) → length k.key ≡ 32 → Around (print skipped k) (print skipped (blank_of skipped veil k)) 6 8
unfolding layout.print layout.blank_of
skipped-around k h = record {
  front = bytes_of 1 k.gen ++ (dir_byte k.dir ∷ bytes_of 4 k.idx);
  key = k.key;
  back = bytes_of 8 k.created_s;
  shown = simp (append_assoc, append-nil);
  veiled = rw h (simp (append_assoc, append-nil));
  head-long = simp (length-append, length-bytes_of);
  key-long = h;
  tail-long = length-bytes_of 8 k.created_s;
}

pub skipped-keys : AroundKeys (group skipped) 6 (λ row at. 8)
skipped-keys = record { around = λ k row from post h e. skipped-around k h.1.1.1.0; some = λ row from. omega arith }
