-- The code's table of commands is that of the definitions, and what it says of a word is the command with this name.
-- Assumes nothing.
use Prim.Native.Nat.{ℕ, suc, ◌+◌}
use mathlib.Core.List.{List, [], ◌∷◌, map}
use mathlib.Core.Bool.{Bool, true, false, cond, ◌&&◌}
use mathlib.Core.Path.{◌≡◌, refl, sym, ap, ◌∙◌}
use native.Mathlib.Nat.{add-zero}
use native.Mathlib.Omega.{arith}
use lib.Dec.{eqb}
use lib.ListN.{length, get_or, drop}
use lib.Seq.{get_or-drop, drop-drop}
use borrow.Author.Tests.{eq-eqb, ne_eqb}
use Rattle.std.specs.Prelude.{Option, Some, None, find, option_map}
use Rattle.std.specs.Bool.{then_some}
use Rattle.std.specs.Str.{bytes_eq}
use Rattle.replay_script.specs.declared.Command as declared
use Rattle.replay_script.specs.Table.{Form, NamedIn}
use Rattle.replay_script.specs.Script as script
use Rattle.replay_script.specs.Script.{Command, UNKNOWN, commands, with_unknown, unknown, of_code, narrow_of, wide_of, others_of, same, code_from, code_of, number_of, command_says, decimals_from, command_as}

same-bytes : (a b : List ℕ) → bytes_eq a b ≡ same a b
unfolding script.same
same-bytes [] [] = refl
same-bytes [] (c ∷ cs) = refl
same-bytes (b ∷ bs) [] = refl
same-bytes (b ∷ bs) (c ∷ cs) = ap (λ (t : Bool). eqb b c && t) (same-bytes bs cs)

-- ---- what is found: a form of this code; nothing, where the code is that of no command
abbrev pub Found : (code : ℕ) → Option Form → Type 0
Found code None = code ≡ UNKNOWN
Found code (Some f) = (code ≡ number_of f.0) × (narrow_of code ≡ f.1) × (wide_of code ≡ f.2) × (others_of code ≡ f.3)

-- ---- a row: a name, whose bytes are these, and a form
module _ {Name : Type 0} (bytes_of : Name → List ℕ) where
  abbrev Row : Type 0
  Row = Name × Form

  abbrev as_command : Row → Command
  as_command r = record { name = bytes_of r.0; narrow = r.1.1; wide = r.1.2; others = r.1.3 }

  abbrev code_in : Row → ℕ
  code_in r = number_of r.1.0

  -- the codes of so many rows as these, from k on
  abbrev codes_from : (k : ℕ) → List Row → List ℕ
  codes_from k [] = []
  codes_from k (r ∷ rs) = k ∷ codes_from (suc k) rs

  abbrev named : (word : List ℕ) → List Row → Option Row
  named word rs = find (λ (r : Row). bytes_eq word (bytes_of r.0)) rs

  finds : (k : ℕ) (rs : List Row) → map code_in rs ≡ codes_from k rs → drop k with_unknown ≡ map as_command rs → (word : List ℕ)
      → Found (code_from k (map as_command rs) word) (option_map (λ (r : Row). r.1) (named word rs))
  unfolding script.code_from
  finds k [] codes rows word = refl
  finds k (r ∷ rs) codes rows word = rw (same-bytes word (bytes_of r.0)) (go (same word (bytes_of r.0)) (finds (suc k) rs (ap (drop 1) codes) behind word))
    where
      behind : drop (suc k) with_unknown ≡ map as_command rs
      behind = let e : k + 1 ≡ suc k = omega arith in sym (drop-drop 1 k with_unknown ∙ ap (λ (n : ℕ). drop n with_unknown) e) ∙ ap (drop 1) rows

      here : of_code k ≡ as_command r
      here = sym (get_or-drop k with_unknown 0 unknown ∙ ap (λ (n : ℕ). get_or with_unknown n unknown) (add-zero k)) ∙ ap (λ (l : List Command). get_or l 0 unknown) rows

      go : (t : Bool) → Found (code_from (suc k) (map as_command rs) word) (option_map (λ (r : Row). r.1) (named word rs))
          → Found (cond t k (code_from (suc k) (map as_command rs) word)) (option_map (λ (r : Row). r.1) (cond t (Some r) (named word rs)))
      go true more = (sym (ap (λ (l : List ℕ). get_or l 0 0) codes), ap (λ (c : Command). c.narrow) here, ap (λ (c : Command). c.wide) here, ap (λ (c : Command). c.others) here)
      go false more = more

  -- by a table of all commands, in their order
  pub found : {rs : List Row} {word : List ℕ} {o : Option Form} → NamedIn bytes_of rs word o → map code_in rs ≡ codes_from 1 rs → commands ≡ map as_command rs → Found (code_of word) o
  found {rs} {word} n codes rows = rw (n.first-is, rows) (finds 1 rs codes rows word)

-- ---- a line whose first word has this code, and has so many words
module _ (code : ℕ) (words : List (List ℕ)) where
  pub no-command : code ≡ UNKNOWN → UNKNOWN ≡ command_as code words
  no-command e = rw e (go (eqb (length words) 1 && decimals_from 0 1 0 words))
    where
      go : (t : Bool) → UNKNOWN ≡ cond t UNKNOWN UNKNOWN
      go true = refl
      go false = refl

  module _ (f : Form) (is : Found code (Some f)) {marks : ℕ} (many : suc marks ≡ length words) where
    pub other-words : (marks ≡ f.1 + f.2 + f.3 → ⊥) → UNKNOWN ≡ command_as code words
    other-words other =
        let not : length words ≡ suc (f.1 + f.2 + f.3) → ⊥ = λ e. other (omega (arith, e, many)) in
        rw (is.1, is.2, is.3, ne_eqb (length words) (suc (f.1 + f.2 + f.3)) not)

    pub those-words : marks ≡ f.1 + f.2 + f.3 → {t : Bool} → t ≡ decimals_from f.1 1 (f.1 + f.2) words → cond t (number_of f.0) UNKNOWN ≡ command_as code words
    those-words so e =
        let as_many : length words ≡ suc (f.1 + f.2 + f.3) = omega (arith, so, many) in
        rw (is.1, is.2, is.3, eq-eqb (length words) (suc (f.1 + f.2 + f.3)) as_many, e, is.0)

pub says-some : (t : Bool) (c : declared.Command) → command_says (then_some t c) ≡ cond t (number_of c) UNKNOWN
says-some true c = refl
says-some false c = refl
