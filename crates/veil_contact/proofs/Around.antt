-- Printed bytes around a key of 32 bytes, and the same with 0 for the key: where they stand in a row, copying what is around the key gives them.
-- Assumes nothing.
use Prim.Native.Nat.{ℕ, ◌+◌, ◌≤◌}
use mathlib.Core.List.{List, ◌++◌, append_assoc}
use mathlib.Core.Path.{◌≡◌, sym, ap, ap₂, ◌∙◌}
use native.Mathlib.Omega.{arith}
use lib.ListN.{length, take, drop, length-append, length-drop, length-replicate}
use lib.Seq.{take_at, drop_at, drop-drop}
use Rattle.layout.specs.Veil.{zeros}
use Rattle.contact_parts.specs.Offsets.{run}
use Rattle.veil_contact.specs.Veiled.{around_key, Around}

module _ {plain hidden : List ℕ} {head tail : ℕ} (a : Around plain hidden head tail) where
  pub plain-long : length plain ≡ head + 32 + tail
  plain-long = rw a.shown (simp length-append (omega (arith, a.head-long, a.key-long, a.tail-long)))

  pub hidden-long : length hidden ≡ head + 32 + tail
  hidden-long = rw a.veiled (simp (length-append, length-replicate) (omega (arith, a.head-long, a.tail-long)))

  -- ---- where they stand in a row
  module _ (row : List ℕ) (from : ℕ) (post : List ℕ) (stands : plain ++ post ≡ drop from row) where
    pub inside : from + head + 32 + tail ≤ length row
    inside = omega (arith, ap length stands, length-append plain post, plain-long, length-drop from row)

    pub behind : drop (from + (head + 32 + tail)) row ≡ post
    behind = sym (drop-drop (head + 32 + tail) from row) ∙ ap (λ (l : List ℕ). drop (head + 32 + tail) l) (sym stands) ∙ drop_at plain post (head + 32 + tail) plain-long

    -- the row from there on, cut around the key
    cut : drop from row ≡ a.front ++ (a.key ++ (a.back ++ post))
    cut = sym stands ∙ ap (λ (l : List ℕ). l ++ post) a.shown ∙ simp append_assoc

    before : run head row from ≡ a.front
    before = ap (λ (l : List ℕ). take head l) cut ∙ take_at a.front (a.key ++ (a.back ++ post)) head a.head-long

    after-key : drop (from + head + 32) row ≡ a.back ++ post
    after-key =
        sym (drop-drop 32 (from + head) row)
        ∙ ap (λ (l : List ℕ). drop 32 l) (sym (drop-drop head from row) ∙ ap (λ (l : List ℕ). drop head l) cut ∙ drop_at a.front (a.key ++ (a.back ++ post)) head a.head-long)
        ∙ drop_at a.key (a.back ++ post) 32 a.key-long

    after : run tail row (from + head + 32) ≡ a.back
    after = ap (λ (l : List ℕ). take tail l) after-key ∙ take_at a.back post tail a.tail-long

    pub copied : around_key row from head tail ≡ hidden
    copied = ap₂ (λ (x y : List ℕ). x ++ (zeros 32 ++ y)) before after ∙ sym a.veiled
