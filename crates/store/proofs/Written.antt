-- What is written of fields alike outside veiled ones differs only in veiled bytes.
-- Assumes nothing.
use mathlib.Core.List.{List}
use Prim.Native.Nat.{ℕ}
use mathlib.Core.Bool.{Bool}
use mathlib.Core.Path.{◌≡◌, refl, sym, ap, ◌∙◌}
use lib.ListN.{length}
use Rattle.layout.specs.Veil.{veil, hide, Outside}
use Rattle.layout.specs.Layout.{Layout, print, blank_of, veiled_bytes, hidden_row}
use Rattle.layout.specs.RowLaws.{Bytes, Valid}
use Rattle.layout.proofs.Hide.{length-hide, hide-hide, hide-outside, as_long}
use Rattle.rows.specs.Proved.{Row}

module _ {A : Type 0} (l : Layout A) (row : Row l) where
  copy-veils : (r : List ℕ) → veiled_bytes l (hidden_row l veil r) ≡ veiled_bytes l r
  copy-veils r = let m = veiled_bytes l r in row.veil.same-veiled r (hide m r) (sym (length-hide m r)) (hide-outside m r (hide m r) (sym (hide-hide m r)))

  -- ---- two values that are valid, and whose prints are bytes
  module _ (v v' : A) (h : Valid l v) (h' : Valid l v') (by : Bytes (print l v)) (by' : Bytes (print l v')) (alike : blank_of l veil v ≡ blank_of l veil v') where
    copies : hidden_row l veil (print l v) ≡ hidden_row l veil (print l v')
    copies =
        sym (row.laws.hidden-prints veil (print l v) (λ q e. refl) by v (row.laws.print-read v h)) ∙ ap (print l) alike
        ∙ row.laws.hidden-prints veil (print l v') (λ q e. refl) by' v' (row.laws.print-read v' h')

    hidden-same : hide (veiled_bytes l (print l v)) (print l v) ≡ hide (veiled_bytes l (print l v)) (print l v')
    hidden-same =
        let m : veiled_bytes l (print l v') ≡ veiled_bytes l (print l v) = sym (copy-veils (print l v')) ∙ ap (λ (r : List ℕ). veiled_bytes l r) (sym copies) ∙ copy-veils (print l v) in
        copies ∙ ap (λ (x : List Bool). hide x (print l v')) m

    pub alike-long : length (print l v) ≡ length (print l v')
    alike-long = as_long (veiled_bytes l (print l v)) (print l v) (print l v') hidden-same

    pub alike-outside : Outside (veiled_bytes l (print l v)) (print l v) (print l v')
    alike-outside = hide-outside (veiled_bytes l (print l v)) (print l v) (print l v') hidden-same
