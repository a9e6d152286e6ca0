-- The line of numbers that are these.
-- Assumes nothing.
use Prim.Native.Nat.{ℕ}
use mathlib.Core.List.{[], ◌∷◌}
use mathlib.Core.Path.{◌≡◌}
use Rattle.store.specs.Line as line
use Rattle.store.specs.Line.{line_text, line_of}

pub same_line : {s a c b x sent acked contiguous beyond expired : ℕ} (contact queued : ℕ) → s ≡ sent → a ≡ acked → c ≡ contiguous → b ≡ beyond → x ≡ expired
    → line_text (contact ∷ s ∷ a ∷ c ∷ b ∷ queued ∷ x ∷ []) ≡ line_of contact sent acked contiguous beyond queued expired
unfolding line.line_of
same_line contact queued p q r t u i = line_text (contact ∷ p i ∷ q i ∷ r i ∷ t i ∷ queued ∷ u i ∷ [])
