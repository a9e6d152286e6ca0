-- A queued row and its envelope are read along their layouts (layout's `along`), since their fields are lawful.
use Prim.Native.Nat.{ℕ}
use mathlib.Core.List.{List}
use mathlib.Core.Path.{◌≡◌}
use lib.ListN.{get_or}
use mir.Val.{Fits}
use mir.Syntax.{w8}
use Rattle.layout.specs.Questions.{SEALED_LENGTH, ROW_END}
use Rattle.layout.specs.Veil.{plain, veiled}
use Rattle.layout.specs.Field.{read_at}
use Rattle.layout.specs.Layout.{group, read_row}
use Rattle.layout.proofs.At.{typed}
use Rattle.layout.proofs.Along.{Fields, along, asked_of, part-along, row-along}
use Rattle.layout.proofs.Derived.{optional-lawful}
use Rattle.layout.proofs.Front.{bytes-lawful, number-lawful, flag-lawful}
use Rattle.layout.proofs.Leb.{leb128-lawful}
use Rattle.layout.proofs.Ends.{to_end-lawful, no_more-lawful}
use Rattle.rows.specs.Checks.{sealed_queued}
use Rattle.rows.specs.Rows.{own_envelope, queued}
use Rattle.rows.proofs.Lawful.{own_envelope-lawful}

pub envelope-fields : Fields own_envelope
envelope-fields = (bytes-lawful plain 16, λ tag. (bytes-lawful veiled 16, λ s. (number-lawful 4, λ e. (number-lawful 1, λ c. (flag-lawful, λ r. tt)))))

pub queued-fields : (version : ℕ) → Fields (queued version)
queued-fields version = (
  number-lawful 8,
  λ created. (
    optional-lawful (group own_envelope) own_envelope-lawful,
    λ own. (
      number-lawful 1,
      λ gen. (
        leb128-lawful,
        λ idx.
            (to_end-lawful veiled SEALED_LENGTH sealed_queued, λ text. (no_more-lawful ROW_END, λ u. tt)),
      ),
    ),
  ),
)

-- ---- a row, and its parts, along their layouts
module _ (row : List ℕ) (types : (i : ℕ) → Fits w8 (get_or row i 0)) where
  pub envelope-reads : (at : ℕ) → read_at (group own_envelope) row at ≡ along own_envelope row at
  envelope-reads at = part-along row (typed row types) own_envelope envelope-fields at tt

  pub queued-reads : (version : ℕ) → read_row (queued version) row ≡ asked_of (along (queued version) row 0)
  queued-reads version = row-along row (typed row types) (queued version) (queued-fields version) tt
