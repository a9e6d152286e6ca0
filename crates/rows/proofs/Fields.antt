-- The fields of each row are lawful, so that a row can be read along its layout (layout's `along`).
-- Assumes nothing.
use Prim.Native.Nat.{ℕ}
use Rattle.layout.specs.Questions.{ROW_END}
use Rattle.layout.specs.Veil.{veiled}
use Rattle.layout.proofs.Along.{Fields}
use Rattle.layout.proofs.Front.{bytes-lawful, number-lawful, flag-lawful}
use Rattle.layout.proofs.Ends.{no_more-lawful}
use Rattle.rows.specs.Rows.{device}

pub device-fields : (version : ℕ) → Fields (device version)
device-fields version = (
  number-lawful 4,
  λ day. (
    bytes-lawful veiled 32,
    λ key. (
      number-lawful 8,
      λ next. (
        flag-lawful,
        λ r. (
          flag-lawful,
          λ e. (
            number-lawful 1,
            λ c. (
              number-lawful 2,
              λ l.
                  (no_more-lawful ROW_END, λ u. tt),
            ),
          ),
        ),
      ),
    ),
  ),
)
