-- The fields of what a courier row holds are lawful, so that it can be read along its layout.
-- Assumes nothing.
use Prim.Native.Nat.{ℕ}
use Rattle.layout.specs.Layout.{group}
use Rattle.layout.specs.Questions.{CODE, SEALED_LENGTH, ROW_END}
use Rattle.layout.specs.Veil.{plain, veiled}
use Rattle.layout.proofs.Along.{Fields}
use Rattle.layout.proofs.Front.{bytes-lawful, number-lawful}
use Rattle.layout.proofs.Ends.{no_more-lawful, to_end-lawful}
use Rattle.layout.proofs.Nested.{either_lawful}
use Rattle.rows.specs.Checks.{sealed_carried}
use Rattle.rows.specs.Rows.{carried, tombstone, courier}
use Rattle.rows.proofs.Lawful.{carried-lawful, tombstone-lawful}

pub carried-fields : Fields carried
carried-fields = (number-lawful 8, λ d. (bytes-lawful plain 16, λ tag. (bytes-lawful plain 16, λ c. (number-lawful 4, λ e. (number-lawful 1, λ k. (to_end-lawful veiled SEALED_LENGTH sealed_carried, λ s. tt))))))

pub tombstone-fields : Fields tombstone
tombstone-fields = (bytes-lawful plain 16, λ tag. (bytes-lawful veiled 16, λ s. (number-lawful 4, λ e. tt)))

pub courier-fields : (version : ℕ) → Fields (courier version)
courier-fields version = (either_lawful CODE (group carried) (group tombstone) carried-lawful tombstone-lawful, λ held. (no_more-lawful ROW_END, λ u. tt))
