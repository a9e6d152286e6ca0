-- The bytes of the keys' part with 0 for each key.
-- Assumes nothing.
use mathlib.Core.List.{◌++◌, append-nil}
use mathlib.Core.Path.{◌≡◌}
use native.Mathlib.Omega.{arith}
use lib.ListN.{length, length-append, length-replicate}
use Rattle.layout.specs.Veil.{zeros}
use Rattle.layout.specs.Form.{bytes_of}
use Rattle.layout.specs.Layout.{print}
use Rattle.layout.specs.Layout as layout
use Rattle.layout.proofs.Front.{length-bytes_of}
use Rattle.contact_parts.specs.Parts.{keys}
use Rattle.contact_parts.specs.declared.KeysAt.{KeysAt}
use Rattle.veil_contact.specs.Veiled.{veiled_keys}

module _ (k : KeysAt) where
  pub keys-print : print keys (veiled_keys k) ≡ zeros 96 ++ (bytes_of 8 k.resume_index ++ (zeros 32 ++ bytes_of 4 k.sent_msgno))
  unfolding layout.print
  keys-print = rw append-nil

  pub keys_long : length (print keys (veiled_keys k)) ≡ 140
  keys_long = rw keys-print (simp (length-append, length-replicate, length-bytes_of) (omega arith))
