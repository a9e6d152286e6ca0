-- The bytes of what it awaits and sends, with 0 for each key: a flag, and what it says is there.
-- Assumes nothing.
use Prim.Native.Nat.{ℕ}
use mathlib.Core.Bool.{true, false, true≢false, false≢true}
use mathlib.Core.List.{List, [], ◌∷◌, ◌++◌, append-nil}
use mathlib.Core.Path.{◌≡◌, refl}
use native.Mathlib.Omega.{arith}
use lib.ListN.{length, length-append, length-replicate}
use Rattle.std.specs.Prelude as code
use Rattle.std.specs.Option.{is_some}
use Rattle.layout.specs.Veil.{zeros}
use Rattle.layout.specs.Form.{bytes_of}
use Rattle.layout.specs.Layout.{print, group, optional_layout}
use Rattle.layout.specs.Layout as layout
use Rattle.layout.proofs.Front.{length-bytes_of}
use Rattle.rows.specs.Rows.{dir_byte, pending, send}
use Rattle.contact_parts.specs.declared.PendingAt.{PendingAt}
use Rattle.contact_parts.specs.declared.SendChainAt.{SendChainAt}
use Rattle.veil_contact.specs.Veiled.{veiled_pending, veiled_send}

abbrev pub pending_print : code.Option PendingAt → List ℕ
pending_print p = print (optional_layout (group pending)) (veiled_pending p)

pub pending-none : (p : code.Option PendingAt) → is_some p ≡ false → pending_print p ≡ 0 ∷ []
unfolding layout.print
pending-none code.None e = refl
pending-none (code.Some its) e = absurd (true≢false e)

pub pending-some : (p : code.Option PendingAt) → is_some p ≡ true → pending_print p ≡ (1 ∷ []) ++ zeros 64
unfolding layout.print
pending-some code.None e = absurd (false≢true e)
pending-some (code.Some its) e = refl

abbrev pub send_print : code.Option SendChainAt → List ℕ
send_print s = print (optional_layout (group send)) (veiled_send s)

pub send-none : (s : code.Option SendChainAt) → ((its : SendChainAt) → s ≡ code.Some its → ⊥) → send_print s ≡ 0 ∷ []
unfolding layout.print
send-none code.None e = refl
send-none (code.Some its) e = absurd (e its refl)

module _ {s : code.Option SendChainAt} {its : SendChainAt} (e : s ≡ code.Some its) where
  pub send-some : send_print s ≡ (1 ∷ []) ++ (bytes_of 1 its.gen_ ++ ((dir_byte its.dir ∷ []) ++ (bytes_of 4 its.idx ++ zeros 32)))
  unfolding layout.print
  send-some = rw e (simp append-nil)

  pub send_long : length (send_print s) ≡ 39
  send_long = rw send-some (simp (length-append, length-replicate, length-bytes_of) (omega arith))
