-- `card::put_name` meets its contract: one writer behind another.
use Rattle.std.proofs.Common.{[]}
use Prim.Native.Nat.{ℕ, ◌+◌}
use mathlib.Core.List.{List, ◌∷◌, ◌++◌, append-nil}
use mathlib.Core.Path.{◌≡◌}
use mathlib.Core.Bool.{true, false, cond}
use native.Mathlib.Omega.{arith}
use lib.ListN.{length, take, drop}
use lib.Seq.{take_all}
use borrow.Author.Tests.{eq-eqb, ne_eqb}
use Rattle.rows.specs.Checks.{kci}
use Rattle.put.specs.Put.{Wrote}
use Rattle.put.proofs.Put.{◌then◌, wrote-long}
use Rattle.card.specs.Card as spec
use Rattle.card.specs.Card.{CardTyped, name_part}
use Rattle.card.specs.declared.Card.{Card}
use Rattle.card.proofs.Image.{length-name-part}
use Rattle.card.proofs.put_name.Goals as goal

-- the bytes that the writers put, one behind the other, are the part
module _ (c : Card) {out m : List ℕ} {at p : ℕ} where
  with-key : CardTyped c → kci c.caps ≡ true → Wrote out at ((c.name_len ∷ []) ++ (take c.name_len (drop 0 c.name) ++ take 1184 (drop 0 c.static_ek))) m p
      → (p ≡ at + length (name_part c)) × Wrote out at (name_part c) m p
  unfolding spec.name_part
  with-key ty set w =
      let whole : take 1184 c.static_ek ≡ c.static_ek = take_all 1184 c.static_ek (omega (arith, ty.static_ek)) in
      let image : Wrote out at ((c.name_len ∷ []) ++ (take c.name_len c.name ++ c.static_ek)) m p = rw whole at w in
      rw set (image.next-is, image)

  without-key : kci c.caps ≡ false → Wrote out at ((c.name_len ∷ []) ++ take c.name_len (drop 0 c.name)) m p → (p ≡ at + length (name_part c)) × Wrote out at (name_part c) m p
  unfolding spec.name_part
  without-key clear w = rw (clear, append-nil) (w.next-is, w)

pub put_byte-name_at-requires : goal.put_byte-name_at-requires
put_byte-name_at-requires c = omega (arith, length-name-part c.args.card c.typed.ensures c.requires.0)

pub put_run-key_at-requires : goal.put_run-key_at-requires
put_run-key_at-requires c =
    let long = length-name-part c.args.card c.typed.ensures c.requires.0 in
    (omega arith, omega (arith, c.typed.ensures.name))

pub put_run-requires : goal.put_run-requires
put_run-requires c =
    let long = length-name-part c.args.card c.typed.ensures c.requires.0 in
    let key : length (cond (kci c.args.card.caps) c.args.card.static_ek []) ≡ 1184 = rw (eq-eqb _ _ c.if-card-eq1.true) c.typed.ensures.static_ek in
    (omega (arith, wrote-long c.put_byte-name_at.ensures.1, wrote-long c.put_run-key_at.ensures.1, c.put_byte-name_at.ensures.0, c.put_run-key_at.ensures.0, c.requires.1), omega (arith, c.typed.ensures.static_ek))

pub returns-then-card-eq1 : goal.returns-then-card-eq1
returns-then-card-eq1 c =
    with-key c.args.card c.typed.ensures (eq-eqb _ _ c.if-card-eq1.true) (c.put_byte-name_at.ensures.1 then ((rw c.from.ensures at c.put_run-key_at.ensures.1) then c.put_run.ensures.1))

pub returns : goal.returns
returns c =
    without-key c.args.card (ne_eqb _ _ c.if-card-eq1.false) (c.put_byte-name_at.ensures.1 then (rw c.from.ensures at c.put_run-key_at.ensures.1))
