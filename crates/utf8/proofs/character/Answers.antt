-- `utf8::character` meets its contract: the bytes that the first byte's entry calls for, one after the other.
use Prim.Native.Nat.{◌<◌}
use mathlib.Core.Path.{sym, ◌∙◌}
use native.Mathlib.Omega.{arith}
use Rattle.utf8.proofs.Utf8.{Passed, Begun, alone, cut_off, four-at-most, second-no, second-yes, tail-no, tail-yes, spelled}
use Rattle.utf8.proofs.character.Goals as goal
use Rattle.utf8.proofs.character.Goals.{Else-name-at, Then-is_in, Else-len-eq2, Then-is_in-2, Else-len-eq3}

-- more bytes than one are called for, and they lie in the name
begun : (c : Else-name-at) → Begun c.args.name.now c.args.at c.args.lead
begun c = record { entry = c.requires.1; more = rw c.from-len.ensures at c.if-len-lt2.false; fits = omega (arith, c.requires.0, c.from-len.ensures, c.if-name-at.false) }

-- the second and the third byte are such as follow
module _ (c : Then-is_in) (b : Begun c.args.name.now c.args.at c.args.lead) where
  second-in : Passed c.args.name.now c.args.at c.args.lead 2
  second-in = second-yes b (sym c.is_in.ensures ∙ c.if-is_in.true)

third-due : (c : Else-len-eq2) → 2 < c.args.lead.len
third-due c = omega (arith, c.from-len.ensures, c.if-len-lt2.false, c.if-len-eq2.false)

module _ (c : Then-is_in-2) (b : Begun c.args.name.now c.args.at c.args.lead) (two : Passed c.args.name.now c.args.at c.args.lead 2) (due : 2 < c.args.lead.len) where
  third-in : Passed c.args.name.now c.args.at c.args.lead 3
  third-in = tail-yes b 2 two due (sym c.is_in-then-is_in.ensures ∙ c.if-is_in-2.true)

fourth-due : (c : Else-len-eq3) → 3 < c.args.lead.len
fourth-due c = omega (arith, c.from-len.ensures, c.if-len-lt2.false, c.if-len-eq2.false, c.if-len-eq3.false)

pub returns-then-len-lt2 : goal.returns-then-len-lt2
returns-then-len-lt2 c = rw c.from-len.ensures (alone _ _ c.requires.0 _ c.requires.1 (rw c.from-len.ensures at c.if-len-lt2.true))

pub returns-then-name-at : goal.returns-then-name-at
returns-then-name-at c = cut_off _ _ c.requires.0 _ c.requires.1 (rw c.from-len.ensures at c.if-len-lt2.false) (rw c.from-len.ensures at c.if-name-at.true)

pub returns-then-len-eq2 : goal.returns-then-len-eq2
returns-then-len-eq2 c =
    let at = goal.at.returns-then-len-eq2 c in
    let b = begun at.Else-name-at in
    spelled b 2 (second-in at.Then-is_in b) (rw c.from-len.ensures at c.if-len-eq2.true)

pub returns-then-len-eq3 : goal.returns-then-len-eq3
returns-then-len-eq3 c =
    let at = goal.at.returns-then-len-eq3 c in
    let b = begun at.Else-name-at in
    spelled b 3 (third-in at.Then-is_in-2 b (second-in at.Then-is_in b) (third-due at.Else-len-eq2)) (rw c.from-len.ensures at c.if-len-eq3.true)

pub returns-then-is_in-3 : goal.returns-then-is_in-3
returns-then-is_in-3 c =
    let at = goal.at.returns-then-is_in-3 c in
    let b = begun at.Else-name-at in
    let due = fourth-due at.Else-len-eq3 in
    let three = third-in at.Then-is_in-2 b (second-in at.Then-is_in b) (third-due at.Else-len-eq2) in
    spelled b 4 (tail-yes b 3 three due (sym c.is_in-then-is_in-2.ensures ∙ c.if-is_in-3.true)) (omega (arith, due, four-at-most b))

pub returns-else-is_in-3 : goal.returns-else-is_in-3
returns-else-is_in-3 c =
    let at = goal.at.returns-else-is_in-3 c in
    let b = begun at.Else-name-at in
    tail-no b 3 (third-in at.Then-is_in-2 b (second-in at.Then-is_in b) (third-due at.Else-len-eq2)) (fourth-due at.Else-len-eq3) (sym c.is_in-then-is_in-2.ensures ∙ c.if-is_in-3.false)

pub returns-else-is_in-2 : goal.returns-else-is_in-2
returns-else-is_in-2 c =
    let at = goal.at.returns-else-is_in-2 c in
    let b = begun at.Else-name-at in
    tail-no b 2 (second-in at.Then-is_in b) (third-due at.Else-len-eq2) (sym c.is_in-then-is_in.ensures ∙ c.if-is_in-2.false)

pub returns-else-is_in : goal.returns-else-is_in
returns-else-is_in c = second-no (begun (goal.at.returns-else-is_in c).Else-name-at) (sym c.is_in.ensures ∙ c.if-is_in.false)
