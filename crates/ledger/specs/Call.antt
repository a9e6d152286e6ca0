-- The calls of document 01, and what they answer, with 02's A2.
-- Assumes nothing.
use Rattle.std.specs.Prelude.{ℕ, List, Bool, true, false}
use Rattle.numbers.specs.Lists.{Counts, counts}
use Rattle.store.specs.declared.Entry.{Entry}

-- a call with its own arguments. Restore is handed a store; the other calls are handed it again
pub data Call : Type 0 where
  restore : (run : List ℕ) → List Entry → Call
  opens : (contact : ℕ) → Call
  cover : (from to : ℕ) → Call
  contains : (msgno : ℕ) → Call
  covers : (from to : ℕ) → Call
  take : Call
  statement : Call
  write : Call

-- restore and open answer yes; cover whether contiguous moved, and how many numbers were not covered before; contains and covers a truth; take the number taken; write the length written; statement the length and the line's bytes.
-- A refusal is the question's number, restore's with the entry's index
pub data Answer : Type 0 where
  granted : Answer
  advanced : (moved : Bool) → (added : ℕ) → Answer
  truth : Bool → Answer
  number : ℕ → Answer
  wrote : (length : ℕ) → Answer
  said : (length : ℕ) → (line : List ℕ) → Answer
  refused : (question : ℕ) → Answer
  refused_at : (question place : ℕ) → Answer

abbrev pub is_granted : Answer → Bool
is_granted granted = true
is_granted (advanced b n) = true
is_granted (truth b) = true
is_granted (number n) = true
is_granted (wrote n) = true
is_granted (said n line) = true
is_granted (refused q) = false
is_granted (refused_at q i) = false

-- the calls that write to the output
abbrev pub has_output : Call → Bool
has_output (restore run es) = false
has_output (opens k) = false
has_output (cover f t) = false
has_output (contains m) = false
has_output (covers f t) = false
has_output take = false
has_output statement = true
has_output write = true

-- the lent lengths alone
pub record Lent : Type 0 where
  pub chains : ℕ
  pub skipped : ℕ
  pub above : ℕ
  pub unacked : ℕ
  pub expired : ℕ
  pub out : ℕ

abbrev pub lists_of : Lent → Counts
lists_of l = counts l.chains l.skipped l.above l.unacked l.expired
