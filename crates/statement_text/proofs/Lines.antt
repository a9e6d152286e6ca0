-- Entries from records, one at a time, and what is counted or written of them: a turn of a loop, and its end.
-- Assumes nothing.
use Prim.Native.Nat.{ℕ, suc, ◌+◌, ◌-◌, ◌*◌, ◌≤◌, ◌<◌}
use mathlib.Core.List.{List, [], ◌∷◌, ◌++◌}
use mathlib.Core.Bool.{Bool, true, false, cond}
use mathlib.Core.Path.{◌≡◌, refl, ap, subst, ◌∙◌}
use native.Mathlib.Omega.{arith}
use mir.Val.{bool_byte}
use lib.ListN.{length, drop, length-append}
use lib.Seq.{drop-drop}
use lib.Dec.{eqb}
use Rattle.std.specs.Prelude.{Option, Some, None}
use Rattle.put.specs.Put.{Wrote}
use Rattle.put.proofs.Put.{Writing, writing_step, writing-done}
use Rattle.store.specs.declared.Entry.{Entry}
use Rattle.store.specs.Kinds.{QUEUED}
use Rattle.store.specs.Store.{is_of}
use Rattle.store.specs.Line.{queued_of}
use Rattle.sheet_entries.specs.Table as table
use Rattle.sheet_entries.specs.Table.{entry_from, entries_from}
use Rattle.statement_text.specs.Text as text
use Rattle.statement_text.specs.Text.{how_many}
use Rattle.statement_text.specs.Lines as lines
use Rattle.statement_text.specs.Lines.{entry_text, entry_count, lines_from, count_from, Lined}

module _ (records : List ℕ) (n i : ℕ) where
  pub entries-turn : i < n → entries_from (n - i) (drop (6 * i) records) ≡ entry_from (drop (6 * i) records) ∷ entries_from (n - (i + 1)) (drop (6 * (i + 1)) records)
  unfolding table.entries_from
  entries-turn h =
      let s : n - i ≡ suc (n - (i + 1)) = omega arith in
      let next : 6 * (i + 1) ≡ 6 * i + 6 = omega arith in
      rw (s, next, ← drop-drop 6 (6 * i) records)

  pub entries_none : n ≤ i → entries_from (n - i) (drop (6 * i) records) ≡ []
  unfolding table.entries_from
  entries_none h = let s : n - i ≡ 0 = omega arith in rw s

-- ---- a sum over entries
pub record Sum (of : Entry → ℕ) (sum : List Entry → ℕ) : Type 0 where
  pub none : sum [] ≡ 0
  pub more : (e : Entry) (es : List Entry) → sum (e ∷ es) ≡ of e + sum es

module _ {of : Entry → ℕ} {sum : List Entry → ℕ} (law : Sum of sum) (records : List ℕ) (n i : ℕ) {total : ℕ} (found : ℕ) (e : found + sum (entries_from (n - i) (drop (6 * i) records)) ≡ total) where
  pub sum-turn : i < n → {x : ℕ} → x ≡ of (entry_from (drop (6 * i) records)) → found + x + sum (entries_from (n - (i + 1)) (drop (6 * (i + 1)) records)) ≡ total
  sum-turn h {x} w =
      let d : sum (entries_from (n - i) (drop (6 * i) records)) ≡ of (entry_from (drop (6 * i) records)) + sum (entries_from (n - (i + 1)) (drop (6 * (i + 1)) records)) =
      ap sum (entries-turn records n i h) ∙ law.more _ _ in
      omega arith

  pub sum-end : n ≤ i → found ≡ total
  sum-end h =
      let d : sum (entries_from (n - i) (drop (6 * i) records)) ≡ 0 = ap sum (entries_none records n i h) ∙ law.none in
      omega arith

-- ---- what is counted
-- a test as a number
pub one_or_none : (t : Bool) → (bool_byte t ≡ cond t 1 0) × (bool_byte t ≤ 1)
one_or_none true = (refl, omega arith)
one_or_none false = (refl, omega arith)

one_of : (t : Bool) (n : ℕ) → cond t (suc n) n ≡ cond t 1 0 + n
one_of true n = omega arith
one_of false n = omega arith

pub kinds : (kind : ℕ) → Sum (λ e. cond (eqb e.kind kind) 1 0) (how_many kind)
unfolding text.how_many
kinds kind = record { none = refl; more = λ e es. one_of (eqb e.kind kind) (how_many kind es) }

pub queued-rows : (id : ℕ) → Sum (λ e. cond (is_of QUEUED id e) 1 0) (queued_of id)
queued-rows id = record { none = refl; more = λ e es. one_of (is_of QUEUED id e) (queued_of id es) }

pub counts : (run : List ℕ) → Sum (entry_count run) (count_from run)
unfolding lines.count_from
counts run = record { none = refl; more = λ e es. refl }

pub lengths : (run : List ℕ) (all : List Entry) → Sum (λ e. length (entry_text run (queued_of e.id all) e)) (λ es. length (lines_from run all es))
unfolding lines.lines_from
lengths run all = record { none = refl; more = λ e es. length-append (entry_text run (queued_of e.id all) e) (lines_from run all es) }

-- ---- an entry without numbers has no line
pub lineless : {text : List ℕ} {count : ℕ} (l : Option (List ℕ)) → Lined text count l → ((fields : List ℕ) → l ≡ Some fields → ⊥) → Lined text count None
lineless None w other = w
lineless (Some fields) w other = absurd (other fields refl)

-- ---- the lines from the i-th entry on
module _ (run : List ℕ) (all : List Entry) (records : List ℕ) (n i : ℕ) where
  pub lines-turn : i < n → lines_from run all (entries_from (n - i) (drop (6 * i) records)) ≡ entry_text run (queued_of (entry_from (drop (6 * i) records)).id all) (entry_from (drop (6 * i) records)) ++ lines_from run all (entries_from (n - (i + 1)) (drop (6 * (i + 1)) records))
  unfolding lines.lines_from
  lines-turn h = rw (entries-turn records n i h)

  pub lines_none : n ≤ i → lines_from run all (entries_from (n - i) (drop (6 * i) records)) ≡ []
  unfolding lines.lines_from
  lines_none h = rw (entries_none records n i h)

-- ---- the loop that writes them: the room for a line, a turn, and the end
pub retext : {l m a b : List ℕ} {at p : ℕ} → a ≡ b → Wrote l at a m p → Wrote l at b m p
retext {l} {m} {at = at} {p = p} e w = subst (λ (t : List ℕ). Wrote l at t m p) e w

module _ (run : List ℕ) (all : List Entry) (records : List ℕ) (n i : ℕ) {o bs m : List ℕ} {here : ℕ} (w : Writing o 0 bs m here (lines_from run all (entries_from (n - i) (drop (6 * i) records)))) where
  pub line-room : i < n → length bs ≤ length o → here + length (entry_text run (queued_of (entry_from (drop (6 * i) records)).id all) (entry_from (drop (6 * i) records))) ≤ length m
  line-room h room =
      let d = ap length (lines-turn run all records n i h) ∙ length-append (entry_text run (queued_of (entry_from (drop (6 * i) records)).id all) (entry_from (drop (6 * i) records))) (lines_from run all (entries_from (n - (i + 1)) (drop (6 * (i + 1)) records))) in
      omega (arith, d, w.room, w.same)

  pub line-turn : i < n → {m' : List ℕ} {p : ℕ} → Wrote m here (entry_text run (queued_of (entry_from (drop (6 * i) records)).id all) (entry_from (drop (6 * i) records))) m' p
      → Writing o 0 bs m' p (lines_from run all (entries_from (n - (i + 1)) (drop (6 * (i + 1)) records)))
  line-turn h s = writing_step (entry_text run (queued_of (entry_from (drop (6 * i) records)).id all) (entry_from (drop (6 * i) records))) (rw (lines-turn run all records n i h) at w) s

  pub lines_end : n ≤ i → Wrote o 0 bs m here
  lines_end h = writing-done (rw (lines_none run all records n i h) at w)
