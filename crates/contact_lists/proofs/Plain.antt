-- Items of which nothing is asked: n of them end where a run of all their bytes ends.
-- Assumes nothing.
use Prim.Native.Nat.{ℕ, zero, suc, ◌+◌, ◌*◌, ◌≤◌, ◌<◌}
use mathlib.Core.List.{List, ◌∷◌}
use mathlib.Core.Path.{◌≡◌, refl, sym, ap, subst, ◌∙◌}
use native.Mathlib.Omega.{arith}
use native.Mathlib.Nat.{mul-zero, mul-suc, not-suc-le-zero}
use lib.ListN.{length, drop, length-drop}
use lib.Seq.{drop-drop}
use borrow.Author.Tests.{le-leb, lt-leb}
use Rattle.layout.specs.Questions.{FIELD}
use Rattle.layout.specs.Read.{Read, value, refused, and_then, onto}
use Rattle.layout.specs.Veil.{plain}
use Rattle.layout.specs.Form.{Form, bytes, number, u32, times, read_many}
use Rattle.layout.specs.Form as form
use Rattle.layout.specs.Layout.{Layout, done, field, group, parse}
use Rattle.layout.specs.Layout as layout
use Rattle.layout.specs.Field.{placed, read_at}
use Rattle.layout.specs.Field as at
use Rattle.layout.proofs.Lawful.{value≢refused}
use Rattle.rows.specs.Values.{Range}
use Rattle.rows.specs.Rows.{range}
use Rattle.rows.proofs.Tests.{order}
use Rattle.reader.specs.Reader.{ended}

-- where reading ends, whatever was read
abbrev ends : {B : Type 0} → Read B → Read (Unit {0})
ends {B} x = onto (λ (b : B). tt) x

-- w bytes are taken, whatever they are, and FIELD refuses a row that has fewer
pub record AsRun {B : Type 0} (read : List ℕ → Read B) (w : ℕ) : Type 0 where
  pub takes : (row : List ℕ) → w ≤ length row → ends (read row) ≡ value tt (drop w row)
  pub short : (row : List ℕ) → length row < w → ends (read row) ≡ refused FIELD

-- ---- fields
bytes_run : (w : ℕ) → AsRun (bytes plain w).read w
bytes_run w = record { takes = λ row h. rw (le-leb w (length row) h); short = λ row h. rw (lt-leb w (length row) h) }

number-run : (w : ℕ) → AsRun (number w).read w
number-run w = record { takes = λ row h. rw (le-leb w (length row) h); short = λ row h. rw (lt-leb w (length row) h) }

done-run : {A : Type 0} (a : A) → AsRun (group (done a)).read 0
unfolding layout.parse
done-run a = record { takes = λ row h. refl; short = λ row h. absurd (not-suc-le-zero h) }

-- ---- one after the other
module _ {B C : Type 0} {read : List ℕ → Read B} {next : B → List ℕ → Read C} {w v : ℕ} (r : AsRun read w) (n : (b : B) → AsRun (next b) v) where
  runs_on : AsRun (λ row. and_then (read row) next) (w + v)
  runs_on = record { takes = takes; short = λ row h. order w (length row) (cut row h) (λ s. refuses row (read row) (r.short row s)) }
    where
      at_second : (row : List ℕ) (b : B) (rest : List ℕ) → ends (value b rest) ≡ value tt (drop w row) → ends (next b rest) ≡ ends (next b (drop w row))
      at_second row b rest e = let same : rest ≡ drop w row = cc in rw same

      goes : (row : List ℕ) (x : Read B) → ends x ≡ value tt (drop w row) → w + v ≤ length row → ends (and_then x next) ≡ value tt (drop (w + v) row)
      goes row (value b rest) e h =
          at_second row b rest e ∙ (n b).takes (drop w row) (rw length-drop (omega arith)) ∙ ap (λ (l : List ℕ). value tt l) (drop-drop v w row)
      goes row (refused q) e h = absurd (value≢refused (sym e))

      stops : (row : List ℕ) (x : Read B) → ends x ≡ value tt (drop w row) → length row < w + v → w ≤ length row → ends (and_then x next) ≡ refused FIELD
      stops row (value b rest) e h s = at_second row b rest e ∙ (n b).short (drop w row) (rw length-drop (omega arith))
      stops row (refused q) e h s = absurd (value≢refused (sym e))

      refuses : (row : List ℕ) (x : Read B) → ends x ≡ refused FIELD → ends (and_then x next) ≡ refused FIELD
      refuses row (value b rest) e = absurd (value≢refused e)
      refuses row (refused q) e = e

      takes : (row : List ℕ) → w + v ≤ length row → ends (and_then (read row) next) ≡ value tt (drop (w + v) row)
      takes row h = goes row (read row) (r.takes row (omega arith)) h

      cut : (row : List ℕ) → length row < w + v → w ≤ length row → ends (and_then (read row) next) ≡ refused FIELD
      cut row h s = stops row (read row) (r.takes row s) h s

field-run : {A B : Type 0} (f : Form B) (get : A → B) (k : B → Layout A) {w v : ℕ} → AsRun f.read w → ((b : B) → AsRun (group (k b)).read v) → AsRun (group (field f get k)).read (w + v)
unfolding layout.parse
field-run f get k r n = runs_on r n

-- ---- n times the same
module _ {B : Type 0} (f : Form B) {w : ℕ} (r : AsRun f.read w) where
  one-before : (n : ℕ) (b : B) → AsRun (read_many f n) (w * n) → AsRun (λ row. onto (λ bs. b ∷ bs) (read_many f n row)) (w * n)
  one-before n b m = record { takes = λ row h. same (read_many f n row) ∙ m.takes row h; short = λ row h. same (read_many f n row) ∙ m.short row h }
    where
      same : (x : Read (List B)) → ends (onto (λ bs. b ∷ bs) x) ≡ ends x
      same (value bs rest) = refl
      same (refused q) = refl

  pub times-run : (n : ℕ) → AsRun (times f n).read (w * n)
  unfolding form.read_many
  times-run zero = subst (AsRun (read_many f zero)) (sym (mul-zero w)) (record { takes = λ row h. refl; short = λ row h. absurd (not-suc-le-zero h) })
  times-run (suc n) =
      let long : w + w * n ≡ w * suc n = rw mul-suc (omega arith) in
      subst (AsRun (read_many f (suc n))) long (runs_on r (λ b. one-before n b (times-run n)))

-- ---- so they end where a run does
pub run_end : {B : Type 0} (f : Form B) {w : ℕ} → AsRun f.read w → (row : List ℕ) (here : ℕ) → ended (read_at (bytes plain w) row here) ≡ ended (read_at f row here)
unfolding at.read_at
run_end f {w} r row here = sym (told ((bytes plain w).read (drop here row))) ∙ ap (placed row) (same (drop here row)) ∙ told (f.read (drop here row))
  where
    told : {C : Type 0} (x : Read C) → placed row (ends x) ≡ ended (placed row x)
    told (value c rest) = refl
    told (refused q) = refl

    same : (l : List ℕ) → ends ((bytes plain w).read l) ≡ ends (f.read l)
    same l = order w (length l)
        (λ h. (bytes_run w).takes l h ∙ sym (r.takes l h))
        (λ h. (bytes_run w).short l h ∙ sym (r.short l h))

-- ---- ranges, and numbers
range-run : AsRun (group range).read 8
range-run =
    field-run u32 (λ r. r.from) (λ from. field u32 (λ r. r.to) (λ to. done (record { from = from; to = to }))) (number-run 4)
    (λ from. field-run u32 (λ (r : Range). r.to) (λ to. done (record { from = from; to = to })) (number-run 4) (λ to. done-run (record { from = from; to = to })))

pub ranges-run : (n : ℕ) → AsRun (times (group range) n).read (8 * n)
ranges-run n = times-run (group range) range-run n

pub numbers-run : (n : ℕ) → AsRun (times u32 n).read (4 * n)
numbers-run n = times-run u32 (number-run 4) n
