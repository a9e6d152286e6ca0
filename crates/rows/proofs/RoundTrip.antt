-- What the round trips of rows share.
-- Assumes nothing.
use Prim.Native.Nat.{ℕ, ◌-◌}
use mathlib.Core.List.{List, [], ◌++◌}
use mathlib.Core.Bool.{Bool, true, false, cond}
use mathlib.Core.Option.{Option, none, some}
use mathlib.Core.Path.{◌≡◌, refl, sym, ap, ◌∙◌}
use native.Mathlib.Omega.{arith}
use lib.ListN.{length, take, drop, length-append}
use lib.Dec.{leb, eqb}
use lib.Seq.{take_at, drop_at}
use borrow.Author.Tests.{eqb-true}
use Rattle.std.specs.Prelude.{Result, Ok, Err}
use Rattle.layout.specs.Questions.{VERSION, OUTPUT}
use Rattle.layout.specs.Layout.{Layout, ask, print, fits_of, refusal_of, Answer, accepted, refused_by, read_row}
use Rattle.layout.specs.Layout as layout
use Rattle.layout.specs.RowLaws.{Bytes, RowLaws}
use Rattle.layout.specs.Write.{Left, wrote, refuses, stored, judged, writes}
use Rattle.layout.specs.Write as write
use Rattle.layout.proofs.Theorems.{accepted≢}
use Rattle.layout.proofs.Write.{wrote≢refuses}
use Rattle.rows.specs.Checks.{version_known}

-- a writer's answer is a length: the row is one that reading accepts, and stands at the front of the output
pub record Stands {A : Type 0} (l : Layout A) (row left : List ℕ) (n : ℕ) : Type 0 where
  pub value : A
  pub read : read_row l row ≡ accepted value
  pub front : take n left ≡ row

module _ {A : Type 0} (l : Layout A) (row out left : List ℕ) {n : ℕ} where
  pub stands : ◌≡◌ {A = Left} (record { answer = wrote n; out = left }) (writes l row out) → Stands l row left n
  unfolding write.writes
  stands h = go (read_row l row) refl h
    where
      fits : (v : A) → read_row l row ≡ accepted v → (t : Bool)
          → ◌≡◌ {A = Left} (record { answer = wrote n; out = left }) (cond t (record { answer = wrote (length row); out = row ++ drop (length row) out })
          (record { answer = refuses OUTPUT; out = out }))
          → Stands l row left n
      fits v e true h =
          let answer-is : wrote n ≡ wrote (length row) = ap (λ (x : Left). x.answer) h in
          let long : length row ≡ n = cc in
          let out-is : left ≡ row ++ drop (length row) out = ap (λ (x : Left). x.out) h in
          record { value = v; read = e; front = ap (λ (x : List ℕ). take n x) out-is ∙ take_at row (drop (length row) out) n long }
      fits v e false h = absurd (wrote≢refuses (ap (λ (x : Left). x.answer) h))

      go : (a : Answer A) → read_row l row ≡ a → ◌≡◌ {A = Left} (record { answer = wrote n; out = left }) (judged a row out) → Stands l row left n
      go (accepted v) e h = fits v e (leb (length row) (length out)) h
      go (refused_by p) e h = absurd (wrote≢refuses (ap (λ (x : Left). x.answer) h))

-- the print of a value that fits, if it is accepted at all, is read as that value
pub printed-back : {A : Type 0} (l : Layout A) → RowLaws l → (v : A) → fits_of l v [] → {u : A} → read_row l (print l v) ≡ accepted u → read_row l (print l v) ≡ accepted v
printed-back l laws v fits e = go (refusal_of l v) refl
  where
    go : (o : Option ℕ) → refusal_of l v ≡ o → read_row l (print l v) ≡ accepted v
    go none r = laws.print-read v (record { fits = fits; granted = r })
    go (some q) r = absurd (accepted≢ (sym e ∙ laws.print-refused v q fits r))

-- only version 3 is read
pub three : {A : Type 0} (body : Layout A) (version : ℕ) (row : List ℕ) {v : A} → read_row (ask VERSION (version_known version) body) row ≡ accepted v → version ≡ 3
unfolding layout.parse
three body version row {v} e = go (eqb version 3) refl
  where
    go : (t : Bool) → eqb version 3 ≡ t → version ≡ 3
    go true h = eqb-true version 3 h
    go false h = absurd (accepted≢ {n = VERSION} (sym e ∙ rw h))

-- writing the value that was read gives the row again
pub rewritten : {A : Type 0} (l : Layout A) → RowLaws l → (row : List ℕ) → Bytes row → (v : A) → read_row l row ≡ accepted v → (out : List ℕ)
    → writes l (print l v) out ≡ stored row out
unfolding write.writes
rewritten {A} l laws row by v e out =
    ap (λ (x : List ℕ). judged (read_row l x) x out) (laws.read-print row by v e) ∙ ap (λ (a : Answer A). judged a row out) e

-- what stands last starts where its length tells
pub last-at : (front text : List ℕ) → drop (length (front ++ text) - length text) (front ++ text) ≡ text
last-at front text = drop_at front text (length (front ++ text) - length text) (simp length-append (omega arith))

-- an answer is not both
pub ok≢err : {A B : Type 0} {a : A} {b : B} → ◌≡◌ {A = Result A B} (Ok a) (Err b) → ⊥
ok≢err e = let z : ◌≡◌ {A = ℕ} 0 1 = cc in omega arith
