-- What a writer leaves, from what was asked before the output.
-- Assumes nothing.
use Prim.Native.Nat.{ℕ, ◌≤◌, ◌<◌}
use mathlib.Core.List.{List, ◌++◌}
use mathlib.Core.Path.{◌≡◌, sym}
use native.Mathlib.Omega.{arith}
use lib.ListN.{length, drop}
use borrow.Author.Tests.{le-leb, lt-leb}
use Rattle.layout.specs.Questions.{OUTPUT}
use Rattle.layout.specs.Layout.{Layout, Answer, accepted, refused_by, read_row}
use Rattle.layout.specs.Write.{wrote, refuses, stored, judged, sized, asked, writes}

pub wrote≢refuses : {n q : ℕ} → wrote n ≡ refuses q → ⊥
wrote≢refuses e = let z : ◌≡◌ {A = ℕ} 0 1 = cc in omega arith

-- ---- a row at the front of the output, and no room for it
module _ (row out : List ℕ) where
  pub stored_short : length out < length row → stored row out ≡ record { answer = refuses OUTPUT; out = out }
  stored_short h = rw (lt-leb (length row) (length out) h)

  pub stored_row : length row ≤ length out → stored row out ≡ record { answer = wrote (length row); out = row ++ drop (length row) out }
  stored_row h = rw (le-leb (length row) (length out) h)

-- ---- what is asked first decides
module _ {A : Type 0} (l : Layout A) (row out : List ℕ) where
  pub writes-refused : {q : ℕ} → asked l row ≡ refuses q → writes l row out ≡ record { answer = refuses q; out = out }
  unfolding asked writes
  writes-refused {q} e = go (read_row l row) e
    where
      go : (a : Answer A) → sized a (length row) ≡ refuses q → judged a row out ≡ record { answer = refuses q; out = out }
      go (accepted v) e = absurd (wrote≢refuses e)
      go (refused_by p) e = let same : p ≡ q = cc in rw same

  pub writes_short : {n : ℕ} → asked l row ≡ wrote n → length out < n → writes l row out ≡ record { answer = refuses OUTPUT; out = out }
  unfolding asked writes
  writes_short {n} e h = go (read_row l row) e
    where
      go : (a : Answer A) → sized a (length row) ≡ wrote n → judged a row out ≡ record { answer = refuses OUTPUT; out = out }
      go (accepted v) e = let same : length row ≡ n = cc in rw (lt-leb (length row) (length out) (omega arith))
      go (refused_by p) e = absurd (wrote≢refuses (sym e))

  pub writes-row : {n : ℕ} → asked l row ≡ wrote n → n ≤ length out → writes l row out ≡ record { answer = wrote n; out = row ++ drop (length row) out }
  unfolding asked writes
  writes-row {n} e h = go (read_row l row) e
    where
      go : (a : Answer A) → sized a (length row) ≡ wrote n → judged a row out ≡ record { answer = wrote n; out = row ++ drop (length row) out }
      go (accepted v) e = let same : length row ≡ n = cc in rw (le-leb (length row) (length out) (omega arith), same)
      go (refused_by p) e = absurd (wrote≢refuses (sym e))

-- the length that is answered is the row's
pub asked-length : {A : Type 0} (l : Layout A) (row : List ℕ) {n : ℕ} → asked l row ≡ wrote n → n ≡ length row
unfolding asked
asked-length {A} l row {n} e = go (read_row l row) e
  where
    go : (a : Answer A) → sized a (length row) ≡ wrote n → n ≡ length row
    go (accepted v) e = cc
    go (refused_by p) e = absurd (wrote≢refuses (sym e))
