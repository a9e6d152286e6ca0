-- Pieces read one after the other.
-- Assumes nothing.
use Prim.Native.Nat.{ℕ, ◌+◌, ◌-◌, ◌^◌, min}
use mathlib.Core.List.{List, [], ◌∷◌, ◌++◌, map, map-append}
use mathlib.Core.Bool.{Bool, true, false, ◌&&◌, ◌||◌, and-true, and_assoc, or-false, or_assoc, false≢true}
use mathlib.Core.Path.{◌≡◌, refl, sym, ap, ◌∙◌}
use native.Mathlib.Omega.{arith}
use lib.ListN.{length, length-append}
use lib.Dec.{ltb}
use Rattle.std.specs.Prelude.{Option, Some, None, is_none, unwrap_or}
use Rattle.rows.specs.Checks.{all, any}
use Rattle.rows.proofs.Tests.{and_both}
use Rattle.sheet.specs.declared.State.{State}
use Rattle.sheet.specs.Machine.{Held, held, at_line, fed}
use Rattle.sheet.specs.Proved.{in_chunks}
use Rattle.statement.specs.declared.Reading.{Reading}
use Rattle.statement.specs.Pieces.{Piece, bytes_of, has_bytes, has_failed, held_by, ReadOne, fed_by, ReadAll}

-- ---- one piece more
in-chunks-last : (cs : List (List ℕ)) (c : List ℕ) (h : Held) → in_chunks (cs ++ (c ∷ [])) h ≡ fed c (in_chunks cs h)
in-chunks-last [] c h = refl
in-chunks-last (d ∷ cs) c h = in-chunks-last cs c (fed d h)

module _ (f : Piece → Bool) where
  all-last : (ps : List Piece) (p : Piece) → all f (ps ++ (p ∷ [])) ≡ all f ps && f p
  all-last [] p = and-true (f p)
  all-last (q ∷ ps) p = ap (λ (t : Bool). f q && t) (all-last ps p) ∙ sym (and_assoc (f q) (all f ps) (f p))

  any_last : (ps : List Piece) (p : Piece) → any f (ps ++ (p ∷ [])) ≡ any f ps || f p
  any_last [] p = or-false (f p)
  any_last (q ∷ ps) p = ap (λ (t : Bool). f q || t) (any_last ps p) ∙ sym (or_assoc (f q) (any f ps) (f p))

-- a read that failed has no bytes
bytes_read : (p : Piece) → has_bytes p ≡ true → has_failed p ≡ false
bytes_read p e = go p.got e
  where
    go : (o : Option ℕ) → ltb 0 (min (unwrap_or o 0) (length p.buffer)) ≡ true → is_none o ≡ false
    go (Some k) e = refl
    go None e = let none : min 0 (length p.buffer) ≡ 0 = omega arith in absurd (false≢true (rw none at e))

none-failed : (ps : List Piece) → all has_bytes ps ≡ true → any has_failed ps ≡ false
none-failed [] e = refl
none-failed (p ∷ ps) e = let both = and_both (has_bytes p) (all has_bytes ps) e in rw (bytes_read p both.0) (none-failed ps both.1)

-- ---- on the way: the pieces so far, and how many turns are left
pub record Reads (run₀ records₀ : List ℕ) (r : Reading) (run records : List ℕ) (turns : ℕ) : Type 0 where
  pub pieces : List Piece
  pub fed-are : held_by r run records ≡ fed_by pieces run₀ records₀
  pub more-is : r.more ≡ all has_bytes pieces
  pub failed-is : r.failed ≡ any has_failed pieces
  pub counted : length pieces ≡ turns

pub reads-start : (run records : List ℕ) {r : Reading} {turns : ℕ} → (r.state ≡ at_line 0 0) × (r.more ≡ true) × (r.failed ≡ false) → turns ≡ 0 → Reads run records r run records turns
reads-start run records e t = record {
  pieces = [];
  fed-are = ap (λ (s : State). held s run records) e.0;
  more-is = e.1;
  failed-is = e.2;
  counted = omega (arith, t);
}

pub reads-turn : {run₀ records₀ run records run' records' buffer : List ℕ} {r r' : Reading} {turns next : ℕ}
    → Reads run₀ records₀ r run records turns → r.more ≡ true → ReadOne buffer (held_by r run records) r' run' records' → next ≡ turns + 1 → Reads run₀ records₀ r' run' records' next
reads-turn {run₀} {records₀} {buffer = buffer} s more o t =
    let ps = s.pieces in
    let p : Piece = record { got = o.got; buffer = buffer } in
    let begun = held (at_line 0 0) run₀ records₀ in
    let read : all has_bytes ps ≡ true = sym s.more-is ∙ more in
    record {
      pieces = ps ++ (p ∷ []);
      fed-are = o.taken.fed-is ∙ ap (fed (bytes_of p)) s.fed-are ∙ sym (in-chunks-last (map bytes_of ps) (bytes_of p) begun) ∙ ap (λ (cs : List (List ℕ)). in_chunks cs begun) (sym (map-append bytes_of ps (p ∷ [])));
      more-is = o.taken.more-is ∙ sym (all-last has_bytes ps p ∙ ap (λ (b : Bool). b && has_bytes p) read);
      failed-is = o.taken.failed-is ∙ sym (any_last has_failed ps p ∙ ap (λ (b : Bool). b || has_failed p) (none-failed ps read));
      counted = omega (arith, length-append ps (p ∷ []), s.counted, t);
    }

pub reads_over : {run₀ records₀ run records : List ℕ} {r : Reading} {turns : ℕ} → Reads run₀ records₀ r run records turns → r.more ≡ false → ReadAll run₀ records₀ r run records
reads_over s e = record {
  pieces = s.pieces;
  ended = λ b. absurd (false≢true (sym e ∙ s.more-is ∙ b));
  fed-are = s.fed-are;
  failed-is = s.failed-is;
}

pub reads_all : {run₀ records₀ run records : List ℕ} {r : Reading} {turns : ℕ} → Reads run₀ records₀ r run records turns → turns ≡ 2 ^ 64 - 1 → ReadAll run₀ records₀ r run records
reads_all s e = record {
  pieces = s.pieces;
  ended = λ b. omega (arith, s.counted, e);
  fed-are = s.fed-are;
  failed-is = s.failed-is;
}
