-- What lines say behind others: nothing but how many lines and blob bytes were read before them matters.
-- Assumes nothing.
use Prim.Native.Nat.{ℕ, suc, ◌+◌}
use mathlib.Core.List.{List, [], ◌∷◌, ◌++◌, append_assoc}
use mathlib.Core.Bool.{Bool, true, false, cond, ◌&&◌}
use mathlib.Core.Path.{◌≡◌, refl, ap, ◌∙◌}
use native.Mathlib.Omega.{arith}
use native.Mathlib.Nat.{add-zero, zero-add}
use lib.ListN.{length, length-append}
use lib.Dec.{leb, ltb, eqb}
use Rattle.layout.specs.Questions.{SHEET_SIZE}
use Rattle.numbers.specs.Decimal.{LF}
use Rattle.store.specs.declared.Entry.{Entry}
use Rattle.ascii.specs.Words as words
use Rattle.ascii.specs.Words.{in_front, parted}
use Rattle.sheet.specs.Sheet as sheet
use Rattle.sheet.specs.Sheet.{LineSays, said, refused_by, line_of, Room, SheetSays, read, refused, entry_of, blob_in, onto, ask44, said_from, sheet_in}
use Rattle.sheet.specs.Proved.{onto_all}
use Rattle.ascii.proofs.Parts.{Some, some-part, some-parts}

-- ---- parts of bytes and of others behind them: the last of the first and the first of the others are one
unfoldable glued : List (List ℕ) → List (List ℕ) → List (List ℕ)
glued [] qs = qs
glued (p ∷ []) [] = p ∷ []
glued (p ∷ []) (q ∷ qs) = (p ++ q) ∷ qs
glued (p ∷ r ∷ ps) qs = p ∷ glued (r ∷ ps) qs

glued-mark : (ps qs : List (List ℕ)) → Some ps → glued ([] ∷ ps) qs ≡ [] ∷ glued ps qs
unfolding glued
glued-mark (p ∷ ps) qs some-part = refl
glued-mark [] qs x' = elim x' [ ]

glued-front : (b : ℕ) (ps qs : List (List ℕ)) → Some ps → Some qs → glued (in_front b ps) qs ≡ in_front b (glued ps qs)
unfolding glued
glued-front b (p ∷ []) (q ∷ qs) some-part some-part = refl
glued-front b (p ∷ r ∷ ps) (q ∷ qs) some-part some-part = refl
glued-front b [] qs x'' _ = elim x'' [ ]
glued-front b (p ∷ []) [] _ x9 = elim x9 [ ]
glued-front b (p ∷ (r ∷ ps)) [] _ x10 = elim x10 [ ]

glued-some : (ps qs : List (List ℕ)) → Some ps → Some (glued ps qs)
unfolding glued
glued-some (p ∷ []) [] some-part = some-part
glued-some (p ∷ []) (q ∷ qs) some-part = some-part
glued-some (p ∷ r ∷ ps) qs some-part = some-part
glued-some [] qs x' = elim x' [ ]

glued-none : (qs : List (List ℕ)) → Some qs → glued ([] ∷ []) qs ≡ qs
unfolding glued
glued-none (q ∷ qs) some-part = refl
glued-none [] x' = elim x' [ ]

parted-append : (m : ℕ) (a b : List ℕ) → parted m (a ++ b) ≡ glued (parted m a) (parted m b)
unfolding words.parted
parted-append m [] b = rw (glued-none (parted m b) (some-parts m b))
parted-append m (x ∷ a) b = go (eqb x m) (parted-append m a b)
  where
    go : (t : Bool) → parted m (a ++ b) ≡ glued (parted m a) (parted m b)
        → cond t ([] ∷ parted m (a ++ b)) (in_front x (parted m (a ++ b))) ≡ glued (cond t ([] ∷ parted m a) (in_front x (parted m a))) (parted m b)
    go true ih = rw (ih, glued-mark (parted m a) (parted m b) (some-parts m a))
    go false ih = rw (ih, glued-front x (parted m a) (parted m b) (some-parts m a) (some-parts m b))

-- ---- what is said
onto-none : (s : SheetSays) → onto_all [] [] s ≡ s
onto-none (read es run) = refl
onto-none (refused q l) = refl

onto-more : (e : Entry) (blob : List ℕ) (es : List Entry) (run : List ℕ) (s : SheetSays) → onto e blob (onto_all es run s) ≡ onto_all (e ∷ es) (blob ++ run) s
onto-more e blob es run (read fs more) = rw append_assoc
onto-more e blob es run (refused q l) = refl

module _ (room : Room) (qs : List (List ℕ)) (some-qs : Some qs) where
  -- if the first lines are read, all lines say the first and what the others say behind them
  abbrev Behind : (k u : ℕ) → (first all : SheetSays) → Type 0
  Behind k u (read es run) all = all ≡ onto_all es run (said_from room (k + length es) (u + length run) qs)
  Behind k u (refused q l) all = Unit {0}

  said-step : (k u : ℕ) (l : List ℕ) (ls : List (List ℕ)) → Some ls → said_from room k u (l ∷ ls) ≡ ask44 room k u (line_of l) (said_from room (suc k) (u + length (blob_in (line_of l))) ls)
  unfolding sheet.said_from
  said-step k u l (m ∷ ls) some-part = refl
  said-step k u l [] x' = elim x' [ ]

  none-behind : (k u : ℕ) → Behind k u (read [] []) (said_from room k u qs)
  none-behind k u = rw (add-zero k, add-zero u, onto-none (said_from room k u qs))

  one-behind : (k u : ℕ) (e : Entry) (blob : List ℕ) (first all : SheetSays) → Behind (suc k) (u + length blob) first all → Behind k u (onto e blob first) (onto e blob all)
  one-behind k u e blob (refused q l) all p = tt
  one-behind k u e blob (read es run) all p =
      let lines : k + suc (length es) ≡ suc k + length es = omega arith in
      let bytes : u + length (blob ++ run) ≡ u + length blob + length run = rw (length-append blob run) (omega arith) in
      rw (p, lines, bytes) (onto-more e blob es run (said_from room (suc k + length es) (u + length blob + length run) qs))

  behind : (ls : List (List ℕ)) → Some ls → (k u : ℕ) → Behind k u (said_from room k u ls) (said_from room k u (glued ls qs))
  unfolding sheet.said_from glued
  behind [] x' k u = elim x' [ ]
  behind ([] ∷ []) some-part k u = rw (glued-none qs some-qs) (none-behind k u)
  behind ((b ∷ bs) ∷ []) some-part k u = tt
  behind (l ∷ m ∷ ls) some-part k u =
      rw (said-step k u l (glued (m ∷ ls) qs) (glued-some (m ∷ ls) qs some-part)) (go (line_of l) (λ v. behind (m ∷ ls) some-part (suc k) v))
    where
      Later : Type 0
      Later = (v : ℕ) → Behind (suc k) v (said_from room (suc k) v (m ∷ ls)) (said_from room (suc k) v (glued (m ∷ ls) qs))

      fitting : (e : Entry) (blob : List ℕ) (t : Bool) → Later
          → Behind k u (cond t (onto e blob (said_from room (suc k) (u + length blob) (m ∷ ls))) (refused SHEET_SIZE (suc k)))
          (cond t (onto e blob (said_from room (suc k) (u + length blob) (glued (m ∷ ls) qs))) (refused SHEET_SIZE (suc k)))
      fitting e blob false ih = tt
      fitting e blob true ih = one-behind k u e blob (said_from room (suc k) (u + length blob) (m ∷ ls)) (said_from room (suc k) (u + length blob) (glued (m ∷ ls) qs)) (ih (u + length blob))

      go : (says : LineSays) → Later
          → Behind k u (ask44 room k u says (said_from room (suc k) (u + length (blob_in says)) (m ∷ ls))) (ask44 room k u says (said_from room (suc k) (u + length (blob_in says)) (glued (m ∷ ls) qs)))
      go (refused_by q) ih = tt
      go (said kind ns blob) ih = fitting (entry_of kind ns u (length blob)) blob (leb (u + length blob) room.bytes && ltb k room.lines) ih

pub said-later : (room : Room) (a b : List ℕ) (es : List Entry) (run : List ℕ) → sheet_in room a ≡ read es run
    → sheet_in room (a ++ b) ≡ onto_all es run (said_from room (length es) (length run) (parted LF b))
said-later room a b es run e =
    let p : Behind room (parted LF b) (some-parts LF b) 0 0 (read es run) (said_from room 0 0 (glued (parted LF a) (parted LF b))) = rw e at (behind room (parted LF b) (some-parts LF b) (parted LF a) (some-parts LF a) 0 0) in
    ap (said_from room 0 0) (parted-append LF a b) ∙ p ∙ rw (zero-add (length es), zero-add (length run))
