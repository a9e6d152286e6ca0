-- Covers in two orders on document 01's sample store (document 02's A11): single answers differ, the row and the total do not. By computation; and the law is applied.
-- Assumes nothing.
use Prim.Native.Nat.{ℕ, ◌+◌}
use mathlib.Core.List.Perm
use mathlib.Core.List.{List, [], ◌∷◌, ◌++◌, map, Perm}
use mathlib.Core.Bool.{Bool, true, false}
use mathlib.Core.Path.{◌≡◌, refl, ap, subst}
use native.Mathlib.Omega.{arith}
use lib.ListN.{length, take}
use Rattle.layout.specs.Questions.{RANGES_FIT}
use Rattle.layout.specs.Form as form
use Rattle.layout.specs.Layout.{print}
use Rattle.layout.specs.Layout as layout
use Rattle.rows.specs.Utf8 as utf
use Rattle.rows.specs.Values.{Range}
use Rattle.rows.specs.Rows.{contact}
use Rattle.put.specs.Put as puts
use Rattle.contact_lists.specs.Places as places
use Rattle.contact_lent.specs.Lent as lents
use Rattle.numbers.specs.Ranges as ranges
use Rattle.numbers.specs.Ranges.{range}
use Rattle.received.specs.Change as changes
use Rattle.received.specs.Lent as received
use Rattle.contact_image.specs.Row as row
use Rattle.ledger.specs.Call.{opens, cover, write, advanced, wrote, refused}
use Rattle.calls_step.specs.Input.{Input}
use Rattle.calls_step.specs.Step as steps
use Rattle.calls_step.specs.Legal.{Turn, made, last_left, Legal}
use Rattle.calls_step.specs.Replay.{turn, last_of}
use Rattle.calls_step.specs.Request.{Request, RequestsTyped}
use Rattle.calls_step.specs.Orders.{CoverTurns, none, more, CoversThenWrite}
use Rattle.calls_step.proofs.Occurs as occurs
use Rattle.calls_step.proofs.Occurs.{again, serving, serving-legal}
use Rattle.calls_step.proofs.Answers.{N, fields_of, four}
use Rattle.calls_step.proofs.Lending.{with, before, sample, run-bytes}
use Rattle.calls_step.proofs.Proved.{proved}

-- ---- covers, each with so many numbers lent for `above`, and what they answer
record Cover : Type 0 where
  range : Range
  lent : ℕ
  moved : Bool
  added : ℕ

abbrev case : (from to lent : ℕ) → (moved : Bool) → (added : ℕ) → Cover
case from to lent moved added = record { range = range from to; lent = lent; moved = moved; added = added }

abbrev asks : Cover → Request
asks c = with c.lent 1 2 0 (cover c.range.from c.range.to)

abbrev ranges_of : List Cover → List Range
ranges_of [] = []
ranges_of (c ∷ cs) = c.range ∷ ranges_of cs

abbrev total_of : List Cover → ℕ
total_of [] = 0
total_of (c ∷ cs) = c.added + total_of cs

-- ---- made one after the other, where g was left last
abbrev turn_of : Input → Request → Turn
turn_of g w = turn w.call (again g w.lent)

abbrev Answered : List Cover → Input → Type 0
Answered [] g = Unit {0}
Answered (c ∷ cs) g = let t = turn_of g (asks c) in ((made N t).answer ≡ advanced c.moved c.added) × Answered cs (last_left g (made N t))

answered-covers : (cs : List Cover) (g : Input) → Answered cs g → CoverTurns N (serving N refl (map asks cs) g) (ranges_of cs) (total_of cs)
answered-covers [] g a = none
answered-covers (c ∷ cs) g a = more (turn_of g (asks c)) _ c.range (ranges_of cs) c.moved c.added (total_of cs) refl a.0 (answered-covers cs _ a.1)

served-behind : (ws vs : List Request) (g : Input) → serving N refl (ws ++ vs) g ≡ serving N refl ws g ++ serving N refl vs (last_of N g (serving N refl ws g))
served-behind [] vs g = refl
served-behind (w ∷ ws) vs g = ap (λ (ts : List Turn). turn_of g w ∷ ts) (served-behind ws vs (last_left g (made N (turn_of g w))))

-- ---- behind restore and open, from contiguous 2, above 4..4 and sent 3; and then a write
abbrev begun : List Request
begun = sample ∷ with 2 1 2 0 (opens 1) ∷ []

abbrev ps : List Turn
ps = serving N refl begun before

abbrev here : Input
here = last_of N before ps

-- what the covers leave, and the write behind them
abbrev after : List Cover → Input
after cs = last_of N here (serving N refl (map asks cs) here)

abbrev writes : (out : ℕ) → Request
writes out = with 4 1 2 out write

abbrev writing : List Cover → (out : ℕ) → Turn
writing cs out = turn_of (after cs) (writes out)

record Computed (cs : List Cover) (out : ℕ) (row : List ℕ) : Type 0 where
  answered : Answered cs here
  length-is : (made N (writing cs out)).answer ≡ wrote (length row)
  row_is : take (length row) (made N (writing cs out)).after.out ≡ row

ends : (cs : List Cover) (out : ℕ) (row : List ℕ) → RequestsTyped N (map asks cs ++ writes out ∷ []) → Computed cs out row → CoversThenWrite N before ps (ranges_of cs) (total_of cs) row
ends cs out row typed computed = record {
  turns = serving N refl (map asks cs) here;
  last = writing cs out;
  legal = subst (λ (ts : List Turn). Legal N before (ps ++ ts)) (served-behind (map asks cs) (writes out ∷ []) here)
      (serving-legal N refl before refl (begun ++ (map asks cs ++ writes out ∷ [])) (run-bytes, (tt, typed)));
  covers = answered-covers cs here computed.answered;
  writes = record { call = refl; answer = computed.length-is; front = computed.row_is };
}

-- ---- the orders
-- 3..3 and then 5..5, and the other way round: contiguous 5
abbrev rising : List Cover
rising = case 3 3 2 true 1 ∷ case 5 5 2 true 1 ∷ []

abbrev falling : List Cover
falling = case 5 5 2 false 1 ∷ case 3 3 5 true 1 ∷ []

abbrev row5 : List ℕ
row5 = print (contact 3) (fields_of 3 5 [])

-- ranges that share numbers, one of them twice: contiguous 9, and 6 numbers are new, though the ranges have 10
abbrev shared : List Cover
shared = case 3 3 2 true 1 ∷ case 5 9 2 true 5 ∷ case 3 5 2 false 0 ∷ case 3 3 2 false 0 ∷ []

abbrev sharing : List Cover
sharing = case 5 9 2 false 5 ∷ case 3 5 2 true 1 ∷ case 3 3 2 false 0 ∷ case 3 3 2 false 0 ∷ []

abbrev row9 : List ℕ
row9 = print (contact 3) (fields_of 3 9 [])

-- above 4..7. Upwards one pair is enough; downwards it takes two, and one of them is free at the end. With one pair 7..7 and 6..6 are 38 at first, and
-- with them every other order that starts there: the law needs none of these, though `Perm` goes from the one order to the other by way of them
abbrev upwards : List Cover
upwards = case 5 5 2 false 1 ∷ case 6 6 2 false 1 ∷ case 7 7 2 false 1 ∷ []

abbrev downwards : List Cover
downwards = case 7 7 4 false 1 ∷ case 6 6 4 false 1 ∷ case 5 5 4 false 1 ∷ []

abbrev row47 : List ℕ
row47 = print (contact 3) (fields_of 3 2 (range 4 7 ∷ []))

-- none: the row that was opened
abbrev row_opened : List ℕ
row_opened = print (contact 3) (fields_of 3 2 four)

computed :
    Computed rising 303 row5
    × Computed falling 320 row5
    × Computed shared 303 row9
    × Computed sharing 320 row9
    × Computed upwards 311 row47
    × Computed downwards 320 row47
    × Computed [] 311 row_opened
    × ((after upwards).lists.above ≡ 4 ∷ 7 ∷ [])
    × ((after downwards).lists.above ≡ 4 ∷ 7 ∷ 0 ∷ 0 ∷ [])
    × ((made N (turn_of here (asks (case 7 7 2 false 1)))).answer ≡ refused RANGES_FIT)
    × ((made N (turn_of here (asks (case 6 6 2 false 1)))).answer ≡ refused RANGES_FIT)
unfolding occurs.again occurs.fitted steps.step layout.parse layout.print form.big_endian form.bytes_of form.read_many form.print_many form.leb_read utf.completes
    puts.put places.print_places places.places_of places.read_places lents.places_bytes ranges.insert ranges.inserted ranges.uncovered changes.change_of
    received.pairs received.stored row.counted row.image row.chained_image
computed = (
  record { answered = (refl, (refl, tt)); length-is = refl; row_is = refl },
  record { answered = (refl, (refl, tt)); length-is = refl; row_is = refl },
  record { answered = (refl, (refl, (refl, (refl, tt)))); length-is = refl; row_is = refl },
  record { answered = (refl, (refl, (refl, (refl, tt)))); length-is = refl; row_is = refl },
  record { answered = (refl, (refl, (refl, tt))); length-is = refl; row_is = refl },
  record { answered = (refl, (refl, (refl, tt))); length-is = refl; row_is = refl },
  record { answered = tt; length-is = refl; row_is = refl },
  refl,
  refl,
  refl,
  refl,
)

-- ---- the first order of each by the law: an order that is granted, whatever is lent in it, writes this row and counts so many numbers
abbrev Others : List Range → (total : ℕ) → (row : List ℕ) → Type 0
Others ss total row = (y : ℕ) (other : List ℕ) → CoversThenWrite N before ps ss y other → (row ≡ other) × (total ≡ y)

others : (cs : List Cover) (out : ℕ) (row : List ℕ) → RequestsTyped N (map asks cs ++ writes out ∷ []) → Computed cs out row
    → (ss : List Range) → Perm (ranges_of cs) ss → Others ss (total_of cs) row
others cs out row typed computed ss p y other s = proved.lists.any_order before refl ps ps refl (ranges_of cs) ss (total_of cs) y row other (ends cs out row typed computed) s p

by-law : Others (range 5 5 ∷ range 3 3 ∷ []) 2 row5 × Others (range 5 9 ∷ range 3 5 ∷ range 3 3 ∷ range 3 3 ∷ []) 6 row9
    × Others (range 7 7 ∷ range 6 6 ∷ range 5 5 ∷ []) 3 row47 × Others [] 0 row_opened
by-law = (
  others rising 303 row5 (omega arith, (omega arith, (tt, tt))) computed.0 (ranges_of falling) (Perm.swap (range 5 5) (range 3 3) []),
  others shared 303 row9 (omega arith, (omega arith, (omega arith, (omega arith, (tt, tt))))) computed.2 (ranges_of sharing)
      (Perm.trans (Perm.swap (range 5 9) (range 3 3) (range 3 5 ∷ range 3 3 ∷ [])) (Perm.cons (range 5 9) (Perm.swap (range 3 5) (range 3 3) (range 3 3 ∷ [])))),
  others upwards 311 row47 (omega arith, (omega arith, (omega arith, (tt, tt)))) computed.4 (ranges_of downwards)
      (Perm.trans (Perm.swap (range 6 6) (range 5 5) (range 7 7 ∷ []))
      (Perm.trans (Perm.cons (range 6 6) (Perm.swap (range 7 7) (range 5 5) [])) (Perm.swap (range 7 7) (range 6 6) (range 5 5 ∷ [])))),
  others [] 311 row_opened (tt, tt) computed.6 [] Perm.nil,
)

-- the other orders are among these
granted : CoversThenWrite N before ps (range 5 5 ∷ range 3 3 ∷ []) 2 row5
    × CoversThenWrite N before ps (range 5 9 ∷ range 3 5 ∷ range 3 3 ∷ range 3 3 ∷ []) 6 row9
    × CoversThenWrite N before ps (range 7 7 ∷ range 6 6 ∷ range 5 5 ∷ []) 3 row47
granted = (
  ends falling 320 row5 (omega arith, (omega arith, (tt, tt))) computed.1,
  ends sharing 320 row9 (omega arith, (omega arith, (omega arith, (omega arith, (tt, tt))))) computed.3,
  ends downwards 320 row47 (omega arith, (omega arith, (omega arith, (tt, tt)))) computed.5,
)
