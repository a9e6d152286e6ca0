-- The lines that `replay` prints: `= `, a text, LF. The text of the answer to a call: an answer is six numbers (calls_code/specs/Encoding.antt), and what
-- the call wrote stands at the front of the output. The text of the state of an open contact.
-- Assumes nothing.
use Rattle.std.specs.Prelude.{ℕ, ◌-◌, List, [], ◌∷◌, ◌++◌, cond, length, take, eqb}
use Rattle.rows.specs.Values.{Range}
use Rattle.numbers.specs.Decimal.{LF, decimal}
use Rattle.ascii.specs.Words.{SPACE}
use Rattle.ascii.specs.Hex.{DASH, pairs_of, hex_of}
use Rattle.calls_code.specs.Encoding.{YES, ADVANCED, TRUTH, NUMBER, WROTE, SAID, NO}

-- `=`
abbrev pub EQUALS : ℕ
EQUALS = 0x3D

abbrev pub line_of : (text : List ℕ) → List ℕ
line_of text = EQUALS ∷ SPACE ∷ (text ++ (LF ∷ []))

-- yes
abbrev pub yes_text : List ℕ
yes_text = 0x79 ∷ 0x65 ∷ 0x73 ∷ []

-- true
abbrev pub true_text : List ℕ
true_text = 0x74 ∷ 0x72 ∷ 0x75 ∷ 0x65 ∷ []

-- false
abbrev pub false_text : List ℕ
false_text = 0x66 ∷ 0x61 ∷ 0x6C ∷ 0x73 ∷ 0x65 ∷ []

-- a truth as a number
abbrev pub truth_text : ℕ → List ℕ
truth_text a = cond (eqb a 0) false_text true_text

-- of a cover: a truth as a number, and how many numbers are new
abbrev pub added_text : (truth added : ℕ) → List ℕ
added_text a added = truth_text a ++ (SPACE ∷ decimal added)

-- no, and a space
abbrev pub no_text : List ℕ
no_text = 0x6E ∷ 0x6F ∷ SPACE ∷ []

-- a refusal with its place
abbrev pub place_text : (question place : ℕ) → List ℕ
place_text question place = no_text ++ (decimal question ++ (SPACE ∷ decimal place))

-- a statement's line stands without its LF
unfoldable pub answer_text : (tag a b : ℕ) → (out : List ℕ) → List ℕ
answer_text tag a b out =
    cond (eqb tag YES) yes_text
    (cond (eqb tag ADVANCED) (added_text a b)
    (cond (eqb tag TRUTH) (truth_text a)
    (cond (eqb tag NUMBER) (decimal a)
    (cond (eqb tag WROTE) (hex_of (take a out))
    (cond (eqb tag SAID) (take (a - 1) out)
    (cond (eqb tag NO) (no_text ++ decimal a)
    (place_text a b)))))))

-- ---- the state of an open contact: its id, its fields as a row in hexadecimal, and ranges of the list above contiguous
-- `;`
abbrev pub SEMICOLON : ℕ
SEMICOLON = 0x3B

-- `from-to`
abbrev pub range_text : Range → List ℕ
range_text r = decimal r.from ++ (DASH ∷ decimal r.to)

-- ranges, the first behind this mark, each other one behind `;`
unfoldable pub listed : (mark : ℕ) → List Range → List ℕ
listed mark [] = []
listed mark (r ∷ rs) = (mark ∷ range_text r) ++ listed SEMICOLON rs

-- `-` for none
abbrev pub ranges_text : List Range → List ℕ
ranges_text rs = cond (eqb (length rs) 0) (SPACE ∷ DASH ∷ []) (listed SPACE rs)

abbrev pub state_text : (id : ℕ) → (row : List ℕ) → (above : List Range) → List ℕ
state_text id row above = decimal id ++ (SPACE ∷ (pairs_of row ++ ranges_text above))
