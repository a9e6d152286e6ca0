-- Hiding. VEILED is document 01's term: the bytes of a row's (v) fields taken whole before its first refusal, a sealed text only once question 13 is yes.
-- Which bytes these are is a mask that reading yields, a Bool for each byte from the row's front on. Assumes nothing.
use Rattle.std.specs.Prelude.{ℕ, List, [], ◌∷◌, Bool, true, false, cond, ◌≡◌, get_or, replicate}

-- how a field is marked in document 01: (v), or not
pub data Sensitivity : Type 0 where
  plain veiled : Sensitivity

-- from whom bytes are hidden; `veil` is document 01's
pub data Level : Type 0 where
  veil : Level

abbrev pub hides : Level → Sensitivity → Bool
hides lv plain = false
hides veil veiled = true

-- a question that rows which differ only in hidden bytes may answer apart; for `veil` there is none
abbrev pub excused : Level → ℕ → Bool
excused veil q = false

-- the bytes with 0 wherever the mask says so; a mask may be shorter than the row
abbrev pub hide : List Bool → List ℕ → List ℕ
hide [] bs = bs
hide (m ∷ ms) [] = []
hide (m ∷ ms) (b ∷ bs) = cond m 0 b ∷ hide ms bs

abbrev pub zeros : ℕ → List ℕ
zeros n = replicate n 0

-- two rows agree at each position that the mask does not hide
abbrev pub Outside : List Bool → List ℕ → List ℕ → Type 0
Outside mask row row' = (i : ℕ) → get_or mask i false ≡ false → get_or row i 0 ≡ get_or row' i 0
