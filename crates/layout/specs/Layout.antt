-- Layouts: a row, as document 01 writes it down. A layout is fields one after the other and the questions asked on the way, and what was read at its end.
-- Reading, printing and hiding are functions of it. It is itself a form, so rows hold groups of fields and lists of them. Assumes nothing.
use Rattle.std.specs.Prelude.{ℕ, List, [], ◌++◌, Bool, true, false, cond, ◌≡◌, length}
use Rattle.std.proofs.Math.Option.{Option, none, some}
use Rattle.layout.specs.Read.{Read, value, refused, and_then, after, first}
use Rattle.layout.specs.Veil.{Level, veil, hide}
use Rattle.layout.specs.Form.{Form, flag, u16, no_more, only_if, times, inside}

--     done a          no field is left; a is what was read
--     field f get k   a field of form f, which stands at `get` in the value; k is what follows
--     ask q t k       question q, refused unless t
pub data Layout (A : Type 0) : Type 1 where
  done : A → Layout A
  field : {B : Type 0} → Form B → (A → B) → (B → Layout A) → Layout A
  ask : ℕ → Bool → Layout A → Layout A

module _ {A : Type 0} where
  unfoldable pub parse : Layout A → List ℕ → Read A
  parse (done a) row = value a row
  parse (field f get k) row = and_then (f.read row) (λ b rest. parse (k b) rest)
  parse (ask q t k) row = cond t (parse k row) (refused q)

  unfoldable pub print : Layout A → A → List ℕ
  print (done a) v = []
  print (field f get k) v = f.print (get v) ++ print (k (get v)) v
  print (ask q t k) v = print k v

  unfoldable pub mask_of : Layout A → Level → List ℕ → List Bool
  mask_of (done a) lv row = []
  mask_of (field f get k) lv row = f.mask lv row ++ after (f.read row) (λ b rest. mask_of (k b) lv rest)
  mask_of (ask q t k) lv row = cond t (mask_of k lv row) []

  unfoldable pub blank_of : Layout A → Level → A → A
  blank_of (done a) lv v = a
  blank_of (field f get k) lv v = blank_of (k (f.blank lv (get v))) lv v
  blank_of (ask q t k) lv v = blank_of k lv v

  abbrev pub fits_of : Layout A → A → List ℕ → Type 0
  fits_of (done a) v post = a ≡ v
  fits_of (field f get k) v post = f.fits (get v) (print (k (get v)) v ++ post) × fits_of (k (get v)) v post
  fits_of (ask q t k) v post = fits_of k v post

  unfoldable pub refusal_of : Layout A → A → Option ℕ
  refusal_of (done a) v = none
  refusal_of (field f get k) v = first (f.refusal (get v)) (refusal_of (k (get v)) v)
  refusal_of (ask q t k) v = cond t (refusal_of k v) (some q)

  abbrev pub group : Layout A → Form A
  group l = record {
    read = parse l;
    print = print l;
    mask = mask_of l;
    blank = blank_of l;
    fits = fits_of l;
    refusal = refusal_of l;
  }

-- ---- how a layout is written: a `do` block, in which `x ← field f get` names a field
module _ {A B : Type 0} where
  abbrev pub ◌>>=◌ : ((B → Layout A) → Layout A) → (B → Layout A) → Layout A
  ◌>>=◌ at k = at k

module _ {A : Type 0} where
  abbrev pub ◌>>◌ : (Layout A → Layout A) → Layout A → Layout A
  ◌>>◌ question k = question k

  -- question q: no byte is left
  abbrev pub end : ℕ → Layout A → Layout A
  end q k = field (no_more q) (λ v. tt) (λ u. k)

-- ---- forms that are layouts
abbrev pub present : {B : Type 0} → Option B → Bool
present none = false
present (some b) = true

module _ {B : Type 0} (f : Form B) where
  -- a flag, and f if it is 1
  abbrev pub optional_layout : Layout (Option B)
  optional_layout = do
    here ← field flag present
    b ← field (only_if f here) (λ o. o)
    done b

  abbrev pub optional : Form (Option B)
  optional = group optional_layout

  -- a count u16, and so many f
  abbrev pub list_layout : Layout (List B)
  list_layout = do
    n ← field u16 length
    bs ← field (times f n) (λ bs. bs)
    done bs

  abbrev pub list : Form (List B)
  list = group list_layout

  -- a length u16, and f in so many bytes, used up by question q
  abbrev pub sized_layout : ℕ → Layout B
  sized_layout q = do
    n ← field u16 (λ b. length (f.print b))
    b ← field (inside n q f) (λ b. b)
    done b

  abbrev pub sized : ℕ → Form B
  sized q = group (sized_layout q)

-- ---- a whole row
pub data Answer (A : Type 0) : Type 0 where
  accepted : A → Answer A
  refused_by : ℕ → Answer A

module _ {A : Type 0} where
  abbrev pub answer : Read A → Answer A
  answer (value a rest) = accepted a
  answer (refused q) = refused_by q

  abbrev pub read_row : Layout A → List ℕ → Answer A
  read_row l row = answer (parse l row)

  -- which bytes of a row are VEILED, document 01's term
  abbrev pub veiled_bytes : Layout A → List ℕ → List Bool
  veiled_bytes l row = mask_of l veil row

  -- the copy of a row with 0 for what is hidden
  abbrev pub hidden_row : Layout A → Level → List ℕ → List ℕ
  hidden_row l lv row = hide (mask_of l lv row) row
