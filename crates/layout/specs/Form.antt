-- Forms: the kinds of field that rows are made of. A form says how a field is read off the front of a row, how it is printed, and which of its bytes are hidden.
-- `leb m n` is m ≤ n, `ltb m n` is m < n, `eqb m n` is m = n; `cond t yes no`. Assumes nothing.
use Rattle.std.specs.Prelude.{ℕ, zero, suc, ◌+◌, ◌*◌, ◌/◌, ◌%◌, ◌^◌, ◌<◌, List, [], ◌∷◌, ◌++◌, map, Bool, true, false, cond, ◌&&◌, ◌||◌, ◌⊎◌, ◌≡◌, length, get_or, take, drop, replicate, leb, ltb, eqb}
use Rattle.std.proofs.Math.Option
use Rattle.std.proofs.Math.Option.{Option, none, some}
use Rattle.std.proofs.Common.{inl, inr}
use Rattle.layout.specs.Questions.{FIELD, FLAG, LEB128}
use Rattle.layout.specs.Read.{Read, value, refused, and_then, onto, after, first}
use Rattle.layout.specs.Veil.{Sensitivity, Level, hides, zeros}

pub record Form (B : Type 0) : Type 1 where
  pub read : List ℕ → Read B
  pub print : B → List ℕ
  -- which bytes of a row it takes and hides, as far as it comes
  pub mask : Level → List ℕ → List Bool
  -- the value with 0 for what is hidden
  pub blank : Level → B → B
  -- what a value must be to be printed with these bytes after it: numbers within their width, runs and lists of their length
  pub fits : B → List ℕ → Type 0
  -- the question that reading the printed value would answer no
  pub refusal : B → Option ℕ

-- ---- n bytes
abbrev pub bytes : Sensitivity → ℕ → Form (List ℕ)
bytes s n = record {
  read = λ row. cond (leb n (length row)) (value (take n row) (drop n row)) (refused FIELD);
  print = λ bs. bs;
  mask = λ lv row. cond (leb n (length row)) (replicate n (hides lv s)) [];
  blank = λ lv bs. cond (hides lv s) (zeros (length bs)) bs;
  fits = λ bs post. length bs ≡ n;
  refusal = λ bs. none;
}

-- ---- n bytes that stand for something, or else are refused by question q
module _ {B : Type 0} where
  abbrev pub or_refused : ℕ → List ℕ → Option B → Read B
  or_refused q rest none = refused q
  or_refused q rest (some b) = value b rest

  abbrev pub code : (n q : ℕ) → (List ℕ → Option B) → (B → List ℕ) → (B → Type 0) → Form B
  code n q of to ok = record {
    read = λ row. cond (leb n (length row)) (or_refused q (drop n row) (of (take n row))) (refused FIELD);
    print = to;
    mask = λ lv row. cond (leb n (length row)) (replicate n false) [];
    blank = λ lv b. b;
    fits = λ b post. ok b;
    refusal = λ b. none;
  }

-- ---- numbers of w bytes: the most significant first
unfoldable pub big_endian : ℕ → List ℕ → ℕ
big_endian zero bs = 0
big_endian (suc w) bs = big_endian w bs * 256 + get_or bs w 0

unfoldable pub bytes_of : ℕ → ℕ → List ℕ
bytes_of zero n = []
bytes_of (suc w) n = bytes_of w (n / 256) ++ (n % 256 ∷ [])

abbrev pub number : ℕ → Form ℕ
number w = code w FIELD (λ bs. some (big_endian w bs)) (bytes_of w) (λ n. n < 256 ^ w)

abbrev pub u8 : Form ℕ
u8 = number 1

abbrev pub u16 : Form ℕ
u16 = number 2

abbrev pub u32 : Form ℕ
u32 = number 4

abbrev pub u64 : Form ℕ
u64 = number 8

-- ---- a byte of a table: `of` says what each byte stands for, `to` which byte stands for it
module _ {B : Type 0} where
  abbrev pub one : (ℕ → Option B) → List ℕ → Option B
  one of bs = of (get_or bs 0 0)

  abbrev pub letter : (q : ℕ) → (ℕ → Option B) → (B → ℕ) → Form B
  letter q of to = code 1 q (one of) (λ b. to b ∷ []) (λ b. of (to b) ≡ some b)

abbrev pub flag_of : ℕ → Option Bool
flag_of b = cond (eqb b 0) (some false) (cond (eqb b 1) (some true) none)

abbrev pub flag_byte : Bool → ℕ
flag_byte true = 1
flag_byte false = 0

abbrev pub flag : Form Bool
flag = letter FLAG flag_of flag_byte

-- ---- unsigned LEB128 of at most five bytes (DWARF 5, section 7.6; Dwarf.antt). `left` bytes may come after this one; `later`: others came before it
unfoldable pub leb_read : (left : ℕ) (later : Bool) → List ℕ → Read ℕ
leb_read zero later [] = refused FIELD
leb_read zero later (b ∷ rest) = cond (ltb 15 b || (later && eqb b 0)) (refused LEB128) (value b rest)
leb_read (suc left) later [] = refused FIELD
leb_read (suc left) later (b ∷ rest) =
    cond (leb 128 b) (onto (λ n. b % 128 + 128 * n) (leb_read left true rest)) (cond (later && eqb b 0) (refused LEB128) (value b rest))

unfoldable pub leb_print : ℕ → ℕ → List ℕ
leb_print zero n = n ∷ []
leb_print (suc left) n = cond (ltb n 128) (n ∷ []) ((n % 128 + 128) ∷ leb_print left (n / 128))

unfoldable pub leb_mask : ℕ → List ℕ → List Bool
leb_mask zero [] = []
leb_mask zero (b ∷ rest) = false ∷ []
leb_mask (suc left) [] = []
leb_mask (suc left) (b ∷ rest) = false ∷ cond (leb 128 b) (leb_mask left rest) []

abbrev pub leb128 : Form ℕ
leb128 = record {
  read = leb_read 4 false;
  print = leb_print 4;
  mask = λ lv. leb_mask 4;
  blank = λ lv n. n;
  fits = λ n post. n < 2 ^ 32;
  refusal = λ n. none;
}

-- ---- all that is left, if question q allows its length; hidden only then
abbrev pub to_end : Sensitivity → (q : ℕ) → (ℕ → Bool) → Form (List ℕ)
to_end s q allowed = record {
  read = λ row. cond (allowed (length row)) (value row []) (refused q);
  print = λ bs. bs;
  mask = λ lv row. cond (allowed (length row)) (replicate (length row) (hides lv s)) [];
  blank = λ lv bs. cond (hides lv s) (zeros (length bs)) bs;
  fits = λ bs post. post ≡ [];
  refusal = λ bs. cond (allowed (length bs)) none (some q);
}

-- ---- nothing: question q is whether no byte is left
abbrev pub nothing : ℕ → List ℕ → Read (Unit {0})
nothing q [] = value tt []
nothing q (b ∷ rest) = refused q

abbrev pub no_more : ℕ → Form (Unit {0})
no_more q = record {
  read = nothing q;
  print = λ u. [];
  mask = λ lv row. [];
  blank = λ lv u. u;
  fits = λ u post. post ≡ [];
  refusal = λ u. none;
}

-- ---- a part that is there exactly if t
module _ {B : Type 0} (f : Form B) where
  abbrev pub print_if : Option B → List ℕ
  print_if none = []
  print_if (some b) = f.print b

  abbrev pub refusal_if : Option B → Option ℕ
  refusal_if none = none
  refusal_if (some b) = f.refusal b

  abbrev pub fits_if : Bool → Option B → List ℕ → Type 0
  fits_if true none post = ⊥
  fits_if true (some b) post = f.fits b post
  fits_if false none post = Unit {0}
  fits_if false (some b) post = ⊥

  abbrev pub only_if : Bool → Form (Option B)
  only_if t = record {
    read = λ row. cond t (onto some (f.read row)) (value none row);
    print = print_if;
    mask = λ lv row. cond t (f.mask lv row) [];
    blank = λ lv. Option.map (f.blank lv);
    fits = fits_if t;
    refusal = refusal_if;
  }

-- ---- n of them, one after the other
module _ {B : Type 0} (f : Form B) where
  unfoldable pub read_many : ℕ → List ℕ → Read (List B)
  read_many zero row = value [] row
  read_many (suc n) row = and_then (f.read row) (λ b mid. onto (λ bs. b ∷ bs) (read_many n mid))

  unfoldable pub print_many : List B → List ℕ
  print_many [] = []
  print_many (b ∷ bs) = f.print b ++ print_many bs

  unfoldable pub mask_many : Level → ℕ → List ℕ → List Bool
  mask_many lv zero row = []
  mask_many lv (suc n) row = f.mask lv row ++ after (f.read row) (λ b mid. mask_many lv n mid)

  abbrev pub fits_many : List B → List ℕ → Type 0
  fits_many [] post = Unit {0}
  fits_many (b ∷ bs) post = f.fits b (print_many bs ++ post) × fits_many bs post

  unfoldable pub refusal_many : List B → Option ℕ
  refusal_many [] = none
  refusal_many (b ∷ bs) = first (f.refusal b) (refusal_many bs)

  abbrev pub times : ℕ → Form (List B)
  times n = record {
    read = read_many n;
    print = print_many;
    mask = λ lv. mask_many lv n;
    blank = λ lv. map (f.blank lv);
    fits = λ bs post. (length bs ≡ n) × fits_many bs post;
    refusal = refusal_many;
  }

-- ---- a row within the row: the next n bytes, all in the row, are read as a row of their own, and question q is whether they are used up
module _ {B : Type 0} where
  abbrev pub used_up : ℕ → List ℕ → Read B → Read B
  used_up q rest (value b []) = value b rest
  used_up q rest (value b (x ∷ xs)) = refused q
  used_up q rest (refused p) = refused p

  abbrev pub inside : (n q : ℕ) → Form B → Form B
  inside n q f = record {
    read = λ row. cond (leb n (length row)) (used_up q (drop n row) (f.read (take n row))) (refused FIELD);
    print = f.print;
    mask = λ lv row. cond (leb n (length row)) (f.mask lv (take n row)) [];
    blank = f.blank;
    fits = λ b post. (length (f.print b) ≡ n) × f.fits b [];
    refusal = f.refusal;
  }

-- ---- a byte 0, and then f; or a byte 1, and then g; another byte is refused by question q
module _ {B C : Type 0} (q : ℕ) (f : Form B) (g : Form C) where
  abbrev pub read_either : List ℕ → Read (B ⊎ C)
  read_either [] = refused FIELD
  read_either (x ∷ row) = cond (eqb x 0) (onto inl (f.read row)) (cond (eqb x 1) (onto inr (g.read row)) (refused q))

  abbrev pub print_either : B ⊎ C → List ℕ
  print_either (inl b) = 0 ∷ f.print b
  print_either (inr c) = 1 ∷ g.print c

  abbrev pub mask_either : Level → List ℕ → List Bool
  mask_either lv [] = []
  mask_either lv (x ∷ row) = false ∷ cond (eqb x 0) (f.mask lv row) (cond (eqb x 1) (g.mask lv row) [])

  abbrev pub blank_either : Level → B ⊎ C → B ⊎ C
  blank_either lv (inl b) = inl (f.blank lv b)
  blank_either lv (inr c) = inr (g.blank lv c)

  abbrev pub fits_either : B ⊎ C → List ℕ → Type 0
  fits_either (inl b) post = f.fits b post
  fits_either (inr c) post = g.fits c post

  abbrev pub refusal_either : B ⊎ C → Option ℕ
  refusal_either (inl b) = f.refusal b
  refusal_either (inr c) = g.refusal c

  abbrev pub either : Form (B ⊎ C)
  either = record {
    read = read_either;
    print = print_either;
    mask = mask_either;
    blank = blank_either;
    fits = fits_either;
    refusal = refusal_either;
  }
