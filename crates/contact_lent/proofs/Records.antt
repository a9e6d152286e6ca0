-- Chains and skipped keys in places: where each ends, and what it is read as. Both start with gen, dir, a number and a key.
-- Assumes nothing.
use Prim.Native.Nat.{ℕ, suc, ◌+◌, ◌*◌, ◌≤◌, ◌<◌}
use mathlib.Core.List.{List, [], ◌∷◌, ◌++◌, append_assoc, append-nil}
use mathlib.Core.Bool.{Bool, true, false, cond}
use mathlib.Core.Option.{Option, none, some}
use mathlib.Core.Path.{◌≡◌, refl, sym, ap, ◌∙◌}
use native.Mathlib.Omega.{arith}
use lib.ListN.{length, get_or, take, drop, length-append, length-drop}
use lib.Seq.{take-add, drop-drop, drop-cons, length-take-le, get_or_at}
use lib.Dec.{eqb}
use borrow.Author.Tests.{eqb-true}
use Rattle.layout.specs.Questions.{FIELD, FLAG, CODE}
use Rattle.layout.specs.Read.{Read, value, refused, and_then, onto}
use Rattle.layout.specs.Veil.{veiled}
use Rattle.layout.specs.Form.{Form, print_many, or_refused, big_endian, bytes_of, bytes, number, u8, u64, letter, flag_of, flag_byte, print_if}
use Rattle.layout.specs.Layout.{Layout, done, field, parse, print, group, optional, present}
use Rattle.layout.specs.Layout as layout
use Rattle.layout.specs.RowLaws.{Bytes}
use Rattle.layout.proofs.Front.{front-in, none≢some, length-bytes_of}
use Rattle.layout.proofs.Steps.{field_is}
use Rattle.rows.specs.Values.{Chain, Skipped}
use Rattle.rows.specs.Rows.{chain, skipped, dir, dir_of, dir_byte}
use Rattle.rows.specs.declared.Dir.{Dir}
use Rattle.rows.proofs.Lawful.{chain-lawful, skipped-lawful}
use Rattle.contact_lent.specs.Lent.{Granted, chains_of, skipped_of, chain_size, chains_bytes, rejoin}
use Rattle.contact_lent.proofs.Fill.{Taken}
use Rattle.contact_lent.proofs.Offsets.{Placed, Narrow, rejoin-onto, places-printed, bytes-exact}

-- ---- a field at the front
number-front : (w : ℕ) (bs post : List ℕ) → length bs ≡ w → (number w).read (bs ++ post) ≡ value (big_endian w bs) post
number-front w bs post h = front-in w (λ t rest. or_refused FIELD rest (some (big_endian w t))) bs post h

letter-front : {B : Type 0} (q : ℕ) (of : ℕ → Option B) (to : B → ℕ) (x : ℕ) (post : List ℕ) → (letter q of to).read (x ∷ post) ≡ or_refused q post (of x)
letter-front q of to x post = front-in 1 (λ t rest. or_refused q rest (of (get_or t 0 0))) (x ∷ []) post refl

module _ {A B : Type 0} (f : Form B) (get : A → B) (make : B → A) where
  last-is : (row : List ℕ) → parse (field f get (λ b. done (make b))) row ≡ onto make (f.read row)
  unfolding layout.parse
  last-is row = go (f.read row)
    where
      go : (x : Read B) → and_then x (λ b rest. value (make b) rest) ≡ onto make x
      go (value b rest) = refl
      go (refused q) = refl

-- ---- gen, dir, a number of w bytes, a key, and a last field: what a chain and a skipped key are
record Keyed (A B : Type 0) : Type 1 where
  pub w : ℕ
  pub gen : A → ℕ
  pub its-dir : A → Dir
  pub n : A → ℕ
  pub key : A → List ℕ
  pub f : Form B
  pub last : A → B
  pub make : ℕ → Dir → ℕ → List ℕ → B → A

module _ {A B : Type 0} (K : Keyed A B) where
  abbrev keyed : Layout A
  keyed =
      field u8 K.gen (λ g. field dir K.its-dir (λ d. field (number K.w) K.n (λ i.
      field (bytes veiled 32) K.key (λ k. field K.f K.last (λ b. done (K.make g d i k b))))))

  -- what the fields at the front of l make of the last one
  abbrev with : List ℕ → Option Dir → Read B → Read A
  with l none x = refused CODE
  with l (some d) x = onto (K.make (big_endian 1 (take 1 l)) d (big_endian K.w (take K.w (drop 2 l))) (take 32 (drop (2 + K.w) l))) x

  module _ (l rest : List ℕ) (h : 34 + K.w ≤ length l) where
    split : (w : ℕ) → 34 + w ≤ length l → take (34 + w) l ++ rest ≡ take 1 l ++ (get_or l 1 0 ∷ (take w (drop 2 l) ++ (take 32 (drop (2 + w) l) ++ rest)))
    split w h =
        let n34 : 34 + w ≡ 1 + (1 + (w + 32)) = omega arith in
        let a : take (34 + w) l ≡ take 1 l ++ take (1 + (w + 32)) (drop 1 l) = rw n34 (take-add 1 (1 + (w + 32)) l) in
        let b : take (1 + (w + 32)) (drop 1 l) ≡ take 1 (drop 1 l) ++ take (w + 32) (drop 2 l) = take-add 1 (w + 32) (drop 1 l) ∙ rw (drop-drop 1 1 l) in
        let c : take (w + 32) (drop 2 l) ≡ take w (drop 2 l) ++ take 32 (drop (2 + w) l) = take-add w 32 (drop 2 l) ∙ rw (drop-drop w 2 l) in
        let d : drop 1 l ≡ get_or l 1 0 ∷ drop 2 l = drop-cons l 1 0 (omega arith) in
        rw (a, b, c, d) (simp append_assoc)

    part : (k at : ℕ) → at + k ≤ 34 + K.w → length (take k (drop at l)) ≡ k
    part k at z = length-take-le k (drop at l) (rw (length-drop at l) (omega arith))

    -- what is left from the key, from the number and from dir on
    abbrev at3 : List ℕ
    at3 = take 32 (drop (2 + K.w) l) ++ rest

    abbrev at2 : List ℕ
    at2 = take K.w (drop 2 l) ++ at3

    abbrev at1 : List ℕ
    at1 = get_or l 1 0 ∷ at2

    read-keyed : parse keyed (take (34 + K.w) l ++ rest) ≡ with l (dir_of (get_or l 1 0)) (K.f.read rest)
    read-keyed =
        ap (λ (row : List ℕ). parse keyed row) (split K.w h)
        ∙ field_is _ u8 K.gen _ (value (big_endian 1 (take 1 l)) at1) (number-front 1 (take 1 l) at1 (length-take-le 1 l (omega arith)))
        ∙ go (dir_of (get_or l 1 0)) (letter-front CODE dir_of dir_byte (get_or l 1 0) at2)
      where
        go : (o : Option Dir) → dir.read at1 ≡ or_refused CODE at2 o
            → parse (field dir K.its-dir (λ d. field (number K.w) K.n (λ i. field (bytes veiled 32) K.key (λ k. field K.f K.last (λ b. done (K.make (big_endian 1 (take 1 l)) d i k b)))))) at1
            ≡ with l o (K.f.read rest)
        go none e = field_is at1 dir K.its-dir _ (refused CODE) e
        go (some d) e =
            field_is at1 dir K.its-dir _ (value d at2) e
            ∙ field_is at2 (number K.w) K.n _ (value (big_endian K.w (take K.w (drop 2 l))) at3) (number-front K.w (take K.w (drop 2 l)) at3 (part K.w 2 (omega arith)))
            ∙ field_is at3 (bytes veiled 32) K.key _ (value (take 32 (drop (2 + K.w) l)) rest) (front-in 32 (λ t rest. value t rest) (take 32 (drop (2 + K.w) l)) rest (part 32 (2 + K.w) (omega arith)))
            ∙ last-is K.f K.last _ rest

  with-rejoin : (l : List ℕ) (d : Option Dir) (post : List ℕ) (x : Read B) → with l d (rejoin post x) ≡ rejoin post (with l d x)
  with-rejoin l none post x = refl
  with-rejoin l (some d) post x = sym (rejoin-onto _ post x)

  -- as far as the last field does not look at what follows it, neither does the record
  keyed-place : (l rest rest' post : List ℕ) → 34 + K.w ≤ length l → K.f.read rest ≡ rejoin post (K.f.read rest')
      → parse keyed (take (34 + K.w) l ++ rest) ≡ rejoin post (parse keyed (take (34 + K.w) l ++ rest'))
  keyed-place l rest rest' post h e =
      let d = dir_of (get_or l 1 0) in
      read-keyed l rest h
      ∙ ap (λ (x : Read B). with l d x) e
      ∙ with-rejoin l d post (K.f.read rest')
      ∙ sym (ap (λ (x : Read A). rejoin post x) (read-keyed l rest' h))

  -- how it is printed
  abbrev front : A → List ℕ
  front v = bytes_of 1 (K.gen v) ++ ((dir_byte (K.its-dir v) ∷ []) ++ (bytes_of K.w (K.n v) ++ K.key v))

  keyed-print : (v : A) → print keyed v ≡ front v ++ K.f.print (K.last v)
  unfolding layout.print
  keyed-print v = simp (append_assoc, append-nil)

  length_front : (v : A) → length (K.key v) ≡ 32 → length (front v) ≡ 34 + K.w
  length_front v h = simp (length-append, length-bytes_of) (omega arith)

  length-keyed : (v : A) → length (K.key v) ≡ 32 → length (print keyed v) ≡ 34 + K.w + length (K.f.print (K.last v))
  length-keyed v h = ap (λ (x : List ℕ). length x) (keyed-print v) ∙ length-append (front v) (K.f.print (K.last v)) ∙ rw (length_front v h)

-- ---- skipped keys
abbrev skipped_key : Keyed Skipped ℕ
skipped_key = record {
  w = 4;
  gen = λ k. k.gen;
  its-dir = λ k. k.dir;
  n = λ k. k.idx;
  key = λ k. k.key;
  f = u64;
  last = λ k. k.created_s;
  make = λ g d i k s. record { gen = g; dir = d; idx = i; key = k; created_s = s };
}

number-whole : (w : ℕ) (bs : List ℕ) → length bs ≡ w → (number w).read bs ≡ value (big_endian w bs) []
number-whole w bs h = ap (λ (x : List ℕ). (number w).read x) (sym (append-nil bs)) ∙ number-front w bs [] h

number-place : (w : ℕ) (bs post : List ℕ) → length bs ≡ w → (number w).read (bs ++ post) ≡ rejoin post ((number w).read bs)
number-place w bs post h = number-front w bs post h ∙ sym (ap (λ (x : Read ℕ). rejoin post x) (number-whole w bs h))

abbrev created : List ℕ → List ℕ
created l = take 8 (drop 38 l)

-- what is read from a place: dir decides
abbrev pub key_from : List ℕ → Option Dir → Read Skipped
key_from l d = with skipped_key l d (value (big_endian 8 (created l)) [])

module _ (l : List ℕ) (h : 46 ≤ length l) where
  skipped-cut : take 46 l ≡ take 38 l ++ created l
  skipped-cut = take-add 38 8 l

  length-created : length (created l) ≡ 8
  length-created = length-take-le 8 (drop 38 l) (rw (length-drop 38 l) (omega arith))

  skipped-place : (post : List ℕ) → (group skipped).read (take 46 l ++ post) ≡ rejoin post ((group skipped).read (take 46 l))
  skipped-place post =
      rw (skipped-cut, append_assoc (take 38 l) (created l) post)
      (keyed-place skipped_key l (created l ++ post) (created l) post (omega arith) (number-place 8 (created l) post length-created))

  pub read-skipped : parse skipped (take 46 l) ≡ key_from l (dir_of (get_or l 1 0))
  read-skipped =
      ap (λ (x : List ℕ). parse skipped x) skipped-cut
      ∙ read-keyed skipped_key l (created l) (omega arith)
      ∙ ap (λ (x : Read ℕ). with skipped_key l (dir_of (get_or l 1 0)) x) (number-whole 8 (created l) length-created)

pub length-skipped : (k : Skipped) (post : List ℕ) → (group skipped).fits k post → length (print skipped k) ≡ 46
length-skipped k post h = length-keyed skipped_key k h.1.1.1.0 ∙ rw length-bytes_of

pub skipped-placed : Placed 46 (group skipped) (λ l. 46)
skipped-placed = record {
  lawful = skipped-lawful;
  most = λ l. omega arith;
  read-place = λ l post h. skipped-place l h post;
  print-place = λ k post rest h. sym (length-skipped k post h);
}

pub skipped-narrow : Narrow 46 (group skipped)
skipped-narrow = record { lawful = skipped-lawful; most = λ k post h. omega (arith, length-skipped k post h); anywhere = λ k post post' h. h }

-- places that no question refuses are written as they stand
pub skipped-row : (n : ℕ) (l : List ℕ) → Bytes l → 46 * n ≤ length l → Granted 46 (group skipped) n l → print_many (group skipped) (skipped_of n l) ≡ take (46 * n) l
skipped-row n l by h g = sym (places-printed 46 (group skipped) (λ l. 46) skipped-placed n l g.reads by h).bytes ∙ bytes-exact 46 n l

-- ---- superseded_s, behind its flag
pub flag_one : (x : ℕ) (t : Bool) → flag_of x ≡ some t → eqb x 1 ≡ t
flag_one x t e = go (eqb x 0) (eqb x 1) refl refl e
  where
    go : (a b : Bool) → eqb x 0 ≡ a → eqb x 1 ≡ b → cond a (some false) (cond b (some true) none) ≡ some t → b ≡ t
    go true true p q e = absurd (omega (arith, eqb-true x 0 p, eqb-true x 1 q))
    go true false p q e = cc
    go false true p q e = cc
    go false false p q e = absurd (none≢some e)

abbrev behind : Option Bool → List ℕ → Read (Option ℕ)
behind none rest = refused FLAG
behind (some false) rest = value none rest
behind (some true) rest = onto some (u64.read rest)

read-flag : (x : ℕ) (rest : List ℕ) → (optional u64).read (x ∷ rest) ≡ behind (flag_of x) rest
unfolding layout.parse
read-flag x rest = rw (letter-front FLAG flag_of flag_byte x rest) (go (flag_of x))
  where
    there : (y : Read ℕ) → and_then (onto some y) (λ o rest. value o rest) ≡ onto some y
    there (value n rest) = refl
    there (refused q) = refl

    go : (o : Option Bool) → and_then (or_refused FLAG rest o) (λ here mid. and_then (cond here (onto some (u64.read mid)) (value none mid)) (λ o rest. value o rest)) ≡ behind o rest
    go none = refl
    go (some false) = refl
    go (some true) = there (u64.read rest)

flag-place : (x : ℕ) (r post : List ℕ) → 8 ≤ length r → (optional u64).read (x ∷ (cond (eqb x 1) (take 8 r) [] ++ post)) ≡ rejoin post ((optional u64).read (x ∷ take 8 r))
flag-place x r post h =
    read-flag x (cond (eqb x 1) (take 8 r) [] ++ post) ∙ go (flag_of x) refl ∙ sym (ap (λ (y : Read (Option ℕ)). rejoin post y) (read-flag x (take 8 r)))
  where
    go : (o : Option Bool) → flag_of x ≡ o → behind o (cond (eqb x 1) (take 8 r) [] ++ post) ≡ rejoin post (behind o (take 8 r))
    go none e = refl
    go (some false) e = rw (flag_one x false e)
    go (some true) e = rw (flag_one x true e, number-place 8 (take 8 r) post (length-take-le 8 r h)) (sym (rejoin-onto some post (u64.read (take 8 r))))

flag-anywhere : (s : Option ℕ) (post post' : List ℕ) → (optional u64).fits s post → (optional u64).fits s post'
flag-anywhere none post post' h = h
flag-anywhere (some n) post post' h = h

-- ---- chains
abbrev chain_key : Keyed Chain (Option ℕ)
chain_key = record {
  w = 8;
  gen = λ c. c.gen;
  its-dir = λ c. c.dir;
  n = λ c. c.next;
  key = λ c. c.key;
  f = optional u64;
  last = λ c. c.superseded_s;
  make = λ g d i k s. record { gen = g; dir = d; next = i; key = k; superseded_s = s };
}

cut : (k j : ℕ) (l post : List ℕ) → k < length l → take (k + suc j) l ++ post ≡ take k l ++ (get_or l k 0 ∷ (take j (drop (suc k) l) ++ post))
cut k j l post h = rw (take-add k (suc j) l, drop-cons l k 0 h) (append_assoc (take k l) (get_or l k 0 ∷ take j (drop (suc k) l)) post)

abbrev superseded : List ℕ → List ℕ
superseded l = take 8 (drop 43 l)

-- what is read from a place: dir and the flag decide
abbrev superseded_from : List ℕ → Option Bool → Read (Option ℕ)
superseded_from l none = refused FLAG
superseded_from l (some false) = value none (superseded l)
superseded_from l (some true) = value (some (big_endian 8 (superseded l))) []

abbrev pub chain_from : List ℕ → Option Dir → Option Bool → Read Chain
chain_from l d o = with chain_key l d (superseded_from l o)

size-most : (t : Bool) → cond t 51 43 ≤ 51
size-most true = omega arith
size-most false = omega arith

module _ (l : List ℕ) (h : 51 ≤ length l) where
  chain-cut : (post : List ℕ) → take (chain_size l) l ++ post ≡ take 42 l ++ (get_or l 42 0 ∷ (cond (eqb (get_or l 42 0) 1) (superseded l) [] ++ post))
  chain-cut post = go (eqb (get_or l 42 0) 1)
    where
      go : (t : Bool) → take (cond t 51 43) l ++ post ≡ take 42 l ++ (get_or l 42 0 ∷ (cond t (superseded l) [] ++ post))
      go true = cut 42 8 l post (omega arith)
      go false = cut 42 0 l post (omega arith)

  chain-whole : take 51 l ≡ take 42 l ++ (get_or l 42 0 ∷ superseded l)
  chain-whole = sym (append-nil (take 51 l)) ∙ cut 42 8 l [] (omega arith) ∙ ap (λ (x : List ℕ). take 42 l ++ (get_or l 42 0 ∷ x)) (append-nil (superseded l))

  chain-place : (post : List ℕ) → (group chain).read (take (chain_size l) l ++ post) ≡ rejoin post ((group chain).read (take 51 l))
  chain-place post =
      ap (λ (x : List ℕ). parse chain x) (chain-cut post)
      ∙ keyed-place chain_key l _ (get_or l 42 0 ∷ superseded l) post (omega arith) (flag-place (get_or l 42 0) (drop 43 l) post (rw (length-drop 43 l) (omega arith)))
      ∙ ap (λ (x : List ℕ). rejoin post (parse chain x)) (sym chain-whole)

  superseded-is : (o : Option Bool) → behind o (superseded l) ≡ superseded_from l o
  superseded-is none = refl
  superseded-is (some false) = refl
  superseded-is (some true) = ap (λ (x : Read ℕ). onto some x) (number-whole 8 (superseded l) (length-take-le 8 (drop 43 l) (rw (length-drop 43 l) (omega arith))))

  pub read-chain : parse chain (take 51 l) ≡ chain_from l (dir_of (get_or l 1 0)) (flag_of (get_or l 42 0))
  read-chain =
      ap (λ (x : List ℕ). parse chain x) chain-whole
      ∙ read-keyed chain_key l (get_or l 42 0 ∷ superseded l) (omega arith)
      ∙ ap (λ (x : Read (Option ℕ)). with chain_key l (dir_of (get_or l 1 0)) x) (read-flag (get_or l 42 0) (superseded l) ∙ superseded-is (flag_of (get_or l 42 0)))

abbrev length_with : Option ℕ → ℕ
length_with none = 43
length_with (some s) = 51

length-flag : (s : Option ℕ) → 42 + length ((optional u64).print s) ≡ length_with s
unfolding layout.print
length-flag none = refl
length-flag (some s) = simp (length-append, length-bytes_of) (omega arith)

length-chain : (c : Chain) (post : List ℕ) → (group chain).fits c post → length (print chain c) ≡ length_with c.superseded_s
length-chain c post h = length-keyed chain_key c h.1.1.1.0 ∙ length-flag c.superseded_s

most-with : (s : Option ℕ) → length_with s ≤ 51
most-with none = omega arith
most-with (some s) = omega arith

-- a chain as a row has it: the flag stands at 42 and tells its length
module _ (c : Chain) (post t : List ℕ) (h : (group chain).fits c post) where
  flag_at : get_or (print chain c ++ t) 42 0 ≡ flag_byte (present c.superseded_s)
  unfolding layout.print
  flag_at =
      let x = flag_byte (present c.superseded_s) in
      let rest = print_if u64 c.superseded_s ++ [] in
      ap (λ (l : List ℕ). get_or (l ++ t) 42 0) (keyed-print chain_key c)
      ∙ ap (λ (l : List ℕ). get_or l 42 0) (append_assoc (front chain_key c) (x ∷ rest) t)
      ∙ get_or_at (front chain_key c) x (rest ++ t) 0 42 (length_front chain_key c h.1.1.1.0)

  size-with : (s : Option ℕ) → cond (eqb (flag_byte (present s)) 1) 51 43 ≡ length_with s
  size-with none = refl
  size-with (some s) = refl

  pub chain-size : chain_size (print chain c ++ t) ≡ length (print chain c)
  chain-size = rw flag_at (size-with c.superseded_s ∙ sym (length-chain c post h))

pub chain-placed : Placed 51 (group chain) chain_size
chain-placed = record {
  lawful = chain-lawful;
  most = λ l. size-most (eqb (get_or l 42 0) 1);
  read-place = λ l post h. chain-place l h post;
  print-place = λ c post rest h. chain-size c post rest h;
}

pub chain-narrow : Narrow 51 (group chain)
unfolding layout.print
chain-narrow = record {
  lawful = chain-lawful;
  most = λ c post h. omega (arith, length-chain c post h, most-with c.superseded_s);
  anywhere = λ c post post' h. (h.0, (h.1.0, (h.1.1.0, (h.1.1.1.0, (flag-anywhere c.superseded_s post post' h.1.1.1.1.0, h.1.1.1.1.1)))));
}

least-with : (s : Option ℕ) → 43 ≤ length_with s
least-with none = omega arith
least-with (some s) = omega arith

-- the chain at p of a row, of which its flag tells the length
pub record ChainAt (row : List ℕ) (p : ℕ) (c : Chain) (next : ℕ) : Type 0 where
  pub size : chain_size (drop p row) ≡ length (print chain c)
  pub ends : next ≡ p + length (print chain c)
  pub least : 43 ≤ length (print chain c)
  pub bytes : take (chain_size (drop p row)) (drop p row) ≡ print chain c

pub chain-at : (row : List ℕ) (p : ℕ) {c : Chain} {next : ℕ} → Taken (group chain) row p c next → ChainAt row p c next
chain-at row p {c} {next} t =
    let size : chain_size (drop p row) ≡ length (print chain c) = rw (← t.stands) (chain-size c (drop next row) (drop next row) t.fits) in
    record {
      size = size;
      ends = t.ends;
      least = omega (arith, length-chain c (drop next row) t.fits, least-with c.superseded_s);
      bytes = rw size t.bytes;
    }

-- places that no question refuses are written as a row has them
pub chains-row : (n : ℕ) (l : List ℕ) → Bytes l → 51 * n ≤ length l → Granted 51 (group chain) n l → chains_bytes n l ≡ print_many (group chain) (chains_of n l)
chains-row n l by h g = (places-printed 51 (group chain) chain_size chain-placed n l g.reads by h).bytes
