-- The bytes of the part up to the card: they stand around the card's beacon_key.
-- Assumes nothing.
use Prim.Native.Nat.{ℕ, ◌+◌}
use mathlib.Core.List.{List, [], ◌∷◌, ◌++◌, append_assoc, append-nil}
use mathlib.Core.Bool.{Bool, true, false, cond}
use mathlib.Core.Option.{none, some}
use mathlib.Core.Path.{◌≡◌, refl, sym, ap, ◌∙◌}
use native.Mathlib.Omega.{arith}
use lib.ListN.{length, length-append, length-drop}
use lib.Seq.{length-take-le}
use Rattle.layout.specs.Veil.{veil, plain, zeros}
use Rattle.layout.specs.Form.{bytes_of, bytes, print_if, fits_if}
use Rattle.layout.specs.Layout.{print, blank_of, fits_of}
use Rattle.layout.specs.Layout as layout
use Rattle.layout.proofs.Front.{length-bytes_of}
use Rattle.layout.proofs.Derived.{only_if-plain}
use Rattle.rows.specs.Values.{Card}
use Rattle.rows.specs.Checks.{kci}
use Rattle.rows.specs.Rows.{card, role_byte, verification_byte}
use Rattle.contact_parts.specs.Parts.{Paired, paired}
use Rattle.contact_parts.specs.Offsets.{paired_from, CardOffsets}
use Rattle.contact_parts.specs.declared.PairedAt.{PairedAt}
use Rattle.veil_contact.specs.Veiled.{Around, Stands, card_tail}
use Rattle.veil_contact.proofs.Around.{plain-long, hidden-long}

-- ---- a card
abbrev static : Card → List ℕ
static c = print_if (bytes plain 1184) c.static_ek

card-blank : (c : Card) → length c.beacon_key ≡ 32 → blank_of card veil c ≡ record { caps = c.caps; beacon_day = c.beacon_day; beacon_key = zeros 32; name = c.name; static_ek = c.static_ek }
unfolding layout.blank_of
card-blank c h = λ i. record { caps = c.caps; beacon_day = c.beacon_day; beacon_key = zeros (h i); name = c.name; static_ek = only_if-plain (bytes plain 1184) veil (λ bs. refl) c.static_ek i }

card-around : (c : Card) → length c.beacon_key ≡ 32 → Around (print card c) (print card (blank_of card veil c)) 5 (1 + length c.name + length (static c))
unfolding layout.print
card-around c h = record {
  front = bytes_of 1 c.caps ++ bytes_of 4 c.beacon_day;
  key = c.beacon_key;
  back = bytes_of 1 (length c.name) ++ (c.name ++ (static c ++ []));
  shown = simp append_assoc;
  veiled = ap (λ (v : Card). print card v) (card-blank c h) ∙ simp append_assoc;
  head-long = simp (length-append, length-bytes_of);
  key-long = h;
  tail-long = rw append-nil (simp (length-append, length-bytes_of) (omega arith));
}

-- ---- the part
tidy : (a b c : ℕ) (ps ts ns ls cs : List ℕ) → a ∷ (b ∷ (c ∷ (ps ++ (ts ++ (ns ++ ((ls ++ (cs ++ [])) ++ [])))))) ≡ (a ∷ (b ∷ (c ∷ (ps ++ (ts ++ (ns ++ ls)))))) ++ cs
tidy a b c ps ts ns ls cs = simp (append_assoc, append-nil)

-- what stands before a card of n bytes
abbrev front : Paired → ℕ → List ℕ
front v n = role_byte v.role ∷ (3 ∷ (verification_byte v.verification ∷ (v.pair_id ++ (v.th ++ (v.nonce_b ++ bytes_of 2 n)))))

paired-print : (v : Paired) → print paired v ≡ front v (length (print card v.card)) ++ print card v.card
unfolding layout.print
paired-print v = tidy (role_byte v.role) 3 (verification_byte v.verification) v.pair_id v.th v.nonce_b (bytes_of 2 (length (print card v.card))) (print card v.card)

blank-print : (v : Paired) → print paired (blank_of paired veil v) ≡ front v (length (print card (blank_of card veil v.card))) ++ print card (blank_of card veil v.card)
unfolding layout.blank_of
blank-print v = paired-print (blank_of paired veil v)

paired-around : (v : Paired) (post : List ℕ) → fits_of paired v post → Around (print paired v) (print paired (blank_of paired veil v)) 90 (1 + length v.card.name + length (static v.card))
paired-around v post h =
    let n = length (print card v.card) in
    let a = card-around v.card h.1.1.1.1.1.1.0.1.0.1.1.1.0 in
    let same : length (print card (blank_of card veil v.card)) ≡ n = hidden-long a ∙ sym (plain-long a) in
    record {
      front = front v n ++ a.front;
      key = a.key;
      back = a.back;
      shown = paired-print v ∙ ap (λ (l : List ℕ). front v n ++ l) a.shown ∙ sym (append_assoc (front v n) a.front (a.key ++ a.back));
      veiled = blank-print v ∙ rw same (ap (λ (l : List ℕ). front v n ++ l) a.veiled ∙ sym (append_assoc (front v n) a.front (zeros 32 ++ a.back)));
      head-long = simp (length-append, length-bytes_of) (omega (arith, a.head-long, h.1.1.1.0, h.1.1.1.1.0, h.1.1.1.1.1.0));
      key-long = a.key-long;
      tail-long = a.tail-long;
    }

-- ---- the part that stands in a row
static-long : (t : Bool) (bs post : List ℕ) → fits_if (bytes plain 1184) t (cond t (some bs) none) post → length (print_if (bytes plain 1184) (cond t (some bs) none)) ≡ cond t 1184 0
static-long true bs post h = h
static-long false bs post h = refl

module _ (row : List ℕ) (p : PairedAt) (places : CardOffsets row p.card) (stands : Stands paired row 0 (paired_from row p)) where
  name-long : length (paired_from row p).card.name ≡ p.card.at.name_len
  name-long = length-take-le p.card.at.name_len _ (rw length-drop (omega (arith, places.runs.name)))

  pub paired-found : {tail : ℕ} → tail ≡ card_tail p.card.at → Around (print paired (paired_from row p)) (print paired (blank_of paired veil (paired_from row p))) 90 tail
  paired-found {tail} e =
      let fits = stands.fits.1.1.1.1.1.1.0.1.0.1 in
      let static-is = static-long (kci p.card.at.caps) _ _ fits.1.1.1.1.1.0 in
      let same : tail ≡ 1 + length (paired_from row p).card.name + length (static (paired_from row p).card) = rw (e, name-long, static-is) in
      rw same (paired-around (paired_from row p) stands.post stands.fits)
