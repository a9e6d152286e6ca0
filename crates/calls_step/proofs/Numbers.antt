-- A contact with other numbers: more sent, other numbers covered. It is valid where these are canonical and within their width.
-- Assumes nothing.
use Prim.Native.Nat.{ℕ, ◌+◌, ◌^◌, ◌≤◌, ◌<◌}
use mathlib.Core.List.{List, [], ◌∷◌}
use mathlib.Core.Bool.{true}
use mathlib.Core.Path.{◌≡◌, refl}
use native.Mathlib.Omega.{arith}
use lib.ListN.{length}
use lib.Dec.{leb}
use borrow.Author.Tests.{le-leb}
use Rattle.layout.specs.Form.{fits_many}
use Rattle.layout.specs.Layout.{group}
use Rattle.layout.specs.RowLaws.{Valid}
use Rattle.rows.specs.Values.{Range, Contact}
use Rattle.rows.specs.Checks.{canonical, none_above}
use Rattle.rows.specs.Rows.{range, contact}
use Rattle.rows.specs.Meets.{MeetsContact}
use Rattle.rows.proofs.Proved.{proved}
use Rattle.numbers.specs.Ranges.{Received}
use Rattle.rows.proofs.Tests.{both-and}
use Rattle.contact_laws.proofs.Back.{fits-of}
use Rattle.ledger.specs.Ledger.{with_numbers}
use Rattle.calls_step.proofs.Fits.{ranges-fit, fits-with}

-- ---- more sent, other numbers covered
meets-with : (v : Contact) (n : ℕ) (r : Received) → v.sent_msgno ≤ n → canonical (r.contiguous + 2) r.above ≡ true → MeetsContact v → MeetsContact (with_numbers n r v)
meets-with v n r more canon m =
    let c = m.consistent in
    record {
      card = m.card;
      consistent = record {
        chains-count = c.chains-count;
        chains-current = c.chains-current;
        chains-gens = c.chains-gens;
        skipped-keys = c.skipped-keys;
        skipped-count = c.skipped-count;
        peer-acked = omega (arith, c.peer-acked);
        unacked = record { rises = c.unacked.rises; from = c.unacked.from; to = λ i h. omega (arith, c.unacked.to i h) };
        above = (proved.meets.above (r.contiguous + 2) r.above).0 canon;
        expired = (c.expired.0, λ i h. omega (arith, c.expired.1 i h));
      };
    }

pub valid-with : (N : ℕ) (v : Contact) (n : ℕ) (r : Received) → N < 256 ^ 4 → Valid (contact 3) v → v.sent_msgno ≤ n → n ≤ N → r.contiguous ≤ N → length r.above ≤ 65535
    → canonical (r.contiguous + 2) r.above ≡ true → none_above N r.above ≡ true → Valid (contact 3) (with_numbers n r v)
valid-with N v n r w valid more small low few canon high = record {
  fits = fits-with v n r (omega arith) (omega arith) (omega arith) (λ post. ranges-fit N r.above post (r.contiguous + 2) w canon high) valid.fits;
  granted = (proved.meets.contact 3 (with_numbers n r v)).1 (refl, meets-with v n r more canon ((proved.meets.contact 3 v).0 valid.granted).1);
}

-- ---- what is known of the numbers of a valid contact
ranges-low : (N : ℕ) (rs : List Range) (post : List ℕ) → 256 ^ 4 ≤ N + 1 → fits_many (group range) rs post → none_above N rs ≡ true
ranges-low N [] post w h = refl
ranges-low N (r ∷ rs) post w h = both-and (leb r.to N) (none_above N rs) (le-leb r.to N (omega (arith, h.0.1.0))) (ranges-low N rs post w h.1)

pub record Known (N : ℕ) (v : Contact) : Type 0 where
  pub sent : v.sent_msgno ≤ N
  pub contiguous : v.contiguous ≤ N
  pub few : length v.above ≤ 65535
  pub canon : canonical (v.contiguous + 2) v.above ≡ true
  pub above : none_above N v.above ≡ true
  pub expired-canon : canonical 1 v.expired ≡ true
  pub expired : none_above N v.expired ≡ true

pub known : (N : ℕ) (v : Contact) → 256 ^ 4 ≤ N + 1 → Valid (contact 3) v → Known N v
known N v w valid =
    let fits = fits-of 3 v valid.fits in
    let c = ((proved.meets.contact 3 v).0 valid.granted).1.consistent in
    record {
      sent = omega (arith, fits.sent_msgno);
      contiguous = omega (arith, fits.contiguous);
      few = omega (arith, fits.above.few);
      canon = (proved.meets.above (v.contiguous + 2) v.above).1 c.above;
      above = ranges-low N v.above fits.above.post w fits.above.items;
      expired-canon = (proved.meets.above 1 v.expired).1 c.expired.0;
      expired = ranges-low N v.expired fits.expired.post w fits.expired.items;
    }
