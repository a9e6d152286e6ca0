-- A contact with other numbers can be printed where these are within their width: no field but the row's end looks at what comes after it.
-- Assumes nothing.
use Prim.Native.Nat.{ℕ, ◌+◌, ◌^◌, ◌<◌}
use mathlib.Core.List.{List, [], ◌∷◌}
use mathlib.Core.Bool.{true, ◌&&◌}
use mathlib.Core.Option.{Option, none, some}
use mathlib.Core.Path.{◌≡◌, refl}
use native.Mathlib.Omega.{arith}
use lib.ListN.{length}
use lib.Dec.{leb}
use borrow.Author.Tests.{leb-true}
use Rattle.layout.specs.Form.{u64, fits_many}
use Rattle.layout.specs.Layout.{fits_of, group, optional}
use Rattle.layout.specs.Layout as layout
use Rattle.rows.specs.Values.{Pending, Send, Chain, Skipped, Range, Contact}
use Rattle.rows.specs.Checks.{canonical, none_above}
use Rattle.rows.specs.Rows.{pending, send, chain, skipped, range, contact}
use Rattle.numbers.specs.Ranges.{Received}
use Rattle.rows.proofs.Tests.{and_both}
use Rattle.ledger.specs.Ledger.{with_numbers}

-- ---- no field but a sealed text and the row's end looks at what comes after
pending-post : (o : Option Pending) (post post' : List ℕ) → (optional (group pending)).fits o post → (optional (group pending)).fits o post'
pending-post none post post' h = h
pending-post (some p) post post' h = h

send-post : (o : Option Send) (post post' : List ℕ) → (optional (group send)).fits o post → (optional (group send)).fits o post'
send-post none post post' h = h
send-post (some s) post post' h = h

superseded-post : (o : Option ℕ) (post post' : List ℕ) → (optional u64).fits o post → (optional u64).fits o post'
superseded-post none post post' h = h
superseded-post (some s) post post' h = h

chain-post : (c : Chain) (post post' : List ℕ) → fits_of chain c post → fits_of chain c post'
chain-post c post post' h =
    let last = h.1.1.1.1 in
    (h.0, (h.1.0, (h.1.1.0, (h.1.1.1.0, (superseded-post c.superseded_s _ _ last.0, last.1)))))

chains-post : (cs : List Chain) (post post' : List ℕ) → fits_many (group chain) cs post → fits_many (group chain) cs post'
chains-post [] post post' h = tt
chains-post (c ∷ cs) post post' h = (chain-post c _ _ h.0, chains-post cs post post' h.1)

skipped-post : (ks : List Skipped) (post post' : List ℕ) → fits_many (group skipped) ks post → fits_many (group skipped) ks post'
skipped-post [] post post' h = tt
skipped-post (k ∷ ks) post post' h = (h.0, skipped-post ks post post' h.1)

-- ranges within the width
pub ranges-fit : (N : ℕ) (rs : List Range) (post : List ℕ) (g : ℕ) → N < 256 ^ 4 → canonical g rs ≡ true → none_above N rs ≡ true → fits_many (group range) rs post
ranges-fit N [] post g w c e = tt
ranges-fit N (r ∷ rs) post g w c e =
    let p = and_both (leb r.from r.to && leb g r.from) (canonical (r.to + 2) rs) c in
    let q = and_both (leb r.from r.to) (leb g r.from) p.0 in
    let low = leb-true r.from r.to q.0 in
    let high = leb-true r.to N (and_both (leb r.to N) (none_above N rs) e).0 in
    ((omega arith, (omega arith, refl)), ranges-fit N rs post (r.to + 2) w p.1 (and_both (leb r.to N) (none_above N rs) e).1)

module _ (v : Contact) (n : ℕ) (r : Received) (small : n < 256 ^ 4) (low : r.contiguous < 256 ^ 4) (few : length r.above < 256 ^ 2)
    (ranges : (post : List ℕ) → fits_many (group range) r.above post)
  where
    pub fits-with : fits_of (contact 3) v [] → fits_of (contact 3) (with_numbers n r v) []
    unfolding layout.print
    fits-with h =
        let its = h.1.1.1.1.1.1 in
        let doors = its.1 in
        let sent = doors.1.1.1.1.1 in
        let waits = sent.1 in
        let sends = waits.1 in
        let chains = sends.1 in
        let skips = chains.1 in
        let acked = skips.1 in
        let contiguous = acked.1.1.1 in
        let unacked = contiguous.1.1 in (
          h.0,
          (
            h.1.0,
            (
              h.1.1.0,
              (
                h.1.1.1.0,
                (
                  h.1.1.1.1.0,
                  (
                    h.1.1.1.1.1.0,
                    (
                      its.0,
                      (
                        doors.0,
                        (
                          doors.1.0,
                          (
                            doors.1.1.0,
                            (
                              doors.1.1.1.0,
                              (
                                doors.1.1.1.1.0,
                                (
                                  small,
                                  (
                                    pending-post v.pending _ _ waits.0,
                                    (
                                      send-post v.send _ _ sends.0,
                                      (
                                        (chains.0.0, ((refl, chains-post v.chains _ _ chains.0.1.0.1), refl)),
                                        (
                                          (skips.0.0, ((refl, skipped-post v.skipped _ _ skips.0.1.0.1), refl)),
                                          (
                                            acked.0,
                                            (
                                              acked.1.0,
                                              (
                                                acked.1.1.0,
                                                (
                                                  low,
                                                  ((few, ((refl, ranges _), refl)), (unacked.0, (unacked.1.0, (refl, refl)))),
                                                ),
                                              ),
                                            ),
                                          ),
                                        ),
                                      ),
                                    ),
                                  ),
                                ),
                              ),
                            ),
                          ),
                        ),
                      ),
                    ),
                  ),
                ),
              ),
            ),
          ),
        )
