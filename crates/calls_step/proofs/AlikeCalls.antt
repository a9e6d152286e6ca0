-- The calls on a contact that is open in two runs: the ledgers' accounts are alike.
-- Assumes nothing.
use Prim.Native.Nat.{ℕ, ◌+◌, ◌-◌}
use mathlib.Core.List.{List}
use mathlib.Core.Bool.{Bool, cond}
use mathlib.Core.Path.{◌≡◌, refl, sym, ◌∙◌, subst}
use lib.ListN.{length}
use lib.Dec.{leb, ltb}
use Rattle.layout.specs.Questions.{STORE, OUTPUT}
use Rattle.layout.specs.Layout.{print}
use Rattle.layout.specs.RowLaws.{Bytes}
use Rattle.rows.specs.Values.{Contact}
use Rattle.rows.specs.Checks.{any}
use Rattle.rows.specs.Rows.{contact}
use Rattle.numbers.specs.Ranges.{inside}
use Rattle.numbers.specs.Sets.{add, record_of, how_many}
use Rattle.numbers.specs.Lists.{limit_of}
use Rattle.store.specs.declared.Entry.{Entry}
use Rattle.store.specs.Veiled.{VeilEqual, ContactAlike, FieldsAlike}
use Rattle.store.proofs.Proved.{store-laws}
use Rattle.ledger.specs.Call.{wrote, said, Lent}
use Rattle.store.specs.Line.{line_of, queued_of}
use Rattle.ledger.specs.Ledger.{Open, opened, Account, refuse, covered, current, passes_now, cover_now, take_now, line_now, row_now, write_now}
use Rattle.calls_step.specs.Two.{RowsAlike, LedgersAlike, openeds}
use Rattle.calls_step.proofs.Bytes.{bytes-with}
use Rattle.calls_step.specs.Stands.{Sound}
use Rattle.calls_step.proofs.Asking.{passes-now}
use Rattle.calls_step.proofs.Alike.{alike-with, acked-alike, expired-alike, fitting-alike}
use Rattle.calls_step.proofs.Accounts.{AccountsAlike, plain-alike, cond-alike}

-- the same number sent and the same numbers covered, other fields
abbrev pub other : Open → Contact → Open
other o fields = record { id = o.id; fields = fields; n = o.n; S = o.S }

module _ (N : ℕ) (run run' : List ℕ) (es : List Entry) (v : VeilEqual run run' es) (o : Open) (fields : Contact) (sound : Sound N run es o) (sound' : Sound N run' es (other o fields))
    (alike : ContactAlike (current N o) (current N (other o fields))) (lent : Lent)
  where
    abbrev its : Open
    its = other o fields

    -- ... and then n sent and the numbers of S covered
    states : (n : ℕ) (S : ℕ → Bool)
        → LedgersAlike N (opened run es (record { id = o.id; fields = o.fields; n = n; S = S })) (opened run' es (record { id = o.id; fields = fields; n = n; S = S }))
    states n S = openeds run run' es _ _ v (record { id = refl; n = refl; S = refl; fields = alike-with (current N o) (current N its) n (record_of N S) alike })

    pub stay : LedgersAlike N (opened run es o) (opened run' es its)
    stay = states o.n o.S

    -- 34
    pub asked-alike : {a a' : Account} → AccountsAlike N a a'
        → AccountsAlike N (cond (passes_now N lent run es o) a (refuse STORE (opened run es o))) (cond (passes_now N lent run' es its) a' (refuse STORE (opened run' es its)))
    asked-alike {a} {a'} p =
        let e : passes_now N lent run es o ≡ passes_now N lent run' es its =
        passes-now N run es o sound lent ∙ fitting-alike (current N o) (current N its) alike lent ∙ sym (passes-now N run' es its sound' lent) in
        subst (λ (b : Bool). AccountsAlike N (cond (passes_now N lent run es o) a (refuse STORE (opened run es o))) (cond b a' (refuse STORE (opened run' es its)))) e
        (cond-alike N (passes_now N lent run es o) p (plain-alike N refl refl stay))

    pub cover-alike : (f t : ℕ) → AccountsAlike N (cover_now N f t lent run es o) (cover_now N f t lent run' es its)
    cover-alike f t =
        cond-alike N (leb (length (record_of N (add f t o.S)).above) (limit_of lent.above))
        (record { answer = refl; state = states o.n (add f t o.S); output = tt })
        (plain-alike N refl refl stay)

    pub take-alike : AccountsAlike N (take_now N run es o) (take_now N run' es its)
    take-alike = cond-alike N (ltb o.n N) (plain-alike N refl refl (states (o.n + 1) o.S)) (plain-alike N refl refl stay)

    -- ---- statement
    line_same : line_now N es o ≡ line_now N es its
    line_same =
        let c : ℕ = (covered N o).contiguous in
        let acked = acked-alike (current N o) (current N its) alike in
        let expired = expired-alike (current N o) (current N its) alike in
        λ i. line_of o.id o.n (acked i) c (how_many o.S (c + 1) (N - c)) (queued_of o.id es)
        (how_many (λ m. any (inside m m) (expired i)) (acked i + 1) (N - acked i))

    pub statement-alike :
        AccountsAlike N (write_now (said (length (line_now N es o)) (line_now N es o)) (line_now N es o) lent (opened run es o))
        (write_now (said (length (line_now N es its)) (line_now N es its)) (line_now N es its) lent (opened run' es its))
    statement-alike =
        subst (λ (x : List ℕ). AccountsAlike N (write_now (said (length (line_now N es o)) (line_now N es o)) (line_now N es o) lent (opened run es o))
        (write_now (said (length x) x) x lent (opened run' es its))) line_same
        (cond-alike N (leb (length (line_now N es o)) lent.out) (record { answer = refl; state = stay; output = tt }) (plain-alike N refl refl stay))

    -- ---- write
    rows_alike : RowsAlike (row_now N o) (row_now N its)
    rows_alike =
        let c = current N o in
        let c' = current N its in
        let f : FieldsAlike c c' = record { alike = alike; valid = sound.now; valid' = sound'.now } in
        let by : Bytes (print (contact 3) c) = bytes-with o.fields o.n (covered N o) sound.bytes in
        let by' : Bytes (print (contact 3) c') = bytes-with fields o.n (covered N o) sound'.bytes in
        record { long = store-laws.opened.written-long c c' f by by'; outside = store-laws.opened.written-alike c c' f by by' }

    pub write-alike :
        AccountsAlike N (write_now (wrote (length (row_now N o))) (row_now N o) lent (opened run es o))
        (write_now (wrote (length (row_now N its))) (row_now N its) lent (opened run' es its))
    write-alike =
        subst (λ (n : ℕ). AccountsAlike N (write_now (wrote (length (row_now N o))) (row_now N o) lent (opened run es o))
        (cond (leb n lent.out) (record { answer = wrote n; state = opened run' es its; freed = 0; output = row_now N its }) (refuse OUTPUT (opened run' es its))))
        rows_alike.long
        (cond-alike N (leb (length (row_now N o)) lent.out) (record { answer = refl; state = stay; output = (refl, rows_alike) }) (plain-alike N refl refl stay))
