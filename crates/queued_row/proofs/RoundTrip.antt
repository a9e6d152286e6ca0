-- The round trips of a queued row, from the contracts of `Outgoing::row` and `read_queued` alone.
-- Assumes nothing.
use Prim.Native.Nat.{ℕ, ◌-◌}
use mathlib.Core.List.{List, ◌++◌, append_assoc, append-nil}
use mathlib.Core.Option.{Option, none, some}
use Rattle.std.specs.Prelude.{Ok}
use mathlib.Core.Path.{◌≡◌, refl, sym, ap, subst, ◌∙◌}
use lib.ListN.{length, take, drop}
use Rattle.layout.specs.Form.{bytes_of, leb_print}
use Rattle.layout.specs.Layout.{Answer, accepted, refused_by, read_row, print, group, optional}
use Rattle.layout.specs.Layout as layout
use Rattle.layout.specs.RowLaws.{Bytes}
use Rattle.layout.specs.Write.{stored, writes}
use Rattle.rows.specs.Values as value
use Rattle.rows.specs.Rows.{own_envelope, queued}
use Rattle.layout.specs.Says.{answers, made, leaves}
use Rattle.layout.proofs.Theorems.{accepted≢}
use Rattle.rows.proofs.Proved.{proved}
use Rattle.rows.proofs.RoundTrip.{Stands, stands, printed-back, three, rewritten, last-at}
use Rattle.sealed.proofs.Made.{made-onto}
use Rattle.queued_row.specs.Row as spec
use Rattle.queued_row.specs.Row.{own_of, tag_of, s_of, queued_of, decoded, parts, envelope_of, value_of, image, OutgoingTyped, QueuedLaws}
use Rattle.queued_row.specs.declared.Outgoing.{Outgoing}
use Rattle.queued_row.specs.declared.QueuedRead.{QueuedRead}
use Rattle.queued_row.proofs.Image.{fits}

-- ---- a row's last bytes are its sealed text
front : value.Queued → List ℕ
front v = bytes_of 8 v.created_s ++ ((optional (group own_envelope)).print v.envelope ++ (bytes_of 1 v.gen ++ leb_print 4 v.idx))

print-is : (version : ℕ) (v : value.Queued) → print (queued version) v ≡ front v ++ v.sealed
unfolding layout.print front
print-is version v =
    let own = (optional (group own_envelope)).print v.envelope in
    ap (λ (l : List ℕ). bytes_of 8 v.created_s ++ (own ++ (bytes_of 1 v.gen ++ (leb_print 4 v.idx ++ l)))) (append-nil v.sealed) ∙ sym (
    append_assoc (bytes_of 8 v.created_s) (own ++ (bytes_of 1 v.gen ++ leb_print 4 v.idx)) v.sealed
    ∙ ap (λ (l : List ℕ). bytes_of 8 v.created_s ++ l) (append_assoc own (bytes_of 1 v.gen ++ leb_print 4 v.idx) v.sealed)
    ∙ ap (λ (l : List ℕ). bytes_of 8 v.created_s ++ (own ++ l)) (append_assoc (bytes_of 1 v.gen) (leb_print 4 v.idx) v.sealed)
    )

pub sealed-last : (version : ℕ) (v : value.Queued) (row : List ℕ) → print (queued version) v ≡ row → drop (length row - length v.sealed) row ≡ v.sealed
sealed-last version v row e = subst (λ (l : List ℕ). drop (length l - length v.sealed) l ≡ v.sealed) (sym (print-is version v) ∙ e) (last-at (front v) v.sealed)

-- ---- write, then read
module _ (q : Outgoing) (sealed out left : List ℕ) (n : ℕ) (contract : leaves (Ok n) left ≡ writes (queued 3) (image q sealed) out) where
  held : Stands (queued 3) (image q sealed) left n
  held = stands (queued 3) (image q sealed) out left contract

  is_read : OutgoingTyped q → read_row (queued 3) (take n left) ≡ accepted (value_of q sealed)
  unfolding spec.image
  is_read ty =
      ap (λ (row : List ℕ). read_row (queued 3) row) held.front
      ∙ printed-back (queued 3) (proved.queued 3).laws (value_of q sealed) (fits q ty sealed) held.read

  write-sealed : drop (length (take n left) - length sealed) (take n left) ≡ sealed
  unfolding spec.image
  write-sealed = sealed-last 3 (value_of q sealed) (take n left) (sym held.front)

-- ---- read, then write
own_back : (o : Option value.OwnEnvelope) → envelope_of (own_of o) (tag_of o) (s_of o) ≡ o
own_back none = refl
own_back (some e) = refl

value-back : (v : value.Queued) → value_of (queued_of v) v.sealed ≡ v
value-back v =
    ap (λ (o : Option value.OwnEnvelope). record { created_s = v.created_s; envelope = o; gen = v.gen; idx = v.idx; sealed = v.sealed }) (own_back v.envelope)

read-write : (version : ℕ) (row : List ℕ) → Bytes row → (read : QueuedRead) → answers (Ok read) ≡ made (decoded row) (read_row (queued version) row)
    → (out : List ℕ) → writes (queued 3) (image read.queued (drop read.sealed_at row)) out ≡ stored row out
unfolding spec.image
read-write version row by read r out = go (read_row (queued version) row) refl r
  where
    go : (a : Answer value.Queued) → read_row (queued version) row ≡ a → accepted read ≡ made (decoded row) a
        → writes (queued 3) (image read.queued (drop read.sealed_at row)) out ≡ stored row out
    go (accepted v) e h =
        let text = sealed-last version v row ((proved.queued version).laws.read-print row by v e) in
        let known : read_row (queued 3) row ≡ accepted v = subst (λ (n : ℕ). read_row (queued n) row ≡ accepted v) (three _ version row e) e in
        let same : read ≡ decoded row v = cc in
        ap (λ (x : QueuedRead). writes (queued 3) (image x.queued (drop x.sealed_at row)) out) same
        ∙ ap (λ (l : List ℕ). writes (queued 3) (image (queued_of v) l) out) text
        ∙ ap (λ (x : value.Queued). writes (queued 3) (print (queued 3) x) out) (value-back v) ∙ rewritten (queued 3) (proved.queued 3).laws row by v known out
    go (refused_by p) e h = absurd (accepted≢ h)

-- the same of the parts that `Outgoing::read` takes
pub read-write-parts : (version : ℕ) (row : List ℕ) → Bytes row → (read : ℕ × Outgoing) → accepted read ≡ made (parts row) (read_row (queued version) row)
    → (out : List ℕ) → writes (queued 3) (image read.1 (drop read.0 row)) out ≡ stored row out
read-write-parts version row by read r out =
    read-write version row by (record { sealed_at = read.0; queued = read.1 }) (made-onto (parts row) (λ (x : ℕ × Outgoing). record { sealed_at = x.0; queued = x.1 }) (read_row (queued version) row) r) out

pub queued-laws : QueuedLaws
queued-laws = record {
  write_read = λ q ty sealed out left n contract. ap (made (decoded (take n left))) (is_read q sealed out left n contract ty);
  write-sealed = write-sealed;
  read-write = read-write;
}
