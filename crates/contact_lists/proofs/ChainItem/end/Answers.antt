-- A chain ends where its layout does: along it, five fields and the part behind the flag.
use Rattle.std.proofs.Common.{rules, ◌≡◌, Err}
use mathlib.Core.Path.{refl, sym}
use Rattle.layout.specs.Veil.{veiled}
use Rattle.layout.specs.Form.{u64}
use Rattle.layout.specs.Field.{read_at}
use Rattle.layout.specs.Layout.{group}
use Rattle.layout.proofs.Front.{bytes-lawful, number-lawful}
use Rattle.layout.proofs.Derived.{optional-lawful}
use Rattle.layout.proofs.At.{typed}
use Rattle.layout.proofs.Along.{Fields, along, part-along, any-run}
use Rattle.rows.specs.Rows.{chain}
use Rattle.rows.proofs.Lawful.{dir-lawful}
use Rattle.contact_lists.proofs.Optional.{optional-along}
use Rattle.contact_lists.proofs.ChainItem.end.Goals as goal
use Rattle.contact_lists.proofs.ChainItem.end.Goals.{After-byte_at}

chain-fields : Fields chain
chain-fields = (number-lawful 1, λ gen. (dir-lawful, λ d. (number-lawful 8, λ next. (bytes-lawful veiled 32, λ key. (optional-lawful u64 (number-lawful 8), λ superseded. tt)))))

reads : (c : After-byte_at) → along chain c.args.row.now c.args.at ≡ read_at (group chain) c.args.row.now c.args.at
reads c = sym (part-along c.args.row.now (typed _ c.type_inv.row) chain chain-fields c.args.at tt)

pub returns-in_err-_gen : goal.returns-in_err-_gen
returns-in_err-_gen c = let no : c.from_residual.result ≡ Err c.in_err-_gen.field-0.0 = search rules in rw (no, ← reads (goal.at.returns-in_err-_gen c).After-byte_at, ← c.in_err-_gen.ensures) refl

pub returns-in_err-_dir : goal.returns-in_err-_dir
returns-in_err-_dir c = let no : c.from_residual-in_err-_dir.result ≡ Err c.in_err-_dir.field-0.0 = search rules in rw (no, ← reads (goal.at.returns-in_err-_dir c).After-byte_at, ← c.in_ok-_gen.ensures, ← c.in_err-_dir.ensures) refl

pub returns-in_err-_next : goal.returns-in_err-_next
returns-in_err-_next c = let no : c.from_residual-in_err-_next.result ≡ Err c.in_err-_next.field-0.0 = search rules in rw (no, ← reads (goal.at.returns-in_err-_next c).After-byte_at, ← c.in_ok-_gen.ensures, ← c.in_ok-_dir.ensures, ← c.in_err-_next.ensures) refl

pub returns-in_err-_key : goal.returns-in_err-_key
returns-in_err-_key c = let no : c.from_residual-in_err-_key.result ≡ Err c.in_err-_key.field-0.0 = search rules in rw (no, ← reads (goal.at.returns-in_err-_key c).After-byte_at, ← c.in_ok-_gen.ensures, ← c.in_ok-_dir.ensures, ← c.in_ok-_next.ensures, any-run, ← c.in_err-_key.ensures.0) refl

pub returns-in_err-superseded : goal.returns-in_err-superseded
returns-in_err-superseded c = let its = optional-along u64 (number-lawful 8) c.args.row.now (typed _ c.type_inv.row) c.in_ok-_key.at4 in let no : c.from_residual-in_err-superseded.result ≡ Err c.in_err-superseded.field-0.0 = search rules in rw (no, ← reads (goal.at.returns-in_err-superseded c).After-byte_at, ← c.in_ok-_gen.ensures, ← c.in_ok-_dir.ensures, ← c.in_ok-_next.ensures, any-run, ← c.in_ok-_key.ensures.0, its, ← c.in_err-superseded.ensures) refl

pub returns-then-not-superseded : goal.returns-then-not-superseded
returns-then-not-superseded c = let its = optional-along u64 (number-lawful 8) c.args.row.now (typed _ c.type_inv.row) c.in_ok-_key.at4 in rw (← reads (goal.at.returns-then-not-superseded c).After-byte_at, ← c.in_ok-_gen.ensures, ← c.in_ok-_dir.ensures, ← c.in_ok-_next.ensures, any-run, ← c.in_ok-_key.ensures.0, its, ← c.in_ok-superseded.ensures, c.if-not-superseded.true) refl

pub returns-in_err-_superseded_s : goal.returns-in_err-_superseded_s
returns-in_err-_superseded_s c = let its = optional-along u64 (number-lawful 8) c.args.row.now (typed _ c.type_inv.row) c.in_ok-_key.at4 in let no : c.from_residual-in_err-_superseded_s.result ≡ Err c.in_err-_superseded_s.field-0.0 = search rules in rw (no, ← reads (goal.at.returns-in_err-_superseded_s c).After-byte_at, ← c.in_ok-_gen.ensures, ← c.in_ok-_dir.ensures, ← c.in_ok-_next.ensures, any-run, ← c.in_ok-_key.ensures.0, its, ← c.in_ok-superseded.ensures, c.if-not-superseded.false, ← c.in_err-_superseded_s.ensures) refl

pub returns : goal.returns
returns c = let its = optional-along u64 (number-lawful 8) c.args.row.now (typed _ c.type_inv.row) c.in_ok-_key.at4 in rw (← reads (goal.at.returns c).After-byte_at, ← c.in_ok-_gen.ensures, ← c.in_ok-_dir.ensures, ← c.in_ok-_next.ensures, any-run, ← c.in_ok-_key.ensures.0, its, ← c.in_ok-superseded.ensures, c.if-not-superseded.false, ← c.in_ok-_superseded_s.ensures) refl
