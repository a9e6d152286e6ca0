-- `walks_lent_again::ids_of` meets its contract: one turn stores one id and one entry.
use Rattle.std.proofs.Common.{◌+◌, ◌<◌, get_or, length, map, min, set, sym, ◌∙◌, ap, arith}
use lib.ListN.{length-map, get_or-map}
use Rattle.store.specs.Store.{no_entry}
use Rattle.walks_lent_again.specs.Ids.{id_of}
use Rattle.walks_lent_again.proofs.Laid.{nothing_laid, laid_next, set_min, next_min}
use Rattle.walks_lent_again.proofs.ids_of.Goals as goal

pub loop-i-init : goal.loop-i-init
loop-i-init c = record { place = omega arith; ids = nothing_laid c.args.ids.now; kept = nothing_laid c.args.kept.now }

pub loop-i-preserved : goal.loop-i-preserved
loop-i-preserved c =
    let es = c.args.entries.now in
    let l = c.loop-i in
    let so = l.invariant in
    let told = c.set_entry-place.ensures in
    let inside : l.i < length (map id_of es) = omega (arith, length-map es id_of) in
    record {
      place = told.0 ∙ rw so.place (next_min l.kept l.i) ∙ ap (min (l.i + 1)) (sym c.set_entry-place.auto.entries);
      ids = c.put_id.ensures ∙ ap (set l.ids l.i) (sym (get_or-map id_of es l.i no_entry)) ∙ laid_next 0 c.args.ids.now (map id_of es) l.ids l.i inside so.ids;
      kept = told.1 ∙ rw so.place (set_min l.kept l.i (get_or es l.i no_entry)) ∙ laid_next no_entry c.args.kept.now es l.kept l.i c.loop-i-test.true so.kept;
    }
