use Rattle.std.proofs.Common.{◌≡◌, ◌∙◌, length, ap}
use Rattle.std.proofs.lemmas.Iterator.{items_from_collect}
use Rattle.std.proofs.lemmas.Iterator.Adapters.{YieldsList-from_skip, YieldsList-from_vec}
use Rattle.std.specs.Iterator.Adapters.{skip_source}
use Rattle.std.specs.Vec.Iter.{into_iter_items, into_iter_len}
use Rattle.plant_run.proofs.argument.words_of.Goals as goal

pub returns : goal.returns
returns c =
    let given = into_iter_items c.args.given in
    let items : into_iter_items (skip_source c.skip.result) ≡ given = ap into_iter_items c.skip.ensures.source in
    let count : into_iter_len (skip_source c.skip.result) ≡ length given = ap into_iter_len c.skip.ensures.source ∙ c.args.given.rest.ok.0 in
    items_from_collect c.collect.result c.collect.ensures.ran
    (YieldsList-from_skip 1 (YieldsList-from_vec given items count) c.skip.ensures.count)
