use Rattle.std.proofs.Common.{◌≡◌, cond, ◌∙◌, sym, arith, rules, tests}
use Rattle.std.specs.List.{count_by}
use Rattle.std.proofs.lemmas.Iterator.{YieldsList-from_slice, YieldsList-from_map}
use Rattle.std.proofs.lemmas.Iterator.Consumers.{YieldsList-at, fits_by_from_yields_list}
use Rattle.std.proofs.lemmas.List.Sums.{length-filter, count_by-le-length}
use Rattle.records.specs.Records.{is_net}
use Rattle.drawings.proofs.Counts.{kept_records}
use Rattle.drawings.proofs.lawful.net_cells.Goals as goal

pub sum-requires-clause-fits : goal.sum-requires-clause-fits
sum-requires-clause-fits c =
    let d = c.args.drawing.now in
    fits_by_from_yields_list (λ r. cond (is_net r) 1 0) d _ _
    (YieldsList-from_map _ (λ r. cond (is_net r) 1 0) (YieldsList-at c.map.ensures.source (YieldsList-from_slice d (cc))) c.map.ensures.closure (λ x r q k. search (rules, tests)))
    (omega (arith, count_by-le-length is_net d, c.iter.ensures.bound, c.iter.ensures.len))

pub returns : goal.returns
returns c =
    let d = c.args.drawing.now in
    let h : c.sum.result ≡ count_by is_net d = search rules in
    h ∙ sym (length-filter is_net d) ∙ kept_records is_net d
