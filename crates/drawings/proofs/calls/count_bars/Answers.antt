use Rattle.std.proofs.Common.{◌∙◌, rules, tests}
use Rattle.std.proofs.lemmas.Iterator.{YieldsList-from_slice}
use Rattle.std.proofs.lemmas.Iterator.Consumers.{YieldsList-from_filter, YieldsList-at, count_from_yields_List}
use Rattle.records.specs.Records.{is_barred}
use Rattle.drawings.proofs.Counts.{kept_records}
use Rattle.drawings.proofs.calls.count_bars.Goals as goal

pub returns : goal.returns
returns c =
    let d = c.args.drawing.now in
    count_from_yields_List c.filter.result c.count.result c.count.ensures.ran
    (YieldsList-from_filter _ is_barred (YieldsList-at c.filter.ensures.source (YieldsList-from_slice d (cc))) c.filter.ensures.closure (λ x r q k. search (rules, tests))) ∙
    kept_records is_barred d
