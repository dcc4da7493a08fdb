use Rattle.std.proofs.Common.{length, filter, ◌∙◌, sym, ap, arith, rules, tests}
use Rattle.std.specs.List.{range_with_len, flat_map}
use Rattle.std.proofs.lemmas.Iterator.{YieldsList-from_range, YieldsList-from_map}
use Rattle.std.proofs.lemmas.Iterator.Consumers.{YieldsList-from_filter, YieldsList-at, sum_by_from_yields_List, fits_by_from_yields_list}
use Rattle.std.proofs.lemmas.List.Concat.{length-flat_map}
use Rattle.drawings.specs.Nets.{first_at, net}
use Rattle.drawings.proofs.Counts.{reached_fits}
use Rattle.drawings.proofs.lawful.reached_cells.Goals as goal

pub sum-requires-clause-fits : goal.sum-requires-clause-fits
sum-requires-clause-fits g c =
    let n = (g.B.Board.meaning c.args.board.now).cells in
    let d = c.args.drawing.now in
    fits_by_from_yields_list (λ x. length (net d x)) (filter (first_at d) (range_with_len 0 n)) _ _
    (YieldsList-from_map _ (λ x. length (net d x))
    (YieldsList-at c.map.ensures.source (YieldsList-from_filter _ (first_at d) (YieldsList-at c.filter.ensures.source (YieldsList-from_range 0 n n (cc) (omega arith)))
    c.filter.ensures.closure (λ x r q k. search (rules, tests)))) c.map.ensures.closure (λ x r q k. search (rules, tests)))
    (reached_fits d n c.requires (g.met.B.Board.bounded c.args.board.now).few_cells)

pub returns : goal.returns
returns g c =
    let n = (g.B.Board.meaning c.args.board.now).cells in
    let d = c.args.drawing.now in
    let ys = filter (first_at d) (range_with_len 0 n) in
    sum_by_from_yields_List (λ x. length (net d x)) ys c.map.result c.sum.result c.sum.ensures.ran
    (YieldsList-from_map _ (λ x. length (net d x))
    (YieldsList-at c.map.ensures.source (YieldsList-from_filter _ (first_at d) (YieldsList-at c.filter.ensures.source (YieldsList-from_range 0 n n (cc) (omega arith)))
    c.filter.ensures.closure (λ x r q k. search (rules, tests)))) c.map.ensures.closure (λ x r q k. search (rules, tests))) ∙
    sym (length-flat_map (net d) ys) ∙ ap (λ n. length (flat_map (net d) (filter (first_at d) (range_with_len 0 n)))) (sym c.requires)
