use Rattle.std.proofs.Common.{ℕ, ◌^◌, ◌<◌, length, get_or, arith, rules}
use lib.Count.{ones}
use borrow.Author.Tests.{tests}
use Rattle.std.proofs.lemmas.Iterator.{YieldsList-from_map, YieldsList-from_slice}
use Rattle.std.proofs.lemmas.Iterator.Consumers.{sum_by_from_yields_List, fits_by_from_yields_list, YieldsList-at}
use Rattle.boards.proofs.Masks.{few_ones}
use Rattle.boards.proofs.keep_out.count_bits.Goals as goal

pub sum-requires-clause-fits : goal.sum-requires-clause-fits
sum-requires-clause-fits c =
    let words = c.args.words.now in
    let fit : (k : ℕ) → k < length words → get_or words k 0 < 2 ^ 64 = λ k l. search rules in
    fits_by_from_yields_list ones words c.map.result _
    (YieldsList-from_map _ ones (YieldsList-at c.map.ensures.source (YieldsList-from_slice words cc)) c.map.ensures.closure (λ x r q k. search (rules, tests)))
    (omega (arith, c.requires, few_ones words fit))

pub returns : goal.returns
returns c =
    let words = c.args.words.now in
    sum_by_from_yields_List ones words c.map.result c.sum.result c.sum.ensures.ran
    (YieldsList-from_map _ ones (YieldsList-at c.map.ensures.source (YieldsList-from_slice words cc)) c.map.ensures.closure (λ x r q k. search (rules, tests)))
