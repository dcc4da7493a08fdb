use Rattle.std.proofs.Common.{◌≡◌, ℕ, ◌^◌, ◌<◌, length, get_or, sym, ap, ◌∙◌, arith, take_all, rules}
use Rattle.std.specs.Prelude.{sum_by}
use Rattle.std.proofs.lemmas.List.{length-take-le}
use lib.Count.{ones}
use Rattle.boards.proofs.Masks.{ones_closed, part_short}
use Rattle.boards.proofs.keep_out.KeepOut.closed_cells.Goals as goal

pub slice_bounds-count_bits-end : goal.slice_bounds-count_bits-end
slice_bounds-count_bits-end g c =
    let full : length c.as_slice-words.result.now ≡ 64 = ap length c.as_slice-words.ensures ∙ c.args.self.now.full in
    sym (length-take-le _ c.as_slice-words.result.now (omega (arith, full)))

pub count_bits-requires : goal.count_bits-requires
count_bits-requires g c =
    let full : length c.as_slice-words.result.now ≡ 64 = ap length c.as_slice-words.ensures ∙ c.args.self.now.full in search (part_short, full)

pub returns : goal.returns
returns g c =
    let words = c.as_slice-words.result.now in
    let mask = c.args.self.now.mask in
    let full : length words ≡ 64 = ap length c.as_slice-words.ensures ∙ c.args.self.now.full in
    let fit : (k : ℕ) → k < length mask → get_or mask k 0 < 2 ^ 64 = λ k l. search rules in
    c.count_bits.ensures ∙ ap (sum_by ones) (take_all 64 words (omega (arith, full)) ∙ c.as_slice-words.ensures) ∙ ones_closed mask c.args.self.now.full fit
