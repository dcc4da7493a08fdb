use Rattle.std.proofs.Common.{◌+◌, sym, ap, ◌∙◌, subst, arith}
use Rattle.std.specs.Bool.{then_some}
use Rattle.records.specs.Records.{is_last}
use Rattle.drawings.specs.Nets.{net}
use Rattle.drawings.specs.Following.{cells_left}
use Rattle.drawings.specs.Changes.{Measured}
use Rattle.drawings.proofs.Following.{last_met, last_numbered, none_met, last_measures}
use Rattle.drawings.proofs.nets.net_length.Goals as goal

pub returns-in_err-place : goal.returns-in_err-place
returns-in_err-place c =
    let d = c.args.drawing.now in
    let f = c.args.first in
    let e = ap cells_left c.enumerate.ensures.source ∙ c.follow.ensures.cells in
    let met = last_met d f c.last.result e c.enumerate.ensures.count c.last.ensures.ran in
    subst (Measured d f) (sym c.from_residual.ensures) (none_met d f (sym c.in_err-place.was ∙ met))

pub overflow_add-place : goal.overflow_add-place
overflow_add-place c =
    let d = c.args.drawing.now in
    let f = c.args.first in
    let e = ap cells_left c.enumerate.ensures.source ∙ c.follow.ensures.cells in
    let met = last_met d f c.last.result e c.enumerate.ensures.count c.last.ensures.ran in
    omega (arith, (last_numbered f (net d f) c.in_ok-place.place c.in_ok-place.last (sym c.in_ok-place.was ∙ met)).0, c.follow.ensures.bound)

pub returns : goal.returns
returns c =
    let d = c.args.drawing.now in
    let f = c.args.first in
    let p = c.in_ok-place.place in
    let x = c.in_ok-place.last in
    let e = ap cells_left c.enumerate.ensures.source ∙ c.follow.ensures.cells in
    let met = last_met d f c.last.result e c.enumerate.ensures.count c.last.ensures.ran in
    let same = c.then_some.ensures ∙ ap (λ b. then_some b (p + 1)) (c.is_last.ensures ∙ ap is_last c.record_at.ensures) in
    subst (Measured d f) (sym same) (last_measures d f p x (sym c.in_ok-place.was ∙ met))
