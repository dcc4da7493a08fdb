use Rattle.std.proofs.Common.{ℕ, ◌<◌, ◌≤◌, map, length, refl, ap, inl, inr, ⊎_elim, arith}
use lib.ListN.{length-map}
use Rattle.std.proofs.lemmas.List.Elements.{All-set, All-push}
use Rattle.std.proofs.lemmas.Bool.{cases_lt, false≢true}
use Rattle.boards.specs.Grids.{OnGrid}
use Rattle.boards.specs.Maps.{last_named}
use Rattle.job_boards.specs.declared.plan.Pad.{Pad}
use Rattle.job_boards.specs.Plans.{layers, also_pad}
use Rattle.job_boards.specs.Reading.{named, plan_of}
use Rattle.job_boards.proofs.Entries.{same_plan}
use Rattle.job_boards.proofs.Marks.{marked, or_pad, pad_known}
use Rattle.job_boards.proofs.Pads.{taken_wrong, free_right, named_push}
use Rattle.job_boards.proofs.entering.enter_pad.Goals as goal

pub returns-then-is_taken : goal.returns-then-is_taken
returns-then-is_taken c =
    let taken = taken_wrong (plan_of c.args.plan.now) _ (ap (map named) c.deref.ensures.value) _ _ _ (c.if-is_taken.ensures.0 refl) in
    rw c.into-then-is_taken.ensures (inr (λ h. false≢true (c.if-is_full.ensures.1 h), inl (refl, taken)), refl)

pub returns-then-not-has : goal.returns-then-not-has
returns-then-not-has c =
    let plan = c.args.plan.now in
    let free = free_right (plan_of plan) _ (ap (map named) c.deref.ensures.value) _ _ _ (λ t. false≢true (c.if-is_taken.ensures.1 t)) in
    let off = rw c.place-place.ensures at (λ (on : OnGrid (layers plan.header.kind) plan.header.rows plan.header.columns c.place-place.result). false≢true (c.if-not-has.ensures.1 on)) in
    rw c.into-then-not-has.ensures (inr (λ h. false≢true (c.if-is_full.ensures.1 h), inr (free, inr (λ x. x, inl (refl, off)))), refl)

pub returns : goal.returns
returns c =
    let plan = c.args.plan.now in
    let free = free_right (plan_of plan) _ (ap (map named) c.deref.ensures.value) _ _ _ (λ t. false≢true (c.if-is_taken.ensures.1 t)) in
    let on = rw c.place-place.ensures at (c.if-not-has.ensures.0 refl) in
    let index = rw c.place-place.ensures at c.index_of-index.ensures.value in (
      (λ h. false≢true (c.if-is_full.ensures.1 h), (free, (λ x. x, (λ off. off on, tt)))),
      same_plan _ _ _
          (marked also_pad plan.map.items _ _ c.index_mut.result.now _ (omega (arith, c.index_of-index.ensures.within, plan.full, plan.map.ok.0))
          index c.index_mut.ensures.value (or_pad _))
          (named_push plan.pads.items c.push.new.self.items c.args.new c.in_ok-push.ensures.items)
          refl,
    )

pub invariant_of-plan-2-clause-few : goal.invariant_of-plan-2-clause-few
invariant_of-plan-2-clause-few c =
    let full = c.args.plan.now.pads.ok.0 in
    ⊎_elim (λ h. omega (arith, c.in_ok-push.ensures.len, length-map c.args.plan.now.pads.items named)) (λ h. absurd (false≢true (c.if-is_full.ensures.1 h)))
    (cases_lt (length (map named c.args.plan.now.pads.items)) 128)

pub invariant_of-plan-2-clause-known : goal.invariant_of-plan-2-clause-known
invariant_of-plan-2-clause-known c =
    let plan = c.args.plan.now in
    let byte = plan.known c.index_of-index.result c.index_mut.result.now (omega (arith, c.index_of-index.ensures.within, plan.full, plan.map.ok.0)) in
    All-set (λ (b : ℕ). b ≤ last_named plan.header.kind) plan.map.items _ _
    (pad_known plan.header.kind c.index_mut.result.now (omega (arith, byte, c.index_mut.ensures.value))) plan.known

pub invariant_of-plan-2-clause-on_board : goal.invariant_of-plan-2-clause-on_board
invariant_of-plan-2-clause-on_board c =
    let plan = c.args.plan.now in
    let on = rw c.place-place.ensures at (c.if-not-has.ensures.0 refl) in
    rw c.in_ok-push.ensures.items (All-push (λ (q : Pad). (q.row < plan.header.rows) × (q.column < plan.header.columns)) plan.pads.items c.args.new
    plan.on_board (on.row_to, on.column_to))
