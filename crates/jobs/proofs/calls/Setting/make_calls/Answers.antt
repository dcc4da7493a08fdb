use Rattle.std.proofs.Common.{suc, ◌+◌, [], ◌++◌, vec_items, ap, ◌∙◌, arith}
use Rattle.job_lines.specs.Lines.{lines_of}
use Rattle.jobs.proofs.Looping.{calls_more, calls_end, calls_done}
use Rattle.jobs.proofs.Starting.{calls_begin}
use Rattle.jobs.proofs.calls.Setting.make_calls.Goals as goal

pub loop-bytes-init : goal.loop-bytes-init
loop-bytes-init g c = (0, omega arith, omega arith, c.requires.ready, λ p S. calls_begin p _ _ _ _ _ _ _ S c.requires.fresh c.new-said.ensures.items)

pub loop-bytes-preserved : goal.loop-bytes-preserved
loop-bytes-preserved g c =
    let inv = c.loop-bytes.invariant in
    let first = c.in-Some.ensures in
    let said = c.loop-bytes.said in (
      suc inv.0,
      omega (arith, inv.1),
      omega (arith, inv.2, first.shorter),
      c.in-Ok.ensures.ready,
      λ p S. calls_more p c.args.self.now.room _ inv.0 _ _ _ _ _ _ (inv.4 p S) _ (c.len.ensures ∙ said.ok.0) c.in-Ok.answer _ first.first
          (c.in-Ok.ensures.done p S) (c.in_ok-extend_from_slice-in-Ok.ensures.items ∙ ap (λ x. vec_items said ++ x) c.as_slice.ensures.value),
    )

pub returns-in-Err-Fault : goal.returns-in-Err-Fault
returns-in-Err-Fault g c =
    let inv = c.loop-bytes.invariant in
    let said = c.loop-bytes.said in
    let is = c.in-Err-Fault.field-0-is in
    λ p S. rw is (calls_end p c.args.self.now.room _ inv.0 _ _ _ _ _ _ (inv.4 p S) _ (c.len.ensures ∙ said.ok.0) c.args.before (c.loop-bytes.line + 1)
    c.in-Err-Fault.fault _ c.in-Some.ensures.first (rw is at (c.in-Err-Fault.ensures.done p S)) (omega (arith, inv.1))
    (c.in_ok-extend_from_slice-in-Err-Fault.ensures.items
    ∙ ap (λ x. vec_items said ++ x) (c.as_slice-in-Err-Fault.ensures.value ∙ rw is at c.in_ok-last-in-Err-Fault.ensures)))

pub returns : goal.returns
returns g c =
    let inv = c.loop-bytes.invariant in
    let d = vec_items c.loop-bytes.desk.drawing in
    λ p S. calls_done p c.args.self.now.room _ inv.0 d d _ [] _ [] (inv.4 p S) c.args.before (ap lines_of c.in_default.ensures)
