use Rattle.std.proofs.Common.{vec_items, refl, inl, inr, arith}
use Rattle.std.proofs.lemmas.Result.{err_from_is_err_and}
use Rattle.job_boards.proofs.Entries.{read, unread}
use Rattle.jobs.proofs.Lining.{line_answered, line_faulty, no_room}
use Rattle.jobs.proofs.calls.Setting.answer.Goals as goal

pub returns-in_err-line-clause-done : goal.returns-in_err-line-clause-done
returns-in_err-line-clause-done g c =
    let p = err_from_is_err_and c.from_residual.result c.from_residual.ensures.1 in
    λ q S. rw (p.1, p.2) (inl (unread _ _ _ _ c.read_line.ensures c.in_err-line.ensures.value, refl))

pub returns-in_err-order-clause-done : goal.returns-in_err-order-clause-done
returns-in_err-order-clause-done g c =
    let h = c.in_err-order.ensures in
    let p = err_from_is_err_and c.from_residual-in_err-order.result c.from_residual-in_err-order.ensures.1 in
    λ q S. rw (p.1, p.2) (inl (line_faulty q _ _ _ (read _ _ _ c.read_line.ensures c.in_ok-line.ensures.ok_part) (h q S.names), refl))

pub returns-then-not-fits-clause-done : goal.returns-then-not-fits-clause-done
returns-then-not-fits-clause-done g c =
    let answer = c.in_ok-answer.answer in
    λ q S. rw c.into.ensures (inr (
      refl,
      (
        vec_items answer,
        line_answered q _ _ _ _ _ _ _ _ (vec_items answer) S (read _ _ _ c.read_line.ensures c.in_ok-line.ensures.ok_part) (c.in_ok-order.ensures q S.names) c.in_ok-answer.ensures.answered,
        omega (arith, no_room c.args.self.now.room c.args.used c.len.result c.if-not-fits.ensures.1, c.len.ensures, answer.ok.0),
      ),
    ))

pub returns-clause-done : goal.returns-clause-done
returns-clause-done g c =
    let answer = c.in_ok-answer.answer in
    λ q S. (
      line_answered q _ _ _ _ _ _ _ _ (vec_items answer) S (read _ _ _ c.read_line.ensures c.in_ok-line.ensures.ok_part) (c.in_ok-order.ensures q S.names) c.in_ok-answer.ensures.answered,
      omega (arith, c.if-not-fits.ensures.0 refl, c.len.ensures, answer.ok.0),
    )
