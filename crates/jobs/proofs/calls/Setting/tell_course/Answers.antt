use Rattle.std.proofs.Common.{◌≡◌, ℕ, List, length, take, vec_items, sym, ap, ◌∙◌, subst, arith}
use Rattle.std.proofs.lemmas.List.{with_items_is}
use Rattle.std.proofs.lemmas.Result.{IfOk-weaker}
use Rattle.records.specs.declared.record.Record.{Record}
use Rattle.job_answers.specs.Courses.{Course}
use Rattle.jobs.specs.Calls.{course_of, Answered, no_cell}
use Rattle.jobs.specs.Steps.{SaysCourse}
use Rattle.jobs.proofs.Telling.{lawful_ready, course_there, course_told, refusal_told}
use Rattle.jobs.proofs.calls.Setting.tell_course.Goals as goal

pub returns-in_default-clause-answered : goal.returns-in_default-clause-answered
returns-in_default-clause-answered g c =
    let b = c.args.self.now.board.now in
    let A = Answered (g.B.Board.meaning b) (g.B.PlacedBoard.places b) c.args.desk.now.drawing.items (course_of c.args.name.now) c.args.place c.args.desk.now.drawing.items in
    IfOk-weaker c.answer_line.result _ _ (λ v e. subst A (sym e) (no_cell c.in_default.ensures)) c.answer_line.ensures

pub say_course-requires : goal.say_course-requires
say_course-requires g c =
    let b = c.args.self.now.board.now in
    let m = g.B.Board.meaning b in
    let ps = g.B.PlacedBoard.places b in
    let desk = c.args.desk.now in
    let W = lawful_ready m desk c.requires c.as_slice.result.now c.as_slice.ensures.value in
    let S = c.in-Ok.ensures.answer in
    let same : c.as_slice-in-Ok.result.now ≡ c.show.new.report =
    c.as_slice-in-Ok.ensures.value ∙ with_items_is desk.report c.show.new.report (omega (arith, c.show.auto.report, c.as_mut_slice.ensures.len)) in
    subst (λ (xs : List ℕ). (letters : List ℕ) × Course ps (take c.in-Ok.count xs) letters) (sym same)
    (course_there m ps (g.met.B.PlacedBoard.placed b) c.as_slice.result.now W _ _ _ _ S.0 S.1)

pub returns-in-Ok-clause-answered : goal.returns-in-Ok-clause-answered
returns-in-Ok-clause-answered g c =
    let b = c.args.self.now.board.now in
    let m = g.B.Board.meaning b in
    let ps = g.B.PlacedBoard.places b in
    let desk = c.args.desk.now in
    let name = c.args.name.now in
    let W = lawful_ready m desk c.requires c.as_slice.result.now c.as_slice.ensures.value in
    let S = c.in-Ok.ensures.answer in
    let same : c.as_slice-in-Ok.result.now ≡ c.show.new.report =
    c.as_slice-in-Ok.ensures.value ∙ with_items_is desk.report c.show.new.report (omega (arith, c.show.auto.report, c.as_mut_slice.ensures.len)) in
    IfOk-weaker c.say_course.result _ _
    (λ v s. subst (λ (d : List Record). Answered m ps d (course_of name) c.args.place d (vec_items v)) c.as_slice.ensures.value
    (course_told m ps (g.met.B.PlacedBoard.placed b) c.as_slice.result.now W _ _ _ _ S.0 S.1 name (vec_items v) c.args.place c.in-Some.ensures
    (omega (arith, c.requires.report_long, ap length c.as_mut_slice.ensures.value))
    (subst (λ (xs : List ℕ). SaysCourse ps name (take c.in-Ok.count xs) (vec_items v)) same s))) c.say_course.ensures

pub returns-in-Err-clause-answered : goal.returns-in-Err-clause-answered
returns-in-Err-clause-answered g c =
    let b = c.args.self.now.board.now in
    let m = g.B.Board.meaning b in
    let ps = g.B.PlacedBoard.places b in
    let name = c.args.name.now in
    IfOk-weaker c.answer_line-in-Err.result _ _
    (λ v e. subst (λ (d : List Record). Answered m ps d (course_of name) c.args.place d (vec_items v)) c.as_slice.ensures.value
    (refusal_told m ps c.as_slice.result.now _ _ c.in-Err.refusal name (vec_items v) c.args.place c.in-Some.ensures
    (omega (arith, c.requires.report_long, ap length c.as_mut_slice.ensures.value)) c.in-Err.ensures.answer e)) c.answer_line-in-Err.ensures
