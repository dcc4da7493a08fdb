use Rattle.std.proofs.Common.{◌≡◌, ℕ, length, replicate, ap, ◌∙◌, ⊎_elim, arith, rules}
use Rattle.std.proofs.lemmas.List.{get_or_past, get_or-replicate}
use Rattle.std.proofs.lemmas.Bool.{cases_lt}
use Rattle.records.specs.declared.record.Record.TheVariants.{Free}
use Rattle.records.specs.Records.{record_at}
use Rattle.drawings.proofs.Accepted.{made}
use Rattle.drawings.proofs.calls.new.Goals as goal

pub returns-clause-answer : goal.returns-clause-answer
returns-clause-answer g c =
    let m = g.B.Board.meaning c.args.board.now in
    let n = length c.args.drawing.now in
    let e = c.fill.new.self in
    let same : e ≡ replicate n Free = c.fill.ensures.after (λ y k. search rules) in
    let all : (k : ℕ) → record_at e k ≡ Free = λ k.
    ⊎_elim (λ h. ap (λ z. record_at z k) same ∙ get_or-replicate n k Free Free (omega arith)) (λ h. get_or_past e k Free h) (cases_lt k (length e)) in
    (c.in_ok-check_size.ensures.0, made m e (c.fill.ensures.len ∙ c.in_ok-check_size.ensures.1) all)
