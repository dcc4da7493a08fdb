use Rattle.std.proofs.Common.{◌≡◌, ℕ, ◌<◌, [], length, refl, subst, arith, rules}
use Rattle.runs.specs.Told.{Told, nothing}
use Rattle.runs.proofs.Claiming.{claim_of, upholds_more}
use Rattle.runs.proofs.Telling.{fresh, told_more, later}
use Rattle.runs.proofs.run.run.Goals as goal

pub loop-call-init : goal.loop-call-init
loop-call-init g c = record {
  as_many = refl;
  history = [];
  upholds = tt;
  stands = fresh (g.B.Board.meaning c.args.board.now) c.new.new.drawing c.in_ok-new.field-0 c.in_ok-new.ensures.answer.1;
  told = nothing;
  rest = λ k d h. refl;
}

pub loop-call-preserved : goal.loop-call-preserved
loop-call-preserved g c =
    let calls = c.loop-call.calls in
    let made = c.perform.ensures in
    let here : c.loop-call.call-index < length calls = omega arith in
    let so_far = c.loop-call.invariant in record {
      as_many = search rules;
      history = _;
      upholds = upholds_more _ _ so_far.upholds _ _ _ _ _ _ _ so_far.stands _ _ made.performs;
      stands = refl;
      told = told_more _ _ _ _ calls _ c.call-item.result _ here made so_far.rest so_far.told;
      rest = later _ _ _ _ calls _ c.call-item.result _ here made so_far.rest;
    }

pub returns : goal.returns
returns g c =
    let end = c.loop-call.invariant in
    let all : c.loop-call.call-index ≡ length c.args.calls.now = omega arith in
    record {
      answer = (
        c.in_ok-new.ensures.answer.0,
        record {
          history = end.history;
          told = subst (λ (k : ℕ). Told c.args.calls.now c.loop-call.calls k end.history) all end.told;
          claim = claim_of _ end.history end.upholds;
          ends = end.stands;
          as_many = end.as_many;
        },
      );
      kept = tt;
    }
