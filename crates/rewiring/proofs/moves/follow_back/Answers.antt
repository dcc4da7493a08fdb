use Rattle.std.proofs.Common.{◌≡◌, ◌-◌, length, sym, refl, take_all, subst, arith}
use Rattle.std.specs.Iterator.Adapters.{rev_source}
use Rattle.std.specs.Slice.Iter.{windows_rest}
use Rattle.rewiring.proofs.Courses.{BackTo, pair_turn, back_to_landing, back_once, back_to_pad}
use Rattle.rewiring.proofs.moves.follow_back.Goals as goal

pub loop-pair-init : goal.loop-pair-init
loop-pair-init c =
    rw (c.into_iter-pair-iterator.ensures.into_iter_gives, c.rev-pair-items.ensures.source, c.windows.ensures.rest, c.windows.ensures.size) (record {
      pairs = refl;
      front = sym (take_all _ _ (omega arith));
      some = c.requires;
      inside = omega arith;
      back = λ m d p z e W T. rw e (back_to_landing m d p z c.args.trail.now T W);
    })

pub loop-pair-preserved : goal.loop-pair-preserved
loop-pair-preserved c =
    let ts = c.args.trail.now in
    let inv = c.loop-pair.invariant in
    let left = windows_rest (rev_source c.loop-pair.pair-iterator) in
    let next = windows_rest (rev_source c.next.new.self) in
    let s = rw inv.pairs at c.in-Some.ensures.steps in
    let h = pair_turn ts left c.in-Some.pair.now next inv.front s.1.0 s.1.1 s.1.2 in
    record {
      pairs = s.0;
      front = h.1;
      some = omega (arith, h.0);
      inside = omega (arith, h.0, inv.inside);
      back = λ m d p z e W T. rw (c.take_back.ensures, h.2, h.3, h.0) (back_once m d p z ts T W c.loop-pair.drawing (length left - 1) (omega arith) (inv.back m d p z e W T));
    }

pub returns : goal.returns
returns c m p z W T =
    let inv = c.loop-pair.invariant in
    let left = windows_rest (rev_source c.loop-pair.pair-iterator) in
    let s = rw inv.pairs at c.in-None.ensures.steps in
    let stop : length left - 1 ≡ 0 = omega (arith, s.1.0) in
    back_to_pad m c.args.drawing.now p z c.args.trail.now T W c.loop-pair.drawing (subst (BackTo m c.args.drawing.now z c.loop-pair.drawing c.args.trail.now) stop (inv.back m c.args.drawing.now p z c.begin.ensures W T))
