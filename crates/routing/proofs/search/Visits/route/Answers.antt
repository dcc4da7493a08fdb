use Rattle.std.proofs.Common.{sym, refl, subst}
use Rattle.linkages.specs.Nets.{Failed}
use Rattle.drawings.specs.Nets.{bars, nets}
use Rattle.routing.specs.Searches.{was_entered, Ended}
use Rattle.routing.specs.Memories.{notes_of}
use Rattle.routing.proofs.Routes.{written_trail, wired_also, fence_shown}
use Rattle.routing.proofs.search.Visits.route.Goals as goal

pub rewire-requires-clause-trail : goal.rewire-requires-clause-trail
rewire-requires-clause-trail g c =
    let m = g.B.Board.meaning c.args.board.now in
    let d = c.args.drawing.now in
    let p = c.args.pad in
    let s = notes_of c.search.new.self in
    let z = c.in-Some.landing in (
      p,
      (
        z,
        written_trail m d p c.requires.is_pad c.requires.unwired s z _ c.trace-first.new.trail c.trace-first.result
            (subst (Ended m d p s) c.in-Some.is c.search.ensures.ended) refl c.trace-first.ensures.course,
      ),
    )

pub returns-in-Some-clause-routed : goal.returns-in-Some-clause-routed
returns-in-Some-clause-routed g c =
    let m = g.B.Board.meaning c.args.board.now in
    let d = c.args.drawing.now in
    let p = c.args.pad in
    let s = notes_of c.search.new.self in
    let z = c.in-Some.landing in
    let way = written_trail m d p c.requires.is_pad c.requires.unwired s z _ c.trace-first.new.trail c.trace-first.result
    (subst (Ended m d p s) c.in-Some.is c.search.ensures.ended) refl c.trace-first.ensures.course in
    (wired_also m d p c.requires.is_pad c.requires.unwired c.rewire.new.drawing z _ way (c.rewire.ensures p z way), refl)

pub returns-in-None-clause-routed : goal.returns-in-None-clause-routed
returns-in-None-clause-routed g c =
    let m = g.B.Board.meaning c.args.board.now in
    let d = c.args.drawing.now in
    let p = c.args.pad in
    let s = notes_of c.search.new.self in
    let F : Failed m (bars d) (nets d) p (was_entered s.entered) = subst (Ended m d p s) c.in-None.is c.search.ensures.ended in (
      refl,
      fence_shown m d p c.requires.is_pad c.requires.unwired (g.met.B.Board.bounded c.args.board.now) c.requires.lawful c.requires.unbarred
          s.entered F c.args.report.now c.write_fence.new.report c.write_fence.result.0 c.write_fence.result.1
          c.write_fence.ensures.pads c.write_fence.ensures.cells c.write_fence.ensures.writes,
    )
