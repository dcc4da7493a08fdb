use Rattle.std.proofs.Common.{◌≡◌, ◌+◌, ◌<◌, length, sym, refl, ap, ◌∙◌, subst, arith}
use Rattle.boards.specs.Meanings.{outlet_inside}
use Rattle.routing.specs.Searches.{notes, entered_also, Waiting, Scanning, Came}
use Rattle.routing.specs.Memories.{notes_of}
use Rattle.routing.proofs.Noting.{room}
use Rattle.routing.proofs.Scans.{begins, came_at_once, scan_begins, scan_more, scan_past, scan_came, scan_ends, wait_past, wait_ends}
use Rattle.routing.proofs.search.Visits.search_on.Goals as goal
use Rattle.routing.proofs.search.Visits.search_on.Goals.{in-Some-outlet+else-is_open-2, in_default-outlet, in-Some+else-loop-j-test, in_default}

pub returns-then-is_open-clause-ended : goal.returns-then-is_open-clause-ended
returns-then-is_open-clause-ended g c =
    let m = g.B.Board.meaning c.args.board.now in
    let d = c.args.drawing.now in
    let p = c.args.start in
    let v = c.args.self.now in
    let one = c.requires.lawful.one_each in
    subst (λ s. Came m d p s p)
    (sym (c.enter.ensures.enters ∙ ap (λ n. entered_also (notes v.entered.now v.queue.now v.from.now n) 0 p) c.requires.none_queued))
    (came_at_once m (g.met.B.Board.bounded c.args.board.now) d c.requires.lawful p v.entered.now v.queue.now v.from.now
    (omega (arith, c.requires.long, one)) (omega (arith, c.requires.long, one, v.alike.queue_alike)) (omega (arith, c.requires.long, one, v.alike.from_alike))
    c.requires.none_entered (omega (arith, c.requires.inside, one)) c.requires.unbarred (sym c.if-is_open.ensures))

pub search-init : goal.search-init
search-init g c =
    let m = g.B.Board.meaning c.args.board.now in
    let d = c.args.drawing.now in
    let p = c.args.start in
    let v = c.args.self.now in
    let one = c.requires.lawful.one_each in (
      subst (λ s. Waiting m d p s 0)
          (sym (c.enter.ensures.enters ∙ ap (λ n. entered_also (notes v.entered.now v.queue.now v.from.now n) 0 p) c.requires.none_queued))
          (begins m (g.met.B.Board.bounded c.args.board.now) d c.requires.lawful p v.entered.now v.queue.now v.from.now
          (omega (arith, c.requires.long, one)) (omega (arith, c.requires.long, one, v.alike.queue_alike)) (omega (arith, c.requires.long, one, v.alike.from_alike))
          c.requires.none_entered (omega (arith, c.requires.inside, one)) c.requires.unbarred (sym c.if-is_open.ensures)),
      (refl, refl, refl),
    )

pub visit-requires-clause-inside : goal.visit-requires-clause-inside
visit-requires-clause-inside g c =
    let l = (scan_begins (g.B.Board.meaning c.args.board.now) (g.met.B.Board.bounded c.args.board.now) c.args.drawing.now c.requires.lawful c.args.start
    (notes_of c.search.self) c.search.at c.in-Some.exit c.search.invariant.0 c.if-at-self.false (sym c.in-Some.ensures)).0 in
    omega (arith, l, c.search.invariant.0.searching.entered_long)

pub visit-requires-clause-room : goal.visit-requires-clause-room
visit-requires-clause-room g c e =
    let m = g.B.Board.meaning c.args.board.now in
    let S = c.search.invariant.0.searching in
    let l = (scan_begins m (g.met.B.Board.bounded c.args.board.now) c.args.drawing.now c.requires.lawful c.args.start
    (notes_of c.search.self) c.search.at c.in-Some.exit c.search.invariant.0 c.if-at-self.false (sym c.in-Some.ensures)).0 in
    omega (arith, S.entered_long, room m c.args.drawing.now c.args.start (notes_of c.search.self) S c.in-Some.exit l e)

pub loop-j-init : goal.loop-j-init
loop-j-init g c =
    let m = g.B.Board.meaning c.args.board.now in
    let d = c.args.drawing.now in (
      subst (λ t. Scanning m d c.args.start t c.search.at c.in-Some.exit 0) (sym c.visit.ensures.visits)
          (scan_begins m (g.met.B.Board.bounded c.args.board.now) d c.requires.lawful c.args.start
          (notes_of c.search.self) c.search.at c.in-Some.exit c.search.invariant.0 c.if-at-self.false (sym c.in-Some.ensures)).1,
      (refl, refl, refl),
    )

pub visit-requires-in-Some-outlet-clause-room : goal.visit-requires-in-Some-outlet-clause-room
visit-requires-in-Some-outlet-clause-room g c =
    let m = g.B.Board.meaning c.args.board.now in
    let S = c.loop-j.invariant.0.searching in
    let l = outlet_inside (g.met.B.Board.bounded c.args.board.now) c.in-Some.exit c.loop-j.j c.in-Some-outlet.cell (sym c.in-Some-outlet.ensures) in
    λ e. omega (arith, S.entered_long, room m c.args.drawing.now c.args.start (notes_of c.loop-j.self) S c.in-Some-outlet.cell (omega (arith, c.requires.lawful.one_each)) e)

pub loop-j-preserved : goal.loop-j-preserved
loop-j-preserved g c =
    let m = g.B.Board.meaning c.args.board.now in
    let d = c.args.drawing.now in
    let p = c.args.start in
    let s = notes_of c.loop-j.self in
    let B = g.met.B.Board.bounded c.args.board.now in
    let k = c.search.at in
    let u = c.in-Some.exit in
    let j = c.loop-j.j in
    let names = c.loop-j.invariant.1 in
    elim c.match-outlet.branch [
      | in-Some-outlet+else-is_open-2 w ↦
          let o = sym w.in-Some-outlet.ensures in
          let x = w.in-Some-outlet.cell in
          let l : x < length d = omega (arith, outlet_inside B u j x o, c.requires.lawful.one_each) in
          let same = w.visit-in-Some-outlet.ensures.same in
          rw w.self-is (
            subst (λ t. Scanning m d p t k u (j + 1)) (sym w.visit-in-Some-outlet.ensures.visits)
                (scan_more m B d c.requires.lawful p s k u j c.loop-j.invariant.0 x o l (sym w.if-is_open-2.ensures)),
            (same.0 ∙ names.0, same.1 ∙ names.1, same.2 ∙ names.2),
          )
      | in_default-outlet w ↦
          rw w.self-is (scan_past m B d c.requires.lawful p s k u j c.loop-j.invariant.0 (sym w.in_default-outlet.ensures), names)
    ]

pub search-preserved : goal.search-preserved
search-preserved g c =
    let m = g.B.Board.meaning c.args.board.now in
    let d = c.args.drawing.now in
    let p = c.args.start in
    let B = g.met.B.Board.bounded c.args.board.now in
    let k = c.search.at in
    let names = c.search.invariant.1 in
    elim c.match-exit_of.branch [
      | in-Some+else-loop-j-test w ↦
          let s = notes_of w.loop-j.self in
          let u = w.in-Some.exit in
          let all : w.loop-j.j ≡ 8 = omega (arith, w.loop-j-test.false, w.loop-j.auto.j-end) in
          let later = w.loop-j.invariant.1 in
          let same = w.visit.ensures.same in
          rw w.self-is (
            scan_ends m B d c.requires.lawful p s k u (subst (λ v. Scanning m d p s k u v) all w.loop-j.invariant.0),
            (later.0 ∙ (same.0 ∙ names.0), later.1 ∙ (same.1 ∙ names.1), later.2 ∙ (same.2 ∙ names.2)),
          )
      | in_default w ↦
          rw w.self-is (wait_past m B d c.requires.lawful p (notes_of c.search.self) k c.search.invariant.0 c.if-at-self.false (sym w.in_default.ensures), names)
    ]

pub returns-then-at-self-clause-ended : goal.returns-then-at-self-clause-ended
returns-then-at-self-clause-ended g c =
    wait_ends (g.B.Board.meaning c.args.board.now) (g.met.B.Board.bounded c.args.board.now) c.args.drawing.now c.requires.lawful c.args.start
    (notes_of c.search.self) c.search.at c.search.invariant.0 c.if-at-self.true

pub returns-then-is_open-2-clause-ended : goal.returns-then-is_open-2-clause-ended
returns-then-is_open-2-clause-ended g c =
    let m = g.B.Board.meaning c.args.board.now in
    let d = c.args.drawing.now in
    let p = c.args.start in
    let B = g.met.B.Board.bounded c.args.board.now in
    let u = c.in-Some.exit in
    let j = c.loop-j.j in
    let x = c.in-Some-outlet.cell in
    let o = sym c.in-Some-outlet.ensures in
    let l : x < length d = omega (arith, outlet_inside B u j x o, c.requires.lawful.one_each) in
    subst (λ t. Came m d p t x) (sym c.visit-in-Some-outlet.ensures.visits)
    (scan_came m B d c.requires.lawful p (notes_of c.loop-j.self) c.search.at u j c.loop-j.invariant.0 x o l (sym c.if-is_open-2.ensures))
