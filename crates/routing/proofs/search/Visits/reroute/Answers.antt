use Rattle.std.proofs.Common.{◌≡◌, ℕ, true, false, List, ◌∷◌, length, take, drop, Result, Ok, Err, OnErr, sym, ap, ◌∙◌, subst, arith}
use Rattle.std.specs.Result.{is_err}
use Rattle.std.proofs.lemmas.List.{take_at}
use Rattle.std.proofs.lemmas.Bool.{false≢true}
use Rattle.boards.specs.Meaning.{Meaning}
use Rattle.linkages.specs.Lists.{Mem}
use Rattle.records.specs.declared.record.Record.{Record}
use Rattle.drawings.specs.Nets.{first_at, barred_at, wired, bars, net}
use Rattle.drawings.specs.Changes.{laid, written}
use Rattle.drawings.specs.Lawful.{Lawful}
use Rattle.routing.specs.Outcomes.{FenceShown, WiredAlso, Routed, Rerouted}
use Rattle.routing.proofs.Barring.{pad_runs, shut_in, shut_lawful, q_unwired, q_unbarred, barred_also, fence_barred, relaid_whole}
use Rattle.routing.proofs.search.Visits.reroute.Goals as goal

pub shut-count-requires-clause-runs : goal.shut-count-requires-clause-runs
shut-count-requires-clause-runs g c =
    pad_runs (g.B.Board.meaning c.args.board.now) c.args.drawing.now c.args.pad c.args.cell c.requires.lawful c.requires.wired c.requires.along

pub route-found-requires-clause-lawful : goal.route-found-requires-clause-lawful
route-found-requires-clause-lawful g c =
    let m = g.B.Board.meaning c.args.board.now in
    subst (Lawful m) (sym c.shut-count.ensures.bars)
    (shut_lawful m c.args.drawing.now c.args.pad c.args.cell c.requires.lawful c.requires.wired c.requires.along)

pub route-found-requires-clause-is_pad : goal.route-found-requires-clause-is_pad
route-found-requires-clause-is_pad g c = (c.requires.lawful.local c.args.pad).first_is_pad c.requires.wired

pub route-found-requires-clause-unwired : goal.route-found-requires-clause-unwired
route-found-requires-clause-unwired g c =
    ap (λ d. first_at d c.args.pad) c.shut-count.ensures.bars ∙
    q_unwired (g.B.Board.meaning c.args.board.now) c.args.drawing.now c.args.pad c.args.cell c.requires.lawful c.requires.wired c.requires.along c.requires.unwired

pub route-found-requires-clause-unbarred : goal.route-found-requires-clause-unbarred
route-found-requires-clause-unbarred g c =
    ap (λ d. barred_at d c.args.pad) c.shut-count.ensures.bars ∙
    q_unbarred (g.B.Board.meaning c.args.board.now) c.args.drawing.now c.args.pad c.args.cell c.requires.lawful c.requires.wired c.requires.along c.requires.unwired

-- the net laid again from where it was listed
again : (d D E : List Record) (xs zs ss ss' : List ℕ) (n : ℕ) → laid xs D ≡ d → n ≡ length xs → zs ≡ written xs ss → ss' ≡ zs → E ≡ D → laid (take n ss') E ≡ d
again d D E xs zs ss ss' n back long wrote kept same =
    let front : take n ss' ≡ xs = ap (take n) (kept ∙ wrote) ∙ take_at xs (drop (length xs) ss) n (omega arith) in
    ap (λ ys. laid ys E) front ∙ (ap (laid xs) same ∙ back)

module _ (m : Meaning) (d : List Record) (q x : ℕ) (W : Lawful m d) (first : first_at d q ≡ true) (along : Mem x (net d q)) (D e : List Record)
    (same : D ≡ shut_in d q x) (report report' : List ℕ) where
  -- with the cell barred there was a way
  found : (r : Result ℕ (ℕ × ℕ)) → is_err r ≡ false → Routed m D e q report report' r → Rerouted m d e x report report' r
  found (Ok z) h w = (barred_also m d q x W first along e z (subst (λ D. WiredAlso m D e q z) same w.0), w.1)
  found (Err k) h w = absurd (false≢true (sym h))

  -- there was none, and the net was laid again
  refused : (e' : List Record) (spare spare' : List ℕ) (r : Result ℕ (ℕ × ℕ)) → is_err r ≡ true → Routed m D e q report report' r →
      OnErr r (spare' ≡ spare) → (spare' ≡ spare → e ≡ shut_in d q x → e' ≡ d) → Rerouted m d e' x report report' r
  refused e' spare spare' (Ok z) h w kept back = absurd (false≢true h)
  refused e' spare spare' (Err k) h w kept back = (
    back kept (w.0 ∙ same),
    fence_barred m d q x W first along report report' k.0 k.1 (subst (λ D. FenceShown m (bars D) (q ∷ wired D) report report' k.0 k.1) same w.1),
  )

pub returns-else-is_err-clause-rerouted : goal.returns-else-is_err-clause-rerouted
returns-else-is_err-clause-rerouted g c =
    found (g.B.Board.meaning c.args.board.now) c.args.drawing.now c.args.pad c.args.cell c.requires.lawful c.requires.wired c.requires.along
    c.shut-count.new.drawing c.route-found.new.drawing c.shut-count.ensures.bars c.args.report.now c.route-found.new.report
    c.route-found.result (sym c.if-is_err.ensures.value) c.route-found.ensures.routed

pub returns-then-is_err-clause-rerouted : goal.returns-then-is_err-clause-rerouted
returns-then-is_err-clause-rerouted g c =
    let m = g.B.Board.meaning c.args.board.now in
    let d = c.args.drawing.now in
    let q = c.args.pad in
    let x = c.args.cell in
    refused m d q x c.requires.lawful c.requires.wired c.requires.along
    c.shut-count.new.drawing c.route-found.new.drawing c.shut-count.ensures.bars c.args.report.now c.route-found.new.report
    c.lay.new.drawing c.shut-count.new.saved c.route-found.new.spare c.route-found.result (sym c.if-is_err.ensures.value)
    c.route-found.ensures.routed c.route-found.ensures.spared
    (λ kept same. c.lay.ensures ∙ again d (shut_in d q x) c.route-found.new.drawing (net d q) c.shut-count.new.saved c.args.spare.now c.route-found.new.spare
    c.shut-count.result (relaid_whole m d q x c.requires.lawful c.requires.wired c.requires.along) c.shut-count.ensures.count c.shut-count.ensures.saves kept same)
