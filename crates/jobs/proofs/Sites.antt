-- The board that a job's calls are made on is the one that its lines describe.
use Rattle.std.proofs.Common.{◌≡◌, ℕ, Bool, ltb, List, map, filter, sym, ap, ◌∙◌, subst}
use Rattle.boards.specs.declared.maps.MapKind.{MapKind}
use Rattle.boards.specs.declared.place.Place.{Place}
use Rattle.boards.specs.Meaning.{Meaning}
use Rattle.boards.specs.Refusals.{NoneHolds}
use Rattle.boards.specs.Maps.{MapFault}
use Rattle.boards.specs.MapMade.{Made}
use Rattle.boards.specs.Grids.{grid_places}
use Rattle.boards.specs.KeepOuts.{keep_out}
use Rattle.job_boards.specs.declared.plan.Pad.{Pad}
use Rattle.job_boards.specs.Plans.{Plan, Sound, among, base, layers}
use Rattle.job_boards.specs.Reading.{named}
use Rattle.job_boards.proofs.Boards.{map_accepted, kept_are_cells, same_keep_out}
use Rattle.jobs.specs.Steps.{Site, Describes}

-- the board made of the plan's map
pub made_of : (p : Plan) → Sound p → (kind : MapKind) → p.kind ≡ kind → (m : Meaning) (ps : List Place) (kept : List ℕ) (pads : List Pad) →
    Made kind p.rows p.columns p.map (base kind p.rows p.columns p.map) (grid_places (layers kind) p.rows p.columns) m ps →
    kept ≡ p.kept → map named pads ≡ p.pads → Describes p m ps kept pads
made_of p s kind is m ps kept pads made k n =
    let M : MapKind → Type 0 = λ x. NoneHolds (MapFault x p.rows p.columns p.map) in
    let ok = made.accepted (subst M is (map_accepted p s)) in
    record {
      sound = s;
      means = ok.0 ∙ sym (ap (λ (x : MapKind). base x p.rows p.columns p.map) is);
      lies = ok.1 ∙ sym (ap (λ (x : MapKind). grid_places (layers x) p.rows p.columns) is);
      closed = k;
      names = n;
    }

-- the same board with what is kept out of it
pub board_site : (p : Plan) (m : Meaning) (ps : List Place) (kept : List ℕ) (pads : List Pad) (closed : ℕ → Bool) → Describes p m ps kept pads →
    ((c : ℕ) → closed c ≡ among (filter (λ x. ltb x m.cells) kept) c) → Site p (keep_out closed m) ps pads
board_site p m ps kept pads closed d h = record {
  means = same_keep_out closed (among p.kept) m
      (λ c. h c ∙ ap (λ xs. among xs c) (ap (λ ys. filter (λ x. ltb x m.cells) ys) d.closed ∙ ap (λ (b : Meaning). filter (λ x. ltb x b.cells) p.kept) d.means ∙ kept_are_cells p d.sound))
      ∙ ap (keep_out (among p.kept)) d.means;
  lies = d.lies;
  names = d.names;
}
