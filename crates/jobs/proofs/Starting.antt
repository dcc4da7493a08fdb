-- The start of the calls.
use Rattle.std.proofs.Common.{◌≡◌, ℕ, List, [], replicate}
use Rattle.boards.specs.declared.place.Place.{Place}
use Rattle.boards.specs.Meaning.{Meaning}
use Rattle.records.specs.declared.record.Record.{Record}
use Rattle.records.specs.declared.record.Record.TheVariants.{Free}
use Rattle.job_boards.specs.declared.plan.Pad.{Pad}
use Rattle.job_boards.specs.Plans.{Plan}
use Rattle.jobs.specs.Calls.{Calls, none_yet}
use Rattle.jobs.specs.Steps.{Site}

pub calls_begin : (p : Plan) (m : Meaning) (ps : List Place) (pads : List Pad) (room : ℕ) (lines : List (List ℕ)) (d : List Record) (said : List ℕ) →
    Site p m ps pads → d ≡ replicate m.cells Free → said ≡ [] → Calls p room lines 0 d said lines
calls_begin p m ps pads room lines d said S e s =
    rw (s, e, S.means) none_yet
