-- What a plan of the code always keeps, said of the same as plain data.
use Rattle.std.proofs.Common.{List, length, [], ◌∷◌, map, vec_items, ⊎_elim, arith}
use lib.ListN.{length-map}
use Rattle.std.specs.List.{AllByRecursion}
use Rattle.std.proofs.lemmas.List.{get_or_past}
use Rattle.std.proofs.lemmas.List.Elements.{recursion_from_All}
use Rattle.std.proofs.lemmas.Bool.{cases_lt}
use Rattle.job_boards.specs.declared.plan.Pad.{Pad}
use Rattle.job_boards.specs.declared.plan as code
use Rattle.job_boards.specs.Plans.{Named, Sound}
use Rattle.job_boards.specs.Reading.{named, plan_of}

each_named : (P : Named → Type 0) (pads : List Pad) → AllByRecursion (λ pad. P (named pad)) pads → AllByRecursion P (map named pads)
each_named P [] h = tt
each_named P (x ∷ pads) h = (h.0, each_named P pads h.1)

pub sound : (plan : code.Plan.Plan) → Sound (plan_of plan)
sound plan = record {
  sides = plan.header.allowed;
  full = omega (arith, plan.full, plan.map.ok.0);
  bytes = λ i. ⊎_elim (λ h. plan.known i 0 h) (λ h. omega (arith, get_or_past (vec_items plan.map) i 0 h)) (cases_lt i (length (vec_items plan.map)));
  few = omega (arith, plan.few, plan.pads.ok.0, length-map (vec_items plan.pads) named);
  on_board = each_named _ _ (recursion_from_All _ _ plan.on_board);
  cells = recursion_from_All _ _ plan.cells;
}
