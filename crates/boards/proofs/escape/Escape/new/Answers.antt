use Rattle.std.proofs.Common.{vec_items}
use Rattle.boards.specs.declared.maps.MapKind.TheVariants.{EscapeMap}
use Rattle.boards.specs.Grids.{grid_places}
use Rattle.boards.specs.Escapes.{escape, escape_steps, escape_landing}
use Rattle.boards.specs.Accepted.{made_of_checked, held_no_way_in, escape_few}
use Rattle.boards.proofs.escape.Escape.new.Goals as goal

pub returns : goal.returns
returns c = record {
  made = rw c.ok.ensures.value (made_of_checked EscapeMap c.args.rows c.args.columns (vec_items c.args.bytes) escape (λ R C bytes. grid_places 1 R C) c.checked.result c.checked.ensures);
  no_way_in = held_no_way_in 1 escape_steps escape_landing escape_few c.ok.result;
}
