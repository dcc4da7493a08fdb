use Rattle.std.proofs.Common.{vec_items}
use Rattle.boards.specs.declared.maps.MapKind.TheVariants.{FieldMap}
use Rattle.boards.specs.Grids.{grid_places}
use Rattle.boards.specs.Fields.{field, field_steps, field_landing}
use Rattle.boards.specs.Accepted.{made_of_checked, held_no_way_in, field_few}
use Rattle.boards.proofs.field.Field.new.Goals as goal

pub returns : goal.returns
returns c = record {
  made = rw c.ok.ensures.value (made_of_checked FieldMap c.args.rows c.args.columns (vec_items c.args.bytes) field (λ R C bytes. grid_places 2 R C) c.checked.result c.checked.ensures);
  no_way_in = held_no_way_in 2 field_steps (λ R C bytes. field_landing C bytes) field_few c.ok.result;
}
