-- What a record says of its cell.
use Rattle.std.specs.Prelude.{ℕ, Bool, true, false, List, Some, None, Option, slice_index_or}
use Rattle.records.specs.declared.record.Record.{Record}
use Rattle.records.specs.declared.record.Record.TheVariants.{Free, Barred, Net}

-- the cell before, and the cell after, that a net cell names
abbrev pub before_of : Record → Option ℕ
before_of Free = None
before_of Barred = None
before_of (Net b a) = b

abbrev pub after_of : Record → Option ℕ
after_of Free = None
after_of Barred = None
after_of (Net b a) = a

abbrev pub is_net : Record → Bool
is_net Free = false
is_net Barred = false
is_net (Net b a) = true

abbrev pub is_barred : Record → Bool
is_barred Free = false
is_barred Barred = true
is_barred (Net b a) = false

-- on a net, with none before
abbrev pub is_first : Record → Bool
is_first Free = false
is_first Barred = false
is_first (Net None a) = true
is_first (Net (Some s) a) = false

-- on a net, with none after
abbrev pub is_last : Record → Bool
is_last Free = false
is_last Barred = false
is_last (Net b None) = true
is_last (Net b (Some t)) = false

-- the record of a cell; a number past the last record is as a free cell
abbrev pub record_at : List Record → ℕ → Record
record_at d c = slice_index_or d c Free
