-- The memory that a search was lent, as a value of the code holds it.
use Rattle.std.specs.Prelude.{◌≡◌}
use Rattle.routing.specs.Searches.{Notes, notes}
use Rattle.routing.specs.declared.search.Visits.{Visits}

abbrev pub notes_of : Visits → Notes
notes_of v = notes v.entered.now v.queue.now v.from.now v.count

-- the three are the caller's memories that they were, and no others: what stands in them stands in the caller's memory
abbrev pub SameMemory : Visits → Visits → Type 0
SameMemory a b =
    (b.entered.ghost_name ≡ a.entered.ghost_name) × (b.queue.ghost_name ≡ a.queue.ghost_name) × (b.from.ghost_name ≡ a.from.ghost_name)
