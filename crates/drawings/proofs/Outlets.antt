-- Outlets by their places.
use Rattle.std.proofs.Common.{◌≡◌, ℕ, ◌<◌, List, length, Some, sym, ap, ◌∙◌}
use Rattle.boards.specs.Meaning.{at}
use Rattle.boards.specs.Lists.{at_some, at_in}
use Rattle.linkages.specs.Lists.{Mem}
use Rattle.linkages.proofs.Members.{mem_at}
use Rattle.linkages.proofs.Places.{mem_get_or, has_from_mem}

pub outlet_mem : (xs : List ℕ) (j t : ℕ) → at xs j ≡ Some t → Mem t xs
outlet_mem xs j t e = let h = at_some xs j t e in mem_at (sym h.1) (mem_get_or xs j 0 h.0)

pub mem_outlet : (xs : List ℕ) (t : ℕ) → Mem t xs → (j : ℕ) × (j < length xs) × (at xs j ≡ Some t)
mem_outlet xs t m = let p = has_from_mem xs t m in (p.0, p.1, at_in xs p.0 p.1 ∙ ap Some (p.2 0))
