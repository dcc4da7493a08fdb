-- The drawing that stands after an upheld history, and the calls of such a history.
use Rattle.std.proofs.Common.{◌≡◌, ℕ, List, [], ◌∷◌, get_or, replicate, arith}
use lib.ListN.{length-replicate, get_or-replicate}
use Rattle.std.proofs.lemmas.List.{get_or_past}
use Rattle.boards.specs.Meaning.{Meaning}
use Rattle.linkages.specs.Lists.{Same}
use Rattle.linkages.proofs.Members.{mem_none}
use Rattle.records.specs.declared.record.Record.{Record}
use Rattle.records.specs.declared.record.Record.TheVariants.{Free}
use Rattle.drawings.specs.Nets.{wired, bars}
use Rattle.drawings.specs.Lawful.{Lawful}
use Rattle.drawings.proofs.Accepted.{made}
use Rattle.runs.specs.Histories.{Event, History, Book, stands, book}
use Rattle.runs.specs.Claim.{Upheld, Upholds, MadeAfter, newest, earlier}

-- the drawing is lawful and holds what the book says
pub record Standing (m : Meaning) (d : List Record) (b : Book) : Type 0 where
  pub lawful : Lawful m d
  pub pads : Same (wired d) b.pads
  pub barred : Same (bars d) b.barred

empty_same : (xs : List ℕ) → xs ≡ [] → Same xs []
empty_same xs e = (λ c k. rw e at k, λ c k. absurd (mem_none k))

all_free : (n k : ℕ) → get_or (replicate n Free) k Free ≡ Free
all_free n k = grind (arith, length-replicate, get_or-replicate, get_or_past)

pub standing : (m : Meaning) (h : History) → Upholds m h → Standing m (stands m h) (book h)
standing m [] u =
    let f = made m (replicate m.cells Free) (length-replicate m.cells Free) (all_free m.cells) in
    record { lawful = f.lawful; pads = empty_same _ f.none_wired; barred = empty_same _ f.none_barred }
standing m (e ∷ h) u = record { lawful = u.0.lawful; pads = u.0.holds_pads; barred = u.0.holds_bars }

-- each call of an upheld history is upheld, and so are the calls before it
pub upheld_at : {m : Meaning} {e : Event} {g h : History} → MadeAfter e g h → Upholds m h → Upheld m e g × Upholds m g
upheld_at newest u = u
upheld_at (earlier k) u = upheld_at k u.1
