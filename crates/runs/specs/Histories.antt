-- Histories of calls on one drawing, and the book that is kept of them.
use Rattle.std.specs.Prelude.{ℕ, List, [], ◌∷◌, replicate, Ok, Err, Result}
use Rattle.boards.specs.Meaning.{Meaning}
use Rattle.records.specs.declared.record.Record.{Record}
use Rattle.records.specs.declared.record.Record.TheVariants.{Free}
use Rattle.records.specs.declared.refusal.Refusal.{Refusal}
use Rattle.drawings.specs.Nets.{without}
use Rattle.runs.specs.declared.calls.Kind.{Kind}
use Rattle.runs.specs.declared.calls.Kind.TheVariants.{Place, Lift, Bar, Clear}

-- one call: what it does and to which cell, the drawing before and after it, the memory that it brings and what that holds at the
-- end, and the answer
pub record Event : Type 0 where
  pub kind : Kind
  pub cell : ℕ
  pub before : List Record
  pub after : List Record
  pub work : List ℕ
  pub work_after : List ℕ
  pub report : List ℕ
  pub report_after : List ℕ
  pub answer : Result ℕ Refusal

-- the calls so far, the newest first
abbrev pub History : Type 0
History = List Event

-- the drawing that stands at the end: just made, or as the newest call left it
abbrev pub stands : Meaning → History → List Record
stands m [] = replicate m.cells Free
stands m (e ∷ h) = e.after

-- the pads that are to be wired and the cells that are to be barred
pub record Book : Type 0 where
  pub pads : List ℕ
  pub barred : List ℕ

abbrev pub empty_book : Book
empty_book = record { pads = []; barred = [] }

-- an accepted call is entered: place adds a pad, lift removes it, bar adds a cell, clear removes it
abbrev pub entered : Kind → ℕ → Book → Book
entered Place c b = record { pads = c ∷ b.pads; barred = b.barred }
entered Lift c b = record { pads = without c b.pads; barred = b.barred }
entered Bar c b = record { pads = b.pads; barred = c ∷ b.barred }
entered Clear c b = record { pads = b.pads; barred = without c b.barred }

-- a refused call changes nothing
abbrev pub fed : Kind → ℕ → Result ℕ Refusal → Book → Book
fed kind c (Ok x) b = entered kind c b
fed kind c (Err r) b = b

abbrev pub book : History → Book
book [] = empty_book
book (e ∷ h) = fed e.kind e.cell e.answer (book h)

-- the pads to be met by a call, and the bars: place counts its own pad, bar its own cell
abbrev pub pads_to_meet : Kind → ℕ → Book → List ℕ
pads_to_meet Place c b = c ∷ b.pads
pads_to_meet Lift c b = b.pads
pads_to_meet Bar c b = b.pads
pads_to_meet Clear c b = b.pads

abbrev pub bars_to_meet : Kind → ℕ → Book → List ℕ
bars_to_meet Place c b = b.barred
bars_to_meet Lift c b = b.barred
bars_to_meet Bar c b = c ∷ b.barred
bars_to_meet Clear c b = b.barred
