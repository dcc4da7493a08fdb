use Rattle.std.proofs.Common.{◌≡◌, ℕ, ◌-◌, ◌<◌, ◌≤◌, List, length, get_or, take}
use Rattle.std.specs.Iterator.Adapters.{rev_source}
use Rattle.std.specs.Slice.Iter.{windows_rest, windows_size}
use Rattle.boards.specs.Meaning.{Meaning}
use Rattle.records.specs.declared.record.Record.{Record}
use Rattle.drawings.specs.Lawful.{Lawful}
use Rattle.rewiring.specs.Trails.{Trail}
use Rattle.rewiring.specs.Moves.{alone}
use Rattle.rewiring.proofs.Courses.{BackTo}
use Rattle.rewiring.proofs.moves.follow_back.Given as goal

-- the pairs still to come are those of the trail's first cells, and of each drawing that the loop began with, but for the landing,
-- the trail is taken back to the last of these
abbrev pub invariant-loop-pair : goal.invariant-loop-pair
invariant-loop-pair l =
    let left = windows_rest (rev_source l.pair-iterator) in
    record {
      pairs : windows_size (rev_source l.pair-iterator) ≡ 2;
      front : left ≡ take (length left) l.trail;
      some : 0 < length left;
      inside : length left ≤ length l.trail;
      back : (m : Meaning) (d : List Record) (p z : ℕ) → l.initial.drawing ≡ alone d (get_or l.trail (length l.trail - 1) 0) →
          Lawful m d → Trail m d p z l.trail → BackTo m d z l.drawing l.trail (length left - 1);
    }
