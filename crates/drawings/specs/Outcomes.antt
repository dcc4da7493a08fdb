-- What an accepted call does: d is the drawing before it, e the drawing after it, c the cell that it names.
use Rattle.std.specs.Prelude.{◌≡◌, ℕ, true, List, [], ◌∷◌, length}
use Rattle.boards.specs.Meaning.{Meaning, pad_at, landing_at}
use Rattle.linkages.specs.Lists.{Mem}
use Rattle.records.specs.declared.record.Record.{Record}
use Rattle.records.specs.declared.record.Record.TheVariants.{Free}
use Rattle.records.specs.Records.{record_at}
use Rattle.drawings.specs.Nets.{wired, bars, used, net, last_of, without}
use Rattle.drawings.specs.Changes.{written}
use Rattle.drawings.specs.Lawful.{Lawful}

-- the cells of a list are free and every other cell is as before
pub record Frees (cells : List ℕ) (d e : List Record) : Type 0 where
  pub long : length e ≡ length d
  pub inside : (k : ℕ) → Mem k cells → record_at e k ≡ Free
  pub outside : (k : ℕ) → (Mem k cells → ⊥) → record_at e k ≡ record_at d k

-- every cell is free
pub record Made (m : Meaning) (e : List Record) (answer : ℕ) : Type 0 where
  pub zero : answer ≡ 0
  pub free : (k : ℕ) → record_at e k ≡ Free
  pub lawful : Lawful m e
  pub none_wired : wired e ≡ []
  pub none_barred : bars e ≡ []
  pub none_used : used m e ≡ []

-- the net of the pad is free, and no other cell is changed; the answer is the landing set free
pub record Lifted (m : Meaning) (d e : List Record) (c answer : ℕ) : Type 0 where
  pub frees : Frees (net d c) d e
  pub last : answer ≡ last_of c (net d c)
  pub landing : landing_at m answer ≡ true
  pub lawful : Lawful m e
  pub one_less : wired e ≡ without c (wired d)
  pub same_bars : bars e ≡ bars d
  pub landing_free : used m e ≡ without answer (used m d)
  pub same_nets : (w : ℕ) → Mem w (wired e) → net e w ≡ net d w

-- the cell is free, and no other cell is changed; the answer is how many bars remain
pub record Cleared (m : Meaning) (d e : List Record) (c answer : ℕ) : Type 0 where
  pub frees : Frees (c ∷ []) d e
  pub remain : answer ≡ length (bars e)
  pub lawful : Lawful m e
  pub one_less : bars e ≡ without c (bars d)
  pub same_wired : wired e ≡ wired d
  pub same_used : used m e ≡ used m d
  pub same_nets : (w : ℕ) → Mem w (wired d) → net e w ≡ net d w

-- the net's cells, from the pad on, stand at the front of report memory, and its rest is as before; the answer is how many they are
pub record Shown (m : Meaning) (d : List Record) (before after : List ℕ) (c answer : ℕ) : Type 0 where
  pub count : answer ≡ length (net d c)
  pub writes : after ≡ written (net d c) before
  pub from_pad : pad_at m c ≡ true
  pub to_landing : landing_at m (last_of c (net d c)) ≡ true
