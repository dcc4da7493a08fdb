-- Trails: how a search goes from a pad to a landing on no net, past and back along the nets of a drawing, and what
-- rewiring along a trail gives.
use Rattle.std.specs.Prelude.{◌≡◌, ℕ, ◌<◌, true, false, List, ◌∷◌, length, Some, None, Option}
use Rattle.boards.specs.Meaning.{Meaning, outlets_of, pad_at, landing_at}
use Rattle.linkages.specs.Lists.{Mem, Distinct, Next, Same}
use Rattle.records.specs.declared.record.Record.{Record}
use Rattle.records.specs.declared.record.Record.TheVariants.{Free, Barred, Net}
use Rattle.records.specs.Records.{record_at}
use Rattle.drawings.specs.Nets.{net_at, first_at, barred_at, wired, bars, used}
use Rattle.drawings.specs.Lawful.{Lawful}

-- where a search that has entered the cell t goes on from: t itself if it is on no net, else the cell before t on its net;
-- from the first cell of a net it goes nowhere
abbrev pub exit_of : Record → ℕ → Option ℕ
exit_of Free t = Some t
exit_of Barred t = None
exit_of (Net b a) t = b

-- t can be entered from s: it is the exit of s, or an unbarred outlet of the exit
pub data Enters (m : Meaning) (d : List Record) (s t : ℕ) : Type 0 where
  back : exit_of (record_at d s) s ≡ Some t → Enters m d s t
  onward : {u : ℕ} → exit_of (record_at d s) s ≡ Some u → Mem t (outlets_of m u) → barred_at d t ≡ false → Enters m d s t

-- ts goes from the pad p to the landing z, over different cells, each entered from the one before it; z is the only landing
-- on no net among them
pub record Trail (m : Meaning) (d : List Record) (p z : ℕ) (ts : List ℕ) : Type 0 where
  pub rest : List ℕ
  pub starts : ts ≡ p ∷ rest
  pub differ : Distinct ts
  pub inside : (c : ℕ) → Mem c ts → c < length d
  pub unbarred : (c : ℕ) → Mem c ts → barred_at d c ≡ false
  pub enters : (s t : ℕ) → Next s t ts → Enters m d s t
  pub start_is_pad : pad_at m p ≡ true
  pub start_unwired : first_at d p ≡ false
  pub ends : Mem z ts
  pub end_is_last : (t : ℕ) → Next z t ts → ⊥
  pub end_is_landing : landing_at m z ≡ true
  pub end_off_nets : net_at d z ≡ false
  pub one_landing : (c : ℕ) → Mem c ts → landing_at m c ≡ true → net_at d c ≡ false → c ≡ z

-- the drawing e is d with the pad p wired as well, moved as need be: the same bars, and one more landing used, z
pub record Rewired (m : Meaning) (d e : List Record) (p z : ℕ) : Type 0 where
  pub lawful : Lawful m e
  pub one_more : Same (wired e) (p ∷ wired d)
  pub same_bars : bars e ≡ bars d
  pub landing_used : Same (used m e) (z ∷ used m d)
