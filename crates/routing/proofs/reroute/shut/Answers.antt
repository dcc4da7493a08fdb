use Rattle.std.proofs.Common.{◌≡◌, ℕ, ◌≤◌, List, length, Some, None, Option, ◌∙◌, arith}
use Rattle.std.specs.Option.{unwrap_or}
use Rattle.records.specs.declared.record.Record.{Record}
use Rattle.drawings.specs.Nets.{net, Runs}
use Rattle.drawings.specs.Changes.{written, Listed}
use Rattle.drawings.proofs.Follow.{run_short}
use Rattle.routing.proofs.reroute.shut.Goals as goal

-- a net that comes to an end is listed where there is room
listed : (d : List Record) (q : ℕ) (into into' : List ℕ) (o : Option ℕ) → Runs d q (net d q) → length d ≤ length into →
    Listed d q into into' o → (unwrap_or o 0 ≡ length (net d q)) × (into' ≡ written (net d q) into)
listed d q into into' None r l h = absurd (h.0 (net d q) r (omega (arith, run_short r)))
listed d q into into' (Some n) r l h = (h.1, h.3)

pub returns-clause-count : goal.returns-clause-count
returns-clause-count c =
    c.unwrap_or-count.ensures ∙ (listed c.args.drawing.now c.args.pad c.args.saved.now c.list_net.new.into c.list_net.result c.requires.runs c.requires.room c.list_net.ensures).0

pub returns-clause-saves : goal.returns-clause-saves
returns-clause-saves c =
    (listed c.args.drawing.now c.args.pad c.args.saved.now c.list_net.new.into c.list_net.result c.requires.runs c.requires.room c.list_net.ensures).1
