-- Going on from a cell, as `follow` does, whether or not that comes to the end of a net.
use Rattle.std.proofs.Common.{◌≡◌, ℕ, zero, suc, ◌+◌, ◌<◌, Bool, true, false, List, [], ◌∷◌, length, Some, None, Option, sym, refl, ap, ◌∙◌, arith}
use Rattle.std.specs.List.{enumerate_from, last_or}
use Rattle.std.specs.Iterator.{YieldsFirst, Drains}
use Rattle.std.specs.Iterator.Adapters.{enumerate_source, enumerate_count, enumerate_steps}
use Rattle.std.specs.Bool.{then_some}
use Rattle.std.specs.declared.iter.Enumerate.{Enumerate}
use Rattle.std.proofs.lemmas.Bool.{both_ways}
use Rattle.std.proofs.lemmas.Iterator.{items_from_drains}
use Rattle.std.proofs.lemmas.Iterator.Consumers.{YieldsList-from_first, YieldsList-from_enumerate}
use Rattle.std.proofs.lemmas.List.{map-id}
use Rattle.std.proofs.lemmas.Option.{none-some, some_pair_parts}
use Rattle.records.specs.declared.record.Record.{Record}
use Rattle.records.specs.Records.{record_at}
use Rattle.drawings.specs.declared.nets.Following.{Following}
use Rattle.drawings.specs.Following.{cells_left}
use Rattle.drawings.specs.Nets.{after_at, last_at, onward, net, last_of, Runs, ends, goes}
use Rattle.drawings.specs.Changes.{Measured}
use Rattle.drawings.proofs.Said.{after_net}
use Rattle.drawings.proofs.Follow.{onward_short, net_run, run_some}
use Rattle.drawings.proofs.Freeing.{run_last_at}

-- the cells met are a net where the last of them is the last of a net
pub run_onward : (d : List Record) (c k : ℕ) → 0 < k → last_at d (last_of c (onward d (Some c) k)) ≡ true → Runs d c (onward d (Some c) k)
run_onward d c zero l h = absurd (omega (arith, l))
run_onward d c (suc k) l h = go (after_at d c) k refl h (λ t l. run_onward d t k l)
  where
    go : (o : Option ℕ) (k : ℕ) → after_at d c ≡ o → last_at d (last_of c (c ∷ onward d o k)) ≡ true →
        ((t : ℕ) → 0 < k → last_at d (last_of t (onward d (Some t) k)) ≡ true → Runs d t (onward d (Some t) k)) → Runs d c (c ∷ onward d o k)
    go None k e h rec = ends h
    go (Some t) zero e h rec = absurd (both_ways (last_at d c) (after_net (record_at d c) t e).1 h)
    go (Some t) (suc k) e h rec = goes e (rec t (omega arith) h)

-- the last of numbered cells
last_more : (xs : List ℕ) (i q y p x : ℕ) → last_or (Some (q, y)) (enumerate_from i xs) ≡ Some (p, x) → q + 1 ≡ i →
    (p + 1 ≡ i + length xs) × (x ≡ last_of y xs)
last_more [] i q y p x e h = let s = some_pair_parts q p y x e in (omega (arith, s.0), sym s.1)
last_more (z ∷ zs) i q y p x e h = let s = last_more zs (i + 1) i z p x e refl in (omega (arith, s.0), s.1)

pub last_numbered : (c : ℕ) (xs : List ℕ) (p x : ℕ) → Some (p, x) ≡ last_or None (enumerate_from 0 xs) → (p + 1 ≡ length xs) × (x ≡ last_of c xs)
last_numbered c [] p x e = absurd (none-some (p, x) (sym e))
last_numbered c (y ∷ ys) p x e = let s = last_more ys 1 0 y p x (sym e) refl in (omega (arith, s.0), s.1)

none_numbered : (xs : List ℕ) → None ≡ last_or None (enumerate_from 0 xs) → length xs ≡ 0
none_numbered [] e = refl
none_numbered (x ∷ xs) e = absurd (go xs 1 (0, x) e)
  where
    go : (xs : List ℕ) (i : ℕ) (y : ℕ × ℕ) → None ≡ last_or (Some y) (enumerate_from i xs) → ⊥
    go [] i y e = none-some y e
    go (z ∷ zs) i y e = go zs (i + 1) (i, z) e

-- what numbering the cells and taking the last comes to
pub last_met : (d : List Record) (c : ℕ) {s : Enumerate Following} (r : Option (ℕ × ℕ)) → cells_left (enumerate_source s) ≡ net d c → enumerate_count s ≡ 0 →
    (xs : List (ℕ × ℕ)) × Drains (enumerate_steps (YieldsFirst cells_left)) s xs × (r ≡ last_or None xs) → r ≡ last_or None (enumerate_from 0 (net d c))
last_met d c r e n h =
    let drained = h.1 in
    let road = YieldsList-from_enumerate (YieldsList-from_first (λ x. x) cells_left (net d c) e) n in
    h.2 ∙ ap (last_or None) (sym (map-id h.0) ∙ items_from_drains h.0 (drained.1.0, drained.1.1, λ w. (drained.0, drained.1.2)) road)

pub none_met : (d : List Record) (c : ℕ) → None ≡ last_or None (enumerate_from 0 (net d c)) → (xs : List ℕ) → Runs d c xs → ⊥
none_met d c e xs r = omega (arith, none_numbered (net d c) e, ap length (net_run r), run_some r)

pub last_measures : (d : List Record) (c p x : ℕ) → Some (p, x) ≡ last_or None (enumerate_from 0 (net d c)) →
    Measured d c (then_some (last_at d x) (p + 1))
last_measures d c p x e = go (last_at d x) refl
  where
    s : (p + 1 ≡ length (net d c)) × (x ≡ last_of c (net d c))
    s = last_numbered c (net d c) p x e

    go : (b : Bool) → last_at d x ≡ b → Measured d c (then_some b (p + 1))
    go true h = (run_onward d c (length d) (omega (arith, s.0, onward_short d (Some c) (length d))) (ap (last_at d) (sym s.1) ∙ h), s.0)
    go false h = λ xs r. both_ways (last_at d x) h (ap (last_at d) (s.1 ∙ ap (last_of c) (net_run r)) ∙ run_last_at c r)
