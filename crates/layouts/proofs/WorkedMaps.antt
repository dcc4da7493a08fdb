-- The small maps, worked out.
use Rattle.std.proofs.Common.{◌≡◌, ℕ, zero, suc, ◌+◌, ◌*◌, ◌<◌, ◌≤◌, true, false, List, [], ◌∷◌, map, length, get_or, Some, None, Option, sym, refl, ap, ◌∙◌, subst, inl, inr, arith}
use Rattle.std.proofs.lemmas.Bool.{false≢true}
use Rattle.boards.specs.declared.place.Place.{Place}
use Rattle.boards.specs.Meaning.{Meaning, pad_at, landing_at, outlets_of}
use Rattle.boards.specs.Grids.{OnGrid, cell_of}
use Rattle.boards.specs.Maps.{SidesAllowed, pad_point}
use Rattle.boards.specs.Fields.{field}
use Rattle.boards.specs.SmallBoards.{three_points}
use Rattle.linkages.specs.Lists.{Mem, here, there}
use Rattle.linkages.specs.Paths.{upto_landing}
use Rattle.linkages.proofs.Members.{mem_none, mem_one, mem_at}
use Rattle.records.specs.declared.record.Record.{Record}
use Rattle.records.specs.declared.record.Record.TheVariants.{Barred, Net}
use Rattle.records.specs.Records.{before_of, after_of, is_first, is_last, record_at}
use Rattle.drawings.specs.Nets.{before_at, after_at, net_at, net, bars}
use Rattle.drawings.specs.Lawful.{Local, Reached, first, next, Lawful, Begins, GoesOn}
use Rattle.drawings.proofs.Said.{none_not_some, net_inside}
use Rattle.drawings.proofs.Locals.{local_free, local_everywhere}
use Rattle.layouts.specs.declared.wires.Point.{Point}
use Rattle.layouts.specs.declared.wires.Layer.{Layer}
use Rattle.layouts.specs.declared.wires.Layer.TheVariants.{Top, Bottom}
use Rattle.layouts.specs.Layouts.{stops, steps, Wire, WireOf, Legal, OnMap, PadPoint, on_layer, occupied}
use Rattle.layouts.specs.Theorems.{IsFieldMap, top_cell}
use Rattle.layouts.proofs.Laying.{local_off}
use Rattle.layouts.proofs.Moves.{point_eq}
use Rattle.layouts.specs.Examples.{spot, one_wire, two_landings, stopped, passed_above, PastALanding, one_point, straight_down, PadOnALanding, DownAtAnotherPad}

-- ---- maps

map_good : (R C : ℕ) (bytes : List ℕ) → SidesAllowed R C → length bytes ≡ R * C → ((i : ℕ) → 3 < get_or bytes i 0 → ⊥) → IsFieldMap R C bytes
map_good R C bytes s l few k (inl h) = h.1 s
map_good R C bytes s l few k (inr (inl h)) = h.1 l
map_good R C bytes s l few k (inr (inr h)) = few h.1.0 h.1.2

few_of : (bytes : List ℕ) → ((b : ℕ) → Mem b bytes → b ≤ 3) → (i : ℕ) → 3 < get_or bytes i 0 → ⊥
few_of [] f i h = omega arith
few_of (b ∷ bytes) f zero h = omega (arith, f b (here refl))
few_of (b ∷ bytes) f (suc i) h = few_of bytes (λ x k. f x (there k)) i h

none_more : (b : ℕ) → Mem b [] → b ≤ 3
none_more b k = absurd (mem_none k)

one_more : (x : ℕ) (bytes : List ℕ) → x ≤ 3 → ((b : ℕ) → Mem b bytes → b ≤ 3) → (b : ℕ) → Mem b (x ∷ bytes) → b ≤ 3
one_more x bytes h f b (here e) = omega arith
one_more x bytes h f b (there k) = f b k

sides_three : SidesAllowed 1 3
sides_three = (omega arith, omega arith, omega arith, omega arith, omega arith)

-- ---- a drawing of three or six cells

-- the rules at a net cell
module _ (m : Meaning) (d : List Record) (c : ℕ) where
  starts : (b a : Option ℕ) → Begins m d c b → is_first (Net b a) ≡ true → pad_at m c ≡ true
  starts None a B e = B
  starts (Some s) a B e = absurd (false≢true e)

  ended : (b a : Option ℕ) → GoesOn m d c a → is_last (Net b a) ≡ true → landing_at m c ≡ true
  ended b None G e = G
  ended b (Some t) G e = absurd (false≢true e)

  landed : (b a : Option ℕ) → GoesOn m d c a → landing_at m c ≡ true → is_last (Net b a) ≡ true
  landed b None G l = refl
  landed b (Some t) G l = absurd (false≢true (sym G.0 ∙ l))

  onward : (a : Option ℕ) → GoesOn m d c a → (t : ℕ) → a ≡ Some t → Mem t (outlets_of m c) × (before_at d t ≡ Some c)
  onward None G t e = absurd (none_not_some e)
  onward (Some u) G t e = let same : u ≡ t = cc in subst (λ x. Mem x (outlets_of m c) × (before_at d x ≡ Some c)) same (G.1, G.2)

  from : (b : Option ℕ) → Begins m d c b → (s : ℕ) → b ≡ Some s → after_at d s ≡ Some c
  from None B s e = absurd (none_not_some e)
  from (Some u) B s e = let same : u ≡ s = cc in subst (λ x. after_at d x ≡ Some c) same B

  local_net : (b a : Option ℕ) → record_at d c ≡ Net b a → Begins m d c b → GoesOn m d c a → Local m d c
  local_net b a e B G = record {
    first_is_pad = λ p. starts b a B (sym (ap is_first e) ∙ p);
    last_is_landing = λ p. ended b a G (sym (ap is_last e) ∙ p);
    landing_is_last = λ _ l. ap is_last e ∙ landed b a G l;
    after_is_outlet = λ t p. (onward a G t (sym (ap after_of e) ∙ p)).0;
    after_names_back = λ t p. (onward a G t (sym (ap after_of e) ∙ p)).1;
    before_names_on = λ s p. from b B s (sym (ap before_of e) ∙ p);
  }

six : (P : ℕ → Type 0) → P 0 → P 1 → P 2 → P 3 → P 4 → P 5 → (c : ℕ) → c < 6 → P c
six P a b c d e f zero h = a
six P a b c d e f (suc zero) h = b
six P a b c d e f (suc (suc zero)) h = c
six P a b c d e f (suc (suc (suc zero))) h = d
six P a b c d e f (suc (suc (suc (suc zero)))) h = e
six P a b c d e f (suc (suc (suc (suc (suc zero))))) h = f
six P a b c d e f (suc (suc (suc (suc (suc (suc k)))))) h = let z : ⊥ = omega arith in absurd z

two : (P : ℕ → Type 0) → P 0 → P 1 → (c : ℕ) → c < 2 → P c
two P a b zero h = a
two P a b (suc zero) h = b
two P a b (suc (suc k)) h = let z : ⊥ = omega arith in absurd z

six_reached : (d : List Record) → length d ≡ 6 → (P : ℕ → Type 0) → ((c : ℕ) → c < 6 → net_at d c ≡ true → P c) → (c : ℕ) → net_at d c ≡ true → P c
six_reached d e P f c h = f c (subst (λ n. c < n) e (net_inside d c h)) h

no_net : {X : Type 0} → false ≡ true → X
no_net e = absurd (false≢true e)

stopped_lawful : Lawful (field 1 3 two_landings) stopped
stopped_lawful = record {
  one_each = refl;
  local = local_everywhere (field 1 3 two_landings) stopped (six (Local (field 1 3 two_landings) stopped)
      (local_net (field 1 3 two_landings) stopped 0 None (Some 3) refl refl (refl, there (here refl), refl))
      (local_free (field 1 3 two_landings) stopped 1 refl)
      (local_free (field 1 3 two_landings) stopped 2 refl)
      (local_net (field 1 3 two_landings) stopped 3 (Some 0) (Some 4) refl refl (refl, here refl, refl))
      (local_net (field 1 3 two_landings) stopped 4 (Some 3) None refl refl refl)
      (local_free (field 1 3 two_landings) stopped 5 refl));
  reached = six_reached stopped refl (Reached stopped) (six (λ c. net_at stopped c ≡ true → Reached stopped c)
      (λ _. first refl) no_net no_net (λ _. next {s = 0} (first refl) refl) (λ _. next {s = 3} (next {s = 0} (first refl) refl) refl) no_net);
}

passed_lawful : Lawful (field 1 3 two_landings) passed_above
passed_lawful = record {
  one_each = refl;
  local = local_everywhere (field 1 3 two_landings) passed_above (six (Local (field 1 3 two_landings) passed_above)
      (local_net (field 1 3 two_landings) passed_above 0 None (Some 1) refl refl (refl, here refl, refl))
      (local_net (field 1 3 two_landings) passed_above 1 (Some 0) (Some 2) refl refl (refl, here refl, refl))
      (local_net (field 1 3 two_landings) passed_above 2 (Some 1) (Some 5) refl refl (refl, there (here refl), refl))
      (local_free (field 1 3 two_landings) passed_above 3 refl)
      (local_off (field 1 3 two_landings) passed_above 4 Barred refl refl)
      (local_net (field 1 3 two_landings) passed_above 5 (Some 2) None refl refl refl));
  reached = six_reached passed_above refl (Reached passed_above) (six (λ c. net_at passed_above c ≡ true → Reached passed_above c)
      (λ _. first refl) (λ _. next {s = 0} (first refl) refl) (λ _. next {s = 1} (next {s = 0} (first refl) refl) refl) no_net no_net
      (λ _. next {s = 2} (next {s = 1} (next {s = 0} (first refl) refl) refl) refl));
}

straight_lawful : Lawful (field 1 1 one_point) straight_down
straight_lawful = record {
  one_each = refl;
  local = local_everywhere (field 1 1 one_point) straight_down (two (Local (field 1 1 one_point) straight_down)
      (local_net (field 1 1 one_point) straight_down 0 None (Some 1) refl refl (refl, here refl, refl))
      (local_net (field 1 1 one_point) straight_down 1 (Some 0) None refl refl refl));
  reached = λ c h. two (λ c. net_at straight_down c ≡ true → Reached straight_down c) (λ _. first refl) (λ _. next {s = 0} (first refl) refl) c (net_inside straight_down c h) h;
}

-- ---- layouts of one wire

legal_one : (R C : ℕ) (bytes : List ℕ) (pad : Point) (bars : List Place) (w : Wire) → ((b : Place) → Mem b bars → OnGrid 2 R C b) → WireOf R C bytes pad w →
    ((b : Place) → Mem b bars → Mem b (occupied w) → ⊥) → ((q : Point) → OnMap R C q → PadPoint C bytes q → q ≡ pad) →
    Legal R C bytes (pad ∷ []) bars (λ p. w)
legal_one R C bytes pad bars w on wire off only = record {
  bars_on_map = on;
  wires = λ p i. subst (λ (q : Point). WireOf R C bytes q w) (sym (mem_one i)) wire;
  apart = λ p q o i j _ _. mem_one i ∙ sym (mem_one j);
  off_bars = λ p o i k b. off o b k;
  off_pads = λ p q i o h n _. n (here (only q o h));
}

no_bars : (R C : ℕ) (b : Place) → Mem b [] → OnGrid 2 R C b
no_bars R C b k = absurd (mem_none k)

off_none : (w : Wire) (b : Place) → Mem b [] → Mem b (occupied w) → ⊥
off_none w b k _ = mem_none k

-- the only pad points
pad_of_three : (r c : ℕ) → r < 1 → c < 3 → pad_point (get_or two_landings (r * 3 + c) 0) ≡ true → c ≡ 0
pad_of_three (suc r) c h k e = let z : ⊥ = omega arith in absurd z
pad_of_three zero zero h k e = refl
pad_of_three zero (suc zero) h k e = absurd (false≢true e)
pad_of_three zero (suc (suc zero)) h k e = absurd (false≢true e)
pad_of_three zero (suc (suc (suc c))) h k e = let z : ⊥ = omega arith in absurd z

only_three : (q : Point) → OnMap 1 3 q → PadPoint 3 two_landings q → q ≡ spot 0
only_three q o h = let a = o.0 in point_eq q (spot 0) (omega arith) (pad_of_three q.row q.column o.0 o.1 h)

on_three : (c : ℕ) → c < 3 → OnMap 1 3 (spot c)
on_three c h = (omega arith, h)

-- different columns
columns : (c k : ℕ) → (c ≡ k → ⊥) → spot c ≡ spot k → ⊥
columns c k n e = n (ap (λ (p : Point). p.column) e)

wire_three : (l : Layer) → WireOf 1 3 two_landings (spot 0) (one_wire l (spot 0 ∷ spot 1 ∷ spot 2 ∷ []) (spot 0))
wire_three l = record {
  landing = spot 2;
  from_pad = refl;
  to_landing = refl;
  course = steps (on_three 0 (omega arith)) (inr (refl, inr refl)) (steps (on_three 1 (omega arith)) (inr (refl, inr refl)) (stops (on_three 2 (omega arith)) refl));
  different = (apart_0, ((λ k. columns 1 2 (λ e. omega arith) (mem_one k)), (mem_none, tt)));
}
  where
    apart_0 : Mem (spot 0) (spot 1 ∷ spot 2 ∷ []) → ⊥
    apart_0 (here e) = columns 0 1 (λ e. omega arith) e
    apart_0 (there k) = columns 0 2 (λ e. omega arith) (mem_one k)

layers : (l k : ℕ) (p q : Point) → (l ≡ k → ⊥) → on_layer l p ≡ on_layer k q → ⊥
layers l k p q n e = n (ap (λ (o : Place). o.layer) e)

off_above : Mem (on_layer 2 (spot 1)) (occupied (one_wire Top (spot 0 ∷ spot 1 ∷ spot 2 ∷ []) (spot 0))) → ⊥
off_above (here e) = layers 2 1 (spot 1) (spot 0) (λ e. omega arith) e
off_above (there (here e)) = layers 2 1 (spot 1) (spot 1) (λ e. omega arith) e
off_above (there (there (here e))) = layers 2 1 (spot 1) (spot 2) (λ e. omega arith) e
off_above (there (there (there k))) = let e : ◌≡◌ {A = ℕ} 1 2 = ap (λ (o : Place). o.column) (mem_one k) in omega arith

-- ---- all of it

pub past_a_landing : PastALanding
past_a_landing = record {
  is_map = map_good 1 3 two_landings sides_three refl (few_of two_landings (one_more 1 _ (omega arith) (one_more 2 _ (omega arith) (one_more 2 _ (omega arith) none_more))));
  legal_below = legal_one 1 3 two_landings (spot 0) [] _ (no_bars 1 3) (wire_three Bottom) (off_none (one_wire Bottom (spot 0 ∷ spot 1 ∷ spot 2 ∷ []) (spot 0))) only_three;
  draws_below = record {
    lawful = stopped_lawful;
    same_pads = (λ c k. k, λ c k. k);
    same_bars = (λ c k. k, λ c k. k);
    nets = λ p i. subst (λ (q : Point). net stopped (top_cell 1 3 q) ≡ 0 ∷ 3 ∷ 4 ∷ []) (sym (mem_one i)) refl;
  };
  reads_below = refl;
  legal_above = legal_one 1 3 two_landings (spot 0) (on_layer 2 (spot 1) ∷ []) _
      (λ b k. subst (OnGrid 2 1 3) (sym (mem_one k)) (record { layer_from = omega arith; layer_to = omega arith; row_to = omega arith; column_to = omega arith }))
      (wire_three Top) (λ b k h. off_above (mem_at (sym (mem_one k)) h)) only_three;
  draws_above = record {
    lawful = passed_lawful;
    same_pads = (λ c k. k, λ c k. k);
    same_bars = (λ c k. k, λ c k. k);
    nets = λ p i. subst (λ (q : Point). net passed_above (top_cell 1 3 q) ≡ 0 ∷ 1 ∷ 2 ∷ 5 ∷ []) (sym (mem_one i)) refl;
  };
  reads_above = refl;
}

only_one : (q : Point) → OnMap 1 1 q → q ≡ spot 0
only_one q o = let a = o.0 in let b = o.1 in point_eq q (spot 0) (omega arith) (omega arith)

pub pad_on_a_landing : PadOnALanding
pad_on_a_landing = record {
  is_map = map_good 1 1 one_point (omega arith, omega arith, omega arith, omega arith, omega arith) refl (few_of one_point (one_more 3 _ (omega arith) none_more));
  legal = λ l. legal_one 1 1 one_point (spot 0) [] _ (no_bars 1 1)
      (record { landing = spot 0; from_pad = refl; to_landing = refl; course = stops (omega arith, omega arith) refl; different = (mem_none, tt) })
      (off_none (one_wire l (spot 0 ∷ []) (spot 0))) (λ q o _. only_one q o);
  draws = λ l. record {
    lawful = straight_lawful;
    same_pads = (λ c k. k, λ c k. k);
    same_bars = (λ c k. k, λ c k. k);
    nets = λ p i. subst (λ (q : Point). net straight_down (top_cell 1 1 q) ≡ upto_landing (field 1 1 one_point) (map (cell_of 1 1) (occupied (one_wire l (spot 0 ∷ []) q)))) (sym (mem_one i)) (same l);
  };
  reads = refl;
}
  where
    same : (l : Layer) → 0 ∷ 1 ∷ [] ≡ upto_landing (field 1 1 one_point) (map (cell_of 1 1) (occupied (one_wire l (spot 0 ∷ []) (spot 0))))
    same Top = refl
    same Bottom = refl

pub down_at_another_pad : DownAtAnotherPad
down_at_another_pad = record {
  is_map = map_good 1 3 three_points sides_three refl (few_of three_points (one_more 1 _ (omega arith) (one_more 1 _ (omega arith) (one_more 2 _ (omega arith) none_more))));
  not_lawful = λ W. let e : ◌≡◌ {A = ℕ} 1 3 = mem_one ((W.local 0).after_is_outlet 1 refl) in omega arith;
}
