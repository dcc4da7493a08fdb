-- A trail taken back as far as one of its cells.
use Rattle.std.proofs.Common.{◌≡◌, ℕ, ◌+◌, ◌-◌, ◌<◌, true, ◌&&◌, ◌||◌, eqb, List, [], ◌∷◌, length, get_or, take, drop, ◌≤◌, sym, ap, ◌∙◌, subst, inl, inr, ⊎_elim, arith}
use Rattle.std.proofs.lemmas.List.{get_or-take, get_or-drop, take-take, length-take-le}
use Rattle.std.proofs.lemmas.Bool.{cases_lt, and_parts, and_from, or_cases, or_left, or_right, eqb-true, eq-eqb}
use Rattle.boards.specs.Meaning.{Meaning, pad_at, landing_at}
use Rattle.linkages.specs.Lists.{Mem, here, there, Next}
use Rattle.linkages.proofs.Members.{mem_none, mem_one, mem_cases}
use Rattle.linkages.proofs.Places.{mem_get_or, has_from_mem, by_places}
use Rattle.records.specs.declared.record.Record.{Record}
use Rattle.drawings.specs.Nets.{net_at, first_at, barred_at, wired, used}
use Rattle.drawings.specs.Lawful.{Local, Lawful}
use Rattle.drawings.proofs.Said.{first_net, net_inside}
use Rattle.drawings.proofs.Cells.{kept_below, below_kept}
use Rattle.drawings.proofs.Freeing.{cells_same}
use Rattle.rewiring.specs.Trails.{Trail}
use Rattle.rewiring.specs.Moves.{alone, moved, Opened}
use Rattle.rewiring.proofs.Stages.{Stage}
use Rattle.rewiring.proofs.Steps.{SameFront, step, begun}

-- the net begins at the i-th cell, and the cells before it are on nets as they were
pub record BackTo (m : Meaning) (d : List Record) (z : ℕ) (e : List Record) (ts : List ℕ) (i : ℕ) : Type 0 where
  pub inside : i < length ts
  pub stage : Stage m d z e (get_or ts i 0 ∷ []) []
  pub ahead : (j : ℕ) → j < i → SameFront d e (get_or ts j 0)

-- the pairs of neighbours in a list, the last first: one comes off the front of the list that is left
pub pair_turn : (ts left pair next : List ℕ) → left ≡ take (length left) ts → 2 ≤ length left → pair ≡ drop (length left - 2) left →
    next ≡ take (length left - 1) left →
    (length next ≡ length left - 1) × (next ≡ take (length next) ts) ×
    (get_or pair 0 0 ≡ get_or ts (length left - 1 - 1) 0) × (get_or pair 1 0 ≡ get_or ts (length left - 1) 0)
pair_turn ts left pair next f two e g =
    let n = length left in
    let long : length next ≡ n - 1 = ap length g ∙ length-take-le (n - 1) left (omega arith) in
    let at = λ (k i : ℕ) (s : n - 2 + k ≡ i) (l : i < n).
    ap (λ (xs : List ℕ). get_or xs k 0) e ∙ get_or-drop (n - 2) left k 0 ∙ ap (λ (j : ℕ). get_or left j 0) s
    ∙ ap (λ (xs : List ℕ). get_or xs i 0) f ∙ get_or-take n ts i 0 l in (
      long,
      g ∙ ap (take (n - 1)) f ∙ take-take (n - 1) n ts (omega arith) ∙ ap (λ (k : ℕ). take k ts) (sym long),
      at 0 (n - 1 - 1) (omega arith) (omega arith),
      at 1 (n - 1) (omega arith) (omega arith),
    )

-- ---- a trail by places

module _ (m : Meaning) (d : List Record) (p z : ℕ) (ts : List ℕ) (T : Trail m d p z ts) where
  differ_at : (i j : ℕ) → i < j → j < length ts → get_or ts i 0 ≡ get_or ts j 0 → ⊥
  differ_at = by_places.distinct_at ts T.differ

  on_trail : (i : ℕ) → i < length ts → Mem (get_or ts i 0) ts
  on_trail i h = mem_get_or ts i 0 h

  -- its landing is its last cell, and its pad the first
  pub last_cell : get_or ts (length ts - 1) 0 ≡ z
  last_cell =
      let h = has_from_mem ts z T.ends in
      ⊎_elim
      (λ (l : h.0 + 1 < length ts). absurd (T.end_is_last (get_or ts (h.0 + 1) 0)
      (subst (λ (c : ℕ). Next c (get_or ts (h.0 + 1) 0) ts) (h.2 0) (by_places.next_from ts h.0 l))))
      (λ l. let e : length ts - 1 ≡ h.0 = omega (arith, h.1) in ap (λ (k : ℕ). get_or ts k 0) e ∙ h.2 0)
      (cases_lt (h.0 + 1) (length ts))

  pub first_cell : get_or ts 0 0 ≡ p
  first_cell = ap (λ (xs : List ℕ). get_or xs 0 0) T.starts

  pub some_cells : 0 < length ts
  some_cells = let e = ap length T.starts in omega arith

  -- ---- taking it back

  module _ (W : Lawful m d) where
    pub back_to_landing : BackTo m d z (alone d (get_or ts (length ts - 1) 0)) ts (length ts - 1)
    back_to_landing =
        let last = length ts - 1 in
        let i : last < length ts = omega (arith, some_cells) in
        let B = begun m d z W (T.inside z T.ends) (T.unbarred z T.ends) T.end_off_nets T.end_is_landing in
        let f = last_cell in
        record {
          inside = i;
          stage = subst (λ (c : ℕ). Stage m d z (alone d c) (c ∷ []) []) (sym f) B.stage;
          ahead = λ j l.
              let n = λ (g : get_or ts j 0 ≡ z). differ_at j last l i (g ∙ sym f) in
              subst (λ (c : ℕ). SameFront d (alone d c) (get_or ts j 0)) (sym f) (B.others (get_or ts j 0) n n);
        }

    pub back_once : (e : List Record) (i : ℕ) → 0 < i → BackTo m d z e ts i → BackTo m d z (moved e (get_or ts (i - 1) 0) (get_or ts i 0)) ts (i - 1)
    back_once e i pos B =
        let k = i - 1 in
        let s = get_or ts k 0 in
        let t = get_or ts i 0 in
        let on : k < length ts = omega (arith, B.inside) in
        let less : k < i = omega arith in
        let same : k + 1 ≡ i = omega arith in
        let N : Next s t ts = subst (λ (j : ℕ). Next s (get_or ts j 0) ts) same (by_places.next_from ts k (omega (arith, B.inside))) in
        let mem = on_trail k on in
        let S = step m d z e s t B.stage (differ_at k i less B.inside) (B.ahead k less) (T.inside s mem) (T.unbarred s mem) (T.enters s t N)
        (λ l n. T.end_is_last t (subst (λ (c : ℕ). Next c t ts) (T.one_landing s mem l n) N)) in
        record {
          inside = on;
          stage = S.stage;
          ahead = λ j l.
              let c = get_or ts j 0 in
              let h = S.others c (differ_at j k l on) (differ_at j i (omega arith) B.inside) in
              let a = B.ahead j (omega arith) in
              (h.0 ∙ a.0, h.1 ∙ a.1);
        }

    -- ---- back at the pad

    module _ (e : List Record) (B : BackTo m d z e ts 0) where
      at_pad : Stage m d z e (p ∷ []) []
      at_pad = subst (λ (c : ℕ). Stage m d z e (c ∷ []) []) first_cell B.stage

      local_at : (c : ℕ) → Local m e c
      local_at c = record {
        first_is_pad = λ h. elim (at_pad.firsts c h) [
          | inl i ↦ ap (pad_at m) (mem_one i) ∙ T.start_is_pad
          | inr f ↦ (W.local c).first_is_pad f
        ];
        last_is_landing = λ h. elim (at_pad.lasts c h) [ inl i ↦ absurd (mem_none i) | inr l ↦ l ];
        landing_is_last = at_pad.landing_is_last c;
        after_is_outlet = at_pad.outlet c;
        after_names_back = at_pad.names_back c;
        before_names_on = at_pad.names_on c;
      }

      first_in : (c : ℕ) → first_at e c ≡ true → Mem c (wired e)
      first_in c h = below_kept (first_at e) (length e) c (net_inside e c (first_net _ h)) h

      now_wired : (c : ℕ) → Mem c (wired e) → Mem c (p ∷ wired d)
      now_wired c i = elim (at_pad.firsts c (kept_below (first_at e) (length e) c i).1) [
        | inl k ↦ here (mem_one k)
        | inr h ↦ there (below_kept (first_at d) (length d) c (net_inside d c (first_net _ h)) h)
      ]

      still_wired : (c : ℕ) → Mem c (p ∷ wired d) → Mem c (wired e)
      still_wired c i = elim (mem_cases i) [
        | inl g ↦ first_in c (at_pad.first c (here g))
        | inr k ↦ first_in c (at_pad.kept c (kept_below (first_at d) (length d) c k).1)
      ]

      now_used : (c : ℕ) → Mem c (used m e) → Mem c (z ∷ used m d)
      now_used c i =
          let h = and_parts (net_at e c) (landing_at m c) (kept_below (λ k. net_at e k && landing_at m k) (length e) c i).1 in
          elim (or_cases (net_at d c) (eqb c z) (sym (at_pad.landings c h.1) ∙ h.0)) [
            | inl n ↦ there (below_kept (λ k. net_at d k && landing_at m k) (length d) c (net_inside d c n) (and_from (net_at d c) (landing_at m c) n h.1))
            | inr g ↦ here (eqb-true c z g)
          ]

      used_in : (c : ℕ) → landing_at m c ≡ true → (net_at d c || eqb c z) ≡ true → Mem c (used m e)
      used_in c l h =
          let n = at_pad.landings c l ∙ h in
          below_kept (λ k. net_at e k && landing_at m k) (length e) c (net_inside e c n) (and_from (net_at e c) (landing_at m c) n l)

      still_used : (c : ℕ) → Mem c (z ∷ used m d) → Mem c (used m e)
      still_used c i = elim (mem_cases i) [
        | inl g ↦ used_in c (ap (landing_at m) g ∙ T.end_is_landing) (or_right (net_at d c) (eqb c z) (eq-eqb c z g))
        | inr k ↦ (
            let h = and_parts (net_at d c) (landing_at m c) (kept_below (λ j. net_at d j && landing_at m j) (length d) c k).1 in
            used_in c h.1 (or_left (net_at d c) (eqb c z) h.0)
            )
      ]

      pub back_to_pad : Opened m d e p z
      back_to_pad = record {
        long = at_pad.long;
        local = local_at;
        one_more = (now_wired, still_wired);
        same_bars = cells_same d e (barred_at e) (barred_at d) at_pad.long at_pad.bars;
        landing_used = (now_used, still_used);
      }
