-- What is owed where a call is accepted.
use Rattle.std.proofs.Common.{◌≡◌, ℕ, ◌*◌, ◌<◌, ◌≤◌, true, ◌&&◌, ◌⊎◌, List, [], ◌∷◌, length, set, Some, None, Option, sym, refl, ap, ◌∙◌, subst, inl, inr, arith}
use Rattle.std.specs.List.{range_with_len}
use Rattle.std.specs.Option.{ok_or}
use Rattle.std.proofs.lemmas.Bool.{both_ways, false≢true}
use Rattle.std.proofs.lemmas.Option.{none-some}
use Rattle.boards.specs.Meaning.{Meaning, pad_at, landing_at}
use Rattle.boards.specs.Refusals.{First, NoneHolds, Answer}
use Rattle.records.specs.declared.record.Record.{Record}
use Rattle.records.specs.declared.record.Record.TheVariants.{Free}
use Rattle.records.specs.declared.refusal.Refusal.TheVariants.{NotWired}
use Rattle.records.specs.Numbers.{number_of}
use Rattle.records.specs.Records.{is_net, is_first, is_barred, record_at}
use Rattle.drawings.specs.Nets.{net_at, first_at, barred_at, used, bars, net, last_of, without}
use Rattle.drawings.specs.Changes.{TakenUp, Listed}
use Rattle.drawings.specs.Lawful.{Lawful}
use Rattle.drawings.specs.Conditions.{IsShortReport, IsNotLawful, IsNoSuchCell, IsNotBarred, IsWiredPad, CellRefused, PadRefused, NewRefused, LiftRefused, ClearRefused, ShowRefused}
use Rattle.drawings.specs.Outcomes.{Made, Lifted, Cleared, Shown}
use Rattle.drawings.proofs.Members.{kept_none}
use Rattle.drawings.proofs.Locals.{local_free}
use Rattle.drawings.proofs.Follow.{net_runs, run_short}
use Rattle.drawings.proofs.Freeing.{frees, run_last_at, lift_lawful, lift_wired, lift_bars, lift_used, lift_nets, clear_lawful, clear_wired, clear_bars, clear_used, clear_nets}

-- every cell free
pub made : (m : Meaning) (e : List Record) → length e ≡ m.cells → ((k : ℕ) → record_at e k ≡ Free) → Made m e 0
made m e long all = record {
  zero = refl;
  free = all;
  lawful = record {
    one_each = long;
    local = λ k. local_free m e k (all k);
    reached = λ k h. absurd (false≢true (sym (ap is_net (all k)) ∙ h));
  };
  none_wired = kept_none (first_at e) (range_with_len 0 (length e)) (λ k. ap is_first (all k));
  none_barred = kept_none (barred_at e) (range_with_len 0 (length e)) (λ k. ap is_barred (all k));
  none_used = kept_none (λ k. net_at e k && landing_at m k) (range_with_len 0 (length e)) (λ k. ap (λ b. b && landing_at m k) (ap is_net (all k)));
}

-- ---- conditions that are looked at one after another

-- where those with the lower numbers do not hold, the first of the others is the first
pub first_past : (P C : ℕ → Type 0) (n : ℕ) → ((k : ℕ) → P k → ⊥) → First C n → First (λ k. P k ⊎ C k) n
first_past P C n never h = (inr h.0, λ k l e. elim e [ inl p ↦ never k p | inr q ↦ h.1 k l q ])

pub none_past : (P C : ℕ → Type 0) → ((k : ℕ) → P k → ⊥) → NoneHolds C → NoneHolds (λ k. P k ⊎ C k)
none_past P C never h k e = elim e [ inl p ↦ never k p | inr q ↦ h k q ]

pub lift_first : (m : Meaning) (d : List Record) (c n : ℕ) → length d ≡ m.cells → First (PadRefused m d c) n → First (LiftRefused m d c) n
lift_first m d c n long h = first_past (NewRefused m d) (PadRefused m d c) n (λ k p. p.1 long) h

pub show_first : (m : Meaning) (d : List Record) (report : List ℕ) (c n : ℕ) → length d ≡ m.cells → 2 * m.cells ≤ length report →
    First (PadRefused m d c) n → First (ShowRefused m d report c) n
show_first m d report c n long room h =
    first_past (NewRefused m d) (λ k. ((k ≡ 3) × IsShortReport m report) ⊎ PadRefused m d c k) n (λ k p. p.1 long)
    (first_past (λ k. (k ≡ 3) × IsShortReport m report) (PadRefused m d c) n (λ k p. let l = p.1 in omega arith) h)

-- clear looks at one more condition than those of a cell
pub clear_first : (m : Meaning) (d : List Record) (c n : ℕ) → length d ≡ m.cells → First (CellRefused m d c) n → First (ClearRefused m d c) n
clear_first m d c n long h = first_past (NewRefused m d) (λ k. ((k ≡ 4) × IsNotLawful m d) ⊎ (((k ≡ 5) × IsNoSuchCell m c) ⊎ ((k ≡ 10) × IsNotBarred d c))) n (λ k p. p.1 long) (go h.0, λ k l e. before k l h.0 e)
  where
    go : CellRefused m d c n → ((n ≡ 4) × IsNotLawful m d) ⊎ (((n ≡ 5) × IsNoSuchCell m c) ⊎ ((n ≡ 10) × IsNotBarred d c))
    go (inl p) = inl p
    go (inr p) = inr (inl p)

    before : (k : ℕ) → k < n → CellRefused m d c n → ((k ≡ 4) × IsNotLawful m d) ⊎ (((k ≡ 5) × IsNoSuchCell m c) ⊎ ((k ≡ 10) × IsNotBarred d c)) → ⊥
    before k l q (inl p) = h.1 k l (inl p)
    before k l q (inr (inl p)) = h.1 k l (inr p)
    before k l (inl q) (inr (inr p)) = omega (arith, l, p.0, q.0)
    before k l (inr q) (inr (inr p)) = omega (arith, l, p.0, q.0)

-- ---- a lawful drawing and a wired pad

module _ (m : Meaning) (d : List Record) (c : ℕ) (W : Lawful m d) where
  pub may_lift : c < m.cells → pad_at m c ≡ true → first_at d c ≡ true → NoneHolds (LiftRefused m d c)
  may_lift inside pad wired k (inl h) = h.1 W.one_each
  may_lift inside pad wired k (inr (inl h)) = h.1 W
  may_lift inside pad wired k (inr (inr (inl h))) = let l = h.1 in omega arith
  may_lift inside pad wired k (inr (inr (inr (inl h)))) = both_ways (pad_at m c) h.1 pad
  may_lift inside pad wired k (inr (inr (inr (inr h)))) = both_ways (first_at d c) h.1 wired

  pub lifted : (e : List Record) (landing : ℕ) → first_at d c ≡ true → TakenUp d e c (Some landing) → Lifted m d e c landing
  lifted e landing p t =
      let F = frees (net d c) d e t.2 in
      record {
        frees = F;
        last = t.1;
        landing = ap (landing_at m) t.1 ∙ (W.local (last_of c (net d c))).last_is_landing (run_last_at c t.0);
        lawful = lift_lawful m d e c W p F;
        one_less = lift_wired m d e c W p F;
        same_bars = lift_bars m d e c W p F;
        landing_free = lift_used m d e c W p F ∙ sym (ap (λ z. without z (used m d)) t.1);
        same_nets = lift_nets m d e c W p F;
      }

  pub may_show : (report : List ℕ) → 2 * m.cells ≤ length report → c < m.cells → pad_at m c ≡ true → first_at d c ≡ true →
      NoneHolds (ShowRefused m d report c)
  may_show report room inside pad wired k (inl h) = h.1 W.one_each
  may_show report room inside pad wired k (inr (inl h)) = let l = h.1 in omega arith
  may_show report room inside pad wired k (inr (inr (inl h))) = h.1 W
  may_show report room inside pad wired k (inr (inr (inr (inl h)))) = let l = h.1 in omega arith
  may_show report room inside pad wired k (inr (inr (inr (inr (inl h))))) = both_ways (pad_at m c) h.1 pad
  may_show report room inside pad wired k (inr (inr (inr (inr (inr h))))) = both_ways (first_at d c) h.1 wired

  pub shown : (before after : List ℕ) (n : ℕ) → pad_at m c ≡ true → Listed d c before after (Some n) → Shown m d before after c n
  shown before after n pad l = record {
    count = l.1;
    writes = l.3;
    from_pad = pad;
    to_landing = (W.local (last_of c (net d c))).last_is_landing (run_last_at c l.0);
  }

-- ---- what the calls answer

module _ (m : Meaning) (d : List Record) (c : ℕ) where
  -- lift
  pub taken : (e : List Record) (r : Option ℕ) → IsWiredPad m d c → TakenUp d e c r → r ≡ None → ⊥
  taken e None w t n = t.0 (net d c) (net_runs m d w.lawful.local c w.wired)
  taken e (Some landing) w t n = none-some landing (sym n)

  pub lift_answer : (e : List Record) (r : Option ℕ) → length d ≡ m.cells → NoneHolds (PadRefused m d c) → IsWiredPad m d c → TakenUp d e c r →
      Answer number_of (LiftRefused m d c) (Lifted m d e c) (ok_or r NotWired)
  lift_answer e None long none w t = absurd (taken e None w t refl)
  lift_answer e (Some landing) long none w t = (none_past (NewRefused m d) (PadRefused m d c) (λ k p. p.1 long) none, lifted m d c w.lawful e landing w.wired t)

  -- clear
  pub may_clear : Lawful m d → c < m.cells → barred_at d c ≡ true → NoneHolds (ClearRefused m d c)
  may_clear W inside bar k (inl h) = h.1 W.one_each
  may_clear W inside bar k (inr (inl h)) = h.1 W
  may_clear W inside bar k (inr (inr (inl h))) = let l = h.1 in omega arith
  may_clear W inside bar k (inr (inr (inr h))) = both_ways (barred_at d c) h.1 bar

  pub cleared : (e : List Record) (n : ℕ) → Lawful m d → barred_at d c ≡ true → e ≡ set d c Free → n ≡ length (bars e) → Cleared m d e c n
  cleared e n W b same count =
      let F = frees (c ∷ []) d e same in
      record {
        frees = F;
        remain = count;
        lawful = clear_lawful m d e c W b F;
        one_less = clear_bars m d e c W b F;
        same_wired = clear_wired m d e c W b F;
        same_used = clear_used m d e c W b F;
        same_nets = clear_nets m d e c W b F;
      }

  -- show
  pub show_allowed : (report : List ℕ) → 2 * m.cells ≤ length report → length d ≡ m.cells → NoneHolds (PadRefused m d c) → NoneHolds (ShowRefused m d report c)
  show_allowed report room long none =
      none_past (NewRefused m d) (λ k. ((k ≡ 3) × IsShortReport m report) ⊎ PadRefused m d c k) (λ k p. p.1 long)
      (none_past (λ k. (k ≡ 3) × IsShortReport m report) (PadRefused m d c) (λ k p. let l = p.1 in omega arith) none)

  pub listed : (before after : List ℕ) (r : Option ℕ) → IsWiredPad m d c → 2 * m.cells ≤ length before → Listed d c before after r → r ≡ None → ⊥
  listed before after None w room l e =
      let r = net_runs m d w.lawful.local c w.wired in l.0 (net d c) r (omega (arith, run_short r, w.lawful.one_each))
  listed before after (Some n) w room l e = none-some n (sym e)

  pub show_told : (before after : List ℕ) (r : Option ℕ) (n : ℕ) → IsWiredPad m d c → Listed d c before after r → r ≡ Some n → Shown m d before after c n
  show_told before after r n w h e = shown m d c w.lawful before after n w.pad (subst (Listed d c before after) e h)
