-- Net cells counted twice: all of them, and those met by following the nets.
use Rattle.std.proofs.Common.{◌≡◌, ℕ, ◌+◌, ◌^◌, ◌<◌, ◌≤◌, Bool, true, false, cond, List, [], ◌∷◌, ◌++◌, length, get_or, Some, filter, refl, sym, ap, ◌∙◌, arith}
use Rattle.std.specs.List.{range_with_len, flat_map, sum_by}
use Rattle.std.proofs.lemmas.List.{length-append, flat_map_more, append-nil}
use Rattle.std.proofs.lemmas.List.FromFn.{fill_by_all}
use Rattle.std.proofs.lemmas.List.Sums.{sum_by-le}
use Rattle.boards.specs.Meaning.{Meaning}
use Rattle.linkages.specs.Lists.{Mem, Distinct, Within}
use Rattle.records.specs.declared.record.Record.{Record}
use Rattle.records.specs.declared.record.Record.TheVariants.{Free}
use Rattle.records.specs.Records.{record_at}
use Rattle.drawings.specs.Nets.{net_at, first_at, cells_where, wired, net}
use Rattle.drawings.specs.Lawful.{Local, Reached}
use Rattle.linkages.proofs.Members.{length_kept_map}
use Rattle.linkages.proofs.Pigeons.{within_length}
use Rattle.drawings.proofs.Members.{within_back, joined_cases, mem_joined, distinct_joined}
use Rattle.drawings.proofs.Cells.{kept_below, below_kept, distinct_kept_below, kept_below_more, length_below}
use Rattle.drawings.proofs.Said.{first_net, net_inside}
use Rattle.drawings.proofs.Follow.{onward_short, net_runs, net_reached, reached_net, nets_apart, run_net, run_distinct}

-- one cell more, in the count of those that pass
pub count_yes : (p : ℕ → Bool) (n : ℕ) → p n ≡ true → length (filter p (range_with_len 0 (n + 1))) ≡ length (filter p (range_with_len 0 n)) + 1
count_yes p n e = ap length (kept_below_more p n) ∙ length-append (filter p (range_with_len 0 n)) (filter p (n ∷ [])) ∙
    ap (λ b. length (filter p (range_with_len 0 n)) + length (cond b (n ∷ []) [])) e

pub count_no : (p : ℕ → Bool) (n : ℕ) → p n ≡ false → length (filter p (range_with_len 0 (n + 1))) ≡ length (filter p (range_with_len 0 n))
count_no p n e = ap length (kept_below_more p n ∙ ap (λ b. filter p (range_with_len 0 n) ++ cond b (n ∷ []) []) e ∙ append-nil (filter p (range_with_len 0 n)))

-- no more cells pass than there are
pub count_below : (p : ℕ → Bool) (n : ℕ) → length (filter p (range_with_len 0 n)) ≤ n
count_below p n = length_below n (filter p (range_with_len 0 n)) (distinct_kept_below p n) (λ c k. (kept_below p n c k).0)

-- and in the lists that come of them
pub joined_yes : (F : ℕ → List ℕ) (p : ℕ → Bool) (n : ℕ) → p n ≡ true →
    length (flat_map F (filter p (range_with_len 0 (n + 1)))) ≡ length (flat_map F (filter p (range_with_len 0 n))) + length (F n)
joined_yes F p n e =
    ap (λ zs. length (flat_map F zs)) (kept_below_more p n ∙ ap (λ b. filter p (range_with_len 0 n) ++ cond b (n ∷ []) []) e) ∙
    sym (ap length (flat_map_more F [] (filter p (range_with_len 0 n)) n)) ∙ length-append (flat_map F (filter p (range_with_len 0 n))) (F n)

pub joined_no : (F : ℕ → List ℕ) (p : ℕ → Bool) (n : ℕ) → p n ≡ false →
    length (flat_map F (filter p (range_with_len 0 (n + 1)))) ≡ length (flat_map F (filter p (range_with_len 0 n)))
joined_no F p n e = ap (λ zs. length (flat_map F zs))
    (kept_below_more p n ∙ ap (λ b. filter p (range_with_len 0 n) ++ cond b (n ∷ []) []) e ∙ append-nil (filter p (range_with_len 0 n)))

-- the cells that pass are as many as the records that do
pub kept_records : (p : Record → Bool) (d : List Record) → length (filter p d) ≡ length (filter (λ c. p (record_at d c)) (range_with_len 0 (length d)))
kept_records p d =
    ap (λ z. length (filter p z)) (fill_by_all (record_at d) d (length d) Free refl (λ k h. refl)) ∙
    length_kept_map (record_at d) p (range_with_len 0 (length d))

-- the nets of so few cells have few cells between them
pub reached_fits : (d : List Record) (n : ℕ) → length d ≡ n → n ≤ 4096 → sum_by (λ c. length (net d c)) (filter (first_at d) (range_with_len 0 n)) < 2 ^ 64
reached_fits d n long few =
    omega (
      arith,
      count_below (first_at d) n,
      sum_by-le (λ c. length (net d c)) 4096 (filter (first_at d) (range_with_len 0 n))
          (λ k x h. omega (arith, onward_short d (Some (get_or (filter (first_at d) (range_with_len 0 n)) k x)) (length d))),
    )

module _ (m : Meaning) (d : List Record) (L : (c : ℕ) → Local m d c) where
  -- the cells met from the first cells below k
  met : ℕ → List ℕ
  met k = flat_map (net d) (filter (first_at d) (range_with_len 0 k))

  met_distinct : (k : ℕ) → Distinct (met k)
  unfolding met
  met_distinct k = distinct_joined (net d) (filter (first_at d) (range_with_len 0 k)) (distinct_kept_below (first_at d) k)
      (λ x i. run_distinct (net_runs m d L x (kept_below (first_at d) k x i).1))
      (λ x y c i j. nets_apart m d L x y c (kept_below (first_at d) k x i).1 (kept_below (first_at d) k y j).1)

  met_net : (k c : ℕ) → Mem c (met k) → net_at d c ≡ true
  unfolding met
  met_net k c i =
      let h = joined_cases (net d) c (filter (first_at d) (range_with_len 0 k)) i in
      run_net (net_runs m d L h.0 (kept_below (first_at d) k h.0 h.1).1) h.2

  -- following all the nets takes no more steps than there are cells
  pub met_short : (k : ℕ) → length (flat_map (net d) (filter (first_at d) (range_with_len 0 k))) ≤ length d
  unfolding met
  met_short k = length_below (length d) (met k) (met_distinct k) (λ c i. net_inside d c (met_net k c i))

  met_within : Within (met (length d)) (cells_where d (net_at d))
  met_within c i = let h = met_net (length d) c i in below_kept (net_at d) (length d) c (net_inside d c h) h

  -- equal counts: every net cell is reached
  pub counts_reach : length (cells_where d (net_at d)) ≡ length (flat_map (net d) (wired d)) → (c : ℕ) → net_at d c ≡ true → Reached d c
  unfolding met
  counts_reach e c h =
      let i = within_back (met (length d)) (cells_where d (net_at d)) (met_distinct (length d)) met_within (omega arith) c
      (below_kept (net_at d) (length d) c (net_inside d c h) h) in
      let k = joined_cases (net d) c (wired d) i in
      net_reached m d L k.0 c (kept_below (first_at d) (length d) k.0 k.1).1 k.2

  -- and back
  pub reach_counts : ((c : ℕ) → net_at d c ≡ true → Reached d c) → length (cells_where d (net_at d)) ≡ length (flat_map (net d) (wired d))
  unfolding met
  reach_counts f =
      let low = within_length (met (length d)) (cells_where d (net_at d)) (met_distinct (length d)) met_within in
      let high = within_length (cells_where d (net_at d)) (met (length d)) (distinct_kept_below (net_at d) (length d))
      (λ c i. let h = kept_below (net_at d) (length d) c i in
      let r = reached_net m d L (f c h.1) in
      mem_joined (net d) c r.0 (wired d) (below_kept (first_at d) (length d) r.0 (net_inside d r.0 (first_net _ r.1)) r.1) r.2) in
      omega arith
