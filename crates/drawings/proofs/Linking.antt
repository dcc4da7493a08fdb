-- A lawful drawing's nets as disjoint paths.
use Rattle.std.proofs.Common.{◌≡◌, ℕ, true, List, [], ◌∷◌, map, length, Some, sym, refl, ap, ◌∙◌, subst}
use Rattle.std.proofs.lemmas.Bool.{both_ways}
use Rattle.boards.specs.Meaning.{Meaning}
use Rattle.linkages.specs.Lists.{Mem, here, there, Next, begins, goes_on}
use Rattle.linkages.specs.Paths.{Landing, Unbarred, Walk, stop, step, Path}
use Rattle.linkages.specs.Nets.{first_of}
use Rattle.records.specs.declared.record.Record.{Record}
use Rattle.records.specs.Records.{record_at}
use Rattle.drawings.specs.Nets.{after_at, net_at, first_at, last_at, barred_at, wired, bars, net, nets, last_of, Runs, ends, goes}
use Rattle.drawings.specs.Lawful.{Lawful}
use Rattle.drawings.specs.Links.{Linked}
use Rattle.linkages.proofs.Members.{mem_none, mem_map, mem_of_map}
use Rattle.linkages.proofs.Pigeons.{disjoint_paths}
use Rattle.drawings.proofs.Cells.{kept_below, below_kept, distinct_kept_below}
use Rattle.drawings.proofs.Said.{none_not_some, some_same, first_net, last_net, after_net, net_unbarred, net_inside}
use Rattle.drawings.proofs.Follow.{run_net, run_distinct, net_runs, nets_apart, reached_net}
use Rattle.drawings.proofs.Freeing.{run_last_at}

-- ---- lists made from lists

same_map : {X : Type 0} (f : X → X) (xs : List X) → ((x : X) → Mem x xs → f x ≡ x) → map f xs ≡ xs
same_map f [] e = refl
same_map f (x ∷ xs) e = ap (λ y. y ∷ map f xs) (e x (here refl)) ∙ ap (λ ys. x ∷ ys) (same_map f xs (λ y m. e y (there m)))

map_map : {X Y Z : Type 0} (g : Y → Z) (f : X → Y) (xs : List X) → map g (map f xs) ≡ map (λ x. g (f x)) xs
map_map g f [] = refl
map_map g f (x ∷ xs) = ap (λ ys. g (f x) ∷ ys) (map_map g f xs)

-- ---- a run as a list

pub run_begins : {d : List Record} {c : ℕ} {xs : List ℕ} → Runs d c xs → first_of xs ≡ c
run_begins (ends e) = refl
run_begins (goes e r) = refl

pub next_after : {d : List Record} {c u t : ℕ} {xs : List ℕ} → Runs d c xs → Next u t xs → after_at d u ≡ Some t
next_after (ends e) (goes_on n) = elim n [ ]
next_after {d} (goes e (ends p)) (begins f g) = ap (after_at d) f ∙ e ∙ ap Some (sym g)
next_after {d} (goes e (goes p r)) (begins f g) = ap (after_at d) f ∙ e ∙ ap Some (sym g)
next_after (goes e r) (goes_on n) = next_after r n

pub after_next : {d : List Record} {c u t : ℕ} {xs : List ℕ} → Runs d c xs → Mem u xs → after_at d u ≡ Some t → Next u t xs
after_next {d} (ends {c = c} e) (here f) q = absurd (none_not_some (sym (last_net (record_at d c) e).1 ∙ (sym (ap (after_at d) f) ∙ q)))
after_next (ends e) (there m) q = absurd (mem_none m)
after_next {d} (goes e (ends p)) (here f) q = begins f (some_same q (ap (after_at d) f ∙ e))
after_next {d} (goes e (goes p r)) (here f) q = begins f (some_same q (ap (after_at d) f ∙ e))
after_next (goes e r) (there m) q = goes_on (after_next r m q)

module _ (m : Meaning) (d : List Record) (W : Lawful m d) where
  net_free : (c : ℕ) → net_at d c ≡ true → Unbarred (bars d) c
  net_free c h i = both_ways (barred_at d c) (net_unbarred (record_at d c) h) (kept_below (barred_at d) (length d) c i).1

  run_walk : {c : ℕ} {xs : List ℕ} (a : ℕ) → Runs d c xs → Walk m (bars d) (last_of a xs) c xs
  run_walk a (ends {c = c} e) = stop (net_free c (last_net (record_at d c) e).0) refl
  run_walk a (goes {c = c} {t = t} e r) = step (net_free c (after_net (record_at d c) t e).0) ((W.local c).after_is_outlet t e) (run_walk c r)

  run_path : {c : ℕ} {xs : List ℕ} (a : ℕ) → Runs d c xs → Path m (bars d) c (last_of a xs) xs
  run_path a r = record { walk = run_walk a r; distinct = run_distinct r }

  run_lands : {c : ℕ} {xs : List ℕ} (a : ℕ) → Runs d c xs → Landing m (last_of a xs)
  run_lands {xs = xs} a r = (W.local (last_of a xs)).last_is_landing (run_last_at a r)

  run_once : {c : ℕ} {xs : List ℕ} → Runs d c xs → (u t : ℕ) → Next u t xs → Landing m u → ⊥
  run_once r u t n l =
      let h = after_net (record_at d u) t (next_after r n) in
      both_ways (last_at d u) h.1 ((W.local u).landing_is_last h.0 l)

  wired_first : (w : ℕ) → Mem w (wired d) → first_at d w ≡ true
  wired_first w i = (kept_below (first_at d) (length d) w i).1

  pub wired_runs : (w : ℕ) → Mem w (wired d) → Runs d w (net d w)
  wired_runs w i = net_runs m d W.local w (wired_first w i)

  -- each net of the list is a run
  pub nets_run : (xs : List ℕ) → Mem xs (nets d) → Runs d (first_of xs) xs
  nets_run xs i =
      let h = mem_of_map (net d) xs (wired d) i in
      let r = subst (Runs d h.0) (sym h.2) (wired_runs h.0 h.1) in
      subst (λ c. Runs d c xs) (sym (run_begins r)) r

  -- and each net cell is on one of them
  pub on_net : (c : ℕ) → net_at d c ≡ true → (w : ℕ) × Mem w (wired d) × Mem c (net d w)
  on_net c h =
      let r = reached_net m d W.local (W.reached c h) in
      (r.0, below_kept (first_at d) (length d) r.0 (net_inside d r.0 (first_net (record_at d r.0) r.1)) r.1, r.2)

  apart : (x y c : ℕ) → Mem x (wired d) → Mem y (wired d) → Mem c (net d x) → Mem c (net d y) → x ≡ y
  apart x y c i j = nets_apart m d W.local x y c (wired_first x i) (wired_first y j)

  pub linked : Linked m d
  linked = record {
    wiring = record {
      disjoint = disjoint_paths (wired d) (net d) (distinct_kept_below (first_at d) (length d)) apart;
      end = last_of 0;
      runs = λ xs i. run_path 0 (nets_run xs i);
      lands = λ xs i. run_lands 0 (nets_run xs i);
      lands_once = λ xs i. run_once (nets_run xs i);
    };
    pads = map_map first_of (net d) (wired d) ∙ same_map (λ w. first_of (net d w)) (wired d) (λ w i. run_begins (wired_runs w i));
    pads_differ = distinct_kept_below (first_at d) (length d);
    linkage = record {
      path = net d;
      end = λ q. last_of q (net d q);
      runs = λ q i. run_path q (wired_runs q i);
      lands = λ q i. run_lands q (wired_runs q i);
      apart = apart;
    };
    on_a_net = λ c h. let k = on_net c h in (net d k.0, mem_map (net d) k.1, k.2);
    net_cells = λ c xs i j. run_net (nets_run xs i) j;
    next_is_after = λ u t xs i n. next_after (nets_run xs i) n;
    after_is_next = λ u t q.
        let k = on_net u (after_net (record_at d u) t q).0 in
        (net d k.0, mem_map (net d) k.1, after_next (wired_runs k.0 k.1) k.2 q);
  }
