-- The course of a search that came to a landing is a trail.
use Rattle.std.proofs.Common.{◌≡◌, ℕ, ◌<◌, ◌≤◌, true, false, List, [], ◌∷◌, length, sym, refl, ap, ◌∙◌, subst, ⊎_elim, arith}
use Rattle.std.proofs.lemmas.Bool.{both_ways, cases_lt}
use Rattle.boards.specs.Meaning.{Meaning, pad_at, landing_at}
use Rattle.linkages.specs.Lists.{Mem, here, there, Distinct, Next, begins, goes_on}
use Rattle.linkages.proofs.Members.{mem_none}
use Rattle.records.specs.declared.record.Record.{Record}
use Rattle.records.specs.Records.{record_at}
use Rattle.drawings.specs.Nets.{first_at, barred_at}
use Rattle.rewiring.specs.Trails.{Enters, Trail}
use Rattle.routing.specs.Searches.{Notes, cell_at, from_at, open_at, Searching, Came}
use Rattle.routing.specs.Courses.{Course, arrives, comes}
use Rattle.routing.proofs.Noting.{cell_inside}
use Rattle.routing.proofs.Exits.{open_free, free_open}

module _ (m : Meaning) (d : List Record) (p : ℕ) (s : Notes) (S : Searching m d p s) (k : ℕ) (short : k < s.count) where
  -- places rise along a course
  course_inside : {i : ℕ} {xs : List ℕ} → Course s.queue s.from k i xs → i ≤ k
  course_inside arrives = omega arith
  course_inside (comes {i = i} pos e C) = let l = course_inside C in omega (arith, S.earlier i pos (omega arith))

  -- each cell of it stands at a place, the first at i
  course_first : {i : ℕ} {xs : List ℕ} → Course s.queue s.from k i xs → (rest : List ℕ) × (xs ≡ cell_at s i ∷ rest)
  course_first arrives = ([], refl)
  course_first (comes {xs = xs} pos e C) = (xs, refl)

  course_place : {i c : ℕ} {xs : List ℕ} → Course s.queue s.from k i xs → Mem c xs → (j : ℕ) × (i ≤ j) × (j ≤ k) × (c ≡ cell_at s j)
  course_place arrives (here e) = (k, omega arith, omega arith, e)
  course_place arrives (there n) = absurd (mem_none n)
  course_place (comes {h = h} {i = i} pos e C) (here f) =
      (h, omega arith, let l = course_inside C in omega (arith, S.earlier i pos (omega arith)), f)
  course_place (comes {h = h} {i = i} pos e C) (there n) =
      let q = course_place C n in
      let l = course_inside C in
      (q.0, omega (arith, q.1, S.earlier i pos (omega arith)), q.2, q.3)

  course_distinct : {i : ℕ} {xs : List ℕ} → Course s.queue s.from k i xs → Distinct xs
  course_distinct arrives = (mem_none, tt)
  course_distinct (comes {h = h} {i = i} pos e C) = (
    λ n. let q = course_place C n in
        let l = course_inside C in
        S.differ h q.0 (omega (arith, q.1, S.earlier i pos (omega arith))) (omega (arith, q.2)) q.3,
    course_distinct C,
  )

  course_ends : {i : ℕ} {xs : List ℕ} → Course s.queue s.from k i xs → Mem (cell_at s k) xs
  course_ends arrives = here refl
  course_ends (comes pos e C) = there (course_ends C)

  link : (h i : ℕ) → 0 < i → i ≤ k → h ≡ from_at s i → Enters m d (cell_at s h) (cell_at s i)
  link h i pos l e = subst (λ v. Enters m d (cell_at s v) (cell_at s i)) (sym e) (S.enters i pos (omega arith))

  -- a cell with one after it stands before place k, and the one after it is entered from it
  course_next : {i u t : ℕ} {xs : List ℕ} → Course s.queue s.from k i xs → Next u t xs → Enters m d u t
  course_next arrives (goes_on n) = elim n [ ]
  course_next {t = t} (comes {h = h} pos e arrives) (begins f g) =
      subst (λ v. Enters m d v t) (sym f) (subst (Enters m d (cell_at s h)) (sym g) (link h k pos (omega arith) e))
  course_next {t = t} (comes {h = h} {i = i} pos e (comes q e' C)) (begins f g) =
      subst (λ v. Enters m d v t) (sym f) (subst (Enters m d (cell_at s h)) (sym g) (link h i pos (course_inside (comes q e' C)) e))
  course_next (comes pos e C) (goes_on n) = course_next C n

  course_before : {i u t : ℕ} {xs : List ℕ} → Course s.queue s.from k i xs → Next u t xs → (j : ℕ) × (j < k) × (u ≡ cell_at s j)
  course_before arrives (goes_on n) = elim n [ ]
  course_before (comes {h = h} pos e arrives) (begins f g) = (h, omega (arith, S.earlier k pos short), f)
  course_before (comes {h = h} {i = i} pos e (comes q e' C)) (begins f g) =
      let l = course_inside (comes q e' C) in (h, omega (arith, S.earlier i pos (omega arith)), f)
  course_before (comes pos e C) (goes_on n) = course_before C n

pub course_trail : (m : Meaning) (d : List Record) (p : ℕ) (s : Notes) (z : ℕ) (ts : List ℕ) (T : Came m d p s z) → pad_at m p ≡ true → first_at d p ≡ false →
    Course s.queue s.from T.last 0 ts → Trail m d p z ts
course_trail m d p s z ts T pad unwired C =
    let S = T.searching in
    let k = T.last in
    let short : k < s.count = omega (arith, T.count) in
    let F = course_first m d p s S k short C in
    let ends = open_free (record_at d z) (landing_at m z) T.lies_open in
    let place : (c : ℕ) → Mem c ts → (j : ℕ) × (0 ≤ j) × (j ≤ k) × (c ≡ cell_at s j) = λ c n. course_place m d p s S k short C n in
    record {
      rest = F.0;
      starts = F.1 ∙ ap (λ x. x ∷ F.0) S.starts;
      differ = course_distinct m d p s S k short C;
      inside = λ c n. let q = place c n in subst (λ v. v < length d) (sym q.3) (cell_inside m d p s S q.0 (omega (arith, q.2)));
      unbarred = λ c n. let q = place c n in ap (barred_at d) q.3 ∙ S.unbarred q.0 (omega (arith, q.2));
      enters = λ u t n. course_next m d p s S k short C n;
      start_is_pad = pad;
      start_unwired = unwired;
      ends = subst (λ v. Mem v ts) T.lands (course_ends m d p s S k short C);
      end_is_last = λ t n. let q = course_before m d p s S k short C n in S.differ q.0 k q.1 short (sym q.2 ∙ sym T.lands);
      end_is_landing = ends.2;
      end_off_nets = ends.0;
      one_landing = λ c n land off. let q = place c n in ⊎_elim
          (λ (h : q.0 < k). absurd (both_ways (open_at m d c) (ap (open_at m d) q.3 ∙ T.none_before q.0 h)
          (free_open (record_at d c) (landing_at m c) off (ap (barred_at d) q.3 ∙ S.unbarred q.0 (omega (arith, q.2))) land)))
          (λ (h : k ≤ q.0). let e : q.0 ≡ k = omega (arith, q.2) in q.3 ∙ ap (cell_at s) e ∙ T.lands)
          (cases_lt q.0 k);
    }
