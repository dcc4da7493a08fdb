-- Marks written to a list of cells.
use Rattle.std.proofs.Common.{◌≡◌, ℕ, ◌+◌, ◌<◌, ◌≤◌, true, false, ◌⊎◌, List, [], ◌∷◌, length, get_or, set, sym, refl, ap, ◌∙◌, subst, inl, inr, ⊎_elim, arith}
use Rattle.std.proofs.lemmas.List.{get_or-set_same, get_or-set_other, length-set}
use Rattle.std.proofs.lemmas.Bool.{cases_eq}
use Rattle.boards.specs.Meaning.{Meaning}
use Rattle.linkages.specs.Lists.{Mem, here, there}
use Rattle.linkages.proofs.Members.{mem_none}
use Rattle.records.specs.declared.record.Record.{Record}
use Rattle.drawings.specs.Nets.{first_at, net}
use Rattle.drawings.specs.Lawful.{Local, Reached}
use Rattle.drawings.proofs.Said.{first_net, net_inside}
use Rattle.drawings.proofs.Follow.{run_net, net_runs, net_reached, reached_net}
use Rattle.rewiring.specs.Marks.{marked, MarksReached}

pub marked_long : (xs marks : List ℕ) → length (marked xs marks) ≡ length marks
marked_long [] marks = refl
marked_long (x ∷ xs) marks = marked_long xs (set marks x 1) ∙ length-set marks x 1

set_one_stays : (marks : List ℕ) (x k : ℕ) → k < length marks → get_or marks k 0 ≡ 1 → get_or (set marks x 1) k 0 ≡ 1
set_one_stays marks x k l h = ⊎_elim
    (λ (e : k ≡ x). subst (λ (y : ℕ). get_or (set marks y 1) k 0 ≡ 1) e (get_or-set_same marks k 1 0 l))
    (λ n. get_or-set_other marks x k 1 0 n ∙ h)
    (cases_eq k x)

marked_stays : (xs marks : List ℕ) (k : ℕ) → k < length marks → get_or marks k 0 ≡ 1 → get_or (marked xs marks) k 0 ≡ 1
marked_stays [] marks k l h = h
marked_stays (x ∷ xs) marks k l h =
    marked_stays xs (set marks x 1) k (subst (λ n. k < n) (sym (length-set marks x 1)) l) (set_one_stays marks x k l h)

marked_inside : (xs marks : List ℕ) (k : ℕ) → k < length marks → Mem k xs → get_or (marked xs marks) k 0 ≡ 1
marked_inside [] marks k l i = absurd (mem_none i)
marked_inside (x ∷ xs) marks k l (here e) =
    marked_stays xs (set marks x 1) k (subst (λ n. k < n) (sym (length-set marks x 1)) l)
    (subst (λ (y : ℕ). get_or (set marks y 1) k 0 ≡ 1) e (get_or-set_same marks k 1 0 l))
marked_inside (x ∷ xs) marks k l (there i) = marked_inside xs (set marks x 1) k (subst (λ n. k < n) (sym (length-set marks x 1)) l) i

marked_cases : (xs marks : List ℕ) (k : ℕ) → get_or (marked xs marks) k 0 ≡ 1 → (get_or marks k 0 ≡ 1) ⊎ Mem k xs
marked_cases [] marks k h = inl h
marked_cases (x ∷ xs) marks k h = elim (marked_cases xs (set marks x 1) k h) [
  | inl g ↦ ⊎_elim (λ (e : k ≡ x). inr (here e)) (λ n. inl (sym (get_or-set_other marks x k 1 0 n) ∙ g)) (cases_eq k x)
  | inr i ↦ inr (there i)
]

-- the nets of the first cells below n are marked, and nothing else
pub record MarkedBelow (d : List Record) (marks : List ℕ) (n : ℕ) : Type 0 where
  pub room : length d ≤ length marks
  pub sound : (k : ℕ) → get_or marks k 0 ≡ 1 → Reached d k
  pub whole : (f k : ℕ) → f < n → first_at d f ≡ true → Mem k (net d f) → get_or marks k 0 ≡ 1

module _ (m : Meaning) (d : List Record) (L : (c : ℕ) → Local m d c) where
  pub none_marked : (marks : List ℕ) → length d ≤ length marks → ((k : ℕ) → get_or marks k 0 ≡ 0) → MarkedBelow d marks 0
  none_marked marks r z = record {
    room = r;
    sound = λ k h. let w : ⊥ = omega (arith, z k) in absurd w;
    whole = λ f k l. let w : ⊥ = omega arith in absurd w;
  }

  pub mark_first : (marks : List ℕ) (n : ℕ) → first_at d n ≡ true → MarkedBelow d marks n → MarkedBelow d (marked (net d n) marks) (n + 1)
  mark_first marks n p M = record {
    room = subst (λ k. length d ≤ k) (sym (marked_long (net d n) marks)) M.room;
    sound = λ k h. elim (marked_cases (net d n) marks k h) [ inl g ↦ M.sound k g | inr i ↦ net_reached m d L n k p i ];
    whole = λ f k l q i.
        let on : k < length d = net_inside d k (run_net (net_runs m d L f q) i) in
        let here_on : k < length marks = omega (arith, M.room) in
        ⊎_elim
        (λ (e : f ≡ n). marked_inside (net d n) marks k here_on (subst (λ g. Mem k (net d g)) e i))
        (λ ne. marked_stays (net d n) marks k here_on (M.whole f k (omega arith) q i))
        (cases_eq f n);
  }

  pub mark_other : (marks : List ℕ) (n : ℕ) → first_at d n ≡ false → MarkedBelow d marks n → MarkedBelow d marks (n + 1)
  mark_other marks n p M = record {
    room = M.room;
    sound = M.sound;
    whole = λ f k l q i. ⊎_elim
        (λ (e : f ≡ n). let w : ◌≡◌ {A = ℕ} 0 1 = cc (p, q, ap (first_at d) e) in let v : ⊥ = omega arith in absurd v)
        (λ ne. M.whole f k (omega arith) q i)
        (cases_eq f n);
  }

  pub all_marked : (marks : List ℕ) → MarkedBelow d marks (length d) → MarksReached d marks
  all_marked marks M = record {
    whole = λ c r. let h = reached_net m d L r in M.whole h.0 c (net_inside d h.0 (first_net _ h.1)) h.1 h.2;
    sound = M.sound;
  }
