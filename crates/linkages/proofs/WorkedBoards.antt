-- The examples, worked.
use Rattle.std.proofs.Common.{◌≡◌, ℕ, zero, suc, ◌<◌, ◌≤◌, Bool, true, false, ◌⊎◌, List, [], ◌∷◌, length, get_or, Decides, sym, refl, ap, ◌∙◌, subst, inl, inr, arith}
use mathlib.Core.Bool.{false≢true}
use Rattle.boards.specs.Meaning.{Meaning, Bounded, outlets_of}
use Rattle.linkages.specs.Lists.{Mem, here, there, Distinct, Next, begins, goes_on}
use Rattle.linkages.specs.Paths.{Landing, Unbarred, stop, step, Path, CanBeMet}
use Rattle.linkages.specs.Fences.{Fence}
use Rattle.linkages.specs.Nets.{first_of, Wiring, OffNets, Exit, off_nets, along, Entered, start, onward, backward, Trapped}
use Rattle.linkages.specs.Nets.{LastEntered, Shows}
use Rattle.linkages.specs.Examples.{marked, row, row_nets, RowExample, BarredRowExample, lone, LoneExample, line, LineExample}
use Rattle.linkages.proofs.Members.{mem_none, mem_cases, mem_one}
use Rattle.linkages.proofs.Nexts.{next_two, next_not_one}
use Rattle.linkages.proofs.NetLists.{nets_link, failed_from_closed}
use Rattle.linkages.proofs.SameMembers.{fence_for_fewer}
use Rattle.linkages.proofs.SearchFence.{search_fences, trapped_cannot_be_met, the_fence}
use Rattle.linkages.proofs.Places.{mem_get_or}

-- ---- lists written out

mem_two : {E : Type 0} {c x y : E} → Mem c (x ∷ y ∷ []) → (c ≡ x) ⊎ (c ≡ y)
mem_two k = elim (mem_cases k) [ inl e ↦ inl e | inr h ↦ inr (mem_one h) ]

mem_three : {E : Type 0} {c x y z : E} → Mem c (x ∷ y ∷ z ∷ []) → (c ≡ x) ⊎ ((c ≡ y) ⊎ (c ≡ z))
mem_three k = elim (mem_cases k) [ inl e ↦ inl e | inr h ↦ inr (mem_two h) ]

-- one net of three cells: what comes right after what
next_three : {u t x y z : ℕ} → Next u t (x ∷ y ∷ z ∷ []) → ((u ≡ x) × (t ≡ y)) ⊎ ((u ≡ y) × (t ≡ z))
next_three n = elim (next_two n) [
  | inl h ↦ inl h
  | inr k ↦ elim (next_two k) [ inl h ↦ inr h | inr j ↦ absurd (next_not_one j) ]
]

distinct_three : (x y z : ℕ) → (x ≡ y → ⊥) → (x ≡ z → ⊥) → (y ≡ z → ⊥) → Distinct (x ∷ y ∷ z ∷ [])
distinct_three x y z a b c = (λ k. elim (mem_two k) [ inl e ↦ a e | inr e ↦ b e ], (λ k. c (mem_one k), (mem_none, tt)))

-- one net of three cells, of which the last is a landing, is a wiring
wiring_three : (m : Meaning) (bars : List ℕ) (x y z : ℕ) → Path m bars x z (x ∷ y ∷ z ∷ []) → Landing m z →
    (Landing m x → ⊥) → (Landing m y → ⊥) →
    Wiring m bars ((x ∷ y ∷ z ∷ []) ∷ [])
wiring_three m bars x y z P l nx ny = record {
  disjoint = (λ ys c k. absurd (mem_none k), tt);
  end = λ xs. z;
  runs = λ xs k. subst (λ (ys : List ℕ). Path m bars (first_of ys) z ys) (sym (mem_one k)) P;
  lands = λ xs k. l;
  lands_once = λ xs k u t n h. elim (next_three (subst (Next u t) (mem_one k) n)) [
    | inl e ↦ nx (subst (Landing m) e.0 h)
    | inr e ↦ ny (subst (Landing m) e.0 h)
  ];
}

no_nets : (m : Meaning) (bars : List ℕ) → Wiring m bars []
no_nets m bars = record {
  disjoint = tt;
  end = λ xs. 0;
  runs = λ xs k. absurd (mem_none k);
  lands = λ xs k. absurd (mem_none k);
  lands_once = λ xs k. absurd (mem_none k);
}

-- a cell that has no mark, and one that has
unmarked : (marks : List Bool) {c d : ℕ} → c ≡ d → marked marks d ≡ false → marked marks c ≡ true → ⊥
unmarked marks e f h = false≢true (sym f ∙ (ap (marked marks) (sym e) ∙ h))

has_mark : (marks : List Bool) {c d : ℕ} → c ≡ d → marked marks d ≡ true → marked marks c ≡ true
has_mark marks e h = ap (marked marks) e ∙ h

-- ---- the row

row_few : (c : ℕ) → length (outlets_of row c) ≤ 8
row_few zero = omega arith
row_few (suc zero) = omega arith
row_few (suc (suc zero)) = omega arith
row_few (suc (suc (suc zero))) = omega arith
row_few (suc (suc (suc (suc zero)))) = omega arith
row_few (suc (suc (suc (suc (suc zero))))) = omega arith
row_few (suc (suc (suc (suc (suc (suc c)))))) = omega arith

row_inside : (c d : ℕ) → Mem d (outlets_of row c) → d < 6
row_inside zero d k = let e = mem_one k in omega arith
row_inside (suc zero) d k = elim (mem_two k) [ inl e ↦ omega arith | inr e ↦ omega arith ]
row_inside (suc (suc zero)) d k = let e = mem_one k in omega arith
row_inside (suc (suc (suc zero))) d k = let e = mem_one k in omega arith
row_inside (suc (suc (suc (suc zero)))) d k = elim (mem_two k) [ inl e ↦ omega arith | inr e ↦ omega arith ]
row_inside (suc (suc (suc (suc (suc zero))))) d k = let e = mem_one k in omega arith
row_inside (suc (suc (suc (suc (suc (suc c)))))) d k = absurd (mem_none k)

-- a board is bounded if its lists have the right lengths, and each cell has few outlets, all of them cells
bounded_by : (m : Meaning) → 1 ≤ m.cells → m.cells ≤ 4096 → length m.outlets ≡ m.cells → length m.pads ≡ m.cells →
    length m.landings ≡ m.cells → ((c : ℕ) → length (outlets_of m c) ≤ 8) →
    ((c d : ℕ) → Mem d (outlets_of m c) → d < m.cells) → Bounded m
bounded_by m some few outs pads lands small inside = record {
  some_cell = some;
  few_cells = few;
  outlets_length = outs;
  pads_length = pads;
  landings_length = lands;
  few_outlets = small;
  inside = λ c j h. inside c (get_or (outlets_of m c) j 0) (mem_get_or (outlets_of m c) j 0 h);
}

row_bounded : Bounded row
row_bounded = bounded_by row (omega arith) (omega arith) refl refl refl row_few row_inside

row_landing : (c : ℕ) → Landing row c → c ≡ 5
row_landing zero h = absurd (false≢true h)
row_landing (suc zero) h = absurd (false≢true h)
row_landing (suc (suc zero)) h = absurd (false≢true h)
row_landing (suc (suc (suc zero))) h = absurd (false≢true h)
row_landing (suc (suc (suc (suc zero)))) h = absurd (false≢true h)
row_landing (suc (suc (suc (suc (suc zero))))) h = refl
row_landing (suc (suc (suc (suc (suc (suc c)))))) h = absurd (false≢true h)

row_path : (bars : List ℕ) → Unbarred bars 1 → Unbarred bars 2 → Unbarred bars 5 → Path row bars 1 5 (1 ∷ 2 ∷ 5 ∷ [])
row_path bars a b c = record {
  walk = step a (here refl) (step b (here refl) (stop c refl));
  distinct = distinct_three 1 2 5 (λ e. omega arith) (λ e. omega arith) (λ e. omega arith);
}

row_wiring : (bars : List ℕ) → Unbarred bars 1 → Unbarred bars 2 → Unbarred bars 5 → Wiring row bars row_nets
row_wiring bars a b c = wiring_three row bars 1 2 5 (row_path bars a b c) refl false≢true false≢true

row_off : (t : ℕ) → (t ≡ 1 → ⊥) → (t ≡ 2 → ⊥) → (t ≡ 5 → ⊥) → OffNets row_nets t
row_off t a b c xs k i =
    elim (mem_three (subst (Mem t) (mem_one k) i)) [ inl e ↦ a e | inr h ↦ elim h [ inl e ↦ b e | inr e ↦ c e ] ]

row_unwired : Mem {E = ℕ} 0 (1 ∷ []) → ⊥
row_unwired k = let e = mem_one k in omega arith

-- ---- the row without bars

all_six : List Bool
all_six = true ∷ true ∷ true ∷ true ∷ true ∷ true ∷ []

six_marked : (c : ℕ) → c < 6 → marked all_six c ≡ true
unfolding all_six
six_marked zero h = refl
six_marked (suc zero) h = refl
six_marked (suc (suc zero)) h = refl
six_marked (suc (suc (suc zero))) h = refl
six_marked (suc (suc (suc (suc zero)))) h = refl
six_marked (suc (suc (suc (suc (suc zero))))) h = refl
six_marked (suc (suc (suc (suc (suc (suc c)))))) h = absurd (let z : ⊥ = omega arith in z)

abbrev Came : ℕ → Type 0
Came c = Entered row [] row_nets 0 c

came_3 : Came 3
came_3 = onward start (off_nets (row_off 0 (λ e. omega arith) (λ e. omega arith) (λ e. omega arith)) refl) mem_none (here refl)

came_4 : Came 4
came_4 = onward came_3 (off_nets (row_off 3 (λ e. omega arith) (λ e. omega arith) (λ e. omega arith)) refl) mem_none (here refl)

came_5 : Came 5
came_5 = onward came_4 (off_nets (row_off 4 (λ e. omega arith) (λ e. omega arith) (λ e. omega arith)) refl) mem_none (here refl)

came_2 : Came 2
came_2 = backward came_5 (along (1 ∷ 2 ∷ 5 ∷ []) (here refl) (goes_on (begins refl refl)))

came_1 : Came 1
came_1 = backward came_2 (along (1 ∷ 2 ∷ 5 ∷ []) (here refl) (begins refl refl))

came : (c : ℕ) → marked all_six c ≡ true → Came c
unfolding all_six
came zero h = start
came (suc zero) h = came_1
came (suc (suc zero)) h = came_2
came (suc (suc (suc zero))) h = came_3
came (suc (suc (suc (suc zero)))) h = came_4
came (suc (suc (suc (suc (suc zero))))) h = came_5
came (suc (suc (suc (suc (suc (suc c)))))) h = absurd (false≢true h)

row_back : (t u : ℕ) → marked all_six t ≡ true → Exit row_nets t u → marked all_six u ≡ true
row_back t u h (off_nets n e) = has_mark all_six e h
row_back t u h (along xs k n) = elim (next_three (subst (Next u t) (mem_one k) n)) [
  | inl e ↦ has_mark all_six e.0 (six_marked 1 (omega arith))
  | inr e ↦ has_mark all_six e.0 (six_marked 2 (omega arith))
]

row_trapped : Trapped row [] row_nets 0 (marked all_six)
row_trapped = record {
  wiring = row_wiring [] mem_none mem_none mem_none;
  unwired = row_unwired;
  unbarred = mem_none;
  failed = failed_from_closed row [] row_nets 0 (marked all_six) came (six_marked 0 (omega arith)) row_back
      (λ t u v h e f k. six_marked v (row_inside u v k))
      (λ c h l n. n (1 ∷ 2 ∷ 5 ∷ []) (here refl) (there (there (here (row_landing c l)))));
}

row_shows : Shows row_nets 0 (marked all_six) (0 ∷ 1 ∷ []) (5 ∷ [])
row_shows = record {
  pads_differ = (λ k. row_unwired k, (mem_none, tt));
  cells_differ = (mem_none, tt);
  pads_only = λ c k. (
    k,
    elim (mem_two k) [
      | inl e ↦ has_mark all_six e (six_marked 0 (omega arith))
      | inr e ↦ has_mark all_six e (six_marked 1 (omega arith))
    ],
  );
  pads_all = λ c k h. k;
  cells_only = only;
  cells_all = all;
}
  where
    only : (c : ℕ) → Mem c (5 ∷ []) → LastEntered row_nets (marked all_six) c
    only c k =
        let e = mem_one k in
        record {
          net = 1 ∷ 2 ∷ 5 ∷ [];
          laid = here refl;
          on = there (there (here e));
          came = has_mark all_six e (six_marked 5 (omega arith));
          no_further = λ t n h. elim (next_three n) [ inl f ↦ omega (arith, f.0) | inr f ↦ omega (arith, f.0) ];
        }

    all : (c : ℕ) → LastEntered row_nets (marked all_six) c → Mem c (5 ∷ [])
    all c h =
        let f = mem_one h.laid in
        let go_on : (t : ℕ) → t < 6 → Next c t (1 ∷ 2 ∷ 5 ∷ []) → Mem c (5 ∷ []) =
        λ t l n. absurd (h.no_further t (subst (Next c t) (sym f) n) (six_marked t l)) in
        elim (mem_three (subst (Mem c) f h.on)) [
          | inl e ↦ go_on 2 (omega arith) (begins e refl)
          | inr g ↦ elim g [ inl e ↦ go_on 5 (omega arith) (goes_on (begins e refl)) | inr e ↦ here e ]
        ]

row_pad_0 : CanBeMet row [] (0 ∷ [])
row_pad_0 = record {
  path = λ q. 0 ∷ 3 ∷ 4 ∷ 5 ∷ [];
  end = λ q. 5;
  runs = λ q k. subst (λ (a : ℕ). Path row [] a 5 (0 ∷ 3 ∷ 4 ∷ 5 ∷ [])) (sym (mem_one k)) course;
  lands = λ q k. refl;
  apart = λ q r c k l i j. mem_one k ∙ sym (mem_one l);
}
  where
    course : Path row [] 0 5 (0 ∷ 3 ∷ 4 ∷ 5 ∷ [])
    course = record {
      walk = step mem_none (here refl) (step mem_none (here refl) (step mem_none (here refl) (stop mem_none refl)));
      distinct = (
        λ k. elim (mem_three k) [ inl e ↦ omega arith | inr h ↦ elim h [ inl e ↦ omega arith | inr e ↦ omega arith ] ],
        distinct_three 3 4 5 (λ e. omega arith) (λ e. omega arith) (λ e. omega arith),
      );
    }

pub row_example : RowExample
unfolding all_six
row_example = record {
  bounded = row_bounded;
  walk = step mem_none (there (here refl))
      (step mem_none (there (here refl)) (step mem_none (here refl) (step mem_none (here refl) (stop mem_none refl))));
  path = row_path [] mem_none mem_none mem_none;
  lands = refl;
  apart = (
    λ ys c k i j. elim (mem_two i) [ inl e ↦ far c ys k j (omega arith) (omega arith) | inr e ↦ far c ys k j (omega arith) (omega arith) ],
    (λ ys c k. absurd (mem_none k), tt),
  );
  trapped = row_trapped;
  shows = row_shows;
  fence = search_fences row [] row_nets 0 (marked all_six) row_trapped;
  pad_0_can = row_pad_0;
  pad_1_can = nets_link row [] row_nets row_trapped.wiring;
  both_cannot = trapped_cannot_be_met row [] row_nets 0 (marked all_six) row_trapped;
  no_other = the_fence row [] row_nets 0 (marked all_six) row_trapped;
}
  where
    far : (c : ℕ) (ys : List ℕ) → Mem ys ((1 ∷ 2 ∷ []) ∷ []) → Mem c ys → (c ≡ 1 → ⊥) → (c ≡ 2 → ⊥) → ⊥
    far c ys k j a b = elim (mem_two (subst (Mem c) (mem_one k) j)) [ inl e ↦ a e | inr e ↦ b e ]

-- ---- the row with cell 4 barred

two_marks : List Bool
two_marks = true ∷ false ∷ false ∷ true ∷ []

not_4 : (c : ℕ) → (c ≡ 4 → ⊥) → Unbarred (4 ∷ []) c
not_4 c n k = n (mem_one k)

barred_came : (c : ℕ) → marked two_marks c ≡ true → Entered row (4 ∷ []) row_nets 0 c
unfolding two_marks
barred_came zero h = start
barred_came (suc zero) h = absurd (false≢true h)
barred_came (suc (suc zero)) h = absurd (false≢true h)
barred_came (suc (suc (suc zero))) h =
    onward start (off_nets (row_off 0 (λ e. omega arith) (λ e. omega arith) (λ e. omega arith)) refl)
    (not_4 3 (λ e. omega arith)) (here refl)
barred_came (suc (suc (suc (suc c)))) h = absurd (false≢true h)

barred_back : (t u : ℕ) → marked two_marks t ≡ true → Exit row_nets t u → marked two_marks u ≡ true
unfolding two_marks
barred_back t u h (off_nets n e) = has_mark two_marks e h
barred_back t u h (along xs k n) = elim (next_three (subst (Next u t) (mem_one k) n)) [
  | inl e ↦ absurd (unmarked two_marks e.1 refl h)
  | inr e ↦ absurd (unmarked two_marks e.1 refl h)
]

barred_on : (u v : ℕ) → marked two_marks u ≡ true → Unbarred (4 ∷ []) v → Mem v (outlets_of row u) → marked two_marks v ≡ true
unfolding two_marks
barred_on zero v h f k = has_mark two_marks (mem_one k) refl
barred_on (suc zero) v h f k = absurd (false≢true h)
barred_on (suc (suc zero)) v h f k = absurd (false≢true h)
barred_on (suc (suc (suc zero))) v h f k = absurd (f k)
barred_on (suc (suc (suc (suc u)))) v h f k = absurd (false≢true h)

barred_trapped : Trapped row (4 ∷ []) row_nets 0 (marked two_marks)
unfolding two_marks
barred_trapped = record {
  wiring = row_wiring (4 ∷ []) (not_4 1 (λ e. omega arith)) (not_4 2 (λ e. omega arith)) (not_4 5 (λ e. omega arith));
  unwired = row_unwired;
  unbarred = not_4 0 (λ e. omega arith);
  failed = failed_from_closed row (4 ∷ []) row_nets 0 (marked two_marks) barred_came refl barred_back
      (λ t u v h e f k. barred_on u v (barred_back t u h e) f k)
      (λ c h l n. unmarked two_marks (row_landing c l) refl h);
}

pub barred_row_example : BarredRowExample
unfolding two_marks
barred_row_example = record {
  trapped = barred_trapped;
  fence = fence;
  alone = fence_for_fewer row (4 ∷ []) (0 ∷ 1 ∷ []) (0 ∷ []) (0 ∷ []) [] (λ c k. k) (λ c k. here (mem_one k)) fence;
}
  where
    fence : Fence row (4 ∷ []) (0 ∷ 1 ∷ []) (0 ∷ []) []
    fence = search_fences row (4 ∷ []) row_nets 0 (marked two_marks) barred_trapped

-- ---- the lone pad

abbrev one_mark : List Bool
one_mark = true ∷ []

lone_trapped : Trapped lone [] [] 0 (marked one_mark)
lone_trapped = record {
  wiring = no_nets lone [];
  unwired = mem_none;
  unbarred = mem_none;
  failed = failed_from_closed lone [] [] 0 (marked one_mark) first refl back (λ t u v h e f k. absurd (on u v k)) none;
}
  where
    first : (c : ℕ) → marked one_mark c ≡ true → Entered lone [] [] 0 c
    first zero h = start
    first (suc c) h = absurd (false≢true h)

    back : (t u : ℕ) → marked one_mark t ≡ true → Exit [] t u → marked one_mark u ≡ true
    back t u h (off_nets n e) = has_mark one_mark e h
    back t u h (along xs k n) = absurd (mem_none k)

    on : (u v : ℕ) → Mem v (outlets_of lone u) → ⊥
    on zero v k = mem_none k
    on (suc u) v k = mem_none k

    none : (c : ℕ) → marked one_mark c ≡ true → Landing lone c → OffNets [] c → ⊥
    none zero h l n = false≢true l
    none (suc c) h l n = false≢true l

lone_bounded : Bounded lone
lone_bounded = bounded_by lone (omega arith) (omega arith) refl refl refl few inside
  where
    few : (c : ℕ) → length (outlets_of lone c) ≤ 8
    few zero = omega arith
    few (suc c) = omega arith

    inside : (c d : ℕ) → Mem d (outlets_of lone c) → d < 1
    inside zero d k = absurd (mem_none k)
    inside (suc c) d k = absurd (mem_none k)

pub lone_example : LoneExample
lone_example = record { bounded = lone_bounded; trapped = lone_trapped; fence = search_fences lone [] [] 0 (marked one_mark) lone_trapped }

-- ---- the pad in the middle of a net

abbrev line_nets : List (List ℕ)
line_nets = (0 ∷ 1 ∷ 2 ∷ []) ∷ []

abbrev line_marks : List Bool
line_marks = true ∷ true ∷ []

line_path : Path line [] 0 2 (0 ∷ 1 ∷ 2 ∷ [])
line_path = record {
  walk = step mem_none (here refl) (step mem_none (here refl) (stop mem_none refl));
  distinct = distinct_three 0 1 2 (λ e. omega arith) (λ e. omega arith) (λ e. omega arith);
}

line_trapped : Trapped line [] line_nets 1 (marked line_marks)
line_trapped = record {
  wiring = wiring_three line [] 0 1 2 line_path refl false≢true false≢true;
  unwired = λ k. let e = mem_one k in omega arith;
  unbarred = mem_none;
  failed = failed_from_closed line [] line_nets 1 (marked line_marks) first refl back on none;
}
  where
    first : (c : ℕ) → marked line_marks c ≡ true → Entered line [] line_nets 1 c
    first zero h = backward start (along (0 ∷ 1 ∷ 2 ∷ []) (here refl) (begins refl refl))
    first (suc zero) h = start
    first (suc (suc c)) h = absurd (false≢true h)

    back : (t u : ℕ) → marked line_marks t ≡ true → Exit line_nets t u → marked line_marks u ≡ true
    back t u h (off_nets n e) = has_mark line_marks e h
    back t u h (along xs k n) = elim (next_three (subst (Next u t) (mem_one k) n)) [
      | inl e ↦ has_mark line_marks e.0 refl
      | inr e ↦ has_mark line_marks e.0 refl
    ]

    on_net : (t : ℕ) → marked line_marks t ≡ true → Mem t (0 ∷ 1 ∷ 2 ∷ [])
    on_net zero h = here refl
    on_net (suc zero) h = there (here refl)
    on_net (suc (suc t)) h = absurd (false≢true h)

    on : (t u v : ℕ) → marked line_marks t ≡ true → Exit line_nets t u → Unbarred [] v → Mem v (outlets_of line u) →
        marked line_marks v ≡ true
    on t u v h (off_nets n e) f k = absurd (n (0 ∷ 1 ∷ 2 ∷ []) (here refl) (on_net t h))
    on t u v h (along xs i n) f k = elim (next_three (subst (Next u t) (mem_one i) n)) [
      | inl e ↦ has_mark line_marks (mem_one (subst (λ (s : ℕ). Mem v (outlets_of line s)) e.0 k)) refl
      | inr e ↦ absurd (unmarked line_marks e.1 refl h)
    ]

    none : (c : ℕ) → marked line_marks c ≡ true → Landing line c → OffNets line_nets c → ⊥
    none c h l n = n (0 ∷ 1 ∷ 2 ∷ []) (here refl) (on_net c h)

line_bounded : Bounded line
line_bounded = bounded_by line (omega arith) (omega arith) refl refl refl few inside
  where
    few : (c : ℕ) → length (outlets_of line c) ≤ 8
    few zero = omega arith
    few (suc zero) = omega arith
    few (suc (suc zero)) = omega arith
    few (suc (suc (suc c))) = omega arith

    inside : (c d : ℕ) → Mem d (outlets_of line c) → d < 3
    inside zero d k = let e = mem_one k in omega arith
    inside (suc zero) d k = let e = mem_one k in omega arith
    inside (suc (suc zero)) d k = absurd (mem_none k)
    inside (suc (suc (suc c))) d k = absurd (mem_none k)

pub line_example : LineExample
line_example = record {
  bounded = line_bounded;
  trapped = line_trapped;
  fence = search_fences line [] line_nets 1 (marked line_marks) line_trapped;
}

-- ---- the one cell, or the one pad, of a fence

-- a test that tells whether c is d tells what holds of d and of nothing else
decided_by_one : (P : ℕ → Type 0) (r : Bool) (c d : ℕ) → P d → (P c → c ≡ d) → (r ≡ true → c ≡ d) → (c ≡ d → r ≡ true) → Decides r (P c)
decided_by_one P r c d h one to back = (λ e. subst P (sym (to e)) h, λ k. back (one k))

pub fences_row_decided : (r : Bool) (c : ℕ) → (r ≡ true → c ≡ 5) → (c ≡ 5 → r ≡ true) →
    Decides r (Fence row [] (0 ∷ 1 ∷ []) (0 ∷ 1 ∷ []) (c ∷ []))
fences_row_decided r c =
    decided_by_one (λ x. Fence row [] (0 ∷ 1 ∷ []) (0 ∷ 1 ∷ []) (x ∷ [])) r c 5 row_example.fence
    (λ F. mem_one ((row_example.no_other (0 ∷ 1 ∷ []) (c ∷ []) F).1.0 c (here refl)))

pub shut_in_barred_row_decided : (r : Bool) (q : ℕ) → (r ≡ true → q ≡ 0) → (q ≡ 0 → r ≡ true) →
    Decides r (Fence row (4 ∷ []) (0 ∷ 1 ∷ []) (q ∷ []) [])
unfolding two_marks
shut_in_barred_row_decided r q =
    decided_by_one (λ x. Fence row (4 ∷ []) (0 ∷ 1 ∷ []) (x ∷ []) []) r q 0 barred_row_example.fence
    (λ F. mem_one ((the_fence row (4 ∷ []) row_nets 0 (marked two_marks) barred_trapped (q ∷ []) [] F).0.0 q (here refl)))

pub fences_line_decided : (r : Bool) (c : ℕ) → (r ≡ true → c ≡ 1) → (c ≡ 1 → r ≡ true) →
    Decides r (Fence line [] (1 ∷ 0 ∷ []) (1 ∷ 0 ∷ []) (c ∷ []))
fences_line_decided r c =
    decided_by_one (λ x. Fence line [] (1 ∷ 0 ∷ []) (1 ∷ 0 ∷ []) (x ∷ [])) r c 1 line_example.fence
    (λ F. mem_one ((the_fence line [] line_nets 1 (marked line_marks) line_trapped (1 ∷ 0 ∷ []) (c ∷ []) F).1.0 c (here refl)))
