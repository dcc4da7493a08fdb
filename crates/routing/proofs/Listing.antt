-- Cells that pass a test, written to the front of a list one after the other.
use Rattle.std.proofs.Common.{◌≡◌, ℕ, ◌+◌, ◌-◌, ◌<◌, Bool, true, false, cond, List, [], ◌∷◌, ◌++◌, length, get_or, take, drop, set, filter, sym, refl, ap, ◌∙◌, arith}
use Rattle.std.specs.List.{range_with_len}
use Rattle.std.proofs.lemmas.List.{append_assoc, append-nil, drop_more, drop-drop, drop_at, take_at, set_at, take_rest, drop_all, length_push, length-append, length-drop}
use borrow.Rule.Slice.PartMut.{put_mid}
use Rattle.drawings.specs.Changes.{written}
use Rattle.drawings.proofs.Cells.{kept_below_more}
use Rattle.routing.specs.Showing.{WritesPassing}

-- one number more
pub written_more : (xs ys : List ℕ) (x : ℕ) → length xs < length ys → set (written xs ys) (length xs) x ≡ written (xs ++ x ∷ []) ys
written_more xs ys x h =
    ap (λ zs. set (xs ++ zs) (length xs) x) (drop_more ys (length xs) 0 h) ∙
    (set_at xs (get_or ys (length xs) 0) (drop (length xs + 1) ys) x (length xs) refl ∙
    (sym (append_assoc xs (x ∷ []) (drop (length xs + 1) ys)) ∙
    ap (λ k. (xs ++ x ∷ []) ++ drop k ys) (sym (length_push xs x))))

-- two lists one after the other
pub written_two : (xs ys zs : List ℕ) → xs ++ written ys (drop (length xs) zs) ≡ written (xs ++ ys) zs
written_two xs ys zs =
    sym (append_assoc xs ys (drop (length ys) (drop (length xs) zs))) ∙
    ap (λ ws. (xs ++ ys) ++ ws) (drop-drop (length ys) (length xs) zs ∙ ap (λ k. drop k zs) (sym (length-append xs ys)))

module _ (p : ℕ → Bool) (n : ℕ) (before now : List ℕ) (count : ℕ) (so_far : WritesPassing p n before now count) where
  -- one number more that passes
  pub passing_more : p n ≡ true → count < length before → WritesPassing p (n + 1) before (set now count n) (count + 1)
  passing_more e h =
      let xs = filter p (range_with_len 0 n) in
      let more : filter p (range_with_len 0 (n + 1)) ≡ xs ++ n ∷ [] = kept_below_more p n ∙ ap (λ b. xs ++ cond b (n ∷ []) []) e in
      record {
        counts = ap (λ k. k + 1) so_far.counts ∙ (sym (length_push xs n) ∙ sym (ap length more));
        writes = ap (λ zs. set zs count n) so_far.writes ∙ (ap (λ k. set (written xs before) k n) so_far.counts ∙
            (written_more xs before n (omega (arith, so_far.counts)) ∙ sym (ap (λ zs. written zs before) more)));
      }

  -- one that does not
  pub passing_same : p n ≡ false → WritesPassing p (n + 1) before now count
  passing_same e =
      let xs = filter p (range_with_len 0 n) in
      let more : filter p (range_with_len 0 (n + 1)) ≡ xs = kept_below_more p n ∙ (ap (λ b. xs ++ cond b (n ∷ []) []) e ∙ append-nil xs) in
      record {
        counts = so_far.counts ∙ sym (ap length more);
        writes = so_far.writes ∙ sym (ap (λ zs. written zs before) more);
      }

-- a second list written to what comes after a first
pub written_part : (A X R R₁ Y : List ℕ) (a : ℕ) → a ≡ length A → R₁ ≡ written A R → Y ≡ written X (take (length R₁ - a) (drop a R₁)) →
    put_mid a (length R₁ - a) R₁ Y ≡ written (A ++ X) R
written_part A X R R₁ Y a long same wrote =
    let front : take a R₁ ≡ A = ap (take a) same ∙ take_at A (drop (length A) R) a (sym long) in
    let back : drop a R₁ ≡ drop (length A) R = ap (drop a) same ∙ drop_at A (drop (length A) R) a (sym long) in
    let none : drop (length R₁ - a) (drop a R₁) ≡ [] = drop_all (length R₁ - a) (drop a R₁) (simp length-drop (omega arith)) in
    let part : Y ≡ written X (drop (length A) R) = wrote ∙ ap (written X) (take_rest R₁ a ∙ back) in
    ap (λ zs. zs ++ (Y ++ drop (length R₁ - a) (drop a R₁))) front ∙
    (ap (λ zs. A ++ (Y ++ zs)) none ∙ (ap (λ zs. A ++ zs) (append-nil Y ∙ part) ∙ written_two A X R))
