-- Texts cut at a byte: there is one way to do it.
use Rattle.std.proofs.Common.{◌≡◌, ◌≢◌, ℕ, ◌+◌, ◌-◌, ◌<◌, List, [], ◌∷◌, ◌++◌, length, get_or, take, drop, sym, refl, ap, ◌∙◌, arith, length-take, length-drop, take_all, take-append-drop}
use Rattle.std.proofs.ByRecursion.{All-from_get_or}
use Rattle.std.proofs.lemmas.List.{drop_more, get_or-take}
use Rattle.job_lines.specs.Words.{Lacks}

-- a text is cut at the place of its first b
pub cut_at : (text : List ℕ) (b i : ℕ) → i < length text → get_or text i 0 ≡ b → ((k : ℕ) → k < i → get_or text k 0 ≢ b) →
    Lacks b (take i text) × (text ≡ take i text ++ b ∷ take (length text - (i + 1)) (drop (i + 1) text))
cut_at text b i h e before =
    let front : Lacks b (take i text) = All-from_get_or (λ x. x ≢ b) (take i text) 0 (λ k in'. let k' : k < i = omega (arith, length-take i text) in rw get_or-take (before k k')) in
    let whole = take_all (length text - (i + 1)) (drop (i + 1) text) (omega (arith, length-drop (i + 1) text)) in
    (front, rw whole (sym (take-append-drop i text) ∙ ap (λ (r : List ℕ). take i text ++ r) (drop_more text i 0 h ∙ ap (λ (x : ℕ). x ∷ drop (i + 1) text) e)))

-- a text that lacks the byte is not cut by it
pub no_cut : (b : ℕ) (text front rest : List ℕ) → Lacks b text → text ≡ front ++ b ∷ rest → ⊥
no_cut b [] [] rest h e = cc
no_cut b [] (y ∷ front) rest h e = cc
no_cut b (x ∷ text) [] rest h e = h.0 (cc)
no_cut b (x ∷ text) (y ∷ front) rest h e = no_cut b text front rest h.1 (cc)

-- two cuts of one text are the same
pub one_cut : (b : ℕ) (front rest front' rest' : List ℕ) → Lacks b front → Lacks b front' → front ++ b ∷ rest ≡ front' ++ b ∷ rest' → (front ≡ front') × (rest ≡ rest')
one_cut b [] rest [] rest' h k e = (refl, cc)
one_cut b [] rest (y ∷ front') rest' h k e = absurd (k.0 (cc))
one_cut b (x ∷ front) rest [] rest' h k e = absurd (h.0 (cc))
one_cut b (x ∷ front) rest (y ∷ front') rest' h k e =
    let both = one_cut b front rest front' rest' h.1 k.1 (cc) in
    (cc both.0, both.1)

-- the parts of a cut are those of any other writing that is cut by the byte
pub same_parts : (b : ℕ) (text word rest front back : List ℕ) → Lacks b word × (text ≡ word ++ b ∷ rest) → Lacks b front → text ≡ front ++ b ∷ back → (word ≡ front) × (rest ≡ back)
same_parts b text word rest front back h k e = one_cut b word rest front back h.0 k (sym h.1 ∙ e)
