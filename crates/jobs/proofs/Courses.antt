-- The net of a lawful drawing on a placed board has a course.
use Rattle.std.proofs.Common.{◌≡◌, ℕ, ◌<◌, true, List, [], ◌∷◌, length, get_or, Some, ap, ◌∙◌, arith}
use Rattle.std.proofs.lemmas.Bool.{lt-ltb}
use Rattle.boards.specs.declared.place.Place.{Place}
use Rattle.boards.specs.declared.place.Step.{Step}
use Rattle.boards.specs.Meaning.{Meaning, outlets_of, outlet_at}
use Rattle.boards.specs.Places.{Placed, Leads, place_at, nowhere}
use Rattle.boards.specs.Lists.{when_true, at_in}
use Rattle.linkages.proofs.Places.{has_from_mem}
use Rattle.records.specs.declared.record.Record.{Record}
use Rattle.records.specs.Records.{record_at}
use Rattle.drawings.specs.Nets.{Runs, ends, goes, net, net_at, first_at, after_at}
use Rattle.drawings.specs.Lawful.{Lawful}
use Rattle.drawings.proofs.Said.{after_net, before_net, net_inside}
use Rattle.drawings.proofs.Follow.{net_runs}
use Rattle.job_answers.specs.Courses.{Course, letter}
use Rattle.job_answers.specs.Courses as course

module _ (m : Meaning) (d : List Record) (ps : List Place) (W : Lawful m d) (P : Placed m ps) where
  placed : (c : ℕ) → net_at d c ≡ true → place_at ps c ≡ Some (get_or ps c nowhere)
  placed c e =
      let inside : c < length ps = omega (arith, net_inside d c e, W.one_each, P.every_cell) in
      when_true _ _ (lt-ltb c (length ps) inside)

  step_at : (c t : ℕ) → after_at d c ≡ Some t → (s : Step) × Leads s (get_or ps c nowhere) (get_or ps t nowhere)
  step_at c t a =
      let j = has_from_mem (outlets_of m c) t ((W.local c).after_is_outlet t a) in
      let out : outlet_at m c j.0 ≡ Some t = at_in (outlets_of m c) j.0 j.1 ∙ ap Some (j.2 0) in
      P.one_step c j.0 t _ _ out (placed c (after_net (record_at d c) t a).0)
      (placed t (before_net (record_at d t) c ((W.local c).after_names_back t a)).0)

  here : (c t : ℕ) (a : after_at d c ≡ Some t) (cells letters : List ℕ) → Course ps (t ∷ cells) letters →
      Course ps (c ∷ t ∷ cells) (letter (step_at c t a).0 ∷ letters)
  here c t a cells letters rest =
      course.goes (step_at c t a).0 (placed c (after_net (record_at d c) t a).0)
      (placed t (before_net (record_at d t) c ((W.local c).after_names_back t a)).0) (step_at c t a).1 rest

  run_course : {c : ℕ} {xs : List ℕ} → Runs d c xs → (letters : List ℕ) × Course ps xs letters
  run_course (ends e) = ([], course.ends)
  run_course (goes a (ends e)) = (_, here _ _ a [] [] course.ends)
  run_course (goes a (goes b r)) = let rest = run_course (goes b r) in (_, here _ _ a _ rest.0 rest.1)

  pub net_course : (c : ℕ) → first_at d c ≡ true → (letters : List ℕ) × Course ps (net d c) letters
  net_course c e = run_course (net_runs m d W.local c e)
