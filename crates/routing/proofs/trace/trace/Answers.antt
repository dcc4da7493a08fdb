use Rattle.std.proofs.Common.{◌≡◌, ◌+◌, ◌-◌, ◌∷◌, get_or, drop, set, sym, refl, ap, ◌∙◌, subst, arith}
use Rattle.std.proofs.lemmas.List.{drop-set, drop_all}
use Rattle.routing.specs.Courses.{Course, arrives, comes}
use Rattle.routing.proofs.trace.trace.Goals as goal

pub loop-first-init : goal.loop-first-init
loop-first-init c = record {
  fits = c.requires.room;
  so_far = omega arith;
  course = subst (λ xs. Course c.args.queue.now c.args.from.now c.args.last c.args.last (get_or c.args.queue.now c.args.last 0 ∷ xs))
      (sym (drop_all _ c.args.trail.now (omega arith))) arrives;
}

pub loop-first-preserved : goal.loop-first-preserved
loop-first-preserved c =
    let inv = c.loop-first.invariant in
    let queue = c.args.queue.now in
    let from = c.args.from.now in
    let xs = c.loop-first.trail in
    let n = c.loop-first.first - 1 in
    let k = c.loop-first.place in
    let h = get_or from k 0 in
    let less = c.requires.earlier k (omega arith) inv.so_far in
    let back : n + 1 ≡ c.loop-first.first = omega (arith, inv.fits) in
    let e : drop n (set xs n (get_or queue k 0)) ≡ get_or queue k 0 ∷ drop c.loop-first.first xs =
    drop-set xs n _ (omega (arith, inv.fits)) ∙ ap (λ i. get_or queue k 0 ∷ drop i xs) back in
    record {
      fits = omega (arith, less, inv.fits);
      so_far = omega (arith, less, inv.so_far);
      course = subst (λ ys. Course queue from c.args.last h (get_or queue h 0 ∷ ys)) (sym e) (comes (omega arith) refl inv.course);
    }
