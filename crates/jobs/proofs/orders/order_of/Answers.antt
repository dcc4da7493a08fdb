use Rattle.jobs.proofs.Asking.{place_asked, lift_asked, show_asked, bar_asked, clear_asked}
use Rattle.jobs.proofs.orders.order_of.Goals as goal
use Rattle.jobs.proofs.orders.order_of.Goals.{in-Place+in_ok-find_pad-in-Place, in-Lift+in_ok-find_pad-in-Lift, in-Show+in_ok-find_pad-in-Show, in-Bar, in-Clear}

pub returns : goal.returns
returns c = λ p same. elim c.match-line.branch [
  | in-Place+in_ok-find_pad-in-Place w ↦ rw (w.order-is, w.in-Place.is) (place_asked p _ _ _ same w.in_ok-find_pad-in-Place.ensures)
  | in-Lift+in_ok-find_pad-in-Lift w ↦ rw (w.order-is, w.in-Lift.is) (lift_asked p _ _ _ same w.in_ok-find_pad-in-Lift.ensures)
  | in-Show+in_ok-find_pad-in-Show w ↦ rw (w.order-is, w.in-Show.is) (show_asked p _ _ _ same w.in_ok-find_pad-in-Show.ensures)
  | in-Bar w ↦ rw (w.order-is, w.in-Bar.is) (bar_asked p _ _ _)
  | in-Clear w ↦ rw (w.order-is, w.in-Clear.is) (clear_asked p _ _ _)
]
