-- The order of the subject's rounds is one: the tests, computed.
use Rattle.std.specs.Prelude.{◌≡◌, refl, Bool, true, false, ℕ}
use Rattle.lists.specs.All.{all_of}
use Rattle.plan.specs.Plan.{InRange}
use Rattle.engine.specs.Area.{mem}
use Rattle.engine.specs.Order.{echo_in, round_in, next_in}
use Rattle.engine.specs.Plain.{number_of, steps_of}
use Rattle.engine.specs.Honest.{order_test, course_test, Lawful}
use Rattle.rounds.specs.Area.{sizes, size_of}
use Rattle.alone.specs.Echo.{lawful-by}
use Rattle.honest.specs.Subject.{subject}

course-ok : (two : Bool) → course_test subject two ≡ true
unfolding course_test steps_of round_in number_of next_in echo_in mem all_of
course-ok true = refl
course-ok false = refl

pub lawful : (n l : ℕ) → InRange n l → Lawful subject n l
unfolding order_test echo_in mem all_of size_of sizes
lawful n l I = lawful-by subject n l I refl refl refl course-ok (λ i. refl) (λ i. refl)
