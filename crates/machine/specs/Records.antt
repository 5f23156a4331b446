-- A change of one of a list of motors.
use Rattle.std.specs.Prelude.{◌≡◌, ℕ, List, map, slice_index_or, slice_set}
use Rattle.std.specs.Fn.{Once, FnOnceReturnsAtMut}
use Rattle.std.specs.Borrow.{MutBor}
use Rattle.motor.specs.declared.motor.Motor.{Motor}
use Rattle.motor.specs.Motors.{fresh, view}

-- one of a list of motors is changed by a call that is lent the one at a, answers r and leaves another in its place
pub record ChangedBy {F R : Type 0} (g : Once F (MutBor Motor × Unit {0}) (R × (MutBor Motor × Unit {0}))) (f : F) (a : ℕ) (old : List Motor) (r : R) (new : List Motor) : Type 0 where
  pub was : Motor
  pub left : Motor
  pub lent : FnOnceReturnsAtMut g f was r left
  pub stood : view was ≡ slice_index_or (map view old) a fresh
  pub stands : map view new ≡ slice_set (map view old) a (view left)
