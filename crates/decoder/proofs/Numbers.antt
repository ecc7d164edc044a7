-- The faults have the numbers that 01 gives them: one that is wrong in the definition and in the code alike is refused here.
-- Assumes nothing.
use mathlib.Core.Path.{◌≡◌, refl}
use mathlib.Core.List.{[], ◌∷◌}
use Rattle.decoder.specs.declared.Fault.TheVariants.{TooFewLeft, BadLength, UnknownCode, WrongLength, RuleBroken}
use Rattle.decoder.specs.Front.{fault_number}
use Rattle.std.specs.Prelude.{map}

pub numbers_of_01 : map fault_number (TooFewLeft ∷ BadLength ∷ UnknownCode ∷ WrongLength ∷ RuleBroken ∷ []) ≡ 1 ∷ 2 ∷ 3 ∷ 4 ∷ 5 ∷ []
numbers_of_01 = refl
