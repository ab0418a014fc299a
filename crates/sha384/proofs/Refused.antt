-- An error's number is not the 0 of an answer. Assumes nothing.
use mathlib.Core.Path.{◌≡◌, refl}
use mathlib.Core.Bool.{false}
use lib.Dec.{eqb}
use Rattle.sha384.specs.Errors.{error_number}
use Rattle.sha384.specs.declared.errors.DigestError.{DigestError}
use Rattle.sha384.specs.declared.errors.DigestError.TheVariants.{TooLong, TotalTooLong, Damaged}

pub error_not_zero : (e : DigestError) → eqb (error_number e) 0 ≡ false
error_not_zero TooLong = refl
error_not_zero TotalTooLong = refl
error_not_zero Damaged = refl
