-- No refusal has the number of success. Assumes nothing.
use mathlib.Core.Path.{◌≡◌, refl}
use mathlib.Core.Bool.{false}
use lib.Dec.{eqb}
use Rattle.layout.specs.Numbers.{refusal_number}
use Rattle.layout.specs.declared.refusals.Refusal.{Refusal}
use Rattle.layout.specs.declared.refusals.Refusal.TheVariants.{WrongImage, Unfinished, UnknownCode, WrongLength, BadChecksum, WrongTable, BadSignature, WrongInputs, StoresLeft, ShortBuffer, NoStoreLeft, NotWellFormed, WrongRegister, AttestationOff, UnlistedKind, BadNumber, CutEntry, ShortEntry, Uncounted}

pub refused_ne : (r : Refusal) → eqb (refusal_number r) 0 ≡ false
refused_ne WrongImage = refl
refused_ne Unfinished = refl
refused_ne UnknownCode = refl
refused_ne WrongLength = refl
refused_ne BadChecksum = refl
refused_ne WrongTable = refl
refused_ne BadSignature = refl
refused_ne WrongInputs = refl
refused_ne StoresLeft = refl
refused_ne ShortBuffer = refl
refused_ne NoStoreLeft = refl
refused_ne NotWellFormed = refl
refused_ne WrongRegister = refl
refused_ne AttestationOff = refl
refused_ne UnlistedKind = refl
refused_ne BadNumber = refl
refused_ne CutEntry = refl
refused_ne ShortEntry = refl
refused_ne Uncounted = refl
