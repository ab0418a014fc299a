-- The numbers of the refusals (document 01, "Numbers handed back"). Success is 0. Assumes nothing.
use Rattle.std.specs.Prelude.{ℕ, Result, Ok, Err}
use Rattle.layout.specs.declared.refusals.Refusal.{Refusal}
use Rattle.layout.specs.declared.refusals.Refusal.TheVariants as refusal

-- a refusal's one number
abbrev pub refusal_number : Refusal → ℕ
-- "1 image not .. words": of another length
refusal_number refusal.WrongImage = 1
-- "2 mark not 1"
refusal_number refusal.Unfinished = 2
-- "3 unknown code"
refusal_number refusal.UnknownCode = 3
-- "4 wrong request length"
refusal_number refusal.WrongLength = 4
-- "0x4243484B bad checksum": the letters BCHK
refusal_number refusal.BadChecksum = 0x4243484B
-- "5 handoff table wrong"
refusal_number refusal.WrongTable = 5
-- "0x42534947 verdict no": the letters BSIG
refusal_number refusal.BadSignature = 0x42534947
-- "6 digest or secret not 48 bytes, or secret all zero"; the manifest digest likewise (document 02, §2)
refusal_number refusal.WrongInputs = 6
-- "7 stores left"
refusal_number refusal.StoresLeft = 7
-- "8 buffer shorter than the answer"
refusal_number refusal.ShortBuffer = 8
-- "9 no store left"
refusal_number refusal.NoStoreLeft = 9
-- "refusal 11 if the image is not well formed"
refusal_number refusal.NotWellFormed = 11
-- "A register outside 4 to 30" (document 02, §1)
refusal_number refusal.WrongRegister = 12
-- "With attestation off", an extension (document 02, §1)
refusal_number refusal.AttestationOff = 13
-- the journal (document 02, §3): "20 kind not listed, 21 number too long or too large, 22 cut entry"
refusal_number refusal.UnlistedKind = 20
refusal_number refusal.BadNumber = 21
refusal_number refusal.CutEntry = 22
-- "then 23 .. if the buffer is too short" for a work's entry
refusal_number refusal.ShortEntry = 23
-- "24 one that the unit couldn't have counted there"
refusal_number refusal.Uncounted = 24

-- what an entry tells of its result: success is 0
abbrev pub told_number : {A : Type 0} → Result A Refusal → ℕ
told_number (Ok a) = 0
told_number (Err r) = refusal_number r
