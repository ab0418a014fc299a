-- Document 01's figures, the image's, the store table's and the outcomes', as one record of numerals. Nothing rests on it. Assumes nothing.
use Rattle.std.specs.Prelude.{◌≡◌}
use Rattle.layout.specs.Figures.{ImageFigures}
use Rattle.table.specs.Figures.{StoreFigures}
use Rattle.opening.specs.Openings.{outcome_number}
use Rattle.opening.specs.declared.Outcome.TheVariants.{Cold, Kept, Updated, Disabled}
use Rattle.layout.specs.Numbers.{refusal_number}
use Rattle.layout.specs.Refusals.{decline_number}
use Rattle.layout.specs.declared.refusals.Refusal.TheVariants as refusal
use Rattle.layout.specs.declared.refusals.Decline.TheVariants as decline

pub record Figures : Type 0 where
  pub image : ImageFigures
  pub stores : StoreFigures
  -- "Outcomes: 0 cold, 1 kept, 2 updated, 3 disabled."
  pub cold : outcome_number Cold ≡ 0
  pub kept : outcome_number Kept ≡ 1
  pub updated : outcome_number Updated ≡ 2
  pub disabled : outcome_number Disabled ≡ 3

-- the numbers handed back, and the dpe results of a decline
pub record Numbers : Type 0 where
  pub wrong_image : refusal_number refusal.WrongImage ≡ 1
  pub unfinished : refusal_number refusal.Unfinished ≡ 2
  pub unknown_code : refusal_number refusal.UnknownCode ≡ 3
  pub wrong_length : refusal_number refusal.WrongLength ≡ 4
  pub bad_checksum : refusal_number refusal.BadChecksum ≡ 0x4243484B
  pub wrong_table : refusal_number refusal.WrongTable ≡ 5
  pub bad_signature : refusal_number refusal.BadSignature ≡ 0x42534947
  pub wrong_inputs : refusal_number refusal.WrongInputs ≡ 6
  pub stores_left : refusal_number refusal.StoresLeft ≡ 7
  pub short_buffer : refusal_number refusal.ShortBuffer ≡ 8
  pub no_store_left : refusal_number refusal.NoStoreLeft ≡ 9
  pub not_well_formed : refusal_number refusal.NotWellFormed ≡ 11
  pub wrong_register : refusal_number refusal.WrongRegister ≡ 12
  pub attestation_off : refusal_number refusal.AttestationOff ≡ 13
  pub unlisted_kind : refusal_number refusal.UnlistedKind ≡ 20
  pub bad_number : refusal_number refusal.BadNumber ≡ 21
  pub cut_entry : refusal_number refusal.CutEntry ≡ 22
  pub short_entry : refusal_number refusal.ShortEntry ≡ 23
  pub uncounted : refusal_number refusal.Uncounted ≡ 24
  pub dpe_full : decline_number decline.Full ≡ 1
  pub dpe_off : decline_number decline.Off ≡ 2
  pub dpe_no_holder : decline_number decline.NoHolder ≡ 3
  pub dpe_malformed : decline_number decline.Malformed ≡ 5
  pub dpe_no_handle : decline_number decline.NoHandle ≡ 6
  pub dpe_caller : decline_number decline.Caller ≡ 7
  pub dpe_fresh : decline_number decline.Fresh ≡ 8
  pub dpe_root : decline_number decline.Root ≡ 9
  pub dpe_children : decline_number decline.Children ≡ 10
