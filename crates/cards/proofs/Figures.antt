-- All figures, by computing. Assumes nothing.
use mathlib.Core.Path.{refl}
use Rattle.layout.proofs.Figures.{image_figures}
use Rattle.table.proofs.Figures.{store_figures}
use Rattle.cards.specs.Figures.{Figures, Numbers}

pub figures : Figures
figures = record { image = image_figures; stores = store_figures; cold = refl; kept = refl; updated = refl; disabled = refl }

pub numbers : Numbers
numbers =
    record {
      wrong_image = refl;
      unfinished = refl;
      unknown_code = refl;
      wrong_length = refl;
      bad_checksum = refl;
      wrong_table = refl;
      bad_signature = refl;
      wrong_inputs = refl;
      stores_left = refl;
      short_buffer = refl;
      no_store_left = refl;
      not_well_formed = refl;
      wrong_register = refl;
      attestation_off = refl;
      unlisted_kind = refl;
      bad_number = refl;
      cut_entry = refl;
      short_entry = refl;
      uncounted = refl;
      dpe_full = refl;
      dpe_off = refl;
      dpe_no_holder = refl;
      dpe_malformed = refl;
      dpe_no_handle = refl;
      dpe_caller = refl;
      dpe_fresh = refl;
      dpe_root = refl;
      dpe_children = refl;
    }
