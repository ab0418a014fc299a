-- The image's figures, by computing. Assumes nothing.
use mathlib.Core.Path.{refl}
use Rattle.layout.specs.Figures.{ImageFigures}

pub image_figures : ImageFigures
image_figures =
    record {
      image = refl;
      nodes = refl;
      node_size = refl;
      registers = refl;
      register_size = refl;
      mark = refl;
      attestation = refl;
      secret = refl;
      first_register = refl;
      first_node = refl;
      current = refl;
      journey = refl;
      stashes = refl;
      first_extended = refl;
      last_extended = refl;
      extensions = refl;
      tag = refl;
      handle = refl;
      handle_size = refl;
      handle_length = refl;
      flags = refl;
      node_current = refl;
      node_cumulative = refl;
      type = refl;
      locality = refl;
      svn = refl;
      root_parent = refl;
      root_kind = refl;
      answer = refl;
      inputs = refl;
    }
