-- The geometry as one record, to which the code's constants are tied. Assumes nothing.
use Rattle.layout.specs.Sizes.{node_count, node_words, register_count, register_words, mark_at, attestation_at, secret_at, registers_at, nodes_at, image_words, register_at, current_register, journey_register, stash_register, extend_first, extend_last, handle_at, handle_words, handle_bytes, flags_at, current_at, cumulative_at, type_at, locality_at, svn_at, root_mark, retired_word, internal_flag, root_type, answer_max, input_bytes}
use Rattle.layout.specs.declared.geometry.Geometry.{Geometry}

abbrev pub geometry_of : Geometry
geometry_of =
    record {
      registers = register_count;
      register_words = register_words;
      nodes = node_count;
      node_words = node_words;
      mark_at = mark_at;
      attestation_at = attestation_at;
      secret_at = secret_at;
      registers_at = registers_at;
      nodes_at = nodes_at;
      image_words = image_words;
      pcr2_at = register_at current_register;
      pcr3_at = register_at journey_register;
      pcr31_at = register_at stash_register;
      stash_register = stash_register;
      extend_first = extend_first;
      extend_last = extend_last;
      handle_at = handle_at;
      handle_words = handle_words;
      handle_bytes = handle_bytes;
      flags_at = flags_at;
      current_at = current_at;
      cumulative_at = cumulative_at;
      type_at = type_at;
      locality_at = locality_at;
      svn_at = svn_at;
      answer_max = answer_max;
      input_bytes = input_bytes;
      root_mark = root_mark;
      retired_word = retired_word;
      internal_flag = internal_flag;
      root_type = root_type;
    }
