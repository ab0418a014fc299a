-- Document 01's figures of the image, as document 02 leaves them, as numerals: what a change of the geometry edits by hand. Nothing rests on them. Assumes nothing.
use Rattle.std.specs.Prelude.{◌≡◌}
use Rattle.layout.specs.Sizes.{node_count, node_words, register_count, register_words, mark_at, attestation_at, secret_at, registers_at, nodes_at, image_words, register_at, current_register, journey_register, stash_register, extend_first, extend_last, tag_at, handle_at, handle_words, handle_bytes, flags_at, current_at, cumulative_at, type_at, locality_at, svn_at, root_mark, root_type, answer_max, input_bytes}

pub record ImageFigures : Type 0 where
  -- "the image is 1,520 words" (document 02, §8)
  pub image : image_words ≡ 1520
  -- "thirty-two nodes" (document 02, §8); "a node is 35 words" (§7)
  pub nodes : node_count ≡ 32
  pub node_size : node_words ≡ 35
  -- "PCR0 to PCR31, 12 words each"
  pub registers : register_count ≡ 32
  pub register_size : register_words ≡ 12
  -- the first word of each part
  pub mark : mark_at ≡ 0
  pub attestation : attestation_at ≡ 1
  pub secret : secret_at ≡ 4
  pub first_register : registers_at ≡ 16
  pub first_node : nodes_at ≡ 400
  pub current : register_at current_register ≡ 40
  pub journey : register_at journey_register ≡ 52
  pub stashes : register_at stash_register ≡ 388
  -- "PCR4 to PCR30" (document 02, §1): words 64 to 387
  pub first_extended : extend_first ≡ 4
  pub last_extended : extend_last ≡ 30
  pub extensions : register_at extend_first ≡ 64
  -- "offsets within the node"
  pub tag : tag_at ≡ 1
  pub handle : handle_at ≡ 2
  pub handle_size : handle_words ≡ 5
  pub handle_length : handle_bytes ≡ 20
  pub flags : flags_at ≡ 7
  pub node_current : current_at ≡ 8
  pub node_cumulative : cumulative_at ≡ 20
  pub type : type_at ≡ 32
  pub locality : locality_at ≡ 33
  pub svn : svn_at ≡ 34
  -- "0xFF for the root", "RTJM"
  pub root_parent : root_mark ≡ 0xFF
  pub root_kind : root_type ≡ 0x4D4A5452
  -- the longest answer of the table of commands
  pub answer : answer_max ≡ 104
  -- a boot's two digests of 48 bytes
  pub inputs : input_bytes ≡ 96
