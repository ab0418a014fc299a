-- The memory image (document 01, "What the unit holds"). A change of the number of nodes or of the words of a node is a change of
-- `node_count` or `node_words` here. Assumes nothing.
use Rattle.std.specs.Prelude.{ℕ, ◌+◌, ◌*◌, Bool, ◌&&◌, leb}

-- "measurement nodes": 24 of 34 words in document 01; since document 02, "raise 24 to 32" (§8), "a node is 35 words" (§7)
abbrev pub node_count : ℕ
node_count = 32

abbrev pub node_words : ℕ
node_words = 35

-- "PCR0 to PCR31, 12 words each": a register holds 48 bytes
abbrev pub register_count : ℕ
register_count = 32

abbrev pub register_words : ℕ
register_words = 12

-- word 0: flow mark
abbrev pub mark_at : ℕ
mark_at = 0

-- word 1: attestation
abbrev pub attestation_at : ℕ
attestation_at = 1

-- words 4 to 15: device secret (CDI), 48 bytes
abbrev pub secret_at : ℕ
secret_at = 4

-- words 16 to 399: the registers
abbrev pub registers_at : ℕ
registers_at = 16

-- words 400 on: the nodes
abbrev pub nodes_at : ℕ
nodes_at = registers_at + register_count * register_words

-- all words of the image
abbrev pub image_words : ℕ
image_words = nodes_at + node_count * node_words

-- the first word of PCRi
abbrev pub register_at : ℕ → ℕ
register_at i = registers_at + register_words * i

-- the first word of node i
abbrev pub node_at : ℕ → ℕ
node_at i = nodes_at + node_words * i

-- "Register roles": PCR2 current, PCR3 journey, PCR31 stashed measurements
abbrev pub current_register : ℕ
current_register = 2

abbrev pub journey_register : ℕ
journey_register = 3

abbrev pub stash_register : ℕ
stash_register = 31

-- "PCR4 to PCR30", those that a request may extend (document 02, §1)
abbrev pub extend_first : ℕ
extend_first = 4

abbrev pub extend_last : ℕ
extend_last = 30

unfoldable pub extendable : ℕ → Bool
extendable r = leb extend_first r && leb r extend_last

-- "Node words (offsets within the node)": 1 tag; 2 to 6 context handle; 7 flags; 8 to 19 current; 20 to 31 cumulative; 32 type; 33 locality;
-- "word 34, the svn" (document 02, §7)
abbrev pub tag_at : ℕ
tag_at = 1

abbrev pub handle_at : ℕ
handle_at = 2

abbrev pub handle_words : ℕ
handle_words = 5

-- the bytes of a handle: 20
abbrev pub handle_bytes : ℕ
handle_bytes = 4 * handle_words

abbrev pub flags_at : ℕ
flags_at = 7

abbrev pub current_at : ℕ
current_at = 8

abbrev pub cumulative_at : ℕ
cumulative_at = 20

abbrev pub type_at : ℕ
type_at = 32

abbrev pub locality_at : ℕ
locality_at = 33

abbrev pub svn_at : ℕ
svn_at = 34

-- the parent's index that marks the root
abbrev pub root_mark : ℕ
root_mark = 0xFF

-- the word of which five make the handle "retired"; five zero words make the default handle
abbrev pub retired_word : ℕ
retired_word = 0xFFFFFFFF

-- flags: bit 31, "internal"
abbrev pub internal_flag : ℕ
internal_flag = 0x80000000

-- type of the root: "RTJM"
abbrev pub root_type : ℕ
root_type = 0x4D4A5452

-- the longest answer in the table of commands
abbrev pub answer_max : ℕ
answer_max = 104

-- the inputs that a work keeps for its journal entry (document 02, §3): a boot's two digests; the one digest of a stash or an extension with
-- zeros behind it; or a tree command's digest, handle and fresh handle (§5)
abbrev pub input_bytes : ℕ
input_bytes = 96
