-- Document 01's bench cards *1 to *9, "shown by proof as one table under a single statement", and card 10; 4 and 10 as document 02, §11, has them,
-- 6 as its §7 has it. Assumes nothing.
use Rattle.std.specs.Prelude.{◌≡◌, ◌⊎◌, ◌≢◌, ⊤, Ok, ℕ, ◌<◌, ◌≤◌, Bool, true, false, List, [], ◌∷◌, length, get_or, drop}
use Rattle.layout.specs.Sizes.{node_count, image_words, mark_at, attestation_at}
use Rattle.layout.specs.Words.{le32, zeros}
use Rattle.layout.specs.Below.{count_below}
use Rattle.message.specs.Checksum.{checksum_of}
use Rattle.tree.specs.Tree.{default_words, node_with, well_formed}
use Rattle.tree.specs.Nodes.{tree_in}
use Rattle.table.specs.Table.{number_of}
use Rattle.work.specs.Entries.{left_of, store_number}
use Rattle.table.specs.declared.Kind.TheVariants.{Nothing, Stash}
use Rattle.table.specs.declared.StashAt.{StashAt}
use Rattle.work.specs.declared.Work.{Work}
use Rattle.opening.specs.Tasks.{Request, BootInputs}
use Rattle.opening.specs.Openings.{status_number, boot_number, open_request, open_cold_boot, open_update_boot, cold_booted}
use Rattle.opening.specs.declared.Opened.{Opened}
use Rattle.respond.specs.Program.{program_output}
use Rattle.cards.specs.Images.{image_with, own_parent_image, zero_stash}

-- ---- what cards 4, 6 and 9 say

-- every entry that takes an image gives 1, whatever else it is given
pub record GivesOne (image : List ℕ) : Type 0 where
  pub request : (r : Request) → status_number (open_request image r).status ≡ 1
  pub cold_boot : (x : BootInputs) → boot_number (open_cold_boot image x).status ≡ 1
  pub update_boot : (x : BootInputs) (verdict : Bool) → boot_number (open_update_boot image x verdict).status ≡ 1
  pub store : (w : Work) → store_number w image ≡ 1

-- an image at which a stash depends on the free nodes alone: the right length, mark 1, attestation on, well formed, a holder of the default handle
pub record Serving (image : List ℕ) : Type 0 where
  pub size : length image ≡ image_words
  pub done : get_or image mark_at 0 ≡ 1
  pub on : get_or image attestation_at 0 ≡ 1
  pub formed : well_formed node_count (tree_in image) ≡ true
  pub held : node_with node_count (tree_in image) default_words < node_count

-- an image whose attestation is off, whatever its nodes hold
pub record SwitchedOff (image : List ℕ) : Type 0 where
  pub size : length image ≡ image_words
  pub done : get_or image mark_at 0 ≡ 1
  pub off : get_or image attestation_at 0 ≢ 1

-- a stash request: its code, its length, its checksum
pub record StashRequest (r : Request) : Type 0 where
  pub code : r.code ≡ 0x4D454153
  pub size : length r.bytes ≡ 60
  pub checksum : le32 r.bytes 0 ≡ checksum_of r.code (drop 4 r.bytes)

abbrev pub used_nodes : List ℕ → ℕ
used_nodes image = count_below node_count (λ i. (tree_in image i).used)

-- "stash accepted": a stash at a node is open with all its stores left, and its answer's dpe result is 0
pub record Accepted (o : Opened ⊤) : Type 0 where
  pub status : o.status ≡ Ok tt
  pub kind : (s : StashAt) × (o.work.kind ≡ Stash s) × (left_of o.work ≡ number_of (Stash s))
  pub result : le32 o.work.answer 8 ≡ 0

-- "dpe result" n: success with nothing to store, and that in the answer
pub record Declined (o : Opened ⊤) (n : ℕ) : Type 0 where
  pub status : o.status ≡ Ok tt
  pub kind : o.work.kind ≡ Nothing
  pub left : left_of o.work ≡ 0
  pub result : le32 o.work.answer 8 ≡ n

-- ---- the table

pub record Cards : Type 0 where
  -- *1 "Checksum, disable, no arguments: 0xFFFFFEDB."
  pub card1 : checksum_of 0x4453424C [] ≡ 0xFFFFFEDB
  -- *2 "Identity key: 0xFFFFFEE5."
  pub card2 : checksum_of 0x49444549 [] ≡ 0xFFFFFEE5
  -- *3 "Stash, 56 zero bytes: 0xFFFFFEDA."
  pub card3 : checksum_of 0x4D454153 (zeros 56) ≡ 0xFFFFFEDA
  -- *4 "Stash answer with dpe result 2": 0xFFFFFFFE since document 02, §11; the answer of every stash request at every image with attestation off
  pub card4 : (image : List ℕ) (r : Request) → SwitchedOff image → StashRequest r
      → Declined (open_request image r) 2 × (le32 (open_request image r).work.answer 0 ≡ 0xFFFFFFFE)
  -- *5 "Code 0, no bytes: 0."
  pub card5 : checksum_of 0 [] ≡ 0
  -- *6 "Images of .. words: 1.", of 1,519 and 1,521 since document 02, §8: every such image
  pub card6 : (image : List ℕ) → (length image ≡ 1519) ⊎ (length image ≡ 1521) → GivesOne image
  -- *7 "Root's word 0: 0x00FF0001.": word 400 after all stores of any accepted cold boot
  pub card7 : (before : List ℕ) (x : BootInputs) → boot_number (open_cold_boot before x).status ≡ 0 → get_or (cold_booted before x) 400 0 ≡ 0x00FF0001
  -- *8 "A used node that is its own parent: not well formed.": in every image; and one such image
  pub card8 : (image : List ℕ) (i : ℕ) → i < node_count → (tree_in image i).used ≡ true → (tree_in image i).parent ≡ i → well_formed node_count (tree_in image) ≡ false
  pub image8 : ((tree_in own_parent_image 1).used ≡ true) × ((tree_in own_parent_image 1).parent ≡ 1) × (well_formed node_count (tree_in own_parent_image) ≡ false)
  -- *9 ".. nodes used: stash accepted; ..: dpe result 1.", 31 and 32 since document 02, §8: every such image and request; and two such images and a request
  pub card9 : (image : List ℕ) (r : Request) → Serving image → StashRequest r
      → (used_nodes image ≡ 31 → Accepted (open_request image r)) × (used_nodes image ≡ 32 → Declined (open_request image r) 1)
  pub images9 : (k : ℕ) → 0 < k → k ≤ 32 → Serving (image_with k) × (used_nodes (image_with k) ≡ k)
  pub accepted9 : Accepted (open_request (image_with 31) zero_stash)
  pub declined9 : Declined (open_request (image_with 32) zero_stash) 1
  -- 10 "Program, input `4C 42 53 44 DB FE FF FF`": twelve zero bytes since document 02, §11
  pub card10 : program_output (0x4C ∷ 0x42 ∷ 0x53 ∷ 0x44 ∷ 0xDB ∷ 0xFE ∷ 0xFF ∷ 0xFF ∷ []) ≡ zeros 12
