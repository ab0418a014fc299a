-- The dpe results of a decline, and the refusals by names for the laws (document 01, "Numbers handed back" and the sentence on a declined stash). Success
-- is 0. Assumes nothing.
use Rattle.std.specs.Prelude.{ℕ}
use Rattle.layout.specs.Numbers.{refusal_number}
use Rattle.layout.specs.declared.refusals.Refusal.{Refusal}
use Rattle.layout.specs.declared.refusals.Refusal.TheVariants as refusal
use Rattle.layout.specs.declared.refusals.Decline.{Decline}
use Rattle.layout.specs.declared.refusals.Decline.TheVariants as decline

-- the dpe results, of a stash and of a tree command (document 02, §5): accepted 0, "1 if all .. nodes are used", "2 if attestation is off"
abbrev pub dpe_accepted : ℕ
dpe_accepted = 0

abbrev pub dpe_full : ℕ
dpe_full = 1

abbrev pub dpe_off : ℕ
dpe_off = 2

-- "a stash without" a default holder
abbrev pub dpe_no_holder : ℕ
dpe_no_holder = 3

-- "5 data malformed"
abbrev pub dpe_malformed : ℕ
dpe_malformed = 5

-- "6 handle retired or held by no node"
abbrev pub dpe_no_handle : ℕ
dpe_no_handle = 6

-- "7 caller unlike the node's locality"
abbrev pub dpe_caller : ℕ
dpe_caller = 7

-- "8 .. fresh handle not 20 bytes, zero, all 0xFF or in use"
abbrev pub dpe_fresh : ℕ
dpe_fresh = 8

-- "9 extend or destroy of the root"
abbrev pub dpe_root : ℕ
dpe_root = 9

-- "10 destroy of a node with children"
abbrev pub dpe_children : ℕ
dpe_children = 10

-- a decline's dpe result
abbrev pub decline_number : Decline → ℕ
decline_number decline.Full = dpe_full
decline_number decline.Off = dpe_off
decline_number decline.NoHolder = dpe_no_holder
decline_number decline.Malformed = dpe_malformed
decline_number decline.NoHandle = dpe_no_handle
decline_number decline.Caller = dpe_caller
decline_number decline.Fresh = dpe_fresh
decline_number decline.Root = dpe_root
decline_number decline.Children = dpe_children

-- ---- the refusals, and the numbers of those of the entries, by names

abbrev pub stores_left : ℕ
stores_left = refusal_number refusal.StoresLeft

abbrev pub short_buffer : ℕ
short_buffer = refusal_number refusal.ShortBuffer

abbrev pub no_store_left : ℕ
no_store_left = refusal_number refusal.NoStoreLeft

abbrev pub not_well_formed : ℕ
not_well_formed = refusal_number refusal.NotWellFormed

abbrev pub unlisted_kind : Refusal
unlisted_kind = refusal.UnlistedKind

abbrev pub bad_number : Refusal
bad_number = refusal.BadNumber

abbrev pub cut_entry : Refusal
cut_entry = refusal.CutEntry

abbrev pub short_entry : Refusal
short_entry = refusal.ShortEntry

abbrev pub uncounted : Refusal
uncounted = refusal.Uncounted
