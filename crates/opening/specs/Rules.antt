-- The rules that decide a request or a boot, as flat lists read top down (document 01, "Mailbox", "Numbers handed back"). They see a view of the unit that is
-- taken from an image or from the history's ledger. Assumes nothing.
use Rattle.std.specs.Prelude.{ℕ, ◌+◌, Bool, true, false, cond, not, ◌&&◌, ◌||◌, List, [], ◌∷◌, ◌++◌, eqb, leb, length, get_or, take, drop}
use Rattle.layout.specs.Sizes.{node_count, extendable}
use Rattle.layout.specs.Words.{le16, le32, bytes4}
use Rattle.layout.specs.Below.{all_below}
use Rattle.layout.specs.Refusals as number
use Rattle.layout.specs.declared.refusals.Refusal.{Refusal}
use Rattle.layout.specs.declared.refusals.Refusal.TheVariants as refusal
use Rattle.message.specs.Checksum.{checksum_of}
use Rattle.tree.specs.Tree.{Tree, default_words, retired_words, same_handle, is_root, well_formed, node_with, lowest_free, childless}
use Rattle.nodes.specs.Record.{handle_row}
use Rattle.opening.specs.Orders.{traits_of, command_in, fresh_for, named_in, unfit}
use Rattle.opening.specs.Tasks.{Request, BootInputs, Measurement, RegisterExtension, Order, Task, no_stores, kept_boot, disable_command, disabling_boot, stash, update, extension, invoke, Ruling, refused, accepted, View}

-- ---- lists of rules: "the first that applies wins"

-- a refusal, or a decline with its dpe result
pub data Verdict : Type 0 where
  refuse : Refusal → Verdict
  decline : ℕ → Verdict

pub record Rule : Type 0 where
  pub applies : Bool
  pub verdict : Verdict

abbrev pub refuses : Refusal → Bool → Rule
refuses r b = record { applies = b; verdict = refuse r }

abbrev pub declines : ℕ → Bool → Rule
declines n b = record { applies = b; verdict = decline n }

abbrev pub judged : (ℕ → Ruling) → Verdict → Ruling
judged declined (refuse r) = refused r
judged declined (decline n) = declined n

-- what a list of rules comes to: `declined` by a decline, `otherwise` where none applies
abbrev pub decide : List Rule → (ℕ → Ruling) → Ruling → Ruling
decide [] declined otherwise = otherwise
decide (r ∷ rs) declined otherwise = cond r.applies (judged declined r.verdict) (decide rs declined otherwise)

-- ---- the request's fields

-- "Byte 0 to 3 is the checksum. It must equal" the checksum of the code and of every byte after the field
unfoldable pub wrong_checksum : ℕ → List ℕ → Bool
wrong_checksum code bytes = not (eqb (le32 bytes 0) (checksum_of code (drop 4 bytes)))

-- the handoff table (003): its size, its marker, and major version 1; the minor version is free
unfoldable pub handoff_ok : List ℕ → Bool
handoff_ok h = eqb (length h) 2048 && (eqb (le32 h 0) 0x54484643 && eqb (le16 h 4) 1)

-- "60: checksum, type 4, digest 48, svn 4", and the caller
abbrev pub measurement_in : Request → Measurement
measurement_in r = record { type = le32 r.bytes 4; digest = take 48 (drop 8 r.bytes); svn = le32 r.bytes 56; caller = r.caller }

-- "56 bytes: checksum, register number, digest" (document 02, §1)
abbrev pub extension_in : Request → RegisterExtension
extension_in r = record { register = le32 r.bytes 4; digest = take 48 (drop 8 r.bytes) }

-- "checksum, data size, data" (document 02, §5), and the caller
abbrev pub order_in : Request → Order
order_in r =
    let c = command_in (drop 8 r.bytes) in
    record { command = c; fresh = fresh_for c r.fresh; caller = r.caller }

-- ---- the table of commands

pub record Command : Type 0 where
  pub known : Bool
  -- "Request bytes"
  pub length_ok : List ℕ → Bool
  -- its own rules, after the checksum
  pub rules : View → Request → List Rule
  -- what it does, and what it answers after checksum and status, where no rule applies
  pub task : Request → Task
  pub answer : Request → List ℕ

abbrev pub stash_code : ℕ
stash_code = 0x4D454153

abbrev pub disable_code : ℕ
disable_code = 0x4453424C

abbrev pub identity_code : ℕ
identity_code = 0x49444549

abbrev pub verify_code : ℕ
verify_code = 0x53494756

-- EXTEND_PCR (002; document 02, §1)
abbrev pub extend_code : ℕ
extend_code = 0x50435245

-- INVOKE_DPE_COMMAND (000; document 02, §5)
abbrev pub invoke_code : ℕ
invoke_code = 0x44504543

-- "Request bytes": a stash's, of a request that is its checksum alone (disable, identity key), a signature's and an extension's
abbrev pub stash_length : ℕ
stash_length = 60

abbrev pub bare_length : ℕ
bare_length = 4

abbrev pub verify_length : ℕ
verify_length = 196

abbrev pub extend_length : ℕ
extend_length = 56

-- "data of at most 1,024 bytes"
abbrev pub data_max : ℕ
data_max = 1024

-- stash: declined while off, refused where the nodes are not well formed, declined where no node has the default handle (document 02, §5), declined
-- where no node is free, in that order
abbrev pub stash_rules : View → Measurement → List Rule
stash_rules v m =
    declines number.dpe_off (not v.on)
    ∷ refuses refusal.NotWellFormed (not (well_formed node_count v.nodes))
    ∷ declines number.dpe_no_holder (leb node_count (node_with node_count v.nodes default_words))
    ∷ declines number.dpe_full (leb node_count (lowest_free node_count v.nodes))
    ∷ []

abbrev pub stash_measurement : Command
stash_measurement =
    record {
      known = true;
      length_ok = λ b. eqb (length b) stash_length;
      rules = λ v r. stash_rules v (measurement_in r);
      task = λ r. stash (measurement_in r);
      answer = λ r. bytes4 number.dpe_accepted;
    }

abbrev pub disable_attestation : Command
disable_attestation = record { known = true; length_ok = λ b. eqb (length b) bare_length; rules = λ v r. []; task = λ r. disable_command; answer = λ r. [] }

-- "5 handoff table wrong (identity key only)"; "X 48, Y 48", bytes 304 to 399 of the table
abbrev pub identity_key : Command
identity_key =
    record {
      known = true;
      length_ok = λ b. eqb (length b) bare_length;
      rules = λ v r. refuses refusal.WrongTable (not (handoff_ok r.handoff)) ∷ [];
      task = λ r. no_stores;
      answer = λ r. take 96 (drop 304 r.handoff);
    }

-- "0x42534947 verdict no (verify only)"
abbrev pub verify_signature : Command
verify_signature =
    record {
      known = true;
      length_ok = λ b. eqb (length b) verify_length;
      rules = λ v r. refuses refusal.BadSignature (not r.verdict) ∷ [];
      task = λ r. no_stores;
      answer = λ r. [];
    }

-- 12 for a register outside those that may be extended, "after 12" 13 while off; it does not look at the nodes (document 02, §1)
abbrev pub extend_rules : View → RegisterExtension → List Rule
extend_rules v x = refuses refusal.WrongRegister (not (extendable x.register)) ∷ refuses refusal.AttestationOff (not v.on) ∷ []

abbrev pub extend_register : Command
extend_register =
    record {
      known = true;
      length_ok = λ b. eqb (length b) extend_length;
      rules = λ v r. extend_rules v (extension_in r);
      task = λ r. extension (extension_in r);
      answer = λ r. [];
    }

-- a tree command's own declines, "the first dpe result that applies" (document 02, §5)
abbrev pub order_rules : Tree → Order → List Rule
order_rules t o =
    let c = traits_of o.command in
    let i = named_in t o.command in
    declines number.dpe_malformed c.is_malformed
    ∷ declines number.dpe_no_handle (same_handle (handle_row c.handle) retired_words || leb node_count i)
    ∷ declines number.dpe_caller (not (eqb (t i).locality o.caller))
    ∷ declines number.dpe_fresh (c.takes_fresh && unfit t o.fresh)
    ∷ declines number.dpe_full (c.adds_node && leb node_count (lowest_free node_count t))
    ∷ declines number.dpe_root (c.spares_root && is_root (t i))
    ∷ declines number.dpe_children (c.frees && not (childless node_count t i))
    ∷ []

-- before them, "2 off (then refusal 11)"
abbrev pub invoke_rules : View → Order → List Rule
invoke_rules v o =
    declines number.dpe_off (not v.on) ∷ refuses refusal.NotWellFormed (not (well_formed node_count v.nodes)) ∷ order_rules v.nodes o

-- "exactly 8 bytes plus the data size, else number 4, as is a size over 1,024"
abbrev pub invoke_dpe : Command
invoke_dpe =
    record {
      known = true;
      length_ok = λ b. leb 8 (length b) && (leb (le32 b 4) data_max && eqb (length b) (8 + le32 b 4));
      rules = λ v r. invoke_rules v (order_in r);
      task = λ r. invoke (order_in r);
      answer = λ r. bytes4 number.dpe_accepted;
    }

abbrev pub unknown_command : Command
unknown_command = record { known = false; length_ok = λ b. false; rules = λ v r. []; task = λ r. no_stores; answer = λ r. [] }

abbrev pub command_of : ℕ → Command
command_of code =
    cond (eqb code stash_code) stash_measurement
    (cond (eqb code disable_code) disable_attestation
    (cond (eqb code identity_code) identity_key
    (cond (eqb code verify_code) verify_signature
    (cond (eqb code extend_code) extend_register
    (cond (eqb code invoke_code) invoke_dpe unknown_command)))))

-- ---- the entries' orders

-- every answer: its checksum with "the command code taken as zero" (document 02, §11), the FIPS status 0, then the command's own bytes
unfoldable pub answer_of : List ℕ → List ℕ
answer_of rest = bytes4 (checksum_of 0 (bytes4 0 ++ rest)) ++ (bytes4 0 ++ rest)

-- a declined request stores nothing, and its dpe result is in the answer
abbrev pub declined : ℕ → Ruling
declined n = accepted no_stores (answer_of (bytes4 n))

-- what a command comes to where no rule applies
abbrev pub served : Command → Request → Ruling
served c r = accepted (c.task r) (answer_of (c.answer r))

-- what a command's request comes to by a list of rules
abbrev pub ruled : List Rule → Command → Request → Ruling
ruled rules c r = decide rules declined (served c r)

-- length and checksum first, and then the command's own rules
abbrev pub command_rules : Command → View → Request → List Rule
command_rules c v r =
    refuses refusal.WrongLength (not (c.length_ok r.bytes)) ∷ refuses refusal.BadChecksum (wrong_checksum r.code r.bytes) ∷ c.rules v r

-- "request: .. 2 mark not 1; 3 unknown code; .."
abbrev pub request_rules : View → Request → List Rule
request_rules v r =
    let c = command_of r.code in
    refuses refusal.Unfinished (not v.done) ∷ refuses refusal.UnknownCode (not c.known) ∷ command_rules c v r

-- a boot's inputs: 48 bytes each, and the secret not all zero
unfoldable pub inputs_ok : BootInputs → Bool
inputs_ok x =
    eqb (length x.runtime) 48 && (eqb (length x.manifest) 48 && (eqb (length x.secret) 48 && not (all_below 48 (λ k. eqb (get_or x.secret k 0) 0))))

abbrev pub boot_rules : BootInputs → List Rule
boot_rules x = refuses refusal.WrongInputs (not (inputs_ok x)) ∷ []

-- what a boot comes to by a list of rules, none of which declines; "A boot's answer has no bytes."
abbrev pub boot_ruling : List Rule → Task → Ruling
boot_ruling rules t = decide rules (λ n. refused refusal.WrongInputs) (accepted t [])

-- an update boot's task: a disabling where anything is amiss, "Else ROM's verdict no: kept", else the update
abbrev pub update_task : Bool → Bool → BootInputs → Task
update_task intact verdict x = cond intact (cond verdict (update x) kept_boot) disabling_boot
