-- The laws of whatever command a code has: a proof above goes by a code through this alone. Assumes nothing.
use Rattle.std.proofs.Common.{ℕ, Bool, true, false, cond, eqb}
use Rattle.opening.specs.Rules.{stash_measurement, disable_attestation, identity_key, verify_signature, extend_register, invoke_dpe, unknown_command, command_of, stash_code, disable_code, identity_code, verify_code, extend_code, invoke_code}
use Rattle.command_laws.proofs.ByCommand.{CommandLaw, stash_law, disable_law, identity_law, verify_law, extend_law, invoke_law, unknown_law}

-- of whatever command a code has
pub command_law : (code : ℕ) → CommandLaw (command_of code)
command_law code =
    go (eqb code stash_code) (eqb code disable_code) (eqb code identity_code) (eqb code verify_code) (eqb code extend_code) (eqb code invoke_code)
  where
    go : (u v w x y z : Bool)
        → CommandLaw (cond u stash_measurement
        (cond v disable_attestation (cond w identity_key (cond x verify_signature (cond y extend_register (cond z invoke_dpe unknown_command))))))
    go true v w x y z = stash_law
    go false true w x y z = disable_law
    go false false true x y z = identity_law
    go false false false true y z = verify_law
    go false false false false true z = extend_law
    go false false false false false true = invoke_law
    go false false false false false false = unknown_law
