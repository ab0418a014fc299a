-- Replaying a journal (document 02, §3): the ledger's own `next`, entry by entry, and the openings' own rules. Assumes nothing.
use Rattle.std.specs.Prelude.{ℕ, Bool, true, false, cond, not, ◌&&◌, List, [], ◌∷◌, replicate}
use Rattle.std.proofs.Math.Option.{Option, none, some}
use Rattle.journal.specs.Entries.{Entry, cold_boot, update, disabling, stash, extension, derive, extend, rotate, destroy}
use Rattle.journal.specs.Journal.{Walked, walk}
use Rattle.opening.specs.Orders.{NodeCommand}
use Rattle.opening.specs.Orders as command
use Rattle.opening.specs.Tasks.{BootInputs, boot_of, Measurement, RegisterExtension, Order, Task, disable_command, View}
use Rattle.opening.specs.Tasks as task
use Rattle.opening.specs.Rules.{Rule, stash_rules, extend_rules, invoke_rules}
use Rattle.history.specs.Ledger.{Contents, tree_at, next, blank}

-- what the entries so far came to: was there a cold boot, was there a disabling since the last, and registers and nodes
pub record Replay : Type 0 where
  pub booted : Bool
  pub off : Bool
  pub contents : Contents

-- before the first entry
abbrev pub fresh : Replay
fresh = record { booted = false; off = false; contents = blank }

-- ---- the work that an entry tells

-- "the secret is never written": any that a boot takes does, for registers and nodes do not depend on it
abbrev pub any_secret : List ℕ
any_secret = replicate 48 1

abbrev pub boot_from : List ℕ → List ℕ → BootInputs
boot_from runtime manifest = boot_of runtime manifest any_secret

abbrev pub measurement_from : ℕ → List ℕ → ℕ → ℕ → Measurement
measurement_from type digest svn caller = record { type = type; digest = digest; svn = svn; caller = caller }

abbrev pub extension_from : ℕ → List ℕ → RegisterExtension
extension_from register digest = record { register = register; digest = digest }

-- a tree command's (document 02, §5); extend and destroy take no fresh handle
abbrev pub order_from : NodeCommand → List ℕ → ℕ → Order
order_from c fresh caller = record { command = c; fresh = fresh; caller = caller }

abbrev pub derive_from : List ℕ → ℕ → ℕ → List ℕ → List ℕ → ℕ → Order
derive_from handle retain type digest fresh caller = order_from (command.derive handle retain type digest) fresh caller

abbrev pub extend_from : List ℕ → List ℕ → ℕ → Order
extend_from handle digest caller = order_from (command.extend handle digest) [] caller

abbrev pub rotate_from : List ℕ → List ℕ → ℕ → Order
rotate_from handle fresh caller = order_from (command.rotate handle) fresh caller

abbrev pub destroy_from : List ℕ → ℕ → Order
destroy_from handle caller = order_from (command.destroy handle) [] caller

abbrev pub task_of : Entry → Task
task_of (cold_boot runtime manifest) = task.cold_boot (boot_from runtime manifest)
task_of (update runtime manifest) = task.update (boot_from runtime manifest)
task_of disabling = disable_command
task_of (stash type digest svn caller) = task.stash (measurement_from type digest svn caller)
task_of (extension register digest) = task.extension (extension_from register digest)
task_of (derive handle retain type digest fresh caller) = task.invoke (derive_from handle retain type digest fresh caller)
task_of (extend handle digest caller) = task.invoke (extend_from handle digest caller)
task_of (rotate handle fresh caller) = task.invoke (rotate_from handle fresh caller)
task_of (destroy handle caller) = task.invoke (destroy_from handle caller)

-- ---- "24 one that the unit couldn't have counted there"

-- what the rules see, in the place of an image
abbrev pub view_at : Replay → View
view_at x = record { done = x.booted; on = not x.off; nodes = tree_at x.contents.chain }

-- no rule of a list applies
abbrev pub passes : List Rule → Bool
passes [] = true
passes (r ∷ rs) = not r.applies && passes rs

-- a tree command that its rules let pass: "24 wherever the unit would decline, a retain above 1 too"
abbrev pub ordered : Replay → Order → Bool
ordered x o = x.booted && passes (invoke_rules (view_at x) o)

-- not "anything before the first cold boot", no update "after a disabling with no cold boot since", and nothing that the command's rules refuse or decline
-- there: a stash "with no free node" or "a register outside 4 to 30" among them
abbrev pub countable : Replay → Entry → Bool
countable x (cold_boot runtime manifest) = true
countable x (update runtime manifest) = x.booted && not x.off
countable x disabling = x.booted
countable x (stash type digest svn caller) = x.booted && passes (stash_rules (view_at x) (measurement_from type digest svn caller))
countable x (extension register digest) = x.booted && passes (extend_rules (view_at x) (extension_from register digest))
countable x (derive handle retain type digest fresh caller) = ordered x (derive_from handle retain type digest fresh caller)
countable x (extend handle digest caller) = ordered x (extend_from handle digest caller)
countable x (rotate handle fresh caller) = ordered x (rotate_from handle fresh caller)
countable x (destroy handle caller) = ordered x (destroy_from handle caller)

-- ---- entry by entry

-- a cold boot "starts anew"
abbrev pub off_after : Bool → Entry → Bool
off_after off (cold_boot runtime manifest) = false
off_after off (update runtime manifest) = off
off_after off disabling = true
off_after off (stash type digest svn caller) = off
off_after off (extension register digest) = off
off_after off (derive handle retain type digest fresh caller) = off
off_after off (extend handle digest caller) = off
off_after off (rotate handle fresh caller) = off
off_after off (destroy handle caller) = off

abbrev pub counted : Replay → Entry → Replay
counted x e = record { booted = true; off = off_after x.off e; contents = next x.contents (task_of e) }

unfoldable pub count : Replay → Entry → Option Replay
count x e = cond (countable x e) (some (counted x e)) none

-- "Entry by entry, form first"
abbrev pub replay : List ℕ → Walked Replay
replay journal = walk count 0 fresh journal
