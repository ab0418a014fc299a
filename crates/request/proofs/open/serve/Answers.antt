-- Each command's opening does not look at the other inputs. Assumes nothing.
use Rattle.request.specs.Screen.{screened_opened}
use Rattle.request.proofs.open.serve.Goals as goal

pub returns-in-Stash : goal.returns-in-Stash
unfolding screened_opened
returns-in-Stash c = rw c.in-Stash.is c.serve_stash.ensures

pub returns-in-Disable : goal.returns-in-Disable
unfolding screened_opened
returns-in-Disable c = rw c.in-Disable.is c.serve_disable.ensures

pub returns-in-Identity : goal.returns-in-Identity
unfolding screened_opened
returns-in-Identity c = rw c.in-Identity.is c.serve_identity.ensures

pub returns-in-Verify : goal.returns-in-Verify
unfolding screened_opened
returns-in-Verify c = rw c.in-Verify.is c.serve_verify.ensures

pub returns-in-Extend : goal.returns-in-Extend
unfolding screened_opened
returns-in-Extend c = rw c.in-Extend.is c.serve_extend.ensures

pub returns-in-Invoke : goal.returns-in-Invoke
unfolding screened_opened
returns-in-Invoke c = rw c.in-Invoke.is c.serve_invoke.ensures
