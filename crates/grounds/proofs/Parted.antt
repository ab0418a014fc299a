-- A tree command's declines in the parts that the code decides one after another. Assumes nothing.
use Prim.Native.Nat.{ℕ}
use mathlib.Core.Path.{◌≡◌, refl, sym, ◌∙◌}
use mathlib.Core.Bool.{Bool, true, false, cond, not, ◌||◌}
use mathlib.Core.List.{List}
use native.Mathlib.Omega.{arith}
use borrow.Author.Tests.{ne_eqb}
use lib.Dec.{eqb, leb}
use Rattle.layout.specs.Sizes.{node_count}
use Rattle.layout.specs.Refusals as number
use Rattle.layout.specs.Refusals.{decline_number}
use Rattle.layout.specs.declared.refusals.Decline.{Decline}
use Rattle.layout.specs.declared.refusals.Decline.TheVariants as decline
use Rattle.tree.specs.Tree.{Tree, retired_words, same_handle, node_with}
use Rattle.nodes.specs.Record.{handle_row}
use Rattle.grounds.specs.Ground.{first_of, handle_declines}

-- a decline's number is not 0
pub not_accepted : (d : Decline) → decline_number d ≡ 0 → ⊥
not_accepted decline.Full e = absurd (omega (arith, e))
not_accepted decline.Off e = absurd (omega (arith, e))
not_accepted decline.NoHolder e = absurd (omega (arith, e))
not_accepted decline.Malformed e = absurd (omega (arith, e))
not_accepted decline.NoHandle e = absurd (omega (arith, e))
not_accepted decline.Caller e = absurd (omega (arith, e))
not_accepted decline.Fresh e = absurd (omega (arith, e))
not_accepted decline.Root e = absurd (omega (arith, e))
not_accepted decline.Children e = absurd (omega (arith, e))

-- the handle's declines, and where none of them applies the operation's own
abbrev pub behind : ℕ → ℕ → ℕ
behind first second = cond (eqb first 0) second first

-- two tests of the handle before the rest
handle_first : (a b : Bool) (rest : ℕ)
    → cond a number.dpe_no_handle (cond b number.dpe_caller rest) ≡ behind (cond a number.dpe_no_handle (cond b number.dpe_caller 0)) rest
handle_first true b rest = refl
handle_first false true rest = refl
handle_first false false rest = refl

module _ (t : Tree) (handle : List ℕ) (caller : ℕ) where
  -- what follows these declines, behind them
  abbrev pub behind_handle : ℕ → ℕ
  behind_handle rest =
      let i = node_with node_count t (handle_row handle) in
      cond (same_handle (handle_row handle) retired_words || leb node_count i) number.dpe_no_handle
      (cond (not (eqb (t i).locality caller)) number.dpe_caller rest)

  parted : (rest : ℕ) → behind_handle rest ≡ behind (first_of (handle_declines t handle caller)) rest
  parted rest =
      let i = node_with node_count t (handle_row handle) in
      handle_first (same_handle (handle_row handle) retired_words || leb node_count i) (not (eqb (t i).locality caller)) rest

  -- one of them applies
  pub by_handle : (n rest : ℕ) → n ≡ first_of (handle_declines t handle caller) → (n ≡ 0 → ⊥) → n ≡ behind_handle rest
  by_handle n rest e d = e ∙ sym (parted rest ∙ rw (ne_eqb (first_of (handle_declines t handle caller)) 0 (λ z. d (e ∙ z))))

  -- none of them applies
  pub by_command : (n rest : ℕ) → 0 ≡ first_of (handle_declines t handle caller) → n ≡ rest → n ≡ behind_handle rest
  by_command n rest e f = f ∙ sym (parted rest ∙ rw (sym e))
