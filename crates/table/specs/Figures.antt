-- The numbers of stores of document 01, and of document 02's requests, as numerals: what a change of the store table edits by hand. Nothing rests on them. Assumes nothing.
use Rattle.std.specs.Prelude.{ℕ, ◌+◌, ◌*◌, ◌≤◌, ◌≡◌}
use Rattle.table.specs.Table.{number_of}
use Rattle.table.specs.declared.Kind.TheVariants.{Nothing, Disabling, Stash, Update, ColdBoot, Extension, Derive, Replace, Extend, Rotate, Destroy}
use Rattle.table.specs.declared.StashAt.{StashAt}

pub record StoreFigures : Type 0 where
  pub stash : (s : StashAt) → number_of (Stash s) ≡ 54
  pub disabling : number_of Disabling ≡ 15
  pub update : (root : ℕ) → number_of (Update root) ≡ 62
  pub cold_boot : number_of ColdBoot ≡ 1521
  -- document 02, §1
  pub extension : (r : ℕ) → number_of (Extension r) ≡ 14
  -- document 02, §5, with a node of 35 words (§7): "36 or 41" are 37 and 42, and 34 is 35
  pub derive : (i : ℕ) → number_of (Derive i) ≡ 37
  pub replace : (s : StashAt) → number_of (Replace s) ≡ 42
  pub extend : (i : ℕ) → number_of (Extend i) ≡ 26
  pub rotate : (i : ℕ) → number_of (Rotate i) ≡ 7
  pub destroy : (count : ℕ) → count ≤ 32 → number_of (Destroy count) ≡ 2 + 35 * count
  pub nothing : number_of Nothing ≡ 0
