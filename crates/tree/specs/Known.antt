-- What the walks to the root keep of each node. No statement rests on it. Assumes nothing.
use Rattle.std.specs.Prelude.{ℕ, ◌-◌, ◌<◌, ◌≡◌, List, Bool, true, false, get_or, length}
use Rattle.tree.specs.Tree.{Tree, is_root, leads}

-- a mark for each of n nodes: the root has one, and what has one leads to the root
pub record Known (n : ℕ) (t : Tree) (k : List Bool) : Type 0 where
  pub each : length k ≡ n
  pub root : (i : ℕ) → i < n → is_root (t i) ≡ true → get_or k i false ≡ true
  pub leading : (i : ℕ) → i < n → get_or k i false ≡ true → leads n t (n - 1) i ≡ true
