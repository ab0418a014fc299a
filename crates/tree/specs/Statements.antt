-- What §5 of document 02 says of the nodes that a destroy frees, as a statement; proofs/Exactly.antt proves it. Assumes nothing.
use Rattle.std.specs.Prelude.{ℕ, ◌<◌, ◌≡◌, ◌⊎◌, ◌↔◌, true, false, List, [], ◌∷◌}
use Rattle.tree.specs.Tree.{Tree, retired_words, has_handle, is_root, well_formed, is_child_of, childless, freed_by}

-- a number is in a list
abbrev pub In : ℕ → List ℕ → Type 0
In k [] = ⊥
In k (j ∷ js) = (k ≡ j) ⊎ In k js

-- "any retired ancestor left childless except the root": node k has children, and all of them are freed
pub record LeftChildless (n : ℕ) (t : Tree) (freed : List ℕ) (k : ℕ) : Type 0 where
  pub retired : has_handle retired_words (t k) ≡ true
  pub not_root : is_root (t k) ≡ false
  pub has_children : childless n t k ≡ false
  pub all_freed : (j : ℕ) → j < n → is_child_of k (t j) ≡ true → In j freed

-- "Destroy frees the node and any retired ancestor left childless except the root": of any well-formed tree over any number of places, these and no others
abbrev pub FreedExactly : Type 0
FreedExactly = (n : ℕ) (t : Tree) (i k : ℕ) → well_formed n t ≡ true → i < n → (t i).used ≡ true → is_root (t i) ≡ false → k < n
    → In k (freed_by n t i) ↔ ((k ≡ i) ⊎ LeftChildless n t (freed_by n t i) k)
