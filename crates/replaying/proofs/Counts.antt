-- A list of entries that counts from a replay on, apart from offsets. Assumes nothing.
use mathlib.Core.Path.{◌≡◌, refl, sym, ap, ◌∙◌, subst}
use Prim.Native.Nat.{ℕ, ◌+◌}
use mathlib.Core.Bool.{Bool, true, false, cond, true≢false}
use mathlib.Core.List.{List, [], ◌∷◌, ◌++◌, append_assoc, append-nil}
use mathlib.Core.Option.{none, some}
use lib.ListN.{length}
use Rattle.journal.specs.Entries.{Entry, entry_bytes}
use Rattle.journal.specs.Journal.{Walked, stopped, ended, on_count, count_all}
use Rattle.opening.specs.Tasks.{Task}
use Rattle.opening.specs.Recorded.{entry_for, entries_for}
use Rattle.replaying.specs.Replay.{Replay, countable, counted, count}

-- each entry counts where the ones before have led, and the last leads to y
abbrev pub CountsTo : Replay → List Entry → Replay → Type 0
CountsTo x [] y = x ≡ y
CountsTo x (e ∷ es) y = (countable x e ≡ true) × CountsTo (counted x e) es y

pub counts_append : (x : Replay) (es fs : List Entry) (y z : Replay) → CountsTo x es y → CountsTo y fs z → CountsTo x (es ++ fs) z
counts_append x [] fs y z p q = subst (λ (v : Replay). CountsTo v fs z) (sym p) q
counts_append x (e ∷ es) fs y z p q = (p.0, counts_append (counted x e) es fs y z p.1 q)

-- ---- and with them

pub counts_ended : (at : ℕ) (x : Replay) (es : List Entry) (y : Replay) → CountsTo x es y → count_all count at x es ≡ ended y
unfolding count
counts_ended at x [] y p = ap ended p
counts_ended at x (e ∷ es) y p = rw p.0 (counts_ended (at + length (entry_bytes e)) (counted x e) es y p.1)

is_ended : Walked Replay → Bool
is_ended (stopped n at) = false
is_ended (ended x) = true

end_of : Replay → Walked Replay → Replay
end_of z (stopped n at) = z
end_of z (ended x) = x

pub ended_counts : (at : ℕ) (x : Replay) (es : List Entry) (y : Replay) → count_all count at x es ≡ ended y → CountsTo x es y
unfolding count end_of is_ended
ended_counts at x [] y p = ap (end_of x) p
ended_counts at x (e ∷ es) y p =
    go (countable x e) refl p (ended_counts (at + length (entry_bytes e)) (counted x e) es y)
  where
    go : (b : Bool) → countable x e ≡ b
        → on_count at (cond b (some (counted x e)) none) (λ y. count_all count (at + length (entry_bytes e)) y es) ≡ ended y
        → (count_all count (at + length (entry_bytes e)) (counted x e) es ≡ ended y → CountsTo (counted x e) es y)
        → (countable x e ≡ true) × CountsTo (counted x e) es y
    go true c q k = (c, k q)
    go false c q k = absurd (true≢false (sym (ap is_ended q)))

-- ---- the entries of a longer history

pub entries_append : (h k : List Task) → entries_for (h ++ k) ≡ entries_for h ++ entries_for k
entries_append [] k = refl
entries_append (t ∷ h) k = ap (λ (r : List Entry). entry_for t ++ r) (entries_append h k) ∙ sym (append_assoc (entry_for t) (entries_for h) (entries_for k))

pub entries_snoc : (h : List Task) (t : Task) → entries_for (h ++ (t ∷ [])) ≡ entries_for h ++ entry_for t
entries_snoc h t = entries_append h (t ∷ []) ∙ ap (λ (r : List Entry). entries_for h ++ r) (append-nil (entry_for t))
