-- The data of a tree command's request (document 02, §5): it is read back as that command, and is not too long. Assumes nothing.
use mathlib.Core.Path.{◌≡◌, refl, sym, ap, ◌∙◌}
use Prim.Native.Nat.{ℕ, zero, suc, ◌+◌, ◌-◌, ◌^◌, ◌≤◌, ◌<◌}
use native.Mathlib.Omega.{arith}
use mathlib.Core.Bool.{Bool, true, false, cond}
use mathlib.Core.List.{List, [], ◌∷◌, ◌++◌, append_assoc, append-nil}
use mathlib.Core.Option.{Option}
use lib.Dec.{eqb}
use lib.ListN.{length}
use borrow.Author.Tests.{le-leb}
use Rattle.layout.specs.Sizes.{node_count}
use Rattle.layout.specs.Below.{count_below}
use Rattle.journal.specs.Read.{Read}
use Rattle.journal.specs.Numbers.{number_bytes}
use Rattle.journal.specs.Fields.{Field, Values, FieldsOk, fields_bytes, read_fields}
use Rattle.journal.specs.Entries.{Entry, derive, extend, rotate, destroy, derive_fields, extend_fields, handle_fields, EntryOk, entry_bytes}
use Rattle.journal.specs.Statements.{Bytes}
use Rattle.journal.proofs.Bytes.{bytes_rest, bytes_front, bytes_append, bytes_one}
use Rattle.journal.proofs.Fields.{FieldsSized, read_fields_law}
use Rattle.journal.proofs.Behind.{most_in}
use Rattle.nodes.specs.Record.{Node, tree_of}
use Rattle.table.specs.Table.{number_of}
use Rattle.table.specs.declared.Kind.TheVariants.{Derive, Replace, Destroy}
use Rattle.table.specs.declared.StashAt.{StashAt}
use Rattle.opening.specs.Orders.{NodeCommand, whole, command_in, fresh_for}
use Rattle.opening.specs.Orders as command
use Rattle.opening.specs.Tasks.{Order, invoke}
use Rattle.opening.specs.Rules.{data_max}
use Rattle.history.specs.Ledger.{Chain, used_in, next_chain, kind_at}
use Rattle.replaying.specs.Replay.{Replay, order_from, task_of, ordered, countable}
use Rattle.replaying.specs.Asked.{derive_data, extend_data, rotate_data, destroy_data}
use Rattle.replaying.proofs.Short.{fields_short}

-- ---- the request for a tree command's entry: its data, fresh handle and caller, and the command that it is read as

abbrev pub asked_for : NodeCommand → List ℕ → ℕ → Order
asked_for c fresh caller = order_from c (fresh_for c fresh) caller

pub record OrderAsked (e : Entry) (l fresh : List ℕ) (caller : ℕ) (c : NodeCommand) : Type 0 where
  pub reads : command_in l ≡ c
  pub short : length l ≤ data_max
  pub small : caller < 2 ^ 32
  pub bytes : Bytes (entry_bytes e) → Bytes l × Bytes fresh
  -- the order that it comes to is the entry's
  pub task : task_of e ≡ invoke (asked_for c fresh caller)
  pub counts : (x : Replay) → countable x e ≡ ordered x (asked_for c fresh caller)
  pub stores : (x : Chain) → 0 < number_of (kind_at x (task_of e))

-- ---- fields with nothing behind them

read_whole : (fs : List Field) (vs : Values fs) (f : Values fs → NodeCommand) (l : List ℕ) → FieldsOk fs vs → l ≡ fields_bytes fs vs
    → whole (read_fields fs l) f ≡ f vs
read_whole fs vs f l ok e =
    ap (λ (r : Read (Values fs)). whole r f) (ap (read_fields fs) (e ∙ sym (append-nil (fields_bytes fs vs))) ∙ read_fields_law fs vs [] ok)

-- the first byte and the fields
data_short : (k : ℕ) (fs : List Field) (vs : Values fs) (l : List ℕ) → FieldsSized fs vs → l ≡ fields_bytes fs vs → most_in fs < data_max
    → length (k ∷ l) ≤ data_max
data_short k fs vs l h e m = omega (arith, ap length e, fields_short fs vs h)

-- the bytes of an entry behind its first: those of its data, then those of the fresh handle
data_bytes : (k j : ℕ) (l fresh rest tail : List ℕ) → j < 256 → l ++ (fresh ++ rest) ≡ tail → Bytes (k ∷ tail) → Bytes (j ∷ l) × Bytes fresh
data_bytes k j l fresh rest tail small e s =
    let later = bytes_rest (k ∷ []) tail _ refl s in (
      bytes_append (j ∷ []) l (bytes_one j small) (bytes_front l (fresh ++ rest) tail e later),
      bytes_front fresh rest _ refl (bytes_rest l (fresh ++ rest) tail e later),
    )

-- ---- the number of stores is not 0

-- a child, whether its parent is retired or not
child_stores : (b : Bool) (s : StashAt) (i : ℕ) → 0 < number_of (cond b (Replace s) (Derive i))
unfolding number_of
child_stores true s i = omega arith
child_stores false s i = omega arith

count_most : (n : ℕ) (p : ℕ → Bool) → count_below n p ≤ n
unfolding count_below
count_most zero p = omega arith
count_most (suc n) p = go (p n) (count_most n p)
  where
    go : (b : Bool) → count_below n p ≤ n → count_below n p + cond b 1 0 ≤ suc n
    go true h = omega arith
    go false h = omega arith

-- no more nodes go than there are
freed_stores : (before after : List (Option Node)) → 0 < number_of (Destroy (used_in before - used_in after))
unfolding number_of
freed_stores before after =
    rw (le-leb (used_in before - used_in after) node_count (omega (arith, count_most node_count (λ i. (tree_of before i).used)))) (omega arith)

-- ---- each command

pub derive_asked : (h : List ℕ) (r t : ℕ) (d f : List ℕ) (c : ℕ) → EntryOk (derive h r t d f c)
    → OrderAsked (derive h r t d f c) (derive_data h r t d) f c (command.derive h r t d)
unfolding command_in entry_bytes kind_at
derive_asked h r t d f c ok =
    record {
      reads = read_whole derive_fields vs (λ vs. command.derive vs.0 vs.1.0 vs.1.1.0 vs.1.1.1.0) _ (ok.0, (ok.1.0, (ok.1.1.0, (ok.1.1.1.0, tt)))) same;
      short = data_short 1 derive_fields vs _ (ok.0, (tt, (tt, (ok.1.1.1.0, tt)))) same (omega arith);
      small = ok.1.1.1.1.1.0;
      bytes = data_bytes 6 1 (h ++ (number_bytes r ++ (number_bytes t ++ d))) f (number_bytes c ++ []) _ (omega arith) behind;
      task = refl;
      counts = λ x. refl;
      stores = λ x. child_stores (eqb r 0) _ _;
    }
  where
    vs : Values derive_fields
    vs = (h, (r, (t, (d, tt))))

    same : h ++ (number_bytes r ++ (number_bytes t ++ d)) ≡ h ++ (number_bytes r ++ (number_bytes t ++ (d ++ [])))
    same = ap (λ (l : List ℕ). h ++ (number_bytes r ++ (number_bytes t ++ l))) (sym (append-nil d))

    behind : (h ++ (number_bytes r ++ (number_bytes t ++ d))) ++ (f ++ (number_bytes c ++ []))
        ≡ h ++ (number_bytes r ++ (number_bytes t ++ (d ++ (f ++ (number_bytes c ++ [])))))
    behind = simp append_assoc

pub extend_asked : (h d : List ℕ) (c : ℕ) → EntryOk (extend h d c) → OrderAsked (extend h d c) (extend_data h d) [] c (command.extend h d)
unfolding command_in entry_bytes kind_at number_of
extend_asked h d c ok =
    record {
      reads = read_whole extend_fields (h, (d, tt)) (λ vs. command.extend vs.0 vs.1.0) _ (ok.0, (ok.1.0, tt)) same;
      short = data_short 2 extend_fields (h, (d, tt)) _ (ok.0, (ok.1.0, tt)) same (omega arith);
      small = ok.1.1.0;
      bytes = data_bytes 7 2 (h ++ d) [] (number_bytes c ++ []) _ (omega arith) (append_assoc h d (number_bytes c ++ []));
      task = refl;
      counts = λ x. refl;
      stores = λ x. omega arith;
    }
  where
    same : h ++ d ≡ h ++ (d ++ [])
    same = ap (λ (l : List ℕ). h ++ l) (sym (append-nil d))

pub rotate_asked : (h f : List ℕ) (c : ℕ) → EntryOk (rotate h f c) → OrderAsked (rotate h f c) (rotate_data h) f c (command.rotate h)
unfolding command_in entry_bytes kind_at number_of
rotate_asked h f c ok =
    record {
      reads = read_whole handle_fields (h, tt) (λ vs. command.rotate vs.0) _ (ok.0, tt) (sym (append-nil h));
      short = data_short 3 handle_fields (h, tt) _ (ok.0, tt) (sym (append-nil h)) (omega arith);
      small = ok.1.1.0;
      bytes = data_bytes 8 3 h f (number_bytes c ++ []) _ (omega arith) refl;
      task = refl;
      counts = λ x. refl;
      stores = λ x. omega arith;
    }

pub destroy_asked : (h : List ℕ) (c : ℕ) → EntryOk (destroy h c) → OrderAsked (destroy h c) (destroy_data h) [] c (command.destroy h)
unfolding command_in entry_bytes kind_at
destroy_asked h c ok =
    record {
      reads = read_whole handle_fields (h, tt) (λ vs. command.destroy vs.0) _ (ok.0, tt) (sym (append-nil h));
      short = data_short 4 handle_fields (h, tt) _ (ok.0, tt) (sym (append-nil h)) (omega arith);
      small = ok.1.0;
      bytes = data_bytes 9 4 h [] (number_bytes c ++ []) _ (omega arith) refl;
      task = refl;
      counts = λ x. refl;
      stores = λ x. freed_stores x.nodes (next_chain x (task_of (destroy h c))).nodes;
    }
