-- The kind, and what is read behind it.
use native.Mathlib.Omega.{arith}
use mathlib.Core.Path.{◌≡◌, refl, sym, ap, ◌∙◌}
use mathlib.Core.List.{List, [], ◌∷◌}
use Prim.Native.Nat.{ℕ, suc, ◌-◌, ◌≤◌, ◌<◌}
use borrow.Author.Rules.{rules}
use lib.ListN.{length, get_or, drop, take}
use lib.Seq.{take_all}
use Rattle.std.proofs.Common.{Err}
use Rattle.layout.specs.declared.refusals.Refusal.TheVariants.{CutEntry}
use Rattle.journal.specs.Entries.{read_entry}
use Rattle.journal.specs.Read.{Read}
use Rattle.journal_bytes.specs.Kinds.{form_by}
use Rattle.journal_bytes.specs.declared.entry.EntryKind.{EntryKind}
use Rattle.journal_bytes.specs.declared.entry.EntryParts.{EntryParts}
use Rattle.journal_bytes.specs.Results.{bare, parts_read, entry_read}
use Rattle.journal_bytes.proofs.Entries.{entry_unlisted, entry_refused, entry_got, parts_fit}
use Rattle.journal_bytes.proofs.read.read_entry.Goals as goal

-- the first byte, and the others
split : (s : List ℕ) → 1 ≤ length s → s ≡ get_or s 0 0 ∷ take (length s - 1) (drop 1 s)
split [] h = absurd (omega arith)
split (b ∷ s) h = ap (λ (l : List ℕ). b ∷ l) (sym (take_all (suc (length s) - 1) s (omega arith)))

none : (s : List ℕ) → length s < 1 → Err CutEntry ≡ entry_read s
unfolding entry_read read_entry
none [] h = refl
none (b ∷ s) h = absurd (omega arith)

-- read into bare parts, by their kind
into : (l : List ℕ) {R : Read EntryParts} {p : EntryParts} {k : EntryKind} → p ≡ bare k → R ≡ parts_read (form_by p.kind) l → R ≡ parts_read (form_by k) l
into l b h = h ∙ ap (λ (x : EntryParts). parts_read (form_by x.kind) l) b

pub returns-in_default : goal.returns-in_default
returns-in_default c = none c.args.s.now c.in_default.len_below

pub returns-in_err-try_from : goal.returns-in_err-try_from
returns-in_err-try_from c =
    let q : c.from_residual.result ≡ Err c.in_err-try_from.field-0.0 = search rules in
    q ∙ entry_unlisted _ _ c.in_err-try_from.field-0.0 c.in_err-try_from.ensures ∙ ap entry_read (sym (split c.args.s.now c.in-len1-up.len_at_least))

pub returns-in_err-rest : goal.returns-in_err-rest
returns-in_err-rest c =
    let q : c.from_residual-in_err-rest.result ≡ Err c.in_err-rest.field-0.0 = search rules in
    q
    ∙ entry_refused _ _ c.in_ok-try_from.field-0 c.in_err-rest.field-0.0 c.in_ok-try_from.ensures (into _ c.bare-entry.ensures c.in_err-rest.ensures)
    ∙ ap entry_read (sym (split c.args.s.now c.in-len1-up.len_at_least))

pub overflow_sub-result : goal.overflow_sub-result
overflow_sub-result c = omega (arith, parts_fit _ _ _ c.in_ok-rest.rest.now c.in_ok-rest.ensures, ap length (split c.args.s.now c.in-len1-up.len_at_least))

pub returns : goal.returns
returns c =
    entry_got _ _ c.in_ok-try_from.field-0 c.take.new.self c.in_ok-rest.rest.now _ c.in_ok-try_from.ensures (into _ c.bare-entry.ensures c.in_ok-rest.ensures)
    (omega (arith, ap length (split c.args.s.now c.in-len1-up.len_at_least)))
    ∙ ap entry_read (sym (split c.args.s.now c.in-len1-up.len_at_least))
