-- Each word is its call's (`from_fn_tab`); a filled list is the row (`raw_filled`).
use Rattle.std.proofs.Common.{rules, ◌≡◌, ◌∙◌, ap, ap₂, ℕ, List, length, get_or}
use Rattle.layout.specs.Sizes.{register_words, node_words, handle_words}
use Rattle.layout.specs.Words.{tab, flat}
use Rattle.layout.proofs.Tab.{from_fn_tab}
use Rattle.layout.proofs.Packing.{length_words}
use Rattle.nodes.specs.Record.{fields_from}
use Rattle.nodes.proofs.Rows.{raw_filled}
use Rattle.nodes.proofs.row_of.Goals as goal

pub returns : goal.returns
returns c =
    let a = c.args in
    let long : length a.handle ≡ handle_words = search rules in
    let now = c.pack-now.result in
    let all = c.pack-all.result in
    let row : c.from_fn.result ≡ tab node_words (λ i. get_or (flat (fields_from a.first 0 a.handle a.flags now all a.kind a.locality a.svn)) i 0) =
    from_fn_tab _ _ (λ i. get_or (flat (fields_from a.first 0 a.handle a.flags now all a.kind a.locality a.svn)) i 0) _ _ (λ i y q l h. search rules) c.from_fn.ensures.items in
    row
    ∙ raw_filled a.first a.handle a.flags a.kind a.locality a.svn now all long
    (ap length c.pack-now.ensures ∙ length_words register_words a.current 0)
    (ap length c.pack-all.ensures ∙ length_words register_words a.cumulative 0)
    ∙ ap₂ (λ (x y : List ℕ). flat (fields_from a.first 0 a.handle a.flags x y a.kind a.locality a.svn))
    c.pack-now.ensures c.pack-all.ensures
