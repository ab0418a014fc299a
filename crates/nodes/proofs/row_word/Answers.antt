-- Each test picks a field; its law gives the word.
use native.Mathlib.Omega.{arith}
use mathlib.Core.Path.{◌≡◌, sym, ap}
use Prim.Native.Nat.{ℕ}
use lib.ListN.{length, get_or}
use Rattle.layout.specs.Sizes.{register_words, handle_words}
use Rattle.layout.specs.Words.{flat}
use Rattle.nodes.specs.Record.{fields_from}
use Rattle.nodes.proofs.Rows.{raw_tag, raw_handle, raw_flags, raw_current, raw_cumulative, raw_type, raw_locality, raw_svn}
use borrow.Author.Rules.{rules}
use Rattle.nodes.proofs.row_word.Goals as goal

pub returns-then-j-lt1 : goal.returns-then-j-lt1
returns-then-j-lt1 c =
    let a = c.args in
    let e : a.j ≡ 0 = omega arith in
    ap (λ (i : ℕ). get_or (flat (fields_from a.first 0 a.handle a.flags a.current a.cumulative a.kind a.locality a.svn)) i 0) (sym e)

pub returns-then-j-lt-HANDLE_AT : goal.returns-then-j-lt-HANDLE_AT
returns-then-j-lt-HANDLE_AT c =
    let a = c.args in
    let hh : length a.handle ≡ handle_words = search rules in
    let hc : length a.current ≡ register_words = search rules in
    let hm : length a.cumulative ≡ register_words = search rules in
    sym (raw_tag a.first a.handle a.flags a.kind a.locality a.svn a.current a.cumulative hh hc hm a.j (omega arith))

pub returns-then-j-lt-FLAGS_AT : goal.returns-then-j-lt-FLAGS_AT
returns-then-j-lt-FLAGS_AT c =
    let a = c.args in
    let hh : length a.handle ≡ handle_words = search rules in
    let hc : length a.current ≡ register_words = search rules in
    let hm : length a.cumulative ≡ register_words = search rules in
    sym (raw_handle a.first a.handle a.flags a.kind a.locality a.svn a.current a.cumulative hh hc hm a.j (omega arith) (omega arith))

pub returns-then-j-lt-CURRENT_AT : goal.returns-then-j-lt-CURRENT_AT
returns-then-j-lt-CURRENT_AT c =
    let a = c.args in
    let hh : length a.handle ≡ handle_words = search rules in
    let hc : length a.current ≡ register_words = search rules in
    let hm : length a.cumulative ≡ register_words = search rules in
    sym (raw_flags a.first a.handle a.flags a.kind a.locality a.svn a.current a.cumulative hh hc hm a.j (omega arith))

pub returns-then-j-lt-CUMULATIVE_AT : goal.returns-then-j-lt-CUMULATIVE_AT
returns-then-j-lt-CUMULATIVE_AT c =
    let a = c.args in
    let hh : length a.handle ≡ handle_words = search rules in
    let hc : length a.current ≡ register_words = search rules in
    let hm : length a.cumulative ≡ register_words = search rules in
    sym (raw_current a.first a.handle a.flags a.kind a.locality a.svn a.current a.cumulative hh hc hm a.j (omega arith) (omega arith))

pub returns-then-j-lt-TYPE_AT : goal.returns-then-j-lt-TYPE_AT
returns-then-j-lt-TYPE_AT c =
    let a = c.args in
    let hh : length a.handle ≡ handle_words = search rules in
    let hc : length a.current ≡ register_words = search rules in
    let hm : length a.cumulative ≡ register_words = search rules in
    sym (raw_cumulative a.first a.handle a.flags a.kind a.locality a.svn a.current a.cumulative hh hc hm a.j (omega arith) (omega arith))

pub returns-then-j-lt-LOCALITY_AT : goal.returns-then-j-lt-LOCALITY_AT
returns-then-j-lt-LOCALITY_AT c =
    let a = c.args in
    let hh : length a.handle ≡ handle_words = search rules in
    let hc : length a.current ≡ register_words = search rules in
    let hm : length a.cumulative ≡ register_words = search rules in
    sym (raw_type a.first a.handle a.flags a.kind a.locality a.svn a.current a.cumulative hh hc hm a.j (omega arith))

pub returns-then-j-lt-SVN_AT : goal.returns-then-j-lt-SVN_AT
returns-then-j-lt-SVN_AT c =
    let a = c.args in
    let hh : length a.handle ≡ handle_words = search rules in
    let hc : length a.current ≡ register_words = search rules in
    let hm : length a.cumulative ≡ register_words = search rules in
    sym (raw_locality a.first a.handle a.flags a.kind a.locality a.svn a.current a.cumulative hh hc hm a.j (omega arith))

pub returns : goal.returns
returns c =
    let a = c.args in
    let hh : length a.handle ≡ handle_words = search rules in
    let hc : length a.current ≡ register_words = search rules in
    let hm : length a.cumulative ≡ register_words = search rules in
    sym (raw_svn a.first a.handle a.flags a.kind a.locality a.svn a.current a.cumulative hh hc hm a.j (omega arith))
