-- An inspection that is fed byte by byte: what is kept between bytes, and what is told at the end. Assumes nothing.
use Rattle.std.specs.Prelude.{ℕ, ◌+◌, ◌-◌, ◌*◌, Bool, cond, not, eqb, leb, ltb, length, get_or, set, take}
use mathlib.Core.List.{List, [], ◌∷◌, ◌++◌, foldl}
use Rattle.std.proofs.Math.Option.{Option, none, some}
use Rattle.layout.specs.Sizes.{image_words, register_words, register_count, current_register, mark_at, attestation_at}
use Rattle.layout.specs.Words.{bytes4, bytes8, zeros, le32, bytes_in, part}
use Rattle.layout.specs.Below.{all_below}
use Rattle.std.specs.Prelude as code
use Rattle.std.specs.Option.{is_some}
use Rattle.layout.specs.declared.refusals.Refusal.{Refusal}
use Rattle.layout.specs.declared.refusals.Refusal.TheVariants.{WrongImage, CutEntry, Uncounted}
use Rattle.layout.specs.Numbers.{refusal_number}
use Rattle.journal.specs.Read.{Read, refused, got}
use Rattle.journal.specs.Entries.{Entry, read_entry, longest}
use Rattle.recount.specs.OnImage.{made_on, counting_in, image_after}
use Rattle.replaying.specs.Report.{image_bytes, journal_max, compared_at}
use Rattle.inspection.specs.declared.reader.Reader.{Reader}
use Rattle.inspection.specs.declared.finish.Verdict.{Verdict}
use Rattle.inspection.specs.declared.finish.Verdict.TheVariants.{Empty, Disabled, Unlike, Alike}
use Rattle.layout.specs.declared.bytes.Bytes.{Bytes}

-- ---- what is kept: the reader, the saved image's bytes, and the image on which entries are counted
pub record Stage : Type 0 where
  pub reader : Reader
  pub saved : List ℕ
  pub scratch : List ℕ

-- `seen` bytes of the saved image; a refusal's number, if any; where the refused entry, or the one that waits, begins; its bytes so far
abbrev pub reader_of : (seen : ℕ) (refusal : code.Option ℕ) (offset held : ℕ) → List ℕ → Reader
reader_of seen refusal offset held waiting = record { seen = seen; refusal = refusal; offset = offset; held = held; waiting = waiting }

abbrev pub stage_of : Reader → List ℕ → List ℕ → Stage
stage_of r saved scratch = record { reader = r; saved = saved; scratch = scratch }

unfoldable pub begun : Reader
begun = reader_of 0 code.None 0 0 (zeros longest)

-- ---- one byte more

-- a byte of the saved image
abbrev pub with_saved : Stage → ℕ → Stage
with_saved x b =
    let r = x.reader in
    stage_of (reader_of (r.seen + 1) r.refusal r.offset r.held r.waiting) (set x.saved r.seen b) x.scratch

-- an entry is refused
abbrev pub refused_with : Stage → Refusal → Stage
refused_with x n = let r = x.reader in stage_of (reader_of r.seen (code.Some (refusal_number n)) r.offset r.held r.waiting) x.saved x.scratch

-- an entry that is not yet whole waits
abbrev pub waiting_with : Stage → ℕ → Stage
waiting_with x b = let r = x.reader in stage_of (reader_of r.seen code.None r.offset (r.held + 1) (set r.waiting r.held b)) x.saved x.scratch

-- a whole one counts, or does not
abbrev pub counted_with : Stage → ℕ → Option (List ℕ) → Stage
counted_with x b none = refused_with x Uncounted
counted_with x b (some image) =
    let r = x.reader in
    stage_of (reader_of r.seen code.None (r.offset + (r.held + 1)) 0 (set r.waiting r.held b)) x.saved image

abbrev pub read_with : Stage → ℕ → Read Entry → Stage
read_with x b (refused CutEntry) = waiting_with x b
read_with x b (refused n) = refused_with x n
read_with x b (got e rest) = counted_with x b (made_on x.scratch e)

-- the bytes of the entry, with the byte b
abbrev pub so_far : Reader → ℕ → List ℕ
so_far r b = take (r.held + 1) (set r.waiting r.held b)

-- a byte of the journal: a refusal stays, and past "its first 2^32 bytes" nothing is read. No entry is longer than the longest
unfoldable pub journal_byte : Stage → ℕ → Stage
journal_byte x b =
    let r = x.reader in
    cond (is_some r.refusal) x
    (cond (leb longest r.held) (refused_with x CutEntry)
    (cond (leb journal_max (r.offset + r.held)) x
    (read_with x b (read_entry (so_far r b)))))

-- the saved image first, "then the journal"
unfoldable pub one_byte : Stage → ℕ → Stage
one_byte x b = cond (ltb x.reader.seen image_bytes) (with_saved x b) (journal_byte x b)

unfoldable pub fed_with : Stage → List ℕ → Stage
fed_with x piece = foldl one_byte x piece

-- ---- of the private functions: what the bytes read count as, and the image afterwards

abbrev pub counting_of : List ℕ → Read Entry → code.Result (Unit {0}) Refusal
counting_of scratch (refused n) = code.Err n
counting_of scratch (got e rest) = counting_in (made_on scratch e)

abbrev pub counted_on : List ℕ → Read Entry → List ℕ
counted_on scratch (refused n) = scratch
counted_on scratch (got e rest) = image_after (made_on scratch e) scratch

-- ---- at the end

-- the saved image's words from PCR2 on are those of the scratch image
unfoldable pub same_from : List ℕ → List ℕ → Bool
same_from saved scratch =
    all_below (image_words - compared_at) (λ k. eqb (le32 saved (4 * (compared_at + k))) (get_or scratch (compared_at + k) 0))

-- PCR2 to PCR31
abbrev pub told_words : ℕ
told_words = register_words * (register_count - current_register)

unfoldable pub verdict_at : Stage → List ℕ
verdict_at x =
    cond (eqb (get_or x.scratch mark_at 0) 1)
    (cond (eqb (get_or x.scratch attestation_at 0) 1)
    (cond (same_from x.saved x.scratch) 3 2 ∷ bytes_in (4 * told_words) (part told_words x.scratch compared_at))
    (1 ∷ []))
    (0 ∷ [])

-- a verdict's byte
abbrev pub verdict_number : Verdict → ℕ
verdict_number Empty = 0
verdict_number Disabled = 1
verdict_number Unlike = 2
verdict_number Alike = 3

-- a refusal's number and offset, or what is told without one
abbrev pub told_of : code.Option ℕ → ℕ → List ℕ → List ℕ
told_of (code.Some n) offset verdict = bytes4 n ++ bytes8 offset
told_of code.None offset verdict = verdict

unfoldable pub told : Stage → List ℕ
told x =
    let r = x.reader in
    cond (ltb r.seen image_bytes) (bytes4 (refusal_number WrongImage) ++ bytes8 0)
    (told_of r.refusal r.offset
    (cond (not (eqb r.held 0)) (bytes4 (refusal_number CutEntry) ++ bytes8 r.offset)
    (bytes4 0 ++ (bytes8 0 ++ verdict_at x))))

-- the most bytes: number and offset, verdict and registers
abbrev pub told_max : ℕ
told_max = 4 + 8 + 1 + 4 * told_words

-- what is told, in the array of the most bytes: those past it are zero
abbrev pub told_in : List ℕ → Bytes told_max
told_in l = record { bytes = l ++ zeros (told_max - length l); len = length l }
