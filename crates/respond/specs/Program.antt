-- The small program of document 01, from the bytes on standard input to those it writes: one request, its code in front, on a unit that was just cold
-- booted (REFERENCE.md, section 13). Assumes nothing.
use Rattle.std.specs.Prelude.{ℕ, ◌+◌, ◌-◌, ⊤, Result, Ok, Err, false, cond, List, [], ◌++◌, ltb, length, take, drop, replicate}
use Rattle.layout.specs.Sizes.{image_words, answer_max}
use Rattle.layout.specs.Words.{zeros, le32, bytes4}
use Rattle.layout.specs.declared.refusals.Refusal.{Refusal}
use Rattle.work.specs.declared.Work.{Work}
use Rattle.opening.specs.Tasks.{Request, request_of, BootInputs, boot_of}
use Rattle.opening.specs.Openings.{open_request, status_number, cold_booted}
use Rattle.opening.specs.declared.Opened.{Opened}
use Rattle.layout.specs.declared.bytes.Bytes.{Bytes}

-- runtime digest bytes 0x11, manifest digest bytes 0x33 (document 02, §2), secret bytes 0x22
abbrev pub program_boot : BootInputs
program_boot = boot_of (replicate 48 0x11) (replicate 48 0x33) (replicate 48 0x22)

-- the unit: zero words, cold booted, all stores made
unfoldable pub cold_image : List ℕ
cold_image = cold_booted (zeros image_words) program_boot

-- "a code (4 bytes, little endian) and a request", "Fewer than 4 input bytes count as code 0", "caller 0, verdict no, no handoff table". The request is
-- what follows the first 4 bytes.
unfoldable pub request_in : List ℕ → Request
request_in input = request_of (cond (ltb (length input) 4) 0 (le32 input 0)) (drop 4 input) 0 [] false []

-- what follows the result: the answer, or nothing where the request is refused
abbrev pub answer_bytes : Work → Result ⊤ Refusal → List ℕ
answer_bytes w (Ok u) = take w.answer_len w.answer
answer_bytes w (Err r) = []

-- all that is written
unfoldable pub written : Opened ⊤ → List ℕ
written o = bytes4 (status_number o.status) ++ answer_bytes o.work o.status

-- the output for an input of which all bytes are used. The stores of the request's own work change the image and not the answer, which is the work's from
-- its opening on; so no output shows them.
unfoldable pub output_of : List ℕ → List ℕ
output_of input = written (open_request cold_image (request_in input))

-- "of a longer input only the first 65,000 bytes are used"; the code's 4 are among them
abbrev pub input_max : ℕ
input_max = 65000

unfoldable pub program_output : List ℕ → List ℕ
program_output input = output_of (take input_max input)

-- the result and the longest answer
abbrev pub response_max : ℕ
response_max = 4 + answer_max

-- an output as the function hands it back: how many bytes, and the bytes in an array whose others are zero
unfoldable pub response_of : List ℕ → Bytes (4 + answer_max)
response_of output = record { len = length output; bytes = output ++ zeros (response_max - length output) }
