-- FORMAT.md, Refusals and Answers: replies as C has them: 64 bits and, of an answer, four floats.
use Rattle.std.specs.Prelude.{ℕ, ◌+◌, ◌*◌, Bool, true, false, List, Float}
use Rattle.std.proofs.lemmas.List.Edits.{sets}
use Rattle.cie.specs.Answers.{Kind, in_gray, in_rgb, in_cmyk, in_xyz, no_mark, every_ink, Reply, answer, refusal}

-- a low half and a high half
abbrev pub in_halves : ℕ → ℕ → ℕ
in_halves low high = high * 4294967296 + low

-- 1 Gray, 2 RGB, 3 CMYK, 4 XYZ, 5 no mark, 6 every ink
abbrev pub code_of : Kind → ℕ
code_of in_gray = 1
code_of in_rgb = 2
code_of in_cmyk = 3
code_of in_xyz = 4
code_of no_mark = 5
code_of every_ink = 6

-- the top bit of a reply says whether a limit moved anything
abbrev pub moved_bit : Bool → ℕ
moved_bit true = 2147483648
moved_bit false = 0

-- an answer: no refusal, its code, and that bit beside it; a refusal: its number and block
abbrev pub reply_of : Reply → ℕ
reply_of (answer k fs m) = in_halves 0 (code_of k + moved_bit m)
reply_of (refusal number block) = in_halves number block

-- an answer's floats, stored from the first on, the others as they were; on a refusal all as they were
abbrev pub floats_of : Reply → List Float → List Float
floats_of (answer k fs m) d = sets d 0 fs
floats_of (refusal number block) d = d
