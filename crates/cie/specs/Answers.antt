-- FORMAT.md, Answers: an answer is one of Gray, RGB, CMYK or XYZ with its floats, no mark, or every ink with its tint, and whether a limit moved anything; or a refusal with its number and block.
use Rattle.std.specs.Prelude.{ℕ, Bool, List, [], ◌∷◌, Float}
use Rattle.fixed.specs.Refusals.{number_of}
use Rattle.cie.specs.declared.Answered.{Answered}
use Rattle.cie.specs.declared.Answer.{Answer}
use Rattle.cie.specs.declared.Answer.TheVariants.{Gray, Rgb, Cmyk, Xyz, NoMark, EveryInk, Refused}

-- what an answer is in
pub data Kind : Type 0 where
  in_gray : Kind
  in_rgb : Kind
  in_cmyk : Kind
  in_xyz : Kind
  no_mark : Kind
  every_ink : Kind

-- a reply: an answer with its floats in order, and whether a limit moved anything on the way to it; or a refusal with its number and block
pub data Reply : Type 0 where
  answer : Kind → List Float → Bool → Reply
  refusal : ℕ → ℕ → Reply

-- what each case of the enum `Answer` says, with the flag beside it; a refusal carries none
abbrev pub said : Answer → Bool → Reply
said (Gray g) m = answer in_gray (g ∷ []) m
said (Rgb r g b) m = answer in_rgb (r ∷ g ∷ b ∷ []) m
said (Cmyk c y z k) m = answer in_cmyk (c ∷ y ∷ z ∷ k ∷ []) m
said (Xyz p) m = answer in_xyz (p.x ∷ p.y ∷ p.z ∷ []) m
said NoMark m = answer no_mark [] m
said (EveryInk t) m = answer every_ink (t ∷ []) m
said (Refused e) m = refusal (number_of e.refusal) e.block

-- what the two together say
abbrev pub meaning : Answered → Reply
meaning r = said r.answer r.moved
