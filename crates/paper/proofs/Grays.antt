-- The worked CalGray block as a page: it is accepted, colour 1 gives the white point's floats, and -3 gives zeros.
use mathlib.Core.Path.{◌≡◌, refl, sym, ap, ◌∙◌}
use mathlib.Core.Bool.{true, false}
use mathlib.Core.List.{[], ◌∷◌}
use lib.Dec.{lit<}
use lib.IntN.{ℤ, pos, negsuc}
use lib.Ieee.{Float}
use Rattle.fixed.specs.Numbers.{float, limited, outside, gamma_supported}
use Rattle.fixed.specs.Bytes.{two_bytes, four_bytes, number_at}
use Rattle.fixed.specs.Loops.{total, all_from, zero_between, first_from}
use Rattle.fixed.specs.Values.{listed, limited_at, limit_step}
use Rattle.layout.specs.Field.{padded}
use Rattle.record.specs.Layout.{head_of, plain, weighed, checked, block_of}
use Rattle.record.specs.Reading.{body_by}
use Rattle.record.specs.Rules.{well_laid, name_shown, well_formed, lawful, supported, white_point, black_point, lawful_in, names_lawful}
use Rattle.cie.specs.declared.GrayClosing.{GrayClosing}
use Rattle.cie.specs.declared.Xyz.{Xyz}
use Rattle.cie.specs.Answers.{answer, in_xyz}
use Rattle.cie.specs.Closings.{cal_gray_of, in_three, closed_by}
use Rattle.cie.proofs.Facts.{one_float, gray-white, gray-black}
use Rattle.space.specs.Spaces.{Space, cal_gray}
use Rattle.space.specs.Pages.{plain_of, tinted_of, space_of, space_at}
use Rattle.page.specs.Outcomes.{Outcome, accepted}
use Rattle.runs.specs.Runs.{permitted, program_fault, claimed_at, well_filled}
use Rattle.page.specs.Validation.{well_sized, fault_one, fault_claimed, fault_two, validated}
use Rattle.values.specs.Limits.{limited_to}
use Rattle.colour.specs.Colours.{valued, answered}
use Rattle.colour.specs.Evaluating.{on_accepted, evaluated}
use Rattle.paper.specs.Paper.{gray0, nought}

-- its closing step
abbrev k : GrayClosing
k = record { xw = pos 950500; zw = pos 1089000; gamma = pos 1000000 }

-- by computing
gray-accepted : validated (block_of gray0) ≡ accepted
unfolding block_of head_of two_bytes four_bytes padded validated well_sized fault_one fault_two fault_claimed claimed_at permitted program_fault well_filled checked plain weighed body_by well_laid name_shown well_formed lawful lawful_in names_lawful supported white_point black_point gamma_supported number_at total all_from zero_between first_from
gray-accepted = refl

gray-space : space_at (block_of gray0) 0 ≡ cal_gray k
unfolding block_of head_of two_bytes four_bytes padded plain weighed total body_by space_of tinted_of plain_of number_at
gray-space = refl

colour : (a : ℤ) → answered (cal_gray k) (a ∷ []) ≡ in_three (cal_gray_of k (limited (pos 0) (pos 1000000) a)) (outside (pos 0) (pos 1000000) a)
unfolding answered valued closed_by limited_to limit_step limited_at listed
colour a = refl

replies : (a : ℤ) → evaluated (block_of gray0) 0 (a ∷ []) ≡ in_three (cal_gray_of k (limited (pos 0) (pos 1000000) a)) (outside (pos 0) (pos 1000000) a)
unfolding evaluated
replies a =
    ap (λ (o : Outcome). on_accepted o (answered (space_at (block_of gray0) 0) (a ∷ []))) gray-accepted ∙
    (ap (λ (s : Space). answered s (a ∷ [])) gray-space ∙ colour a)

-- what 1 and -3 are limited to, and whether that moves them
full : in_three (cal_gray_of k (limited (pos 0) (pos 1000000) (pos 1000000))) (outside (pos 0) (pos 1000000) (pos 1000000)) ≡ in_three (cal_gray_of k (pos 1000000)) false
unfolding limited outside
full = refl

low : in_three (cal_gray_of k (limited (pos 0) (pos 1000000) (negsuc 2999999))) (outside (pos 0) (pos 1000000) (negsuc 2999999)) ≡ in_three (cal_gray_of k (limited (pos 0) (pos 1000000) (negsuc 2999999))) true
unfolding outside
low = refl

pub gray-1 : evaluated (block_of gray0) 0 (pos 1000000 ∷ []) ≡ answer in_xyz (float (pos 950500) ∷ float (pos 1000000) ∷ float (pos 1089000) ∷ []) false
gray-1 =
    replies (pos 1000000) ∙ (full ∙
    (ap (λ (p : Xyz). in_three p false) (gray-white k) ∙ ap (λ (y : Float). answer in_xyz (float (pos 950500) ∷ y ∷ float (pos 1089000) ∷ []) false) (sym one_float)))

pub gray-minus-3 : evaluated (block_of gray0) 0 (negsuc 2999999 ∷ []) ≡ answer in_xyz (nought ∷ nought ∷ nought ∷ []) true
gray-minus-3 =
    replies (negsuc 2999999) ∙ (low ∙
    ap (λ (p : Xyz). in_three p true) (gray-black k (record { size = 950500; is = refl; low = lit< tt; high = lit< tt }) (record { size = 1089000; is = refl; low = lit< tt; high = lit< tt })))
