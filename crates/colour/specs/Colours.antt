-- FORMAT.md, Colour steps: what a colour of a space is. Each component is limited first; an Indexed, a Separation or a DeviceN makes a colour of the space within.
use Rattle.std.specs.Prelude.{cond, List, ℤ, eqb, length}
use Rattle.fixed.specs.Values.{places, started, row_step, tint_step}
use Rattle.fixed.specs.declared.values.Colour.{Colour}
use Rattle.cie.specs.Answers.{Reply, refusal}
use Rattle.cie.specs.Closings.{closed}
use Rattle.form.specs.Steps.{taken_by, program_step}
use Rattle.space.specs.Spaces.{Space, none, gray, rgb, cmyk, cal_gray, cal_rgb, lab, no_mark, every_ink, separation, calculated, indexed, count_of, limit_count, closing_of}
use Rattle.values.specs.Limits.{limited_to}

-- a plain space: its components limited, but none where there is no mark, then its closing step
abbrev pub settled : Space → Colour → Reply
settled s v = closed (closing_of s) (limited_to s (limit_count s) v)

-- what a colour on its way replies in a space
unfoldable pub valued : Space → Colour → Reply
valued none v = settled none v
valued gray v = settled gray v
valued rgb v = settled rgb v
valued cmyk v = settled cmyk v
valued (cal_gray k) v = settled (cal_gray k) v
valued (cal_rgb k) v = settled (cal_rgb k) v
valued (lab k al ah bl bh) v = settled (lab k al ah bl bh) v
valued (no_mark i) v = settled (no_mark i) v
valued every_ink v = settled every_ink v
valued (separation e c0 c1 s) v = valued s (tint_step e (count_of s) c0 c1 v)
valued (calculated i c s) v = valued s (program_step (taken_by i) (count_of s) c v)
valued (indexed h t s) v = valued s (row_step (count_of s) h t v)

-- 8 where there is no space, then 9 for a wrong count of components, then the answer
unfoldable pub answered : Space → List ℤ → Reply
answered s cs =
    cond (eqb (count_of s) 0) (refusal 8 0)
    (cond (eqb (length cs) (count_of s)) (valued s (started places cs)) (refusal 9 0))
