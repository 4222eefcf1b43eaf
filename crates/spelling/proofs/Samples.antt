-- One space of each family, spelled out, is read into its page: every step of that is computed or follows from `reads-back`.
use mathlib.Core.Path.{◌≡◌, refl}
use mathlib.Core.List.{List, [], ◌∷◌}
use Prim.Native.Nat.{◌≤◌}
use native.Mathlib.Omega.{arith}
use lib.IntN.{ℤ, pos, negsuc}
use lib.ListN.{length}
use Rattle.fixed.specs.Bytes.{two_bytes, four_bytes, number_at}
use Rattle.fixed.specs.Loops.{total, all_from, zero_between, first_from}
use Rattle.fixed.specs.Numbers.{gamma_supported}
use Rattle.layout.specs.Field.{padded}
use Rattle.record.specs.Layout.{head_of, plain, weighed, checked, block_of}
use Rattle.record.specs.Reading.{body_by, name_is}
use Rattle.record.specs.Rules.{well_laid, name_shown, well_formed, lawful, supported, white_point, black_point, ordered, none_zero, name_fits, palette_ends, entries_end, lawful_in, names_lawful}
use Rattle.record.specs.declared.types.Triple.{Triple}
use Rattle.digits.specs.Digits.{digits_in, digits}
use Rattle.lexical.specs.Chars.{white, delimiter, regular}
use Rattle.objects.specs.Objects.{name_byte, last_digits, decimal, bare}
use Rattle.space.specs.Pages.{device_of, plain_of, ink_of, tinted_of}
use Rattle.page.specs.Outcomes.{accepted}
use Rattle.runs.specs.Runs.{refers_to, permitted, within, palettes, run_filled, program_fault, used_entries, unused_zero, palette_claimed, claimed_after, claimed_at, well_filled}
use Rattle.page.specs.Validation.{well_sized, fault_one, fault_claimed, fault_two, validated}
use Rattle.reader.specs.Texts.{text_of, page}
use Rattle.spelling.specs.Spaces.{Space, device, device_rgb, device_cmyk, cal_gray, cal_rgb, lab, indexed, separation, all_blocks, InkFits, Fitting, AllFitting, spelled, page_of}
use Rattle.spelling.proofs.ReadsBack.{page-length, reads-back}

abbrev triple : ℤ → ℤ → ℤ → Triple
triple x y z = record { x = x; y = y; z = z }

abbrev d65 : Triple
d65 = triple (pos 950500) (pos 1000000) (pos 1089000)

abbrev none : Triple
none = triple (pos 0) (pos 0) (pos 0)

-- a gray of gamma 1.8
abbrev gray : Space
gray = cal_gray (record { white = d65; black = none; gamma = pos 1800000 })

-- [/CalGray <</WhitePoint [0.950500 1.000000 1.089000 ]/BlackPoint [0.000000 0.000000 0.000000 ]/Gamma 1.800000 >>]
pub gray-text : spelled (gray ∷ []) ≡ 91 ∷ 47 ∷ 67 ∷ 97 ∷ 108 ∷ 71 ∷ 114 ∷ 97 ∷ 121 ∷ 32 ∷ 60 ∷ 60 ∷ 47 ∷ 87 ∷ 104 ∷ 105 ∷ 116 ∷ 101 ∷ 80 ∷ 111 ∷ 105 ∷ 110 ∷ 116 ∷ 32 ∷ 91 ∷ 48 ∷ 46 ∷ 57 ∷ 53 ∷ 48 ∷ 53 ∷ 48 ∷ 48 ∷ 32 ∷ 49 ∷ 46 ∷ 48 ∷ 48 ∷ 48 ∷ 48 ∷ 48 ∷ 48 ∷ 32 ∷ 49 ∷ 46 ∷ 48 ∷ 56 ∷ 57 ∷ 48 ∷ 48 ∷ 48 ∷ 32 ∷ 93 ∷ 47 ∷ 66 ∷ 108 ∷ 97 ∷ 99 ∷ 107 ∷ 80 ∷ 111 ∷ 105 ∷ 110 ∷ 116 ∷ 32 ∷ 91 ∷ 48 ∷ 46 ∷ 48 ∷ 48 ∷ 48 ∷ 48 ∷ 48 ∷ 48 ∷ 32 ∷ 48 ∷ 46 ∷ 48 ∷ 48 ∷ 48 ∷ 48 ∷ 48 ∷ 48 ∷ 32 ∷ 48 ∷ 46 ∷ 48 ∷ 48 ∷ 48 ∷ 48 ∷ 48 ∷ 48 ∷ 32 ∷ 93 ∷ 47 ∷ 71 ∷ 97 ∷ 109 ∷ 109 ∷ 97 ∷ 32 ∷ 49 ∷ 46 ∷ 56 ∷ 48 ∷ 48 ∷ 48 ∷ 48 ∷ 48 ∷ 32 ∷ 62 ∷ 62 ∷ 93 ∷ []
unfolding spelled bare name_byte decimal last_digits digits digits_in regular white delimiter
gray-text = refl

-- an RGB space of gamma 2.2
abbrev screen : Space
screen =
    cal_rgb
    (record {
      white = d65;
      black = none;
      gammas = triple (pos 2200000) (pos 2200000) (pos 2200000);
      a = triple (pos 412400) (pos 212600) (pos 19300);
      b = triple (pos 357600) (pos 715200) (pos 119200);
      c = triple (pos 180500) (pos 72200) (pos 950500);
    })

-- Lab of -100 to 100
abbrev cloth : Space
cloth =
    lab (record { white = d65; black = none; range = record { amin = negsuc 99999999; amax = pos 100000000; bmin = negsuc 99999999; bmax = pos 100000000 } })

-- the ink Sea Blue, over DeviceCMYK
abbrev sea : Space
sea =
    separation (83 ∷ 101 ∷ 97 ∷ 32 ∷ 66 ∷ 108 ∷ 117 ∷ 101 ∷ []) (device device_cmyk) 1 (pos 0 ∷ pos 0 ∷ pos 0 ∷ pos 0 ∷ [])
    (pos 950000 ∷ pos 620000 ∷ pos 345678 ∷ pos 1 ∷ [])

-- two colours of DeviceRGB
abbrev chart : Space
chart = indexed (device device_rgb) 1 (0 ∷ 64 ∷ 128 ∷ 255 ∷ 255 ∷ 255 ∷ [])

-- two tints of that ink over Lab: a space in a space in a space
abbrev tints : Space
tints =
    indexed (separation (83 ∷ 101 ∷ 97 ∷ []) cloth 2 (pos 100000000 ∷ pos 0 ∷ pos 0 ∷ []) (pos 32500000 ∷ pos 5250000 ∷ negsuc 41749999 ∷ [])) 1
    (0 ∷ 255 ∷ [])

abbrev samples : List Space
samples = gray ∷ screen ∷ cloth ∷ sea ∷ chart ∷ tints ∷ []

-- ---- each of them is a space that validation accepts

abbrev Accepted : List Space → Type 0
Accepted [] = Unit
Accepted (t ∷ ts) = (validated (page_of (t ∷ [])) ≡ accepted) × Accepted ts

all-accepted : Accepted samples
unfolding page_of block_of head_of two_bytes four_bytes padded validated well_sized fault_one fault_two fault_claimed claimed_at claimed_after palette_claimed permitted refers_to within palettes run_filled program_fault used_entries unused_zero well_filled checked plain weighed body_by well_laid name_shown name_fits none_zero well_formed lawful lawful_in names_lawful supported white_point black_point ordered palette_ends entries_end gamma_supported number_at total all_from zero_between first_from device_of tinted_of ink_of name_is plain_of
all-accepted = (refl, (refl, (refl, (refl, (refl, (refl, tt))))))

-- ---- and reads back

abbrev Fit : List Space → Type 0
Fit [] = Unit
Fit (t ∷ ts) = AllFitting (t ∷ []) × (length (page_of (t ∷ [])) ≤ 2048) × Fit ts

abbrev Read : List Space → Type 0
Read [] = Unit
Read (t ∷ ts) = (text_of 2048 (spelled (t ∷ [])) ≡ page (page_of (t ∷ []))) × Read ts

each_read : (ts : List Space) → Accepted ts → Fit ts → Read ts
each_read [] ok fits = tt
each_read (t ∷ ts) ok fits = (reads-back.back (t ∷ []) 2048 fits.0 ok.0 fits.1, each_read ts ok.1 fits.2)

-- their pages are of four blocks at the most
short : (ts : List Space) → all_blocks ts ≤ 4 → length (page_of ts) ≤ 2048
short ts h = omega (arith, page-length ts)

sea-fits : InkFits 4 (83 ∷ 101 ∷ 97 ∷ 32 ∷ 66 ∷ 108 ∷ 117 ∷ 101 ∷ []) 1 (pos 0 ∷ pos 0 ∷ pos 0 ∷ pos 0 ∷ []) (pos 950000 ∷ pos 620000 ∷ pos 345678 ∷ pos 1 ∷ [])
sea-fits =
    record {
      some = omega arith;
      few = omega arith;
      bytes = refl;
      least = omega arith;
      most = omega arith;
      from = refl;
      to = refl;
      froms = (refl, (refl, (refl, (refl, tt))));
      tos = (refl, (refl, (refl, (refl, tt))));
    }

lab-fits : InkFits 3 (83 ∷ 101 ∷ 97 ∷ []) 2 (pos 100000000 ∷ pos 0 ∷ pos 0 ∷ []) (pos 32500000 ∷ pos 5250000 ∷ negsuc 41749999 ∷ [])
lab-fits =
    record {
      some = omega arith;
      few = omega arith;
      bytes = refl;
      least = omega arith;
      most = omega arith;
      from = refl;
      to = refl;
      froms = (refl, (refl, (refl, tt)));
      tos = (refl, (refl, (refl, tt)));
    }

cloth-fits : Fitting cloth
cloth-fits = ((refl, (refl, (refl, tt))), (refl, (refl, (refl, tt))), (refl, (refl, (refl, (refl, tt)))))

all_fit : Fit samples
all_fit = (
  (refl, ((refl, (refl, (refl, tt))), (refl, (refl, (refl, tt))), refl), tt),
  short (gray ∷ []) (omega arith),
  (
    (refl, ((refl, (refl, (refl, tt))), (refl, (refl, (refl, tt))), (refl, (refl, (refl, tt))), (refl, (refl, (refl, (refl, (refl, (refl, (refl, (refl, (refl, tt)))))))))), tt),
    short (screen ∷ []) (omega arith),
    (
      (refl, cloth-fits, tt),
      short (cloth ∷ []) (omega arith),
      (
        (refl, (tt, sea-fits), tt),
        short (sea ∷ []) (omega arith),
        (
          (refl, (tt, record { high = omega arith; size = refl; bytes = refl }), tt),
          short (chart ∷ []) (omega arith),
          ((refl, ((cloth-fits, lab-fits), record { high = omega arith; size = refl; bytes = refl }), tt), short (tints ∷ []) (omega arith), tt),
        ),
      ),
    ),
  ),
)

pub samples-read : Read samples
samples-read = each_read samples all-accepted all_fit
