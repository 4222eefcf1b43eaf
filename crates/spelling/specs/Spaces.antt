-- A space with those inside it; from it the text that a designer may send (ISO 32000-1, 8.6), and the records that a page has for it (FORMAT.md).
use Rattle.std.specs.Prelude.{ℕ, zero, suc, ◌+◌, ◌*◌, ◌≤◌, ◌≡◌, Bool, true, false, List, [], ◌∷◌, ◌++◌, ℤ, length, drop}
use Rattle.fixed.specs.Bytes.{gray_code, rgb_code, cmyk_code}
use Rattle.fixed.specs.Values.{value}
use Rattle.layout.specs.Field.{padded}
use Rattle.record.specs.Layout.{room, block_of}
use Rattle.record.specs.declared.types.Triple.{Triple}
use Rattle.record.specs.declared.types.Ranges.{Ranges}
use Rattle.record.specs.declared.types.Four.{Four}
use Rattle.record.specs.declared.types.CalGray.{CalGray as GraySpace}
use Rattle.record.specs.declared.types.CalRgb.{CalRgb as RgbSpace}
use Rattle.record.specs.declared.types.Lab.{Lab as LabSpace}
use Rattle.record.specs.declared.types.Body.{Body}
use Rattle.record.specs.declared.types.Body.TheVariants.{CalGray, CalRgb, Lab, Indexed, Separation, Palette}
use Rattle.record.specs.declared.types.Record.{Record}
use Rattle.runs.specs.Runs.{run_length}
use Rattle.objects.specs.Objects.{Object, name, text, number, whole, opens, closes, begins, ends, each, written, bytes_from, small}
use Rattle.spelling.specs.Names.{the_cal_gray, the_cal_rgb, the_lab, the_indexed, the_separation, the_device_gray, the_device_rgb, the_device_cmyk, the_white_point, the_black_point, the_gamma, the_matrix, the_range, the_function_type, the_domain, the_c0, the_c1, the_n}

-- the device spaces
pub data Device : Type 0 where
  device_gray : Device
  device_rgb : Device
  device_cmyk : Device

-- A device space stands only inside another. The CIE-based ones are their records' numbers; an Indexed space has its base, hival and palette; a Separation
-- its ink's name, its alternate, and the N, C0 and C1 of its function.
pub data Space : Type 0 where
  device : Device → Space
  cal_gray : GraySpace → Space
  cal_rgb : RgbSpace → Space
  lab : LabSpace → Space
  indexed : Space → ℕ → List ℕ → Space
  separation : List ℕ → Space → ℕ → List ℤ → List ℤ → Space

-- ---- the text, as in [/CalGray <</WhitePoint [0.950500 1.000000 1.089000 ]/BlackPoint [0.000000 0.000000 0.000000 ]/Gamma 1.800000 >>]

-- a device space is a bare name
abbrev pub device_name : Device → List ℕ
device_name device_gray = the_device_gray
device_name device_rgb = the_device_rgb
device_name device_cmyk = the_device_cmyk

-- numbers, before further objects
abbrev pub numbers : List ℤ → List Object → List Object
numbers [] rest = rest
numbers (z ∷ zs) rest = number z ∷ numbers zs rest

-- an entry whose value is an array of numbers
abbrev pub entry : List ℕ → List ℤ → List Object → List Object
entry key zs rest = name key ∷ opens ∷ numbers zs (closes ∷ rest)

-- a point, or three gammas
abbrev pub three : Triple → List ℤ
three t = t.x ∷ t.y ∷ t.z ∷ []

-- Lab's Range
abbrev pub four : Ranges → List ℤ
four q = q.amin ∷ q.amax ∷ q.bmin ∷ q.bmax ∷ []

-- CalRGB's Matrix: XA YA ZA, XB YB ZB, XC YC ZC
abbrev pub nine : RgbSpace → List ℤ
nine g = three g.a ++ (three g.b ++ three g.c)

-- the objects of a space, before further ones: each family's array as the clause has it, a function being a direct Type 2 dictionary
abbrev pub objects : Space → List Object → List Object
objects (device d) rest = name (device_name d) ∷ rest
objects (cal_gray g) rest =
    opens ∷ name the_cal_gray ∷ begins
    ∷ entry the_white_point (three g.white)
    (entry the_black_point (three g.black) (name the_gamma ∷ number g.gamma ∷ ends ∷ closes ∷ rest))
objects (cal_rgb g) rest =
    opens ∷ name the_cal_rgb ∷ begins
    ∷ entry the_white_point (three g.white)
    (entry the_black_point (three g.black) (entry the_gamma (three g.gammas) (entry the_matrix (nine g) (ends ∷ closes ∷ rest))))
objects (lab g) rest =
    opens ∷ name the_lab ∷ begins
    ∷ entry the_white_point (three g.white) (entry the_black_point (three g.black) (entry the_range (four g.range) (ends ∷ closes ∷ rest)))
objects (indexed base hival palette) rest =
    opens ∷ name the_indexed ∷ objects base (whole hival ∷ text palette ∷ closes ∷ rest)
objects (separation ink alternate n c₀ c₁) rest =
    opens ∷ name the_separation ∷ name ink
    ∷ objects alternate
    (begins ∷ name the_function_type ∷ whole 2 ∷ name the_domain ∷ opens ∷ whole 0 ∷ whole 1 ∷ closes
    ∷ entry the_c0 c₀ (entry the_c1 c₁ (name the_n ∷ whole n ∷ ends ∷ closes ∷ rest)))

-- and of several, one after the other
abbrev pub all_objects : List Space → List Object
all_objects [] = []
all_objects (t ∷ ts) = objects t (all_objects ts)

-- their text
unfoldable pub spelled : List Space → List ℕ
spelled ts = each written (all_objects ts)

-- ---- the records

-- how many components a space has
abbrev pub components_of : Space → ℕ
components_of (device device_gray) = 1
components_of (device device_rgb) = 3
components_of (device device_cmyk) = 4
components_of (cal_gray g) = 1
components_of (cal_rgb g) = 3
components_of (lab g) = 3
components_of (indexed base hival palette) = 1
components_of (separation ink alternate n c₀ c₁) = 1

-- how many blocks it takes with those inside it: spaces take blocks in order of closing brackets, a palette run straight after its own
abbrev pub blocks_of : Space → ℕ
blocks_of (device d) = 0
blocks_of (cal_gray g) = 1
blocks_of (cal_rgb g) = 1
blocks_of (lab g) = 1
blocks_of (indexed base hival palette) = blocks_of base + (1 + run_length (length palette))
blocks_of (separation ink alternate n c₀ c₁) = blocks_of alternate + 1

-- what refers to it, where its blocks are numbered from n on: its device code, or the number of its own block
abbrev pub code_of : ℕ → Space → ℕ
code_of n (device device_gray) = gray_code
code_of n (device device_rgb) = rgb_code
code_of n (device device_cmyk) = cmyk_code
code_of n (cal_gray g) = n
code_of n (cal_rgb g) = n
code_of n (lab g) = n
code_of n (indexed base hival palette) = n + blocks_of base
code_of n (separation ink alternate e c₀ c₁) = n + blocks_of alternate

-- a record with these bytes in its room, and zeros after them
abbrev pub record_with : ℕ → Body → List ℕ → Record
record_with own body bytes = record { own = own; body = body; bytes = padded room bytes }

-- a palette in k blocks
abbrev pub palettes : ℕ → ℕ → List ℕ → List Record
palettes own zero w = []
palettes own (suc k) w = record_with own Palette w ∷ palettes (own + 1) k (drop room w)

-- C0 or C1 as a record has them: 0 past those that are given
abbrev pub four_of : List ℤ → Four
four_of c = record { a = value c 0; b = value c 1; c = value c 2; d = value c 3 }

-- the records of a space, numbered from n on
abbrev pub records_of : ℕ → Space → List Record
records_of n (device d) = []
records_of n (cal_gray g) = record_with n (CalGray g) [] ∷ []
records_of n (cal_rgb g) = record_with n (CalRgb g) [] ∷ []
records_of n (lab g) = record_with n (Lab g) [] ∷ []
records_of n (indexed base hival palette) =
    records_of n base
    ++ (record_with (n + blocks_of base) (Indexed (code_of n base) hival) []
    ∷ palettes (n + blocks_of base + 1) (run_length (length palette)) palette)
records_of n (separation ink alternate e c₀ c₁) =
    records_of n alternate
    ++ (record_with (n + blocks_of alternate)
    (Separation (record { alternate = code_of n alternate; exponent = e; name_len = length ink; c0 = four_of c₀; c1 = four_of c₁ })) ink
    ∷ [])

-- and of several
abbrev pub all_records : ℕ → List Space → List Record
all_records n [] = []
all_records n (t ∷ ts) = records_of n t ++ all_records (n + blocks_of t) ts

-- how many there are
abbrev pub all_blocks : List Space → ℕ
all_blocks [] = 0
all_blocks (t ∷ ts) = blocks_of t + all_blocks ts

-- their page, where the text has nothing else
unfoldable pub page_of : List Space → List ℕ
page_of ts = each block_of (all_records 0 ts)

-- ---- which spaces can be spelled: those whose entries have the form that the clause gives them

-- numbers of 32 bits
abbrev pub AllSmall : List ℤ → Type 0
AllSmall [] = Unit
AllSmall (z ∷ zs) = (small z ≡ true) × AllSmall zs

-- a palette of m (hival + 1) bytes, with hival of 0..255
pub record PaletteFits (m hival : ℕ) (palette : List ℕ) : Type 0 where
  pub high : hival ≤ 255
  pub size : length palette ≡ m * (hival + 1)
  pub bytes : bytes_from 0 palette ≡ true

-- an ink's name of 1 to 127 bytes, none of them 0; N of 1..4; m numbers in C0 and in C1
pub record InkFits (m : ℕ) (ink : List ℕ) (n : ℕ) (c₀ c₁ : List ℤ) : Type 0 where
  pub some : 1 ≤ length ink
  pub few : length ink ≤ 127
  pub bytes : bytes_from 1 ink ≡ true
  pub least : 1 ≤ n
  pub most : n ≤ 4
  pub from : length c₀ ≡ m
  pub to : length c₁ ≡ m
  pub froms : AllSmall c₀
  pub tos : AllSmall c₁

-- all entries of a space, and of those inside it
abbrev pub Fitting : Space → Type 0
Fitting (device d) = Unit
Fitting (cal_gray g) = AllSmall (three g.white) × AllSmall (three g.black) × (small g.gamma ≡ true)
Fitting (cal_rgb g) = AllSmall (three g.white) × AllSmall (three g.black) × AllSmall (three g.gammas) × AllSmall (nine g)
Fitting (lab g) = AllSmall (three g.white) × AllSmall (three g.black) × AllSmall (four g.range)
Fitting (indexed base hival palette) = Fitting base × PaletteFits (components_of base) hival palette
Fitting (separation ink alternate n c₀ c₁) = Fitting alternate × InkFits (components_of alternate) ink n c₀ c₁

-- an array: any but a device space, which stands only inside another
abbrev pub is_array : Space → Bool
is_array (device d) = false
is_array (cal_gray g) = true
is_array (cal_rgb g) = true
is_array (lab g) = true
is_array (indexed base hival palette) = true
is_array (separation ink alternate n c₀ c₁) = true

-- several spaces, at the outermost level of a text
abbrev pub AllFitting : List Space → Type 0
AllFitting [] = Unit
AllFitting (t ∷ ts) = (is_array t ≡ true) × Fitting t × AllFitting ts
