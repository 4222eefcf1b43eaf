-- The names of ISO 32000-1, 8.6 and 7.10.3, as their bytes.
use Rattle.std.specs.Prelude.{ℕ, List, [], ◌∷◌}

-- CalGray
abbrev pub the_cal_gray : List ℕ
the_cal_gray = 67 ∷ 97 ∷ 108 ∷ 71 ∷ 114 ∷ 97 ∷ 121 ∷ []

-- CalRGB
abbrev pub the_cal_rgb : List ℕ
the_cal_rgb = 67 ∷ 97 ∷ 108 ∷ 82 ∷ 71 ∷ 66 ∷ []

-- Lab
abbrev pub the_lab : List ℕ
the_lab = 76 ∷ 97 ∷ 98 ∷ []

-- Indexed
abbrev pub the_indexed : List ℕ
the_indexed = 73 ∷ 110 ∷ 100 ∷ 101 ∷ 120 ∷ 101 ∷ 100 ∷ []

-- Separation
abbrev pub the_separation : List ℕ
the_separation = 83 ∷ 101 ∷ 112 ∷ 97 ∷ 114 ∷ 97 ∷ 116 ∷ 105 ∷ 111 ∷ 110 ∷ []

-- DeviceGray
abbrev pub the_device_gray : List ℕ
the_device_gray = 68 ∷ 101 ∷ 118 ∷ 105 ∷ 99 ∷ 101 ∷ 71 ∷ 114 ∷ 97 ∷ 121 ∷ []

-- DeviceRGB
abbrev pub the_device_rgb : List ℕ
the_device_rgb = 68 ∷ 101 ∷ 118 ∷ 105 ∷ 99 ∷ 101 ∷ 82 ∷ 71 ∷ 66 ∷ []

-- DeviceCMYK
abbrev pub the_device_cmyk : List ℕ
the_device_cmyk = 68 ∷ 101 ∷ 118 ∷ 105 ∷ 99 ∷ 101 ∷ 67 ∷ 77 ∷ 89 ∷ 75 ∷ []

-- WhitePoint
abbrev pub the_white_point : List ℕ
the_white_point = 87 ∷ 104 ∷ 105 ∷ 116 ∷ 101 ∷ 80 ∷ 111 ∷ 105 ∷ 110 ∷ 116 ∷ []

-- BlackPoint
abbrev pub the_black_point : List ℕ
the_black_point = 66 ∷ 108 ∷ 97 ∷ 99 ∷ 107 ∷ 80 ∷ 111 ∷ 105 ∷ 110 ∷ 116 ∷ []

-- Gamma
abbrev pub the_gamma : List ℕ
the_gamma = 71 ∷ 97 ∷ 109 ∷ 109 ∷ 97 ∷ []

-- Matrix
abbrev pub the_matrix : List ℕ
the_matrix = 77 ∷ 97 ∷ 116 ∷ 114 ∷ 105 ∷ 120 ∷ []

-- Range
abbrev pub the_range : List ℕ
the_range = 82 ∷ 97 ∷ 110 ∷ 103 ∷ 101 ∷ []

-- FunctionType
abbrev pub the_function_type : List ℕ
the_function_type = 70 ∷ 117 ∷ 110 ∷ 99 ∷ 116 ∷ 105 ∷ 111 ∷ 110 ∷ 84 ∷ 121 ∷ 112 ∷ 101 ∷ []

-- Domain
abbrev pub the_domain : List ℕ
the_domain = 68 ∷ 111 ∷ 109 ∷ 97 ∷ 105 ∷ 110 ∷ []

-- C0
abbrev pub the_c0 : List ℕ
the_c0 = 67 ∷ 48 ∷ []

-- C1
abbrev pub the_c1 : List ℕ
the_c1 = 67 ∷ 49 ∷ []

-- N
abbrev pub the_n : List ℕ
the_n = 78 ∷ []
