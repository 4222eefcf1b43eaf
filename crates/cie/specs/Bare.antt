-- Closing steps that have no numbers, which evaluating and running close alike. Inner functions alone promise in these words.
use Rattle.cie.specs.declared.Closing.{Closing}
use Rattle.cie.specs.declared.Closing.TheVariants.{Nothing, Gray, Rgb, Cmyk, CalGray, CalRgb, Lab, NoMark, EveryInk}

-- a closing step that has no numbers, as it is; in place of any other that of no space
unfoldable pub bare_of : Closing → Closing
bare_of Nothing = Nothing
bare_of Gray = Gray
bare_of Rgb = Rgb
bare_of Cmyk = Cmyk
bare_of (CalGray k) = Nothing
bare_of (CalRgb k) = Nothing
bare_of (Lab k) = Nothing
bare_of NoMark = NoMark
bare_of EveryInk = EveryInk
