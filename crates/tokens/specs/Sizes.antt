-- The lengths of the lists that are lent. The limit of a page's blocks is `blocks` of FORMAT.md; all others follow from it.
use Rattle.std.specs.Prelude.{◌≡◌, ℕ, ◌*◌}
use Rattle.fixed.specs.Bytes.{blocks}
use Rattle.lexer.specs.Scans.{longest}
use Rattle.reader.specs.Kept.{ring}

-- the numbers of a dictionary; a name or string; brackets and names of the open spaces; brackets and bytes of the blocks
pub record Sizes (values word marks names opens page : ℕ) : Type 0 where
  pub v : values ≡ 30
  pub w : word ≡ longest
  pub m : marks ≡ ring
  pub n : names ≡ 128 * ring
  pub o : opens ≡ blocks
  pub p : page ≡ 512 * blocks
