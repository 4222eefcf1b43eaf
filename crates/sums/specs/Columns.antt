-- A block as 16 rows of 32 bytes, as the code sums it. The format knows no columns: that they come to its check is shown in proofs/Sums.antt.
use Rattle.std.specs.Prelude.{◌≡◌, List, ℕ, ◌+◌, ◌*◌, ◌<◌, ◌≤◌, length, get_or}
use Rattle.fixed.specs.Bytes.{byte_at}
use Rattle.fixed.specs.Loops.{total}

-- column k of block b, down to row m: its bytes summed
abbrev pub down_to : List ℕ → ℕ → ℕ → ℕ
down_to b k m = total (λ j. byte_at b (32 * j + k)) m

-- the whole column
unfoldable pub column_sum : List ℕ → ℕ → ℕ
column_sum b k = down_to b k 16

-- and its sums down to each row, summed
unfoldable pub column_running : List ℕ → ℕ → ℕ
column_running b k = total (λ m. down_to b k (m + 1)) 16

-- after m rows of column k: its sum, its sums down to each row summed, and neither is large
pub record Down (b : List ℕ) (k sum running m : ℕ) : Type 0 where
  pub within : m ≤ 16
  pub sum_is : sum ≡ down_to b k m
  pub running-is : running ≡ total (λ j. down_to b k (j + 1)) m
  pub sum-most : sum ≤ 255 * m
  pub running-most : running ≤ 4080 * m

-- and of each of the 32 columns
pub record DownAll (b sums runnings : List ℕ) (m : ℕ) : Type 0 where
  pub sums-long : length sums ≡ 32
  pub runnings-long : length runnings ≡ 32
  pub column : (k : ℕ) → k < 32 → Down b k (get_or sums k 0) (get_or runnings k 0) m

-- after k columns: their sums summed, their runnings, and each sum as often as its column's place and 4 more; and none is large
pub record Across (b : List ℕ) (sum running over k : ℕ) : Type 0 where
  pub within : k ≤ 32
  pub sum_is : sum ≡ total (λ j. column_sum b j) k
  pub running-is : running ≡ total (λ j. column_running b j) k
  pub over-is : over ≡ total (λ j. (j + 4) * column_sum b j) k
  pub sum-most : sum ≤ 4080 * k
  pub running-most : running ≤ 65280 * k
  pub over-most : over ≤ 146880 * k
