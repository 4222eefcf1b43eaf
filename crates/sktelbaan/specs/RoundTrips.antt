-- The round trips of the two functions on one block that C calls, over the 20 numbers and 504 bytes that it has of a record.
use Rattle.std.specs.Prelude.{◌≡◌, List, ℕ, ℤ, length}
use Rattle.std.specs.Int.{w32}
use Rattle.std.proofs.Common.{SFits}
use Rattle.fixed.specs.Values.{value}
use Rattle.layout.specs.Field.{Bytes}
use Rattle.block.specs.Single.{read_number}
use Rattle.c_records.specs.Records.{put_number, put_block, got_numbers, got_bytes}

-- what C has of a record: 20 signed 32-bit numbers and 504 bytes
pub record Passed (numbers : List ℤ) (bytes : List ℕ) : Type 0 where
  pub twenty : length numbers ≡ 20
  pub signed : (k : ℕ) → SFits w32 (value numbers k)
  pub room : length bytes ≡ 504

-- where `bytes` are read, nothing is refused, and what is read is `numbers` and `room`, whatever stood there before
pub record Reads (bytes : List ℕ) (numbers : List ℤ) (room : List ℕ) : Type 0 where
  pub accepted : read_number bytes ≡ 0
  pub same_numbers : (before : List ℤ) → got_numbers bytes before ≡ numbers
  pub same_bytes : (before : List ℕ) → got_bytes bytes before ≡ room

-- where `numbers` and `room` are written into any 512 bytes, nothing is refused, and the bytes are then `bytes`
pub record Writes (numbers : List ℤ) (room bytes : List ℕ) : Type 0 where
  pub accepted : (before : List ℕ) → length before ≡ 512 → put_number numbers room before ≡ 0
  pub same_block : (before : List ℕ) → length before ≡ 512 → put_block numbers room before ≡ bytes

pub record RoundTrips : Type 0 where
  -- a record that is written reads back as the same 20 numbers and 504 bytes
  pub written-reads : (numbers : List ℤ) (room before : List ℕ) → Passed numbers room → put_number numbers room before ≡ 0
      → Reads (put_block numbers room before) numbers room
  -- a block that is read, and written again, is the same 512 bytes
  pub read-writes : (bytes : List ℕ) (numbers : List ℤ) (room : List ℕ) → Bytes bytes → read_number bytes ≡ 0
      → Writes (got_numbers bytes numbers) (got_bytes bytes room) bytes
