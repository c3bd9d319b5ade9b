-- Bytes put into a lent buffer, one piece behind the other.
use Rattle.std.specs.Prelude.{ℕ, ◌+◌, ◌*◌, ◌≤◌, ◌≡◌, List, ◌++◌, length, take}

-- `bytes` stand behind the first `at` bytes, up to r; each of so many pieces takes 32 bytes at most
pub record Puts (before : List ℕ) (at pieces : ℕ) (bytes after : List ℕ) (r : ℕ) : Type 0 where
  pub bytes-stand : take r after ≡ take at before ++ bytes
  pub ends : r ≤ at + 32 * pieces
  pub same : length after ≡ length before

-- a buffer that begins with the line, of r bytes
pub record Prints (line after : List ℕ) (r : ℕ) : Type 0 where
  pub bytes-stand : take r after ≡ line
  pub within : r ≤ length after
