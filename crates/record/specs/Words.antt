-- Document 01, "little-endian": numbers of 16 and of 32 bits as bytes, low byte first.
-- Assumes nothing.
use Rattle.std.specs.Prelude.{ℕ, ◌+◌, ◌*◌, ◌/◌, ◌%◌, ◌^◌, ◌<◌, List, [], ◌∷◌, get_or}

-- the bytes of a number
abbrev pub bytes16 : ℕ → List ℕ
bytes16 n = n % 256 ∷ n / 256 % 256 ∷ []

abbrev pub bytes32 : ℕ → List ℕ
bytes32 n = n % 256 ∷ n / 256 % 256 ∷ n / 256 / 256 % 256 ∷ n / 256 / 256 / 256 % 256 ∷ []

-- the number of some bytes
abbrev pub le16 : ℕ → ℕ → ℕ
le16 a b = a + 256 * b

abbrev pub le32 : ℕ → ℕ → ℕ → ℕ → ℕ
le32 a b c d = a + 256 * b + 65536 * c + 16777216 * d

-- the byte, and the number of 16 or of 32 bits, that stands at a place of a slice
abbrev pub byte_at : List ℕ → ℕ → ℕ
byte_at s k = get_or s k 0

abbrev pub word_at : List ℕ → ℕ → ℕ
word_at s k = le16 (byte_at s k) (byte_at s (k + 1))

abbrev pub long_at : List ℕ → ℕ → ℕ
long_at s k = le32 (byte_at s k) (byte_at s (k + 1)) (byte_at s (k + 2)) (byte_at s (k + 3))

-- every element is a byte, as in every slice of bytes in code
abbrev pub Bytes : List ℕ → Type 0
Bytes s = (k : ℕ) → byte_at s k < 2 ^ 8
