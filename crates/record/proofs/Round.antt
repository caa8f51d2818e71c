-- Record and bytes are two views of one thing: each sound record is what its bytes stand for, sound bytes are the bytes of their record, and
-- a slice is held as a record exactly when it is the bytes of that sound record.
-- Assumes nothing.
use Prim.Native.Nat.{ℕ, zero, suc, ◌+◌, ◌/◌, ◌%◌, ◌^◌, ◌<◌}
use mathlib.Core.Path.{◌≡◌, refl, sym, ap, ◌∙◌}
use mathlib.Core.List.{List, [], ◌∷◌, ◌++◌}
use mathlib.Core.Bool.{Bool, true, false, cond, ◌&&◌}
use native.Mathlib.Omega.{arith}
use borrow.Author.Tests.{ltb-true, eqb-true}
use lib.Dec.{eqb, ltb}
use lib.ListN.{length, replicate}
use Rattle.std.specs.Prelude.{Ok, Err}
use Rattle.laws.proofs.Cases.{and_left, and_right}
use Rattle.laws.proofs.Conjunction.{each}
use Rattle.laws.proofs.Spelled.{elements, spelled}
use Rattle.laws.proofs.Words.{word_back, long_back, word_low, word_high, long_1, long_2, long_3, long_4}
use Rattle.machine.specs.declared.ZXMachine.{ZXMachine}
use Rattle.machine.specs.declared.ZXMachine.TheVariants.{Sinclair48K, Sinclair128K}
use Rattle.machine.specs.Numbers.{specs_of}
use Rattle.machine.proofs.Numbered.{regular}
use Rattle.machine.proofs.Bounds.{position_small}
use Rattle.machine.proofs.Rising.{border_small}
use Rattle.record.specs.declared.Bus.{Bus}
use Rattle.record.specs.declared.BadRecord.TheVariants.{WrongLength, Unsound}
use Rattle.record.specs.Words.{byte_at, word_at, long_at, Bytes}
use Rattle.record.specs.Record.{machine_number, machine_of, flag_byte, record_bytes, record_length, advanced, record_of, version_at, machine_at, clock_at, passed_at, painted_at, blocked_at, pairs_at, marked, codes_in_range, sound_bus, sound_bytes, held_by, fresh_record, start_record}
use Rattle.record.specs.Sound.{Sound}
use Rattle.record.proofs.Soundness.{sound_facts, facts_sound, start_sound}

-- the fields fit the widths that document 01 gives them, as those of every record in code do
pub record Fitting (b : Bus) : Type 0 where
  pub clock : b.clock < 2 ^ 32
  pub passed : b.passed < 2 ^ 32
  pub phase : b.phase < 2 ^ 8
  pub painted : b.painted < 2 ^ 16
  pub paging : b.paging < 2 ^ 8
  pub reported : b.reported < 2 ^ 8
  pub colour : b.colour < 2 ^ 8
  pub pairs : b.pairs < 2 ^ 16

-- The fields of a sound record fit.
pub sound_fits : (b : Bus) → Sound b → Fitting b
sound_fits b f =
    let s = specs_of b.machine in
    record {
      clock = omega (arith, f.clock, (regular b.machine).short);
      passed = omega (arith, f.passed);
      phase = omega (arith, f.phase);
      painted = omega (arith, f.painted, position_small s b.clock);
      paging = f.paging;
      reported = omega (arith, f.reported);
      colour = omega (arith, f.colour);
      pairs = omega (arith, f.pairs, border_small s b.clock);
    }

machine_back : (m : ZXMachine) → machine_of (machine_number m) ≡ m
machine_back Sinclair48K = refl
machine_back Sinclair128K = refl

flag_back : (t : Bool) → eqb (flag_byte t) 1 ≡ t
flag_back true = refl
flag_back false = refl

-- Decoding what was encoded gives the record back.
pub decode_encode : (b : Bus) → Fitting b → record_of (record_bytes b) ≡ b
decode_encode b f =
    rw (
      machine_back b.machine,
      long_back b.clock f.clock,
      long_back b.passed f.passed,
      word_back b.painted f.painted,
      flag_back b.blocked,
      word_back b.pairs f.pairs,
    )

-- In particular each sound record.
pub decode_encode_sound : (b : Bus) → sound_bus b ≡ true → record_of (record_bytes b) ≡ b
decode_encode_sound b t = decode_encode b (sound_fits b (sound_facts b t))

-- Two different sound records never have the same bytes.
pub encode_injective : (a b : Bus) → sound_bus a ≡ true → sound_bus b ≡ true → record_bytes a ≡ record_bytes b → a ≡ b
encode_injective a b s t e = sym (decode_encode_sound a s) ∙ ap record_of e ∙ decode_encode_sound b t

-- A record has 23 bytes.
pub record_length_lem : (b : Bus) → length (record_bytes b) ≡ record_length
record_length_lem b = refl

machine_small : (m : ZXMachine) → ltb (machine_number m) 2 ≡ true
machine_small Sinclair48K = refl
machine_small Sinclair128K = refl

flag_small : (t : Bool) → ltb (flag_byte t) 2 ≡ true
flag_small true = refl
flag_small false = refl

-- The bytes of a record are sound exactly when the record is.
pub sound_encode : (b : Bus) → Fitting b → sound_bytes (record_bytes b) ≡ sound_bus b
unfolding sound_bytes
sound_encode b f = rw (machine_small b.machine, flag_small b.blocked) (ap sound_bus (decode_encode b f))

-- The bytes of a sound record are held as that record.
pub held_encode : (b : Bus) → sound_bus b ≡ true → held_by (record_bytes b) ≡ Ok b
unfolding held_by
held_encode b t =
    rw (sound_encode b (sound_fits b (sound_facts b t)), t, decode_encode_sound b t)

abbrev AllBytes : List ℕ → Type 0
AllBytes [] = Unit {0}
AllBytes (x ∷ xs) = (x < 2 ^ 8) × AllBytes xs

each_byte : (s : List ℕ) → AllBytes s → Bytes s
each_byte [] h k = omega arith
each_byte (x ∷ xs) h zero = h.0
each_byte (x ∷ xs) h (suc k) = each_byte xs h.1 k

machine_byte : (m : ZXMachine) → machine_number m < 2 ^ 8
machine_byte Sinclair48K = omega arith
machine_byte Sinclair128K = omega arith

flag_byte_lem : (t : Bool) → flag_byte t < 2 ^ 8
flag_byte_lem true = omega arith
flag_byte_lem false = omega arith

-- What is encoded are bytes.
pub encode_bytes : (b : Bus) → Fitting b → Bytes (record_bytes b)
encode_bytes b f = each_byte (record_bytes b) (omega (arith, machine_byte b.machine, flag_byte_lem b.blocked))

number_back : (n : ℕ) → n < 2 → machine_number (machine_of n) ≡ n
number_back zero h = refl
number_back (suc zero) h = refl
number_back (suc (suc n)) h = absurd (omega arith)

byte_back : (n : ℕ) → n < 2 → flag_byte (eqb n 1) ≡ n
byte_back zero h = refl
byte_back (suc zero) h = refl
byte_back (suc (suc n)) h = absurd (omega arith)

-- the tests of sound bytes, in their order, behind the first one
abbrev later : List ℕ → List Bool
later s =
    eqb (byte_at s 1) 76
    ∷ eqb (byte_at s 2) 66
    ∷ eqb (word_at s version_at) 1
    ∷ codes_in_range s
    ∷ sound_bus (record_of s)
    ∷ []

-- the bytes of the number that stands at a place, each by itself
module _ (s : List ℕ) (h : Bytes s) (k : ℕ) where
  word_1 : word_at s k % 256 ≡ byte_at s k
  word_1 = word_low (byte_at s k) (byte_at s (k + 1)) (h k)

  word_2 : word_at s k / 256 % 256 ≡ byte_at s (k + 1)
  word_2 = word_high (byte_at s k) (byte_at s (k + 1)) (h k) (h (k + 1))

  byte_1 : long_at s k % 256 ≡ byte_at s k
  byte_1 = long_1 (byte_at s k) (byte_at s (k + 1)) (byte_at s (k + 2)) (byte_at s (k + 3)) (h k) (h (k + 1)) (h (k + 2)) (h (k + 3))

  byte_2 : long_at s k / 256 % 256 ≡ byte_at s (k + 1)
  byte_2 = long_2 (byte_at s k) (byte_at s (k + 1)) (byte_at s (k + 2)) (byte_at s (k + 3)) (h k) (h (k + 1)) (h (k + 2)) (h (k + 3))

  byte_3 : long_at s k / 256 / 256 % 256 ≡ byte_at s (k + 2)
  byte_3 = long_3 (byte_at s k) (byte_at s (k + 1)) (byte_at s (k + 2)) (byte_at s (k + 3)) (h k) (h (k + 1)) (h (k + 2)) (h (k + 3))

  byte_4 : long_at s k / 256 / 256 / 256 % 256 ≡ byte_at s (k + 3)
  byte_4 = long_4 (byte_at s k) (byte_at s (k + 1)) (byte_at s (k + 2)) (byte_at s (k + 3)) (h k) (h (k + 1)) (h (k + 2)) (h (k + 3))

-- Encoding what was decoded gives the bytes back, if they are sound.
pub encode_decode : (s : List ℕ) → length s ≡ record_length → Bytes s → sound_bytes s ≡ true → record_bytes (record_of s) ≡ s
unfolding sound_bytes
encode_decode s l h t =
    let test = each (eqb (byte_at s 0) 85) (later s) t in
    let version = eqb-true (word_at s version_at) 1 (test 3) in
    let low : byte_at s 3 ≡ 1 = omega (arith, version, h 3, h 4) in
    let high : byte_at s 4 ≡ 0 = omega (arith, version, h 3, h 4) in
    let m = number_back (byte_at s machine_at) (ltb-true (byte_at s machine_at) 2 (and_left _ (ltb (byte_at s blocked_at) 2) (test 4))) in
    let k = byte_back (byte_at s blocked_at) (ltb-true (byte_at s blocked_at) 2 (and_right (ltb (byte_at s machine_at) 2) _ (test 4))) in
    let same : record_bytes (record_of s) ≡ elements record_length 0 s
    = rw (
      eqb-true (byte_at s 0) 85 (test 0),
      eqb-true (byte_at s 1) 76 (test 1),
      eqb-true (byte_at s 2) 66 (test 2),
      low,
      high,
      m,
      byte_1 s h clock_at,
      byte_2 s h clock_at,
      byte_3 s h clock_at,
      byte_4 s h clock_at,
      byte_1 s h passed_at,
      byte_2 s h passed_at,
      byte_3 s h passed_at,
      byte_4 s h passed_at,
      word_1 s h painted_at,
      word_2 s h painted_at,
      k,
      word_1 s h pairs_at,
      word_2 s h pairs_at,
    ) in
    same ∙ spelled record_length s l

held_if : (l t : Bool) (a b : Bus) → cond l (cond t (Ok a) (Err Unsound)) (Err WrongLength) ≡ Ok b → (l ≡ true) × (t ≡ true) × (a ≡ b)
held_if true true a b e = (refl, refl, cc)
held_if true false a b e = let z : ◌≡◌ {A = ℕ} 0 1 = cc in absurd (omega (arith, z))
held_if false t a b e = let z : ◌≡◌ {A = ℕ} 0 1 = cc in absurd (omega (arith, z))

-- What a slice is held as: the record that its 23 sound bytes stand for, and no other.
pub held_decode : (s : List ℕ) (b : Bus) → held_by s ≡ Ok b → (length s ≡ record_length) × (sound_bytes s ≡ true) × (record_of s ≡ b)
unfolding held_by
held_decode s b e =
    let h = held_if (eqb (length s) record_length) (sound_bytes s) (record_of s) b e in
    (eqb-true (length s) record_length h.0, h.1, h.2)

-- A record that is held is sound.
pub held_sound : (s : List ℕ) (b : Bus) → held_by s ≡ Ok b → sound_bus b ≡ true
unfolding sound_bytes
held_sound s b e =
    let h = held_decode s b e in
    ap sound_bus (sym h.2) ∙ and_right (marked s && codes_in_range s) (sound_bus (record_of s)) h.1

-- A slice that is held as a record is that record's bytes.
pub held_bytes : (s : List ℕ) (b : Bus) → Bytes s → held_by s ≡ Ok b → record_bytes b ≡ s
held_bytes s b h e =
    let d = held_decode s b e in
    ap record_bytes (sym d.2) ∙ encode_decode s d.0 h d.1

-- a record of zeros but for mark, version, machine and the beam's colour, byte by byte
pub start_bytes : (m : ZXMachine) (colour : ℕ)
    → record_bytes (start_record m colour) ≡ (85 ∷ 76 ∷ 66 ∷ 1 ∷ 0 ∷ machine_number m ∷ []) ++ replicate 13 0 ++ (colour ∷ []) ++ replicate 3 0
start_bytes m colour = refl

-- A fresh record that is written is held as that record; so is a start's.
pub fresh_held : (m : ZXMachine) (paging reported colour : ℕ) → Sound (fresh_record m paging reported colour)
    → held_by (record_bytes (fresh_record m paging reported colour)) ≡ Ok (fresh_record m paging reported colour)
fresh_held m paging reported colour f = held_encode (fresh_record m paging reported colour) (facts_sound (fresh_record m paging reported colour) f)

pub start_held : (m : ZXMachine) (colour : ℕ) → colour < 8 → held_by (record_bytes (start_record m colour)) ≡ Ok (start_record m colour)
start_held m colour h = held_encode (start_record m colour) (start_sound m colour h)

-- ---- the bytes of a record that has moved on

-- a record with another clock and other painted blocks
abbrev pub moved_to : Bus → ℕ → ℕ → Bus
moved_to b clock painted =
    record {
      machine = b.machine;
      clock = clock;
      passed = b.passed;
      phase = b.phase;
      painted = painted;
      paging = b.paging;
      reported = b.reported;
      colour = b.colour;
      blocked = b.blocked;
      pairs = b.pairs;
    }

-- Writing the two into a record's bytes makes them the bytes of the record so moved.
pub advanced_bytes : (b : Bus) (clock painted : ℕ) → advanced (record_bytes b) clock painted ≡ record_bytes (moved_to b clock painted)
unfolding advanced
advanced_bytes b clock painted = refl
