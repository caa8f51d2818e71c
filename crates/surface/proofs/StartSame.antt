-- An accepted start of the C surface is the Rust's new controller, with the ROM that the host loads and its beam in the start's colour; with colour 7 it is
-- the new controller itself.
-- Assumes nothing.
use Prim.Native.Nat.{ℕ, zero, suc, ◌≤◌}
use mathlib.Core.Path.{◌≡◌, refl, sym, ap, ◌∙◌, subst}
use mathlib.Core.List.{List}
use native.Mathlib.Omega.{arith}
use borrow.Author.Tests.{ltb-false}
use lib.ListN.{length}
use Rattle.machine.specs.declared.ZXMachine as ours
use Rattle.machine.specs.Numbers.{specs_of}
use Rattle.record.specs.Record.{machine_number, machine_of, start_record}
use Rattle.record.proofs.Round.{start_held}
use Rattle.screen.specs.Colour.{colour_of}
use Rattle.bus.specs.World.{started}
use Rattle.contracts.specs.Timed.{Lent, lent_by, Started, start_colour}
use Rattle.contracts.specs.Calls.{Start, plain_start, colour_start, snapshot_start, asked_machine, first_colour, started_world, started_by}
use Rattle.contracts.proofs.Refusals.{start_numbered, start_colour_numbered, load_sna_numbered}
use Rattle.contracts.proofs.Starts.{start_left, first_small}
use Rattle.rustzx.specs.Machine.{ZXMachine}
use Rattle.rustzx.specs.Colors.{ZXColor, Black, Blue, Red, Purple, Green, Cyan, Yellow, White, color_byte}
use Rattle.rustzx.specs.Controller.{ZXController, new, with_rom, set_beam}
use Rattle.rustzx.specs.Related.{our_machine, Related}
use Rattle.rustzx.proofs.Helpers.{rust_colour, colour_back}
use Rattle.rustzx.proofs.Starts.{beam_related, white_is_new}
use Rattle.rustzx.proofs.EveryState.{every_machine}
use Rattle.surface.specs.Same.{SameLent, SameStart, Clears, SameBeam}

begins : (m : ours.ZXMachine) (z : ZXMachine) → our_machine z ≡ m → (color : ZXColor) (rom : List ℕ) → length rom ≡ (specs_of m).rom
    → Related z rom (with_rom rom (set_beam color (new z))) (started m (color_byte color))
begins m z its color rom long =
    subst (λ (n : ours.ZXMachine). length rom ≡ (specs_of n).rom → Related z rom (with_rom rom (set_beam color (new z))) (started n (color_byte color)))
    its (beam_related z color rom) long

-- a number that a start accepts is a machine's: "machine (0 = 48K, 1 = 128K)"
named : (machine : ℕ) → machine ≤ 1 → machine_number (machine_of machine) ≡ machine
named zero h = refl
named (suc zero) h = refl
named (suc (suc n)) h = absurd (omega arith)

pub known : (how : Start) (l : Lent) → (started_by how l).code ≡ 0 → asked_machine how ≤ 1
known (plain_start machine) l z = ltb-false 1 machine ((start_numbered l machine).zero_by_none z).0
known (colour_start machine colour) l z = ltb-false 1 machine ((start_colour_numbered l machine colour).zero_by_none z).0
known (snapshot_start machine file registers) l z = ltb-false 1 machine ((load_sna_numbered l file registers machine).zero_by_none z).0

-- the Rust's machine of a start that was accepted, and its colour of the first
pub rust_named : (how : Start) (l : Lent) → (started_by how l).code ≡ 0 → machine_number (our_machine (every_machine (machine_of (asked_machine how))).0) ≡ asked_machine how
rust_named how l z = ap machine_number (every_machine (machine_of (asked_machine how))).1 ∙ named (asked_machine how) (known how l z)

pub rust_coloured : (how : Start) (l : Lent) → (started_by how l).code ≡ 0 → color_byte (rust_colour (colour_of (first_colour how))) ≡ first_colour how
rust_coloured how l z = colour_back (first_colour how) (first_small how l z)

-- what the two starts leave, which clear RAM
cleared_world : (how : Start) → Clears how → started_world how ≡ started (machine_of (asked_machine how)) (first_colour how)
cleared_world (plain_start machine) c = refl
cleared_world (colour_start machine colour) c = refl
cleared_world (snapshot_start machine file registers) c = absurd c

-- EITHER START is ZXController::new of the machine that its number names, with the ROM loaded, and then set_border with its colour.
pub beam_held : (how : Start) → Clears how → (l : Lent) (rom : List ℕ) → length rom ≡ (specs_of (machine_of (asked_machine how))).rom → (started_by how l).code ≡ 0
    → SameLent rom (with_rom rom (set_beam (rust_colour (colour_of (first_colour how))) (new (every_machine (machine_of (asked_machine how))).0))) (started_by how l).slices
beam_held how clears l rom long z =
    let m = machine_of (asked_machine how) in
    let first = first_colour how in
    let color = rust_colour (colour_of first) in
    let it = every_machine m in
    subst (SameLent rom (with_rom rom (set_beam color (new it.0)))) (sym (start_left how l z ∙ ap (lent_by m) (cleared_world how clears)))
    (record {
      bus = start_record m first;
      is_held = start_held m first (first_small how l z);
      machine = it.1;
      related = subst (λ (n : ℕ). Related it.0 rom (with_rom rom (set_beam color (new it.0))) (started m n)) (rust_coloured how l z) (begins m it.0 it.1 color rom long);
    })

pub beam_same : (how : Start) → Clears how → (l : Lent) (rom : List ℕ) → length rom ≡ (specs_of (machine_of (asked_machine how))).rom → (started_by how l).code ≡ 0
    → SameBeam (asked_machine how) (first_colour how) rom (started_by how l)
beam_same how clears l rom long z =
    record {
      machine = (every_machine (machine_of (asked_machine how))).0;
      named = rust_named how l z;
      color = rust_colour (colour_of (first_colour how));
      coloured = rust_coloured how l z;
      leaves = beam_held how clears l rom long z;
    }

-- colour 7 is white
pub white_byte : (color : ZXColor) → color_byte color ≡ 7 → color ≡ White
white_byte Black e = absurd (omega arith)
white_byte Blue e = absurd (omega arith)
white_byte Red e = absurd (omega arith)
white_byte Purple e = absurd (omega arith)
white_byte Green e = absurd (omega arith)
white_byte Cyan e = absurd (omega arith)
white_byte Yellow e = absurd (omega arith)
white_byte White e = refl

-- and a new controller whose beam was given it is as it was
pub white_beam : (m : ZXMachine) (color : ZXColor) → color_byte color ≡ 7 → set_beam color (new m) ≡ new m
white_beam m color e = ap (λ (k : ZXColor). set_beam k (new m)) (white_byte color e) ∙ white_is_new m

abbrev pub white_same : (number : ℕ) (rom : List ℕ) (x : Started) → SameBeam number 7 rom x → SameStart number rom x
white_same number rom x s =
    record {
      machine = s.machine;
      named = s.named;
      leaves = subst (λ (c : ZXController). SameLent rom (with_rom rom c) x.slices) (ap (λ (k : ZXColor). set_beam k (new s.machine)) (white_byte s.color s.coloured) ∙ white_is_new s.machine) s.leaves;
    }

-- ULB_START_COLOUR WITH 7 is ZXController::new of the machine that its number names, with the ROM loaded.
pub start_same : (l : Lent) (machine : ℕ) (rom : List ℕ) → length rom ≡ (specs_of (machine_of machine)).rom → (start_colour l machine 7).code ≡ 0
    → SameStart machine rom (start_colour l machine 7)
start_same l machine rom long z = white_same machine rom (start_colour l machine 7) (beam_same (colour_start machine 7) tt l rom long z)
