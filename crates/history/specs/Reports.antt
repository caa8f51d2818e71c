-- What the calls of a list report: clocks, blocks and closed frames, their sums, and the clocks of port calls.
-- Assumes nothing.
use Rattle.std.specs.Prelude.{ℕ, ◌+◌, ◌≤◌, cond, List, [], ◌∷◌, ◌≡◌, eqb}
use Rattle.record.specs.Words.{byte_at, word_at, long_at}
use Rattle.contracts.specs.Timed.{Lent}
use Rattle.contracts.specs.Calls.{plain, mreq, no_mreq, port_in, port_out, Call, start_again, take_time, write_byte, write_paging, reset_passed, load_ram, load_screen, ask, Made, buffers_after}

-- "Clocks reported", "Blocks reported": those of the answer's bytes, of an accepted timed call; no other call reports any
abbrev pub reported : (List ℕ → ℕ) → Call → ℕ → List ℕ → ℕ
reported f (start_again how) code filled = 0
reported f (take_time t answer) code filled = cond (eqb code 0) (f filled) 0
reported f (write_byte addr value) code filled = 0
reported f (write_paging value answer) code filled = 0
reported f reset_passed code filled = 0
reported f (load_ram bytes page) code filled = 0
reported f (load_screen file page) code filled = 0
reported f (ask q out) code filled = 0

abbrev pub reported_clocks : Made → ℕ
reported_clocks c = reported (λ answer. long_at answer 4) c.call c.result.code c.result.filled

abbrev pub reported_blocks : Made → ℕ
reported_blocks c = reported (λ answer. word_at answer 8) c.call c.result.code c.result.filled

abbrev pub reported_closed : Made → ℕ
reported_closed c = reported (λ answer. byte_at answer 2) c.call c.result.code c.result.filled

-- the buffers after a list of calls, and the sums of what was reported
pub record Sums : Type 0 where
  pub slices : Lent
  pub clocks : ℕ
  pub blocks : ℕ
  pub closed : ℕ

abbrev pub counted : Made → Sums → Sums
counted c s =
    record {
      slices = buffers_after c s.slices;
      clocks = s.clocks + reported_clocks c;
      blocks = s.blocks + reported_blocks c;
      closed = s.closed + reported_closed c;
    }

unfoldable pub summed : List Made → Sums → Sums
summed [] s = s
summed (c ∷ cs) s = summed cs (counted c s)

-- "No accepted port call takes under 4 or over 16 clocks."
abbrev pub FourToSixteen : Made → Type 0
FourToSixteen c = c.result.code ≡ 0 → (4 ≤ reported_clocks c) × (reported_clocks c ≤ 16)

abbrev pub PortTakes : Call → Made → Type 0
PortTakes (start_again how) c = Unit {0}
PortTakes (take_time (plain n) answer) c = Unit {0}
PortTakes (take_time (mreq addr n) answer) c = Unit {0}
PortTakes (take_time (no_mreq addr n) answer) c = Unit {0}
PortTakes (take_time (port_in devices port) answer) c = FourToSixteen c
PortTakes (take_time (port_out devices port value) answer) c = FourToSixteen c
PortTakes (write_byte addr value) c = Unit {0}
PortTakes (write_paging value answer) c = Unit {0}
PortTakes reset_passed c = Unit {0}
PortTakes (load_ram bytes page) c = Unit {0}
PortTakes (load_screen file page) c = Unit {0}
PortTakes (ask q out) c = Unit {0}
