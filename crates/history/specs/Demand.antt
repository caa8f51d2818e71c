-- Demand 3 of the mission, sentence by sentence, of a history: a fresh world, as a start leaves it, and then any list of calls.
-- Assumes nothing.
use Rattle.std.specs.Prelude.{ℕ, ◌+◌, ◌*◌, ◌<◌, cond, ◌≡◌, List, [], ◌∷◌, ◌++◌, ltb, eqb, length, get_or, take, drop}
use Rattle.machine.specs.declared.ZXMachine.{ZXMachine}
use Rattle.machine.specs.Numbers.{specs_of}
use Rattle.machine.specs.Limits.{picture_length, border_length}
use Rattle.border.specs.Edge.{Edge}
use Rattle.bus.specs.World.{Core, World}
use Rattle.bus.specs.Time.{Op, shown_picture, hidden_picture, world_after}
use Rattle.judgement.specs.Answers.{number_length}
use Rattle.contracts.specs.Timed.{lent_by}
use Rattle.contracts.specs.Plain.{Told, shown_told}
use Rattle.contracts.specs.Map.{number_in}
use Rattle.contracts.specs.Calls.{ops_of, Made, Each}
use Rattle.history.specs.Log.{Log, Shot, follow, film, blank, last_at, drawn, border_colour, newest, older, border_of, AllShow, Chained, Ended}
use Rattle.history.specs.Reports.{reported_closed, Sums, summed, PortTakes}

-- the operations of a call: a refused one has none. By its type the log of a history reads no picture, no border and no painted count.
abbrev pub operations : ZXMachine → Made → Core → List Op
operations m c core = cond (eqb c.result.code 0) (ops_of m c.call core) []

-- the history of a list of calls: the world, the log, and what memory held as each frame closed
pub record History : Type 0 where
  pub world : World
  pub log : Log
  pub shots : List Shot

unfoldable pub gone_on : ZXMachine → Made → History → History
gone_on m c h =
    let os = operations m c h.world.core in
    record {
      world = world_after m os h.world;
      log = follow m os h.world.core h.log;
      shots = film m os h.world h.shots;
    }

unfoldable pub history_from : ZXMachine → List Made → History → History
history_from m [] h = h
history_from m (c ∷ cs) h = history_from m cs (gone_on m c h)

-- "after a start": the world that it left, whose beam has the first colour
abbrev pub at_start : World → History
at_start w = record { world = w; log = blank w.edge.colour; shots = [] }

abbrev pub history : ZXMachine → World → List Made → History
history m w cs = history_from m cs (at_start w)

-- the machine's buffers, and what was reported, over the same calls: bytes alone
abbrev pub bytes_after : ZXMachine → World → List Made → Sums
bytes_after m w cs = summed cs (record { slices = lent_by m w; clocks = 0; blocks = 0; closed = 0 })

-- what the last of these calls reports as closed
abbrev pub last_closed : List Made → ℕ
last_closed [] = 0
last_closed (c ∷ []) = reported_closed c
last_closed (c ∷ d ∷ cs) = last_closed (d ∷ cs)

-- the call that asks for the shown picture is accepted, and from the number on that it tells, of A with B behind it, stands this one
abbrev pub Names : Told → List ℕ → List ℕ → Type 0
Names t both picture = (t.code ≡ 0) × (take picture_length (drop (number_in t.answer) both) ≡ picture)

-- how far the border of the frame under way is painted
abbrev pub painted_to : Edge → ℕ
painted_to e = cond e.blocked border_length (2 * e.pairs)

-- DEMAND 3, of the calls cs on a machine m that begins with the world w: h is their history, s the bytes and sums over the same calls.
pub record Demand3 (m : ZXMachine) (w : World) (cs : List Made) (h : History) (s : Sums) : Type 0 where
  -- the buffers hold the history's world, byte for byte
  pub slices : s.slices ≡ lent_by m h.world
  -- "frame closed 0/1" in the answers counts the completed frames
  pub closed : s.closed ≡ length h.log.done
  -- "Clocks reported sum to all completed frames' clocks plus the frame clock."
  pub clocks : s.clocks ≡ length h.log.done * (specs_of m).frame + h.world.core.clock
  -- "Blocks reported sum to 6,144 per completed frame plus the current frame's position at its last catch-up (0 before its first)."
  pub blocks : s.blocks ≡ length h.log.done * 6144 + last_at h.log.current.sights
  -- "Each completed frame has painted each of its 6,144 blocks once, in raster order, with the bytes, shown page and flash held when its
  -- catch-up reached it; each border pixel has the colour last written at or before it"
  pub frames : AllShow h.shots h.log.done
  -- "the start's colour being the first"
  pub colours : Chained w.edge.colour h.log.current h.log.done
  -- after a call that reports a closed frame: picture and border in memory are that frame's, and nothing of the next one's border is painted
  pub ended : last_closed cs ≡ 1 → Ended h.world h.log.done
  -- after any call: the part that `ulb_shown_picture` names holds the newest completed frame
  pub named : (answer : List ℕ) → length answer ≡ number_length
      → Names (shown_told s.slices.state s.slices.a s.slices.b answer) (s.slices.a ++ s.slices.b) (newest h.log.done)
  -- between calls: the shown picture is the newest completed frame's
  pub shown : shown_picture h.world.core h.world.screen ≡ newest h.log.done
  -- the hidden picture: what this frame has drawn, and behind it the frame before the newest
  pub hidden : hidden_picture h.world.core h.world.screen
      ≡ drawn h.log.current.sights ++ drop (8 * last_at h.log.current.sights) (older h.log.done)
  -- the border: this frame's as far as it is painted, and behind that the newest completed frame's
  pub border : (pixel : ℕ) → pixel < border_length
      → get_or h.world.edge.pixels pixel 0
      ≡ cond (ltb pixel (painted_to h.world.edge)) (border_colour pixel h.log.current.enter h.log.current.inks) (border_of h.log.done pixel)
  -- "No accepted port call takes under 4 or over 16 clocks."
  pub ports : Each (λ c. PortTakes c.call c) cs
