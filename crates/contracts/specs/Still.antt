-- What a still picture is held to: a frame of the same machine that has just begun.
-- Assumes nothing.
use Rattle.std.specs.Prelude.{false}
use Rattle.bus.specs.World.{World}
use Rattle.bus.specs.Time.{rewound}

-- a fresh frame from what a machine holds: clock 0, "painted to 0", the beam "back to the start", not blocked; RAM, 7FFD byte, phase, colours,
-- passed frames and all pixels as they stand
abbrev pub fresh_frame : World → World
fresh_frame w =
    record {
      core = record { clock = 0; passed = w.core.passed; phase = w.core.phase; paging = w.core.paging; reported = w.core.reported; ram = w.core.ram };
      screen = rewound w.screen;
      edge = record { colour = w.edge.colour; blocked = false; pairs = 0; pixels = w.edge.pixels };
    }
