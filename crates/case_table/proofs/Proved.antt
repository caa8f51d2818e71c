-- Each row of the table holds: antt computes it.
-- Assumes nothing.
use mathlib.Core.Path.{refl}
use Rattle.machine.specs.Timing.{delay_at, delay_in_line, blocks_at, blocks_from, blocks_capped, border_at, border_from, border_capped}
use Rattle.memory.specs.Paging.{write7ffd}
use Rattle.bus.specs.Time.{in_core}
use Rattle.bus.specs.Turns.{clocks_of, turned, ran, core_after, and_then}
use Rattle.bus.specs.Calls.{delayed, last_part}
use Rattle.case_table.specs.Rows.{rows, answers, AllRight}

pub all_right : AllRight rows
unfolding delay_at delay_in_line blocks_at blocks_from blocks_capped border_at border_from border_capped write7ffd in_core clocks_of turned ran core_after and_then delayed last_part
all_right = (
  refl,
  (
    refl,
    (
      refl,
      (
        refl,
        (
          refl,
          (
            refl,
            (
              refl,
              (
                refl,
                (
                  refl,
                  (
                    (refl, refl),
                    (
                      (refl, refl),
                      (
                        (refl, refl),
                        (
                          (refl, refl),
                          (
                            refl,
                            (
                              (λ passed phase paging reported ram screen edge. refl),
                              (
                                refl,
                                tt,
                              ),
                            ),
                          ),
                        ),
                      ),
                    ),
                  ),
                ),
              ),
            ),
          ),
        ),
      ),
    ),
  ),
)

pub answers_right : AllRight answers
unfolding delay_at delay_in_line
answers_right = (refl, (refl, (refl, (refl, (refl, (refl, (refl, (refl, (refl, (refl, (refl, (refl, tt))))))))))))
