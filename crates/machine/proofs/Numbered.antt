-- Each machine's numbers are regular (specs/Numbers).
-- Assumes nothing.
pub use Rattle.machine.specs.Numbers.{regular}
