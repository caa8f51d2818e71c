-- Document 01's masks are the address lines that they name: each class of ports, bit by bit, at every number.
-- Assumes nothing.
use Prim.Native.Nat.{ℕ, ◌%◌}
use mathlib.Core.Path.{◌≡◌, refl, sym, ap, ◌∙◌}
use mathlib.Core.Bool.{Bool, true, false, not, ◌&&◌}
use native.Mathlib.Nat.{div-one}
use lib.Dec.{eqb, lit<}
use Rattle.laws.proofs.Masks.{matches}
use Rattle.ports.specs.Order.{even_port, buttons_port, x_port, y_port, class_c000, class8000, joystick_port, paging_port}
use Rattle.ports.specs.Pages.{is_set, ula_lines, paging_lines, select_lines, data_lines}
use Rattle.ports.proofs.Bits.{bit_off}

-- a law's tests come lowest bit first, and the pages name the highest line first
two : (a b : Bool) → (a && (b && true)) ≡ (b && a)
two true true = refl
two true false = refl
two false true = refl
two false false = refl

three : (a b c : Bool) → (a && (b && (c && true))) ≡ (c && b && a)
three true true true = refl
three true true false = refl
three true false true = refl
three true false false = refl
three false true true = refl
three false true false = refl
three false false true = refl
three false false false = refl

four : (a b c d : Bool) → (a && (b && (c && (d && true)))) ≡ (d && c && b && a)
four true b c d = three b c d ∙ last (d && c && b) where
  last : (x : Bool) → x ≡ (x && true)
  last true = refl
  last false = refl
four false b c d = none (d && c && b) where
  none : (x : Bool) → false ≡ (x && false)
  none true = refl
  none false = refl

module _ (port : ℕ) where
  -- an even port: A0 reset
  pub even_lines : even_port port ≡ ula_lines port
  even_lines = ap (λ (x : ℕ). eqb (x % 2) 0) (sym (div-one port)) ∙ bit_off 0 port

  -- & C002h = C000h: A15 and A14 set, A1 reset
  pub select_lines_lem : class_c000 port ≡ select_lines port
  select_lines_lem = rw (matches port 0xC002 0xC000 (lit< tt), bit_off 1 port) (three (not (is_set 1 port)) (is_set 14 port) (is_set 15 port))

  -- & C002h = 8000h: A15 set, A14 and A1 reset
  pub data_lines_lem : class8000 port ≡ data_lines port
  data_lines_lem = rw (matches port 0xC002 0x8000 (lit< tt), bit_off 1 port, bit_off 14 port) (three (not (is_set 1 port)) (not (is_set 14 port)) (is_set 15 port))

  -- & 8002h = 0: A15 and A1 reset
  pub paging_lines_lem : paging_port port ≡ paging_lines port
  paging_lines_lem = rw (matches port 0x8002 0 (lit< tt), bit_off 1 port, bit_off 15 port) (two (not (is_set 1 port)) (not (is_set 15 port)))

  -- & 00E0h = 0: A7, A6 and A5 reset
  pub joystick_lines : joystick_port port ≡ (not (is_set 7 port) && not (is_set 6 port) && not (is_set 5 port))
  joystick_lines =
      rw (matches port 0x00E0 0 (lit< tt), bit_off 5 port, bit_off 6 port, bit_off 7 port)
      (three (not (is_set 5 port)) (not (is_set 6 port)) (not (is_set 7 port)))

  -- & 0121h = 0001h: A8 and A5 reset, A0 set
  pub buttons_lines : buttons_port port ≡ (not (is_set 8 port) && not (is_set 5 port) && is_set 0 port)
  buttons_lines =
      rw (matches port 0x0121 0x0001 (lit< tt), bit_off 5 port, bit_off 8 port)
      (three (is_set 0 port) (not (is_set 5 port)) (not (is_set 8 port)))

  -- & 0521h = 0101h: A10 reset, A8 set, A5 reset, A0 set
  pub x_lines : x_port port ≡ (not (is_set 10 port) && is_set 8 port && not (is_set 5 port) && is_set 0 port)
  x_lines =
      rw (matches port 0x0521 0x0101 (lit< tt), bit_off 5 port, bit_off 10 port)
      (four (is_set 0 port) (not (is_set 5 port)) (is_set 8 port) (not (is_set 10 port)))

  -- & 0521h = 0501h: A10 and A8 set, A5 reset, A0 set
  pub y_lines : y_port port ≡ (is_set 10 port && is_set 8 port && not (is_set 5 port) && is_set 0 port)
  y_lines =
      rw (matches port 0x0521 0x0501 (lit< tt), bit_off 5 port)
      (four (is_set 0 port) (not (is_set 5 port)) (is_set 8 port) (is_set 10 port))
