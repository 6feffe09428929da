-- The status of a refusal whose code is known by its range.
--   stops_with-program  a program's text: 3
--   stops_with-device   a device's text: 4
use Rattle.std.proofs.Common.{◌≡◌, ◌≤◌, ◌<◌, ℕ, arith}
use Rattle.route_report.specs.Refusals.{stops_with}

pub stops_with-program : (code : ℕ) → code < 50 → stops_with code ≡ 3
stops_with-program code below = grind arith

pub stops_with-device : (code : ℕ) → 50 ≤ code → code ≤ 57 → stops_with code ≡ 4
stops_with-device code from to = grind arith
