-- The invariant: what the digits passed say, and that it is small. Assumes nothing.
use Rattle.std.proofs.Common.{◌≡◌, ◌<◌, ◌≤◌, take}
use Rattle.sheet_lines.specs.Fields.{number_behind}
use Rattle.sheet_lines.proofs.number.Given as goal

abbrev pub invariant-loop-digit : goal.invariant-loop-digit
invariant-loop-digit l = record {
  said : l.n ≡ number_behind 0 (take l.digit-index l.digits);
  none : l.digit-index ≡ 0 → l.n ≡ 0;
  one : l.digit-index ≤ 1 → l.n < 256;
  two : l.digit-index ≤ 2 → l.n < 2816;
  three : l.n < 28416;
}
