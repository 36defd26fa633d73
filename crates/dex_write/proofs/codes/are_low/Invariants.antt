use Rattle.std.proofs.Common.{◌≡◌, ◌<◌, ◌^◌, drop}
use Rattle.std.specs.List.{AllByRecursion}
use Rattle.dex_write.specs.Codes.{are_low}
use Rattle.dex_write.proofs.codes.are_low.Given as goal

abbrev pub invariant-loop-line : goal.invariant-loop-line
invariant-loop-line l = record {
  is : are_low (drop l.line-index l.lines) ≡ are_low l.lines;
  rest : AllByRecursion (λ x. x < 2 ^ 31) (drop l.line-index l.lines) → AllByRecursion (λ x. x < 2 ^ 31) l.lines;
}
