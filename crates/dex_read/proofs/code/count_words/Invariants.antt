use Rattle.std.proofs.Common.{◌≡◌, take, sum_by}
use Rattle.program_model.specs.Cells.{capped}
use Rattle.program_model.specs.MemberRules.{words_of}
use Rattle.dex_read.proofs.code.count_words.Given as goal

abbrev pub invariant-loop-kind : goal.invariant-loop-kind
invariant-loop-kind l = l.total ≡ capped (sum_by (words_of l.source.program.now) (take l.kind-index l.parameters))
