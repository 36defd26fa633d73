use Rattle.std.proofs.Common.{◌≡◌, drop, None}
use Rattle.verify.specs.Frames.{kinds_of}
use Rattle.verify.specs.Reads.{refused_from}
use Rattle.verify.proofs.setting.Setting.refused_arguments.Given as goal

abbrev pub invariant-loop-kind : goal.invariant-loop-kind
invariant-loop-kind l =
    refused_from l.self (kinds_of l.frame).registers l.refused (drop l.kind-index l.kinds) l.rest
    ≡ refused_from l.self (kinds_of l.frame).registers None l.kinds l.arguments
