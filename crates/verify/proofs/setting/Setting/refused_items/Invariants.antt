use Rattle.std.proofs.Common.{◌≡◌, drop, None}
use Rattle.verify.specs.Frames.{kinds_of}
use Rattle.verify.specs.Reads.{refused_items_from}
use Rattle.verify.proofs.setting.Setting.refused_items.Given as goal

abbrev pub invariant-loop-register : goal.invariant-loop-register
invariant-loop-register l =
    refused_items_from l.self (kinds_of l.frame).registers l.refused l.kind (drop l.register-index l.arguments)
    ≡ refused_items_from l.self (kinds_of l.frame).registers None l.kind l.arguments
