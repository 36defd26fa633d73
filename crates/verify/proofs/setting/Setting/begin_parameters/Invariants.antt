use Rattle.std.proofs.Common.{◌≡◌, drop}
use Rattle.verify.specs.Entry.{begun_from}
use Rattle.verify.specs.Frames.{kinds_of}
use Rattle.verify.proofs.setting.Setting.begin_parameters.Given as goal

abbrev pub invariant-loop-kind : goal.invariant-loop-kind
invariant-loop-kind l = record {
  registers : begun_from l.self.tables.now (drop l.kind-index l.kinds) l.at (kinds_of l.frame).registers ≡ begun_from l.self.tables.now l.kinds l.first (kinds_of l.fn.frame).registers;
  rest : kinds_of l.frame ≡ record (kinds_of l.fn.frame) { registers = (kinds_of l.frame).registers };
}
