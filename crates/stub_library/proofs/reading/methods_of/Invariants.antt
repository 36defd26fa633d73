use Rattle.std.proofs.Common.{◌≡◌, take}
use Rattle.stub_library.specs.Stubs.{methods_of}
use Rattle.stub_library.proofs.reading.methods_of.Given as goal

abbrev pub invariant-loop-method : goal.invariant-loop-method
invariant-loop-method l = l.declared.items ≡ methods_of l.program (take l.method-index l.methods)
