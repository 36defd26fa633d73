use Rattle.std.proofs.Common.{◌≡◌, ◌++◌, drop}
use Rattle.dex_write.specs.Data.{methods_text}
use Rattle.dex_write.proofs.classes.push_methods.Given as goal

abbrev pub invariant-loop-method : goal.invariant-loop-method
invariant-loop-method l = l.out.items ++ methods_text l.class l.before l.next (drop l.method-index l.methods) ≡ l.fn.out.items ++ methods_text l.class 0 l.at l.methods
