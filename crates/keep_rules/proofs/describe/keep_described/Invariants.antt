use Rattle.std.proofs.Common.{◌≡◌, drop, length}
use Rattle.std.specs.List.{list_any}
use Rattle.program_model.specs.declared.program.Class.{Class}
use Rattle.keep_rules.specs.Grown.{Left}
use Rattle.keep_rules.specs.View.{IsReady}
use Rattle.keep_rules.specs.Described.{class_names}
use Rattle.keep_rules.proofs.describe.keep_described.Given as goal

abbrev pub invariant-loop-class : goal.invariant-loop-class
invariant-loop-class l = IsReady l.view → length l.initial.classes.items ≡ length l.view.program.now.types
    → Left (λ n. list_any (λ (c : Class). class_names l.view.program.now l.fields l.methods c n) (drop l.class-index l.view.program.now.classes)) (λ n. list_any (λ (c : Class). class_names l.view.program.now l.fields l.methods c n) l.view.program.now.classes) l.initial.classes.items l.classes.items
