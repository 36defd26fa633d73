use Rattle.std.proofs.Common.{◌≡◌, Option, Some, subst}
use Rattle.std.specs.Prelude.{IfSome}
use Rattle.hierarchy.specs.Shapes.{IsResolved}
use Rattle.dalvik_lookups.specs.Accepting.{IsAccepted}
use Rattle.dalvik_lookups.proofs.Facing.{right_face}
use Rattle.dalvik_lookups.proofs.lookups.Lookups.new.Goals as goal

there : {X : Type 0} (o : Option X) (P : X → Type 0) (x : X) → o ≡ Some x → IfSome o P → P x
there o P x e h = subst (λ q. IfSome q P) e h

pub returns-clause-program : goal.returns-clause-program
returns-clause-program c = c.in_ok-both.ensures.program

pub returns-clause-framework : goal.returns-clause-framework
returns-clause-framework c = c.in_ok-both.ensures.framework

pub returns-clause-outer : goal.returns-clause-outer
returns-clause-outer c = c.in_ok-both.ensures.outer

pub returns-clause-classes : goal.returns-clause-classes
returns-clause-classes c = c.in_ok-both.ensures.classes

pub returns-clause-constructed : goal.returns-clause-constructed
returns-clause-constructed c = c.in_ok-both.ensures.constructed

pub returns-clause-tables : goal.returns-clause-tables
returns-clause-tables c = λ w. c.in_ok-both.ensures.tables w (there c.in_ok-hierarchy.field-0 (IsResolved c.args.program.now) c.in-Some.hierarchy c.in-Some.is (c.in_ok-hierarchy.ensures.resolved w))

pub returns-clause-face : goal.returns-clause-face
returns-clause-face c = λ w. right_face c.in_ok-both.both.0 (c.in_ok-both.ensures.tables w (there c.in_ok-hierarchy.field-0 (IsResolved c.args.program.now) c.in-Some.hierarchy c.in-Some.is (c.in_ok-hierarchy.ensures.resolved w)))

pub returns-clause-plays : goal.returns-clause-plays
returns-clause-plays c = λ w. c.in_ok-both.ensures.plays w

pub returns-clause-accepted : goal.returns-clause-accepted
returns-clause-accepted c = λ w. there c.in_ok-hierarchy.field-0 (λ _. IsAccepted c.args.program.now) c.in-Some.hierarchy c.in-Some.is (c.in_ok-hierarchy.ensures.accepted w)
