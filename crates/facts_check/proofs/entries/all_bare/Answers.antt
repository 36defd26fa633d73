use Rattle.std.proofs.Common.{◌≡◌, ℕ, ◌≤◌, List, refl, subst, get_or}
use Rattle.std.specs.Prelude.{length}
use Rattle.program_model.specs.declared.program.Class.{Class}
use Rattle.program_model.specs.declared.program.Method.{Method}
use Rattle.facts_check.specs.Tables.{AreBare}
use Rattle.facts_check.proofs.Loops.{one_item, all_of}
use Rattle.facts_check.proofs.entries.all_bare.Goals as goal

pub loop-class-preserved : goal.loop-class-preserved
loop-class-preserved c =
    let is : c.class-item.result ≡ get_or c.args.known.now.program.now.classes c.loop-class.class-index c.class-item.result = subst (λ (xs : List Class). c.class-item.result ≡ get_or xs c.loop-class.class-index c.class-item.result) c.as_slice-class-items.ensures c.class-item.is in
    λ known. one_item (λ (i : ℕ) (class : Class). AreBare c.args.known.now class.methods) c.args.known.now.program.now.classes c.loop-class.class-index c.class-item.result is
    (subst (λ (ms : List Method). AreBare c.args.known.now ms) c.as_slice.ensures (c.if-not-are_bare.ensures known refl)) (c.loop-class.invariant known)

pub returns : goal.returns
returns c =
    let long : length c.args.known.now.program.now.classes ≤ c.loop-class.class-index = subst (λ (xs : List Class). length xs ≤ c.loop-class.class-index) c.as_slice-class-items.ensures c.loop-class-test.false in
    λ known e. all_of (λ (i : ℕ) (class : Class). AreBare c.args.known.now class.methods) c.args.known.now.program.now.classes c.loop-class.class-index long (c.loop-class.invariant known)
