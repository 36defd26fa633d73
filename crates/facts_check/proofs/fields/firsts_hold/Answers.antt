use Rattle.std.proofs.Common.{◌≡◌, ℕ, ◌≤◌, List, refl, subst, get_or}
use Rattle.std.specs.Prelude.{length}
use Rattle.program_model.specs.declared.program.Class.{Class}
use Rattle.program_model.specs.declared.program.Field.{Field}
use Rattle.facts_check.specs.Tables.{AreHeld}
use Rattle.facts_check.proofs.Loops.{one_item, all_of}
use Rattle.facts_check.proofs.fields.firsts_hold.Goals as goal

pub loop-class-preserved : goal.loop-class-preserved
loop-class-preserved c =
    let is : c.class-item.result ≡ get_or c.args.known.now.program.now.classes c.loop-class.class-index c.class-item.result = subst (λ (xs : List Class). c.class-item.result ≡ get_or xs c.loop-class.class-index c.class-item.result) c.as_slice-class-items.ensures c.class-item.is in
    one_item (λ (i : ℕ) (class : Class). AreHeld c.args.known.now class.fields) c.args.known.now.program.now.classes c.loop-class.class-index c.class-item.result is
    (subst (λ (fs : List Field). AreHeld c.args.known.now fs) c.as_slice.ensures (c.if-not-are_held.ensures refl)) c.loop-class.invariant

pub returns : goal.returns
returns c =
    let long : length c.args.known.now.program.now.classes ≤ c.loop-class.class-index = subst (λ (xs : List Class). length xs ≤ c.loop-class.class-index) c.as_slice-class-items.ensures c.loop-class-test.false in
    λ e. all_of (λ (i : ℕ) (class : Class). AreHeld c.args.known.now class.fields) c.args.known.now.program.now.classes c.loop-class.class-index long c.loop-class.invariant
