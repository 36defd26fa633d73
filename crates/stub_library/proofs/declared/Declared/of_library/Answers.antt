use Rattle.std.proofs.Common.{◌≡◌, ◌∙◌, sym, ap, subst, length, arith}
use Rattle.std.specs.Prelude.{Some, slice_get, ◌+◌}
use Rattle.stub_library.specs.Meeting.{DeclaredTo}
use Rattle.stub_library.specs.Spelling.{IsSpelled}
use Rattle.stub_library.proofs.Levels.{got_at}
use Rattle.stub_library.proofs.Adding.{declared_first, declared_all}
use Rattle.stub_library.proofs.declared.Declared.of_library.Goals as goal

pub loop-class-init : goal.loop-class-init
loop-class-init c = record {
  same = c.none-declared.ensures.spelled;
  so_far = declared_first c.args.spelled.now.program.now c.args.library.now c.none-declared.result c.none-declared.ensures.library c.none-declared.ensures.numbers c.none-declared.ensures.classes;
}

pub add-requires : goal.add-requires
add-requires c = subst (λ s. IsSpelled s.program.now s) (sym c.loop-class.invariant.same) c.requires

pub loop-class-preserved : goal.loop-class-preserved
loop-class-preserved c =
    let i = c.loop-class.invariant in
    let d = c.loop-class.declared in
    let l = c.args.library.now in
    let so_far : DeclaredTo d.spelled.now.program.now d.library.now d c.loop-class.class-index = subst (λ s. DeclaredTo s.program.now d.library.now d c.loop-class.class-index) (sym i.same)
    (subst (λ l. DeclaredTo c.args.spelled.now.program.now l d c.loop-class.class-index) (sym i.so_far.library) i.so_far) in
    let got : slice_get d.library.now.classes c.loop-class.class-index ≡ Some c.class-item.result = subst (λ l. slice_get l.classes c.loop-class.class-index ≡ Some c.class-item.result) (sym i.so_far.library)
    (subst (λ cs. slice_get cs c.loop-class.class-index ≡ Some c.class-item.result) c.as_slice-class-items.ensures (got_at c.as_slice-class-items.result.now c.loop-class.class-index c.class-item.result c.class-item.result c.class-item.is c.loop-class-test.true)) in
    let step = c.in_ok-add.ensures.more c.loop-class.class-index so_far got in
    record {
      same = ap (λ b. b.now) c.in_ok-add.ensures.same ∙ i.same;
      so_far = subst (λ l. DeclaredTo c.args.spelled.now.program.now l c.add.new.self (c.loop-class.class-index + 1)) i.so_far.library
          (subst (λ s. DeclaredTo s.program.now d.library.now c.add.new.self (c.loop-class.class-index + 1)) i.same step);
    }

pub returns-clause-is : goal.returns-clause-is
returns-clause-is c =
    let le = c.loop-class-test.false in
    let size = ap length c.as_slice-class-items.ensures in
    declared_all c.args.spelled.now.program.now c.args.library.now c.loop-class.declared c.loop-class.class-index (omega (arith, le, size)) (omega (arith, size)) c.loop-class.invariant.so_far

pub returns-clause-spelled : goal.returns-clause-spelled
returns-clause-spelled c = c.loop-class.invariant.same
