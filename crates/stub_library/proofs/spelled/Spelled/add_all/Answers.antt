use Rattle.std.proofs.Common.{◌∙◌, ◌+◌, ◌<◌, refl, sym, subst, length, arith}
use Rattle.hierarchy.specs.Naming.{IsNamed}
use Rattle.stub_library.specs.Spelling.{SpelledTo}
use Rattle.stub_library.proofs.Spells.{spelled_all}
use Rattle.stub_library.proofs.spelled.Spelled.add_all.Goals as goal

pub loop-number-init : goal.loop-number-init
loop-number-init c = record { same = refl; so_far = c.requires.none }

pub add_new-requires-clause-named : goal.add_new-requires-clause-named
add_new-requires-clause-named c = subst (λ p. IsNamed p c.args.hierarchy.now.named) (sym c.loop-number.invariant.same) c.requires.named

pub add_new-requires-clause-within : goal.add_new-requires-clause-within
add_new-requires-clause-within c =
    let lt = c.loop-number-test.true in
    let all = c.requires.counted in
    subst (λ p. c.loop-number.number < length p.methods) (sym c.loop-number.invariant.same) (omega (arith, lt, all))

pub add_new-requires-clause-so_far : goal.add_new-requires-clause-so_far
add_new-requires-clause-so_far c = subst (λ p. SpelledTo p c.args.hierarchy.now c.loop-number.seen c.loop-number.self c.loop-number.number) (sym c.loop-number.invariant.same) c.loop-number.invariant.so_far

pub loop-number-preserved : goal.loop-number-preserved
loop-number-preserved c =
    let i = c.loop-number.invariant in
    record {
      same = c.in_ok-add_new.ensures.program ∙ i.same;
      so_far = subst (λ p. SpelledTo p c.args.hierarchy.now c.add_new.new.seen c.add_new.new.self (c.loop-number.number + 1)) i.same c.in_ok-add_new.ensures;
    }

pub returns : goal.returns
returns c =
    let le = c.loop-number-test.false in
    let all = c.requires.counted in
    spelled_all c.args.self.now.program.now c.args.hierarchy.now c.requires.named c.loop-number.seen c.loop-number.self c.loop-number.number (omega (arith, le, all)) c.loop-number.invariant.so_far
