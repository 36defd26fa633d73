use Rattle.std.proofs.Common.{◌∙◌, refl, sym, ap, subst, length, replicate, false, arith}
use Rattle.hierarchy.specs.Naming.{IsNamed}
use Rattle.stub_library.specs.Spelling.{IsSpelled, SpelledTo}
use Rattle.stub_library.proofs.Spells.{spelled_none}
use Rattle.stub_library.proofs.spelled.Spelled.of.Goals as goal

pub add_all-requires-clause-counted : goal.add_all-requires-clause-counted
add_all-requires-clause-counted c =
    let small = c.requires.named.method_keys.small in
    let size = c.len-count.ensures in
    c.word.ensures.same (omega (arith, small, size)) ∙ size ∙ sym (ap (λ p. length p.methods) c.none-spelled.ensures.program)

pub add_all-requires-clause-named : goal.add_all-requires-clause-named
add_all-requires-clause-named c = subst (λ p. IsNamed p c.args.hierarchy.now.named) (sym c.none-spelled.ensures.program) c.requires.named

pub add_all-requires-clause-none : goal.add_all-requires-clause-none
add_all-requires-clause-none c =
    let s = c.none-spelled.result in
    spelled_none s.program.now c.args.hierarchy.now c.as_mut_slice.result.now s refl c.none-spelled.ensures.numbers c.none-spelled.ensures.names
    (c.as_mut_slice.ensures.value ∙ c.in_ok-seen.ensures ∙ ap (λ n. replicate n false) (c.len-count.ensures ∙ sym (ap (λ p. length p.methods) c.none-spelled.ensures.program)))

pub returns-clause-is : goal.returns-clause-is
returns-clause-is c = subst (λ p. IsSpelled p c.add_all.new.self) c.none-spelled.ensures.program c.in_ok-add_all.ensures

pub returns-clause-program : goal.returns-clause-program
returns-clause-program c = c.in_ok-add_all.ensures.program ∙ c.none-spelled.ensures.program
