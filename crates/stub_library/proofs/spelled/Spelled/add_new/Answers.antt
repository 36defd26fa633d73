use Rattle.std.proofs.Common.{◌∙◌, sym, ap, true, false}
use Rattle.std.specs.Prelude.{slice_set, slice_index_or}
use Rattle.class_defs.proofs.Positions.{entry_at}
use Rattle.stub_library.proofs.Spells.{spelled_seen, spelled_more, named_more}
use Rattle.stub_library.proofs.spelled.Spelled.add_new.Goals as goal

pub returns-then-is_on : goal.returns-then-is_on
returns-then-is_on c =
    let p = c.args.self.now.program.now in
    let at = entry_at p.methods c.args.number c.requires.within in
    spelled_seen p c.args.hierarchy.now c.args.seen.now c.args.self.now c.args.number at.0 at.1 c.requires.so_far
    (ap (λ k. slice_index_or c.args.seen.now k false) (sym c.key_of_method-key.ensures.table) ∙ sym c.is_on.ensures ∙ c.if-is_on.true)

pub returns : goal.returns
returns c =
    let p = c.args.self.now.program.now in
    let at = entry_at p.methods c.args.number c.requires.within in
    let named = named_more p c.args.self.now.numbers.items c.args.number c.args.self.now.names c.add.new.self.names c.requires.so_far.listed c.in_ok-add.ensures.names in
    spelled_more p c.args.hierarchy.now c.requires.named c.args.seen.now c.turn.new.marks c.args.self.now c.add.new.self c.args.number at.0 at.1 c.requires.so_far
    (c.turn.ensures ∙ ap (λ k. slice_set c.args.seen.now k true) c.key_of_method-key.ensures.table) (ap (λ b. b.now) c.in_ok-add.ensures.program) c.in_ok-add.ensures.numbers named
