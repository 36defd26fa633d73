use Rattle.std.proofs.Common.{◌≡◌, ◌∙◌, ap, length, drop, true, arith}
use Rattle.std.proofs.lemmas.List.{take_at}
use Rattle.std.specs.Prelude.{slice_set}
use Rattle.hierarchy.proofs.Marks.{fair_more, set_size}
use Rattle.hierarchy.proofs.walk.Walk.see.Goals as goal

pub returns-clause-fair : goal.returns-clause-fair
returns-clause-fair c = λ f.
    let marked : c.turn.new.marks ≡ slice_set c.args.self.now.seen.items c.args.class true = c.turn.ensures ∙ ap (λ l. slice_set l c.args.class true) c.as_mut_slice.ensures.value in
    let size : length c.turn.new.marks ≡ length c.args.self.now.seen.items = ap length marked ∙ set_size c.args.self.now.seen.items c.args.class true in
    let ok = c.args.self.now.seen.ok in
    let whole : length c.turn.new.marks ≡ c.args.self.now.seen.len = omega (arith, size, ok) in
    record { listed = fair_more c.args.self.now.list.items c.push.new.self.items c.args.self.now.seen.items _ c.args.class c.in_ok-push.ensures.items (take_at c.turn.new.marks (drop (length c.turn.new.marks) c.args.self.now.seen.items) c.args.self.now.seen.len whole ∙ marked) f.listed }
