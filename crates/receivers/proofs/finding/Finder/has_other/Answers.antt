use Rattle.std.proofs.Common.{ap, ◌∙◌}
use Rattle.std.specs.List.{list_any}
use Rattle.program_model.specs.Lookups.{class_place}
use Rattle.hierarchy.specs.Naming.{definers_of}
use Rattle.receivers.specs.Receiving.{is_other}
use Rattle.receivers.proofs.finding.Finder.has_other.Goals as goal

pub returns : goal.returns
returns c = λ f q n.
    let p = c.args.self.now.program.now in
    c.is_other_among.ensures
    ∙ (ap (list_any (is_other c.place_of-own.result)) (c.definers_of.ensures p q.name q.proto f.resolved.of n.key)
    ∙ ap (λ o. list_any (is_other o) (definers_of p q.name q.proto)) (c.place_of-own.ensures.is p f.resolved.of ∙ ap (class_place p) n.kind))
