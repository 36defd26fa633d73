use Rattle.std.proofs.Common.{◌∙◌}
use Rattle.static_protos.proofs.Grown.{limits_are}
use Rattle.static_protos.proofs.tables.Additions.keeps_limits.Goals as goal

pub returns : goal.returns
returns c = λ p t g e f.
    c.both.ensures ∙ limits_are p t c.args.self.now c.args.wanted.now g c.args.room.text c.args.room.proto e f c.is_within-units.result c.is_within-items.result c.more_units.result c.more_items.result c.more_units.ensures c.more_items.ensures c.is_within-units.ensures c.is_within-items.ensures
