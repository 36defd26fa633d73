use Rattle.std.proofs.Common.{cond, subst}
use Rattle.std.specs.Prelude.{OnOk}
use Rattle.static_protos.specs.Growing.{IsGrown}
use Rattle.static_protos.specs.Tables.{has_room, with_new}
use Rattle.static_protos.proofs.growth.add_with.Goals as goal

pub returns : goal.returns
returns c = λ t g. subst (λ w. OnOk c.add.result (IsGrown c.args.program.now (cond (has_room c.args.program.now t w) (with_new t w) t) c.add.new.self)) c.in_ok-wanted.ensures (c.add.ensures c.args.program.now t g)
