use Rattle.std.proofs.Common.{◌∙◌, cond, subst, sym}
use Rattle.std.specs.Prelude.{OnOk}
use Rattle.static_protos.specs.Growing.{IsGrown}
use Rattle.static_protos.specs.Tables.{with_new}
use Rattle.static_protos.proofs.tables.Additions.add.Goals as goal

pub returns-then-not-has_room : goal.returns-then-not-has_room
returns-then-not-has_room c = λ p t g.
    let r = c.in_ok-room.ensures p t g in
    subst (λ b. IsGrown p (cond b (with_new t c.args.wanted) t) c.args.self.now) (sym c.if-not-has_room.true ∙ c.has_room.ensures p t g r.0 r.1) g

pub returns : goal.returns
returns c = λ p t g.
    let r = c.in_ok-room.ensures p t g in
    let has = sym (c.has_room.ensures p t g r.0 r.1) ∙ c.if-not-has_room.false in
    subst (λ b. OnOk c.append.result (IsGrown p (cond b (with_new t c.args.wanted) t) c.append.new.self)) (sym has) (c.append.ensures p t g r.0 r.1 has)
