use Rattle.std.proofs.Common.{rules, ◌≡◌, ◌∙◌, [], ap, sym}
use Rattle.std.specs.Prelude.{All}
use Rattle.std.specs.Option.{option_copied}
use Rattle.devirt.specs.Asked.{IsBinding, ReboundWell, table_of}
use Rattle.devirt.specs.Rebound.{IsRecalledAt, typed_edits}
use Rattle.devirt.proofs.Judged.{closed_well, ok_both, open_well}
use Rattle.devirt.proofs.pass.RebindingRewriting.edits.Goals as goal

pub returns-then-not-is_any_open : goal.returns-then-not-is_any_open
returns-then-not-is_any_open c =
    let e : c.new.result.items ≡ [] = search rules in
    closed_well c.args.self.now c.args.at c.args.method.now c.args.body.now c.new.result.items e (λ b. sym (c.is_any_open.ensures b) ∙ c.if-not-is_any_open.true) c.requires

pub returns : goal.returns
returns c =
    let s = c.args.self.now in
    let p = s.binder.finder.program.now in
    let h = s.binder.finder.hierarchy.now in
    let at = c.args.at in
    let m = c.args.method.now in
    let b = c.args.body.now in
    let t = table_of c.in_ok-typings.typings in
    ok_both c.typed_edits.result (λ v. All (IsRecalledAt b) v.items) (λ v. v.items ≡ typed_edits p s.facts.now at.class m.name b (table_of (option_copied c.as_ref.result))) (λ v. ReboundWell p h s.facts.now at m b v.items) (IsBinding s.binder)
    (λ v a e. open_well s at m b t v.items a (λ y. sym (c.is_any_open.ensures y) ∙ c.if-not-is_any_open.false)
    (λ y. e y ∙ ap (λ o. typed_edits p s.facts.now at.class m.name b (table_of o)) c.as_ref.ensures.value) c.in_ok-typings.ensures c.requires)
    c.typed_edits.ensures.calls c.typed_edits.ensures.is
