use Rattle.std.proofs.Common.{◌≡◌, ◌∙◌, true, sym}
use Rattle.std.proofs.lemmas.Result.{on_ok_weaker}
use Rattle.keep_rules.specs.Fits.{has_field_name}
use Rattle.if_rules.specs.Lists.{lists_of}
use Rattle.if_rules.proofs.Grows.{field_grew, field_known, field_other}
use Rattle.if_rules.proofs.instances.push_field.Goals as goal

pub returns-then-not-fits : goal.returns-then-not-fits
returns-then-not-fits c = λ rs g m names uses lines of at.
    let known : has_field_name c.args.program.now c.args.field.now ≡ true = field_known c.args.program.now c.args.class.now c.args.place c.args.field.now names at in
    field_other c.args.program.now rs c.args.at.now.rule.now c.args.at.now.number c.args.at.now.class c.args.class.now m c.args.place c.args.field.now c.args.out.now.items g lines at (sym (c.in_ok-fits.ensures m known of) ∙ c.if-not-fits.true)

pub returns : goal.returns
returns c = λ rs g m names uses lines of at.
    let known : has_field_name c.args.program.now c.args.field.now ≡ true = field_known c.args.program.now c.args.class.now c.args.place c.args.field.now names at in
    on_ok_weaker c.push_instance.result
    (field_grew c.args.program.now rs c.args.at.now.rule.now c.args.at.now.number c.args.at.now.class c.args.class.now m c.args.place c.args.field.now (record { name = lists_of c.in_ok-name.name.items; line = lists_of c.in_ok-own.own.items })
    c.args.out.now.items c.push_instance.new.out.items g uses lines at (sym (c.in_ok-fits.ensures m known of) ∙ c.if-not-fits.false) (c.in_ok-name.ensures g.rule g.related) (c.in_ok-own.ensures m.what known of.what)) c.push_instance.ensures
