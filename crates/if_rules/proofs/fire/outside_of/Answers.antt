use Rattle.std.proofs.Common.{◌≡◌, ◌∙◌, List, [], length, ap, sym, subst}
use Rattle.std.proofs.lemmas.List.{nil_from_length}
use Rattle.std.proofs.lemmas.Result.{IfOk-weaker}
use Rattle.rule_text.specs.Related.{AreEach}
use Rattle.if_text.specs.Items.{ifs_of, plain_of}
use Rattle.if_text.specs.Readings.{IsIfOf}
use Rattle.if_rules.specs.Fired.{With, Without}
use Rattle.if_rules.specs.Listed.{AreInstances}
use Rattle.if_rules.proofs.Tables.{no_ifs}
use Rattle.if_rules.proofs.fire.outside_of.Goals as goal

pub returns-then-bare : goal.returns-then-bare
returns-then-bare c = λ items formed resolved read.
    let none : c.args.rules.now.ifs.items ≡ [] = nil_from_length c.args.rules.now.ifs.items (ap length (sym c.as_slice-count.ensures.value) ∙ c.if-bare.true) in
    IfOk-weaker c.outside_of.result _ _ (λ o table. Without (no_ifs items c.args.rules.now none read) table) (c.outside_of.ensures.table (plain_of items) formed resolved.of read.plain)

pub returns : goal.returns
returns c = λ items formed resolved read. IfOk-weaker c.settle.result _ _ (λ o settled. With settled)
    (c.settle.ensures items formed resolved read
    (subst (λ (is : List _). AreInstances c.args.program.now (ifs_of items) is) (sym c.as_slice-2.ensures.value) (c.in_ok-instances.ensures (ifs_of items) formed resolved.of (subst (λ (rs : List _). AreEach IsIfOf rs (ifs_of items)) (sym c.as_slice.ensures.value) read.ifs))))
