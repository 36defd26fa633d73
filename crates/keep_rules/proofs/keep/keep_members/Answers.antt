use Rattle.std.proofs.Common.{◌≡◌, ◌∙◌, ap, sym, subst, refl, true}
use Rattle.std.specs.Prelude.{not}
use Rattle.std.specs.List.{list_all}
use Rattle.class_defs.proofs.WellFormed.{and_left, and_right}
use Rattle.rule_defs.specs.Kept.{is_conditional}
use Rattle.keep_rules.specs.Fits.{has_method_name, has_field_name}
use Rattle.keep_rules.specs.Marks.{is_always}
use Rattle.keep_rules.proofs.KeepLemmas.{kept_so}
use Rattle.keep_rules.proofs.keep.keep_members.Goals as goal

pub returns : goal.returns
returns c = λ k is known.
    let p = c.args.program.now in
    let d = c.args.class.now in
    kept_so p k d (is_always c.hold_of-hold.result) c.is_always.result c.as_slice.result.now c.as_slice-2.result.now c.args.marks.now _
    (c.hold_of-hold.ensures ∙ ap (λ x. not (is_conditional x)) is.kind) c.is_always.ensures c.as_slice.ensures c.as_slice-2.ensures c.mark_where.ensures
    (c.in_ok-keep_fields.ensures k is (subst (λ l. list_all (has_field_name p) l ≡ true) (sym c.as_slice.ensures) (and_right (list_all (has_method_name p) d.methods) (list_all (has_field_name p) d.fields) known)))
    (c.in_ok-keep_methods.ensures k is (subst (λ l. list_all (has_method_name p) l ≡ true) (sym c.as_slice-2.ensures) (and_left (list_all (has_method_name p) d.methods) (list_all (has_field_name p) d.fields) known)))
    refl
