use Rattle.std.proofs.Common.{◌∙◌, ap, None, replicate, map}
use Rattle.std.specs.Prelude.{length, sum_by}
use Rattle.std.specs.List.{list_any}
use Rattle.program_model.specs.Cells.{capped}
use Rattle.program_model.specs.Distinct.{all_differ, text_key, proto_key}
use Rattle.class_defs.proofs.WellFormed.{sound}
use Rattle.static_protos.specs.Growing.{is_pair}
use Rattle.static_protos.proofs.Grown.{grown_first}
use Rattle.static_protos.proofs.tables.no_additions.Goals as goal

pub returns : goal.returns
returns c = λ wf.
    let p = c.args.program.now in
    grown_first p _ wf c.new-new_strings.ensures.items c.new-new_protos.ensures.items (c.in_ok-given.ensures ∙ ap (λ n. replicate n None) c.len.ensures)
    (c.in_ok-texts.ensures (ap (λ xs. all_differ text_key xs) c.as_slice.ensures ∙ (sound p wf).strings) ∙ c.as_slice.ensures)
    (c.in_ok-keys.ensures (ap (λ xs. all_differ proto_key xs) c.as_slice-2.ensures ∙ (sound p wf).protos) ∙ ap (map proto_key) c.as_slice-2.ensures)
    (λ name proto. c.in_ok-names.ensures name proto ∙ ap (list_any (is_pair name proto)) c.as_slice-3.ensures)
    (c.count_units-units.ensures ∙ ap (λ xs. capped (sum_by length xs)) c.as_slice-4.ensures) c.count_items-items.ensures
