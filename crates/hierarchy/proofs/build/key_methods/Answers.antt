use Rattle.std.proofs.Common.{◌∙◌, ap}
use Rattle.hierarchy.specs.Membership.{method_rows}
use Rattle.hierarchy.proofs.NamesMade.{methods_keyed, methods_found}
use Rattle.hierarchy.proofs.build.key_methods.Goals as goal

pub returns : goal.returns
returns c = record {
  rows = c.in_ok-rows.ensures ∙ ap (λ k. method_rows k c.as_slice-2.result.now) c.as_slice-3.ensures.value ∙ ap (method_rows c.in_ok-keys.keys.keys.items) c.as_slice-2.ensures;
  keys = λ h. methods_keyed c.args.program.now c.in_ok-keys.keys c.as_slice.result.now h c.as_slice.ensures c.in_ok-keys.ensures.keys;
  found = λ h. let all = methods_found c.args.program.now c.in_ok-members.members c.as_slice-2.result.now c.in_ok-keys.keys.keys.items c.as_slice-3.result.now c.in_ok-rows.rows.rows h c.as_slice-2.ensures c.as_slice-3.ensures.value c.in_ok-rows.ensures c.in_ok-members.ensures in all.is;
}
