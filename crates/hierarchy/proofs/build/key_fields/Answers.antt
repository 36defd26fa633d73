use Rattle.hierarchy.proofs.NamesMade.{fields_keyed, fields_found}
use Rattle.hierarchy.proofs.build.key_fields.Goals as goal

pub returns : goal.returns
returns c = record {
  keys = λ h. fields_keyed c.args.program.now c.in_ok-keys.keys c.as_slice.result.now h c.as_slice.ensures c.in_ok-keys.ensures.keys;
  found = λ h. let all = fields_found c.args.program.now c.in_ok-members.members c.as_slice-2.result.now c.in_ok-keys.keys.keys.items c.as_slice-3.result.now c.in_ok-rows.rows.rows h c.as_slice-2.ensures c.as_slice-3.ensures.value c.in_ok-rows.ensures c.in_ok-members.ensures in all.is;
}
