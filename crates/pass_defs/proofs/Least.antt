-- A closed family that every closed family has is the least one.
use Rattle.dalvik_defs.specs.Outer.{Outer}
use Rattle.dalvik_defs.specs.declared.program.NamedProgram.{NamedProgram}
use Rattle.pass_defs.specs.Live.{IsClosedFamily, IsForced, HasTheLive, Family, Conditions}

pub forced_is_least : (p : NamedProgram) (o : Outer) (k : Conditions) (s : Family) → IsClosedFamily p o k s → IsForced p o k s → HasTheLive p o k s
forced_is_least p o k s closed forced = record {
  classes = λ t. (forced.classes t, λ live. live s closed);
  made = λ t. (forced.made t, λ live. live s closed);
  fields = λ f. (forced.fields f, λ live. live s closed);
  methods = λ m. (forced.methods m, λ live. live s closed);
}
