use Rattle.dex_read.proofs.Rising.{fields_ascend, methods_ascend}
use Rattle.dex_read.proofs.class_data.read_members.Goals as goal

pub returns-clause-ascend : goal.returns-clause-ascend
returns-clause-ascend c = record {
  statics = rw c.members_of.ensures.statics (fields_ascend _ _ _ _ _ _ _ _ _ c.in_ok-statics.ensures.gives);
  instances = rw c.members_of.ensures.instances (fields_ascend _ _ _ _ _ _ _ _ _ c.in_ok-instances.ensures.gives);
  directs = rw c.members_of.ensures.directs (methods_ascend _ _ _ _ _ _ _ _ _ c.in_ok-directs.ensures.gives);
  virtuals = rw c.members_of.ensures.virtuals (methods_ascend _ _ _ _ _ _ _ _ _ c.in_ok-virtuals.ensures.gives);
}
