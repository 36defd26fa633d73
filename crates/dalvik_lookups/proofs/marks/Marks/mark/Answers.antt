use Rattle.std.proofs.Common.{refl, rules}
use Rattle.dalvik_lookups.proofs.Climbing.{grow_set, grow_same, set_less}
use Rattle.dalvik_lookups.proofs.marks.Marks.mark.Goals as goal

pub returns-in_ok-push-clause-grow : goal.returns-in_ok-push-clause-grow
returns-in_ok-push-clause-grow c = grow_set c.args.self.now _ c.args.number refl (set_less c.args.self.now.marks.items c.args.number c.args.self.now.listed.len c.push.new.self.len (search rules) (search rules) (search rules)) refl c.in_ok-push.ensures.items

pub returns-in_err-push-clause-grow : goal.returns-in_err-push-clause-grow
returns-in_err-push-clause-grow c = grow_same c.args.self.now _ _ refl c.in_err-push.ensures.items c.in_err-push.ensures.len
