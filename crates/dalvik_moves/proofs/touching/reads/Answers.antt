use Rattle.std.specs.Prelude.{None}
use Rattle.dalvik_defs.specs.Moves.{key_of, reads}
use Rattle.dalvik_lookups.specs.Facing.{run_face}
use Rattle.dalvik_state.specs.Runs.{classes_in, setting_in, world_in}
use Rattle.dalvik_moves.specs.Moving.{freed_in}
use Rattle.dalvik_moves.proofs.FieldMoves.{next_at, read_none}
use Rattle.dalvik_moves.proofs.Moved.{over_as}
use Rattle.dalvik_moves.proofs.touching.reads.Goals as goal

pub returns-in-Some-clause-ok : goal.returns-in-Some-clause-ok
returns-in-Some-clause-ok c = λ o floats script steps owes first rest class name kind g h f are.
    c.reads_kept.ensures.ok o floats script steps owes first rest (key_of class name kind) g h (c.in-Some.ensures o class name kind h.run.right h.reach f) are

pub returns-in-Some-clause-err : goal.returns-in-Some-clause-err
returns-in-Some-clause-err c = λ o script steps owes first rest class name kind g h f are.
    c.reads_kept.ensures.err o script steps owes first rest (key_of class name kind) g h (c.in-Some.ensures o class name kind h.run.right h.reach f) are

pub returns-in-None-clause-ok : goal.returns-in-None-clause-ok
returns-in-None-clause-ok c = λ o floats script steps owes first rest class name kind g h f are.
    let l = c.args.tables.now.lookups in
    let old = c.args.state.now in
    let s = setting_in l o floats in
    let k = key_of class name kind in
    let to = reads s (world_in l old) (classes_in l old) k ((run_face l).own_field k) g (freed_in l script old) rest in
    next_at l steps script c.args.memo.now _ c.end.new.self None to c.end.ensures
    (over_as l steps script c.args.memo.now old to h.run.kept (read_none s (world_in l old) (classes_in l old) k ((run_face l).own_field k) g (freed_in l script old) rest (c.in-None.ensures o class name kind h.run.right h.reach f)))
