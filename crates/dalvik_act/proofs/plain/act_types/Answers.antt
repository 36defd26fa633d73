use Rattle.std.proofs.Common.{◌≡◌, true, false, ap, sym, subst, ◌∙◌}
use Rattle.std.specs.Prelude.{Bool, ◌||◌, length}
use Rattle.insn_set.specs.declared.form.Insn.{Insn}
use Rattle.dalvik_defs.specs.Naming.{form_of, type_at}
use Rattle.dalvik_defs.specs.ActPlain.{is_instance, truth}
use Rattle.dalvik_defs.specs.State.{is_null}
use Rattle.dalvik_defs.specs.declared.state.Value.{Value}
use Rattle.dalvik_defs.specs.Effect.{register, sets}
use Rattle.dalvik_defs.specs.Act.{act}
use Rattle.dalvik_lookups.specs.Facing.{run_face}
use Rattle.dalvik_lookups.specs.Views.{type_text, IsType}
use Rattle.dalvik_state.specs.declared.datum.Datum.{Datum}
use Rattle.dalvik_state.specs.Frames.{is_null_in}
use Rattle.dalvik_state.specs.Views.{IsFine, frame_of, names_in, value_of, world_of}
use Rattle.dalvik_state.specs.Worlds.{spots_of}
use Rattle.dalvik_state.proofs.Named.{null_named}
use Rattle.dalvik_act.specs.Acted.{Fits, IsTested}
use Rattle.dalvik_act.specs.Acting.{casts_by}
use Rattle.dalvik_act.proofs.Bodies.{cast_type, test_type}
use Rattle.dalvik_act.proofs.Outward.{held}
use Rattle.dalvik_act.proofs.Safe.{held_fine}
use Rattle.dalvik_act.proofs.Tabled.{knows_named}
use Rattle.dalvik_act.proofs.Typed.{casting, truth_fine, truth_named}
use Rattle.dalvik_act.proofs.plain.act_types.Goals as goal

pub returns-in_ok-holds-in-CheckCast-clause-acts : goal.returns-in_ok-holds-in-CheckCast-clause-acts
returns-in_ok-holds-in-CheckCast-clause-acts c = λ is a fits floats.
    let l = c.args.tables.now.lookups in
    let n = names_in l in
    let w = world_of n c.args.world.now in
    let f = frame_of n c.args.frame.now in
    let asked = c.in-CheckCast in
    let holds = c.in_ok-holds-in-CheckCast.holds in
    let type : IsType l.types c.kind-kind.result (type_at l.program.now asked.kind) = c.kind-kind.ensures.is a.right.tabled.named (cast_type l.program.now asked.on asked.kind (subst (Fits l.program.now) asked.is fits)) in
    let tested : IsTested l c.args.memo.now c.args.world.now c.get-datum.result c.kind-kind.result = record { right = a.right; kept = a.kept; sound = a.ready.sound; fine = held_fine l (length (spots_of c.args.world.now)) c.args.frame.now asked.on c.get-datum.result a.ready.fine c.get-datum.ensures; kind = type.kind } in
    let value : value_of n c.get-datum.result ≡ register f asked.on = ap (value_of n) c.get-datum.ensures ∙ held n c.args.frame.now asked.on in
    let answer : holds ≡ is_instance (run_face l).under w (register f asked.on) (type_at l.program.now asked.kind) = c.in_ok-holds-in-CheckCast.ensures.answer tested ∙ (λ i. is_instance (run_face l).under w (value i) (type.text i)) in
    let passes : c.may_cast.result ≡ (is_null (register f asked.on) || is_instance (run_face l).under w (register f asked.on) (type_at l.program.now asked.kind)) =
    c.may_cast.ensures ∙ (λ i. (sym (null_named n c.get-datum.result) ∙ ap is_null value) i || answer i) in
    c.casts.ensures.does n (knows_named l a.right.tabled.named.types) a.ready.below w
    ∙ ap (λ (b : Bool). casts_by b w f) passes
    ∙ casting (run_face l).under w f asked.on (type_at l.program.now asked.kind)
    ∙ ap (λ (x : Insn). act (run_face l).under floats (form_of l.program.now x) w f) (sym asked.is)

pub returns-in_ok-holds-in-InstanceOf-clause-acts : goal.returns-in_ok-holds-in-InstanceOf-clause-acts
returns-in_ok-holds-in-InstanceOf-clause-acts c = λ is a fits floats.
    let l = c.args.tables.now.lookups in
    let n = names_in l in
    let w = world_of n c.args.world.now in
    let f = frame_of n c.args.frame.now in
    let asked = c.in-InstanceOf in
    let holds = c.in_ok-holds-in-InstanceOf.holds in
    let type : IsType l.types c.kind-kind-in-InstanceOf.result (type_at l.program.now asked.kind) = c.kind-kind-in-InstanceOf.ensures.is a.right.tabled.named (test_type l.program.now asked.to asked.from asked.kind (subst (Fits l.program.now) asked.is fits)) in
    let tested : IsTested l c.args.memo.now c.args.world.now c.get-datum-in-InstanceOf.result c.kind-kind-in-InstanceOf.result = record { right = a.right; kept = a.kept; sound = a.ready.sound; fine = held_fine l (length (spots_of c.args.world.now)) c.args.frame.now asked.from c.get-datum-in-InstanceOf.result a.ready.fine c.get-datum-in-InstanceOf.ensures; kind = type.kind } in
    let value : value_of n c.get-datum-in-InstanceOf.result ≡ register f asked.from = ap (value_of n) c.get-datum-in-InstanceOf.ensures ∙ held n c.args.frame.now asked.from in
    let answer : holds ≡ is_instance (run_face l).under w (register f asked.from) (type_at l.program.now asked.kind) = c.in_ok-holds-in-InstanceOf.ensures.answer tested ∙ (λ i. is_instance (run_face l).under w (value i) (type.text i)) in
    c.sets.ensures.does n (knows_named l a.right.tabled.named.types) a.ready.below w
    ∙ ap (λ (v : Value). sets w f asked.to v) (ap (value_of n) c.truth.ensures ∙ truth_named n holds ∙ ap truth answer)
    ∙ ap (λ (x : Insn). act (run_face l).under floats (form_of l.program.now x) w f) (sym asked.is)

pub returns-in_ok-holds-in-InstanceOf-clause-safe : goal.returns-in_ok-holds-in-InstanceOf-clause-safe
returns-in_ok-holds-in-InstanceOf-clause-safe c = λ l size low k. c.sets.ensures.safe l size (subst (IsFine (names_in l) size) (sym c.truth.ensures) (truth_fine l size c.in_ok-holds-in-InstanceOf.holds)) low k

pub returns-in_ok-holds-in-CheckCast-clause-memo : goal.returns-in_ok-holds-in-CheckCast-clause-memo
returns-in_ok-holds-in-CheckCast-clause-memo c = λ a fits.
    let l = c.args.tables.now.lookups in
    let asked = c.in-CheckCast in
    let type : IsType l.types c.kind-kind.result (type_at l.program.now asked.kind) = c.kind-kind.ensures.is a.right.tabled.named (cast_type l.program.now asked.on asked.kind (subst (Fits l.program.now) asked.is fits)) in
    c.is_instance.ensures.kept (record { right = a.right; kept = a.kept; sound = a.ready.sound; fine = held_fine l (length (spots_of c.args.world.now)) c.args.frame.now asked.on c.get-datum.result a.ready.fine c.get-datum.ensures; kind = type.kind })

pub returns-in_err-holds-in-CheckCast-clause-memo : goal.returns-in_err-holds-in-CheckCast-clause-memo
returns-in_err-holds-in-CheckCast-clause-memo c = λ a fits.
    let l = c.args.tables.now.lookups in
    let asked = c.in-CheckCast in
    let type : IsType l.types c.kind-kind.result (type_at l.program.now asked.kind) = c.kind-kind.ensures.is a.right.tabled.named (cast_type l.program.now asked.on asked.kind (subst (Fits l.program.now) asked.is fits)) in
    c.is_instance.ensures.kept (record { right = a.right; kept = a.kept; sound = a.ready.sound; fine = held_fine l (length (spots_of c.args.world.now)) c.args.frame.now asked.on c.get-datum.result a.ready.fine c.get-datum.ensures; kind = type.kind })

pub returns-in_ok-holds-in-InstanceOf-clause-memo : goal.returns-in_ok-holds-in-InstanceOf-clause-memo
returns-in_ok-holds-in-InstanceOf-clause-memo c = λ a fits.
    let l = c.args.tables.now.lookups in
    let asked = c.in-InstanceOf in
    let type : IsType l.types c.kind-kind-in-InstanceOf.result (type_at l.program.now asked.kind) = c.kind-kind-in-InstanceOf.ensures.is a.right.tabled.named (test_type l.program.now asked.to asked.from asked.kind (subst (Fits l.program.now) asked.is fits)) in
    c.is_instance-in-InstanceOf.ensures.kept (record { right = a.right; kept = a.kept; sound = a.ready.sound; fine = held_fine l (length (spots_of c.args.world.now)) c.args.frame.now asked.from c.get-datum-in-InstanceOf.result a.ready.fine c.get-datum-in-InstanceOf.ensures; kind = type.kind })

pub returns-in_err-holds-in-InstanceOf-clause-memo : goal.returns-in_err-holds-in-InstanceOf-clause-memo
returns-in_err-holds-in-InstanceOf-clause-memo c = λ a fits.
    let l = c.args.tables.now.lookups in
    let asked = c.in-InstanceOf in
    let type : IsType l.types c.kind-kind-in-InstanceOf.result (type_at l.program.now asked.kind) = c.kind-kind-in-InstanceOf.ensures.is a.right.tabled.named (test_type l.program.now asked.to asked.from asked.kind (subst (Fits l.program.now) asked.is fits)) in
    c.is_instance-in-InstanceOf.ensures.kept (record { right = a.right; kept = a.kept; sound = a.ready.sound; fine = held_fine l (length (spots_of c.args.world.now)) c.args.frame.now asked.from c.get-datum-in-InstanceOf.result a.ready.fine c.get-datum-in-InstanceOf.ensures; kind = type.kind })
