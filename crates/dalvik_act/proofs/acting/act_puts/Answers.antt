use Rattle.std.proofs.Common.{ap, subst, sym, ◌∙◌}
use Rattle.std.specs.Prelude.{Some}
use Rattle.insn_set.specs.declared.form.Insn.{Insn}
use Rattle.dalvik_defs.specs.Naming.{field_at, form_of}
use Rattle.dalvik_defs.specs.Items.{stored}
use Rattle.dalvik_defs.specs.Effect.{Writes, unless_null}
use Rattle.dalvik_defs.specs.Act.{act}
use Rattle.dalvik_state.specs.declared.datum.Datum.{Datum}
use Rattle.dalvik_state.specs.Views.{IsFine, frame_of, names_in, value_of}
use Rattle.dalvik_state.proofs.Fine.{fine_stored}
use Rattle.dalvik_act.specs.Acted.{Fits}
use Rattle.dalvik_act.proofs.Bodies.{put_field, put_static}
use Rattle.dalvik_act.proofs.Safe.{held_fine}
use Rattle.dalvik_act.proofs.Outward.{puts_named, writes_named}
use Rattle.dalvik_act.proofs.acting.act_puts.Goals as goal

pub returns-in-InstancePut-clause-acts : goal.returns-in-InstancePut-clause-acts
returns-in-InstancePut-clause-acts c = λ is under floats n k w.
    let f = frame_of n c.args.frame.now in
    let put = c.in-InstancePut in
    c.unless_null.ensures.acts n k w f
    ∙ ap (λ (d : Datum). unless_null (value_of n d) (Writes (field_at n.program put.field) (Some (value_of n d)) (value_of n c.stored.result))) c.get-object.ensures
    ∙ writes_named n c.args.frame.now put.item put.from put.on (field_at n.program put.field) c.stored.result (c.stored.ensures.named n ∙ ap (λ (d : Datum). stored put.item (value_of n d)) c.get.ensures)
    ∙ ap (λ (x : Insn). act under floats (form_of n.program x) w f) (sym put.is)

pub returns-in-StaticPut-clause-acts : goal.returns-in-StaticPut-clause-acts
returns-in-StaticPut-clause-acts c = λ is under floats n k w.
    let put = c.in-StaticPut in
    puts_named n c.args.frame.now put.item put.from (field_at n.program put.field) c.stored-in-StaticPut.result (c.stored-in-StaticPut.ensures.named n ∙ ap (λ (d : Datum). stored put.item (value_of n d)) c.get-in-StaticPut.ensures)
    ∙ ap (λ (x : Insn). act under floats (form_of n.program x) w (frame_of n c.args.frame.now)) (sym put.is)

pub returns-in-InstancePut-clause-fine : goal.returns-in-InstancePut-clause-fine
returns-in-InstancePut-clause-fine c = λ l size fits k.
    let put = c.in-InstancePut in
    let value = held_fine l size c.args.frame.now put.from c.get.result k c.get.ensures in
    c.unless_null.ensures.fine l size (λ e. record {
      read = record {
        field = put_field l.program.now put.item put.from put.on put.field (subst (Fits l.program.now) put.is fits);
        on = record { fine = held_fine l size c.args.frame.now put.on c.get-object.result k c.get-object.ensures; there = e };
      };
      value = subst (IsFine (names_in l) size) (sym c.stored.ensures.is) (fine_stored (names_in l) size put.item c.get.result value);
    })

pub returns-in-StaticPut-clause-fine : goal.returns-in-StaticPut-clause-fine
returns-in-StaticPut-clause-fine c = λ l size fits k.
    let put = c.in-StaticPut in
    let value = held_fine l size c.args.frame.now put.from c.get-in-StaticPut.result k c.get-in-StaticPut.ensures in
    record {
      read = record { field = put_static l.program.now put.item put.from put.field (subst (Fits l.program.now) put.is fits); on = tt };
      value = subst (IsFine (names_in l) size) (sym c.stored-in-StaticPut.ensures.is) (fine_stored (names_in l) size put.item c.get-in-StaticPut.result value);
    }
