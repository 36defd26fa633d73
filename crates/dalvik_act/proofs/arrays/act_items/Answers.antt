use Rattle.std.proofs.Common.{◌≡◌, ℕ, ◌%◌, ◌^◌, ap, sym, ◌∙◌, subst}
use Rattle.std.specs.Prelude.{ℤ, Bool, false, length}
use Rattle.std.specs.Int.{w32, cast_signed}
use Rattle.std.proofs.lemmas.Result.{IfOk-weaker}
use Rattle.insn_set.specs.declared.form.Insn.{Insn}
use Rattle.dalvik_defs.specs.Naming.{form_of}
use Rattle.dalvik_defs.specs.Arith.{signed}
use Rattle.dalvik_defs.specs.ActArray.{array_get, array_put}
use Rattle.dalvik_defs.specs.ActNumber.{number}
use Rattle.dalvik_defs.specs.State.{thing_at}
use Rattle.dalvik_defs.specs.declared.state.Value.{Value}
use Rattle.dalvik_defs.specs.Effect.{register, unless_null}
use Rattle.dalvik_defs.specs.Act.{act}
use Rattle.dalvik_state.specs.declared.datum.Datum.{Datum}
use Rattle.dalvik_state.specs.Frames.{number_in}
use Rattle.dalvik_lookups.specs.Facing.{run_face}
use Rattle.dalvik_state.specs.Views.{frame_of, names_in, value_of, world_of}
use Rattle.dalvik_state.specs.Worlds.{spots_of}
use Rattle.dalvik_act.proofs.Safe.{held_fine}
use Rattle.dalvik_act.proofs.Worlds.{kept_same}
use Rattle.dalvik_act.proofs.Answered.{number_at}
use Rattle.dalvik_act.proofs.Outward.{held}
use Rattle.dalvik_act.proofs.arrays.act_items.Goals as goal

pub returns-in-ArrayGet-clause-gets : goal.returns-in-ArrayGet-clause-gets
returns-in-ArrayGet-clause-gets c = λ is under floats n k h.
    let w = world_of n c.args.world.now in
    let f = frame_of n c.args.frame.now in
    let asked = c.in-ArrayGet in
    let array : value_of n c.get-array.result ≡ register f asked.array = ap (value_of n) c.get-array.ensures ∙ held n c.args.frame.now asked.array in
    let index : cast_signed w32 c.word-index.result ≡ signed false (number f asked.index) = ap (cast_signed w32) (c.word-index.ensures ∙ ap (λ (d : Datum). number_in d % 2 ^ 32) c.get.ensures ∙ ap (λ (x : ℕ). x % 2 ^ 32) (number_at n c.args.frame.now asked.index)) in
    c.array_get.ensures.does n k h
    ∙ (λ i. unless_null (array i) (array_get asked.item (thing_at w (array i)) w f asked.to (index i)))
    ∙ ap (λ (x : Insn). act under floats (form_of n.program x) w f) (sym asked.is)

pub returns-in-ArrayGet-clause-safe : goal.returns-in-ArrayGet-clause-safe
returns-in-ArrayGet-clause-safe c = λ l ready. record { world = kept_same l c.args.world.now ready.sound; safe = c.array_get.ensures.safe l ready }

pub returns-in-ArrayPut-clause-puts : goal.returns-in-ArrayPut-clause-puts
returns-in-ArrayPut-clause-puts c = λ is a.
    let l = c.args.tables.now.lookups in
    let n = names_in l in
    let w = world_of n c.args.world.now in
    let f = frame_of n c.args.frame.now in
    let asked = c.in-ArrayPut in
    let fine = held_fine l (length (spots_of c.args.world.now)) c.args.frame.now asked.from c.get-in-ArrayPut.result a.ready.fine c.get-in-ArrayPut.ensures in
    let from : value_of n c.get-in-ArrayPut.result ≡ register f asked.from = ap (value_of n) c.get-in-ArrayPut.ensures ∙ held n c.args.frame.now asked.from in
    let array : value_of n c.get-in-ArrayPut-2.result ≡ register f asked.array = ap (value_of n) c.get-in-ArrayPut-2.ensures ∙ held n c.args.frame.now asked.array in
    let index : cast_signed w32 c.word.result ≡ signed false (number f asked.index) = ap (cast_signed w32) (c.word.ensures ∙ ap (λ (d : Datum). number_in d % 2 ^ 32) c.get-in-ArrayPut-3.ensures ∙ ap (λ (x : ℕ). x % 2 ^ 32) (number_at n c.args.frame.now asked.index)) in
    IfOk-weaker c.array_put.result _ _ (λ effect p. λ floats.
    p
    ∙ (λ i. unless_null (array i) (array_put (run_face l).under asked.item (thing_at w (array i)) w f (from i) (array i) (index i)))
    ∙ ap (λ (x : Insn). act (run_face l).under floats (form_of l.program.now x) w f) (sym asked.is))
    (c.array_put.ensures.puts a fine)

pub returns-in-ArrayPut-clause-safe : goal.returns-in-ArrayPut-clause-safe
returns-in-ArrayPut-clause-safe c = λ l ready. c.array_put.ensures.safe l ready (held_fine l (length (spots_of c.args.world.now)) c.args.frame.now c.in-ArrayPut.from c.get-in-ArrayPut.result ready.fine c.get-in-ArrayPut.ensures)

pub returns-in-ArrayPut-clause-memo : goal.returns-in-ArrayPut-clause-memo
returns-in-ArrayPut-clause-memo c = λ a. c.array_put.ensures.memo a (held_fine c.args.tables.now.lookups (length (spots_of c.args.world.now)) c.args.frame.now c.in-ArrayPut.from c.get-in-ArrayPut.result a.ready.fine c.get-in-ArrayPut.ensures)
