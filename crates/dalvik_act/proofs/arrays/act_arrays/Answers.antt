use Rattle.std.proofs.Common.{◌≡◌, ℕ, ◌<◌, ◌%◌, ◌^◌, length, ap, sym, subst, ◌∙◌}
use Rattle.dalvik_state.specs.Worlds.{spots_of}
use Rattle.dalvik_act.specs.Acted.{Fits}
use Rattle.dalvik_act.proofs.Bodies.{array_type, filled_short, filled_type, item_fine, kind_fine}
use Rattle.dalvik_act.proofs.Worlds.{kept_same}
use Rattle.std.specs.Prelude.{List, false}
use Rattle.std.specs.Int.{w32, cast_signed}
use Rattle.std.proofs.lemmas.Result.{IfOk-weaker}
use Rattle.insn_set.specs.declared.form.Insn.{Insn}
use Rattle.dalvik_defs.specs.Names.{item_of}
use Rattle.dalvik_defs.specs.Naming.{form_of, type_at}
use Rattle.dalvik_defs.specs.Arith.{signed}
use Rattle.dalvik_defs.specs.ActNumber.{number}
use Rattle.dalvik_defs.specs.State.{thing_at}
use Rattle.dalvik_defs.specs.declared.state.Value.{Value}
use Rattle.dalvik_defs.specs.Effect.{register, unless_null}
use Rattle.dalvik_defs.specs.ActArray.{fills, measures}
use Rattle.dalvik_defs.specs.Act.{act}
use Rattle.dalvik_lookups.specs.Views.{type_text}
use Rattle.dalvik_state.specs.declared.datum.Datum.{Datum}
use Rattle.dalvik_state.specs.Frames.{number_in}
use Rattle.dalvik_state.specs.Views.{frame_of, names_in, value_of, world_of}
use Rattle.dalvik_act.specs.Acting.{IsPlaced, adds_array, new_array_of}
use Rattle.dalvik_act.proofs.Answered.{number_at}
use Rattle.dalvik_act.proofs.Elements.{made_by}
use Rattle.dalvik_act.proofs.Outward.{held}
use Rattle.dalvik_act.proofs.Tabled.{item_named, knows_named}
use Rattle.dalvik_act.proofs.arrays.act_arrays.Goals as goal

pub returns-in-ArrayLength-clause-acts : goal.returns-in-ArrayLength-clause-acts
returns-in-ArrayLength-clause-acts c = λ is short under floats n k h.
    let w = world_of n c.args.world.now in
    let f = frame_of n c.args.frame.now in
    let asked = c.in-ArrayLength in
    let read : value_of n c.get-array.result ≡ register f asked.from = ap (value_of n) c.get-array.ensures ∙ held n c.args.frame.now asked.from in
    c.measures.ensures.does short n k h
    ∙ ap (λ (v : Value). unless_null v (measures (thing_at w v) w f asked.to)) read
    ∙ ap (λ (x : Insn). act under floats (form_of n.program x) w f) (sym asked.is)

pub returns-in-NewArray-clause-named : goal.returns-in-NewArray-clause-named
returns-in-NewArray-clause-named c = λ is. IfOk-weaker c.new_array.result _ _ (λ effect does. λ under floats named placed h.
    let l = c.args.tables.now.lookups in
    let w = world_of (names_in l) c.args.world.now in
    let f = frame_of (names_in l) c.args.frame.now in
    let asked = c.in-NewArray in
    let there = subst (IsPlaced l.program.now) asked.is placed in
    let item : type_text l.types c.item_of.result ≡ item_of (type_at l.program.now asked.kind) = item_named l named asked.kind c.kind.result c.item_of.result there.0 there.1 c.kind.ensures.table (λ d. c.item_of.ensures.text d l.types) in
    let size : cast_signed w32 c.word.result ≡ signed false (number f asked.size) = ap (cast_signed w32) (c.word.ensures ∙ ap (λ (d : Datum). number_in d % 2 ^ 32) c.get.ensures ∙ ap (λ (x : ℕ). x % 2 ^ 32) (number_at (names_in l) c.args.frame.now asked.size)) in
    does named.types h
    ∙ (λ i. new_array_of (size i) (item i) w f asked.to)
    ∙ made_by (signed false (number f asked.size)) (type_at l.program.now asked.kind) w f asked.to
    ∙ ap (λ (x : Insn). act under floats (form_of l.program.now x) w f) (sym asked.is)) c.new_array.ensures.does

pub returns-in-FilledNewArray-clause-named : goal.returns-in-FilledNewArray-clause-named
returns-in-FilledNewArray-clause-named c = λ is. IfOk-weaker c.filled_array.result _ _ (λ effect does. λ under floats named placed h.
    let l = c.args.tables.now.lookups in
    let w = world_of (names_in l) c.args.world.now in
    let f = frame_of (names_in l) c.args.frame.now in
    let asked = c.in-FilledNewArray in
    let there = subst (IsPlaced l.program.now) asked.is placed in
    let item : type_text l.types c.item_of-item.result ≡ item_of (type_at l.program.now asked.kind) = item_named l named asked.kind c.kind-in-FilledNewArray.result c.item_of-item.result there.0 there.1 c.kind-in-FilledNewArray.ensures.table (λ d. c.item_of-item.ensures.text d l.types) in
    let args : c.as_slice.result.now ≡ asked.args = c.as_slice.ensures in
    does (names_in l) (knows_named l named.types) h
    ∙ (λ i. adds_array (item i) (args i) w f)
    ∙ ap (λ (x : Insn). act under floats (form_of l.program.now x) w f) (sym asked.is)) c.filled_array.ensures.does

pub returns-in-FillArray-clause-named : goal.returns-in-FillArray-clause-named
returns-in-FillArray-clause-named c = λ is under floats named placed h.
    let l = c.args.tables.now.lookups in
    let w = world_of (names_in l) c.args.world.now in
    let f = frame_of (names_in l) c.args.frame.now in
    let asked = c.in-FillArray in
    let read : value_of (names_in l) c.get-array-in-FillArray.result ≡ register f asked.on = ap (value_of (names_in l)) c.get-array-in-FillArray.ensures ∙ held (names_in l) c.args.frame.now asked.on in
    let numbers : c.as_slice-in-FillArray.result.now ≡ asked.items = c.as_slice-in-FillArray.ensures in
    c.fills.ensures.does named.types h
    ∙ (λ i. unless_null (read i) (fills (thing_at w (read i)) w f (read i) (numbers i)))
    ∙ ap (λ (x : Insn). act under floats (form_of l.program.now x) w f) (sym asked.is)

pub returns-in-ArrayLength-clause-safe : goal.returns-in-ArrayLength-clause-safe
returns-in-ArrayLength-clause-safe c = λ right ready fits array. let l = c.args.tables.now.lookups in record {
  world = kept_same l c.args.world.now ready.sound;
  safe = c.measures.ensures.safe l (length (spots_of c.args.world.now)) ready.below ready.fine;
}

pub returns-in-NewArray-clause-safe : goal.returns-in-NewArray-clause-safe
returns-in-NewArray-clause-safe c = λ right ready fits array.
    let l = c.args.tables.now.lookups in
    let asked = c.in-NewArray in
    let fine = kind_fine l right asked.kind c.kind.result (c.kind.ensures.is right.tabled.named (array_type l.program.now asked.to asked.size asked.kind (subst (Fits l.program.now) asked.is fits))) in
    c.new_array.ensures.safe right.tabled.named.types ready (item_fine l c.kind.result c.item_of.result fine c.item_of.ensures.depth (c.item_of.ensures.kind l.types fine.there))

pub returns-in-FilledNewArray-clause-safe : goal.returns-in-FilledNewArray-clause-safe
returns-in-FilledNewArray-clause-safe c = λ right ready fits array.
    let l = c.args.tables.now.lookups in
    let asked = c.in-FilledNewArray in
    let own = subst (Fits l.program.now) asked.is fits in
    let kind = c.kind-in-FilledNewArray in
    let item = c.item_of-item in
    let fine = kind_fine l right asked.kind kind.result (kind.ensures.is right.tabled.named (filled_type l.program.now asked.kind asked.args own)) in
    let short : length c.as_slice.result.now < 2 ^ 32 = subst (λ (args : List ℕ). length args < 2 ^ 32) (sym c.as_slice.ensures) (filled_short l.program.now asked.kind asked.args own) in
    c.filled_array.ensures.safe l ready (item_fine l kind.result item.result fine item.ensures.depth (item.ensures.kind l.types fine.there)) short

pub returns-in-FillArray-clause-safe : goal.returns-in-FillArray-clause-safe
returns-in-FillArray-clause-safe c = λ right ready fits array. c.fills.ensures.safe c.args.tables.now.lookups ready
